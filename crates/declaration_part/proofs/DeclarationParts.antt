-- The parts of a declaration over tokens. Each part of `declaration` looks at one token: behind the last token and at a token of another
-- kind it refuses, which is one law for all parts; at a token of its kind it goes on by the number that its bytes stand for.
use mathlib.Core.Path.{◌≡◌, refl, sym}
use mathlib.Core.Bool.{Bool, true, false}
use mathlib.Core.List.{List, [], ◌∷◌}
use mathlib.Core.Option.{none, some}
use Prim.Native.Nat.{ℕ}
use borrow.Author.Tests.{ne_eqb}
use Rattle.grammar.specs.Bytes.{Bytes, same}
use Rattle.grammar.specs.Token.{Token, atom, structure, symbol, number, quoted, structure_number, is_structure}
use Rattle.grammar.specs.Operator.{Fixity, Associativity}
use Rattle.grammar.specs.Coded.{kind_of}
use Rattle.grammar.proofs.Logic.{impossible}
use Rattle.grammar.specs.Declaration.{
  Declaration,
  Parsed,
  declares,
  clears,
  plain_word,
  fixity_named,
  is_precedence,
  value,
  unfit,
  symbol_of,
  precedence_of,
  is_semicolon,
  closed,
  operator_part,
  precedence_part,
  associativity_for,
  associativity_part,
  first_word,
  declaration,
}
use Rattle.std.specs.Prelude.{Some, None}
use Rattle.declaration_part.specs.Named.{precedence_read}

-- What a token of another kind is not.
symbol_other : (t : Token) → (kind_of t ≡ 1 → ⊥) → symbol_of t ≡ none
unfolding kind_of symbol_of
symbol_other (atom (symbol w)) n = absurd (n refl)
symbol_other (atom (number d)) n = refl
symbol_other (atom (quoted c)) n = refl
symbol_other (structure s) n = refl

precedence_other : (t : Token) → (kind_of t ≡ 2 → ⊥) → precedence_of t ≡ none
unfolding kind_of precedence_of
precedence_other (atom (symbol w)) n = refl
precedence_other (atom (number d)) n = absurd (n refl)
precedence_other (atom (quoted c)) n = refl
precedence_other (structure s) n = refl

semicolon_other : (t : Token) → (kind_of t ≡ 6 → ⊥) → is_semicolon t ≡ false
unfolding kind_of is_semicolon is_structure structure_number
semicolon_other (atom a) n = refl
semicolon_other (structure s) n = ne_eqb 6 (structure_number s) (λ e. n (sym e))

-- A part refuses with the token's number behind the last token and at a token of another kind.
pub record Refuses (part : List Token → Parsed) (kind n : ℕ) : Type 0 where
  pub ended : part [] ≡ unfit n
  pub other : (t : Token) (ts : List Token) → (kind_of t ≡ kind → ⊥) → part (t ∷ ts) ≡ unfit n

pub declaration-refuses : Refuses declaration 1 0
unfolding declaration
declaration-refuses = record { ended = refl; other = λ t ts n. rw (symbol_other t n, declaration) }

pub associativity_refuses : (f : Fixity) → Refuses (associativity_part f) 1 1
unfolding associativity_part associativity_for
associativity_refuses f =
    record { ended = refl; other = λ t ts n. rw (symbol_other t n, associativity_part, associativity_for) }

pub precedence_refuses : (f : Fixity) (a : Associativity) → Refuses (precedence_part f a) 2 2
unfolding precedence_part
precedence_refuses f a = record { ended = refl; other = λ t ts n. rw (precedence_other t n, precedence_part) }

pub operator_refuses : (i : ℕ) (make : Bytes → Declaration) → Refuses (operator_part i make) 1 i
unfolding operator_part
operator_refuses i make = record { ended = refl; other = λ t ts n. rw (symbol_other t n, operator_part) }

pub closed-refuses : (i : ℕ) (d : Declaration) → Refuses (closed i d) 6 i
unfolding closed
closed-refuses i d = record { ended = refl; other = λ t ts n. rw (semicolon_other t n, closed) }

-- What the first word says.
module _ (w : Bytes) (ts : List Token) where
  pub word_plain : same w plain_word ≡ true → first_word w ts ≡ operator_part 1 clears ts
  unfolding first_word
  word_plain e = rw (e, first_word)

  module _ (e : same w plain_word ≡ false) where
    pub word-other : fixity_named w ≡ none → first_word w ts ≡ unfit 0
    unfolding first_word
    word-other z = rw (e, z, first_word)

    pub word-fixity : (f : Fixity) → fixity_named w ≡ some f → first_word w ts ≡ associativity_part f ts
    unfolding first_word
    word-fixity f z = rw (e, z, first_word)

-- What the associativity's word says.
module _ (f : Fixity) (w : Bytes) (ts : List Token) where
  pub side_other : associativity_for f (atom (symbol w)) ≡ none → associativity_part f (atom (symbol w) ∷ ts) ≡ unfit 1
  unfolding associativity_part
  side_other z = rw (z, associativity_part)

  pub side_named :
      (a : Associativity) → associativity_for f (atom (symbol w)) ≡ some a → associativity_part f (atom (symbol w) ∷ ts) ≡ precedence_part f a ts
  unfolding associativity_part
  side_named a z = rw (z, associativity_part)

-- What the number says.
module _ (f : Fixity) (a : Associativity) (d : Bytes) (ts : List Token) where
  pub digits_other : is_precedence d ≡ false → precedence_part f a (atom (number d) ∷ ts) ≡ unfit 2
  unfolding precedence_part precedence_of
  digits_other z = rw (z, precedence_part)

  pub digits_given : is_precedence d ≡ true → precedence_part f a (atom (number d) ∷ ts) ≡ operator_part 3 (declares f a d) ts
  unfolding precedence_part precedence_of
  digits_given z = rw (z, precedence_part)

-- What is read of the digits.
module _ (d : Bytes) where
  read-cases : (b : Bool) → is_precedence d ≡ b → precedence_read d ≡ elim b [ true ↦ Some (value d) | false ↦ None ]
  unfolding precedence_read
  read-cases b e = rw (e, precedence_read)

  pub read_none : precedence_read d ≡ None → is_precedence d ≡ false
  read_none z = go (is_precedence d) refl
    where
      go : (b : Bool) → is_precedence d ≡ b → is_precedence d ≡ false
      go true e = impossible (cc (read-cases true e))
      go false e = e

  pub read_some : (p : ℕ) → Some p ≡ precedence_read d → (is_precedence d ≡ true) × (p ≡ value d)
  read_some p z = go (is_precedence d) refl
    where
      go : (b : Bool) → is_precedence d ≡ b → (is_precedence d ≡ true) × (p ≡ value d)
      go true e = (e, cc (read-cases true e))
      go false e = impossible (cc (read-cases false e))
