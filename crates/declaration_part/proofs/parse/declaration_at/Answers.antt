-- The code reads the tokens in the order of `declaration`: where it goes on, the declaration is the next part at the token behind, which
-- stands where the reader has passed it.
use mathlib.Core.Path.{◌≡◌, refl, sym, ap, subst, ◌∙◌}
use mathlib.Core.Bool.{Bool, true, false}
use mathlib.Core.List.{List, ◌∷◌}
use mathlib.Core.Option.{none, some}
use Prim.Native.Nat.{ℕ, ◌+◌, ◌≤◌}
use native.Mathlib.Omega.{arith}
use borrow.Author.Rules.{rules}
use borrow.Author.Tests.{leb-true}
use lib.ListN.{length}
use lib.Dec.{leb}
use Rattle.std.specs.Prelude.{Option, Some, None, Result, Ok, Err, IsErrAnd, option_copied, ok_or}
use Rattle.grammar.specs.Bytes.{Bytes, same}
use Rattle.grammar.specs.Token.{Token, atom, symbol}
use Rattle.grammar.specs.Operator.{Fixity, Associativity}
use Rattle.grammar.specs.Coded.{token_of}
use Rattle.grammar.specs.Declaration.{Parsed, unfit, declares, clears, plain_word, fixity_named, symbol_of, associativity_for, is_precedence, value, widest_precedence}
use Rattle.grammar.specs.Declaration.{declaration, first_word, operator_part, associativity_part, precedence_part}
use Rattle.grammar.proofs.Logic.{impossible, and_left, and_right}
use Rattle.rows.specs.Fields.{TokenRow}
use Rattle.rows.specs.Tokens.{range}
use Rattle.rows.specs.Codes.{fixity_in, associativity_in}
use Rattle.rows.proofs.Stored.{stored_end, stored_offset, stored_ascend}
use Rattle.declaration_part.specs.declared.walk.Span.{Span}
use Rattle.declaration_part.specs.declared.walk.Places.{Places}
use Rattle.declaration_part.specs.declared.parse.Declaration as C
use Rattle.declaration_part.specs.Walking.{second_begin, Walked}
use Rattle.declaration_part.specs.Named.{found}
use Rattle.declaration_part.specs.Parsing.{Parsable, Parses}
use Rattle.declaration_part.specs.Parts.{stands}
use Rattle.declaration_part.specs.Parts as P
use Rattle.declaration_part.proofs.Parts.{written_none, written_some, level_some, level_here}
use Rattle.declaration_part.proofs.TokenPlaces.{first_part, second_part_lem, third_part}
use Rattle.declaration_part.proofs.DeclarationParts.{
  declaration-refuses,
  associativity_refuses,
  precedence_refuses,
  word_plain,
  word-other,
  word-fixity,
  side_other,
  side_named,
  digits_other,
  digits_given,
  read_none,
  read_some,
}
use Rattle.declaration_part.proofs.DeclarationRow.{Gone, none_unfit, read_unfit, read_on, operator_unfit, operator_given}
use Rattle.declaration_part.proofs.parse.declaration_at.Goals as goal
use Rattle.declaration_part.proofs.parse.declaration_at.Goals.{In_ok-word, After-equal, In_ok-fixity, In_ok-side, In_ok-associativity, In_ok-level}

-- An error that is handed on.
handed :
    (K : TokenRow) (from : ℕ) (p : Parsed) (x : ℕ) (r : Result C.Declaration ℕ) → IsErrAnd r (λ e. e ≡ x) → Parses K from p (Err x)
    → Parses K from p r
handed K from p x (Ok d) h s = elim h [ ]
handed K from p x (Err e) h s = rw h s

-- The error of `ok_or`.
handed_none :
    {A : Type 0} (K : TokenRow) (from : ℕ) (p : Parsed) (o : Option A) (x y : ℕ) (r : Result C.Declaration ℕ) → Err x ≡ ok_or o y → o ≡ None
    → IsErrAnd r (λ e. e ≡ x) → Parses K from p (Err y) → Parses K from p r
handed_none K from p None x y r h e i s = let z : x ≡ y = cc in handed K from p y r (rw (← z) i) s
handed_none K from p (Some a) x y r h e i s = impossible (cc)

module _ {text : Bytes} {K : TokenRow} {from to before : ℕ} (q : Parsable text K from to before) where
  -- The places lie in the text.
  first_within : second_begin text before ≤ length text
  first_within =
      omega (arith, q.begins, stored_end q.stored, stored_ascend q.stored from (length q.placed) (omega arith) (omega arith))

  -- What the declaration is at a token, which stands at a place.
  abbrev Goes : (List Token → Parsed) → ℕ → Span → Type 0
  Goes = Gone q.stored from to q.within

  module _ {p : Places} (w : Walked text before p) where
    first : Goes declaration from p.first
    first =
        record {
          goes = refl;
          begins = λ l k. w.first.0 ∙ q.begins ∙ sym (stored_offset q.stored _ (omega arith) k);
          ends = w.first.1;
        }

    abbrev digits : Bytes
    digits = P.part text p.third

    -- The first word.
    module _ (v : Bytes) (read : (stands 1 K from to ≡ true) × (v ≡ P.part text p.first)) where
      word_on : {further : List Token → Parsed} → ((ts : List Token) → first_word v ts ≡ further ts) → Goes further (from + 1) p.second
      unfolding declaration symbol_of token_of
      word_on {further} f =
          read_on _ _ _ _ first 1 (omega arith) read.0 _ _ refl w.second (λ ts. subst (λ v. first_word v ts ≡ further ts) read.1 (f ts))

      plain-on : same v plain_word ≡ true → Goes (operator_part 1 clears) (from + 1) p.second
      plain-on e = word_on (λ ts. word_plain v ts e)

      module _ (o : same v plain_word ≡ false) where
        word_unfit : fixity_named v ≡ none → Parses K from (declaration (range text K from to)) (Err from)
        unfolding declaration symbol_of token_of
        word_unfit z =
            read_unfit _ _ _ _ first 1 (omega arith) read.0 0 (omega arith)
            (λ ts. subst (λ v. first_word v ts ≡ unfit 0) read.1 (word-other v ts o z))

        module _ (f : Fixity) (z : fixity_named v ≡ some f) where
          fixity-on : Goes (associativity_part f) (from + 1) p.second
          fixity-on = word_on (λ ts. word-fixity v ts o f z)

          -- The associativity.
          module _ (s : Bytes) (said : (stands 1 K (from + 1) to ≡ true) × (s ≡ P.part text p.second)) where
            side_unfit : associativity_for f (atom (symbol s)) ≡ none → Parses K from (declaration (range text K from to)) (Err (from + 1))
            unfolding token_of
            side_unfit n =
                read_unfit _ _ _ _ fixity-on 1 (omega arith) said.0 1 refl
                (λ ts. subst (λ s. associativity_part f (atom (symbol s) ∷ ts) ≡ unfit 1) said.1 (side_other f s ts n))

            module _ (a : Associativity) (n : associativity_for f (atom (symbol s)) ≡ some a) where
              side-on : Goes (precedence_part f a) (from + 2) p.third
              unfolding token_of
              side-on =
                  read_on _ _ _ _ fixity-on 1 (omega arith) said.0 _ _ (omega arith) w.third
                  (λ ts. subst (λ s. associativity_part f (atom (symbol s) ∷ ts) ≡ precedence_part f a ts) said.1 (side_named f s ts a n))

              -- The precedence.
              level_unfit : None ≡ P.precedence_from text K (from + 2) to p.third → Parses K from (declaration (range text K from to)) (Err (from + 2))
              unfolding token_of
              level_unfit m = go (stands 2 K (from + 2) to) refl
                where
                  go : (b : Bool) → stands 2 K (from + 2) to ≡ b → Parses K from (declaration (range text K from to)) (Err (from + 2))
                  go true h =
                      read_unfit _ _ _ _ side-on 2 (omega arith) h 2 refl
                      (λ ts. digits_other f a digits ts (read_none digits (sym (m ∙ level_here _ _ _ _ _ h))))
                  go false h = none_unfit _ _ _ _ side-on 2 2 refl (precedence_refuses f a) h

              level-on :
                  (stands 2 K (from + 2) to ≡ true) → is_precedence digits ≡ true
                  → Goes (operator_part 3 (declares f a digits)) (from + 3) p.fourth
              unfolding token_of
              level-on h k =
                  read_on _ _ _ _ side-on 2 (omega arith) h _ _ (omega arith) w.fourth (λ ts. digits_given f a digits ts k)

-- What was read at the first three tokens.
first_word_read :
    (c : In_ok-word) → (stands 1 c.args.tokens.now c.args.from c.args.to ≡ true) × (c.in_ok-word.word.now ≡ P.part c.args.text.now c.find_places-places.result.first)
first_word_read c = written_some _ _ _ _ _ _ _ (sym (ap option_copied c.in_ok-word.ensures.ok_part) ∙ c.word_of.ensures)

plain_test : (c : After-equal) → c.equal.result ≡ same c.in_ok-word.word.now plain_word
plain_test c = c.equal.ensures

fixity_read : (c : In_ok-fixity) → fixity_named c.in_ok-word.word.now ≡ some (fixity_in c.in_ok-fixity.fixity)
fixity_read c = sym c.fixity_named.ensures ∙ ap (found fixity_in) c.in_ok-fixity.ensures.ok_part

side_read :
    (c : In_ok-side)
    → (stands 1 c.args.tokens.now (c.args.from + 1) c.args.to ≡ true)
    × (c.in_ok-side.side.now ≡ P.part c.args.text.now c.find_places-places.result.second)
side_read c = written_some _ _ _ _ _ _ _ (sym (ap option_copied c.in_ok-side.ensures.ok_part) ∙ c.word_of-2.ensures)

associativity_read :
    (c : In_ok-associativity)
    → associativity_for (fixity_in c.in_ok-fixity.fixity) (atom (symbol c.in_ok-side.side.now))
    ≡ some (associativity_in c.in_ok-associativity.associativity)
associativity_read c = sym c.associativity_named.ensures ∙ ap (found associativity_in) c.in_ok-associativity.ensures.ok_part

level_read :
    (c : In_ok-level)
    → let d = P.part c.args.text.now c.find_places-places.result.third in
    (stands 2 c.args.tokens.now (c.args.from + 2) c.args.to ≡ true) × (is_precedence d ≡ true) × (c.in_ok-level.level ≡ value d)
level_read c =
    let (s, e) = level_some _ _ _ _ _ _ (sym c.in_ok-level.ensures.ok_part ∙ c.precedence_of.ensures) in
    let (k, l) = read_some _ _ e in
    (s, k, l)

pub word_of-requires : goal.word_of-requires
word_of-requires c = let p = first_part _ _ c.find_places-places.ensures (first_within c.requires) in search rules

pub returns-in_err-word : goal.returns-in_err-word
returns-in_err-word c =
    let e = c.in_err-word.ensures in
    let n = written_none _ _ _ _ _ _ (sym (ap option_copied e.ok_part) ∙ c.word_of.ensures) in
    handed_none _ _ _ _ _ _ _ e.value e.ok_part c.from_residual.ensures.1
    (none_unfit _ _ _ _ (first c.requires c.find_places-places.ensures) 1 0 (omega arith) declaration-refuses n)

pub returns-in_err-operator : goal.returns-in_err-operator
returns-in_err-operator c =
    let r = first_word_read (goal.at.returns-in_err-operator c).In_ok-word in
    let t = plain_test (goal.at.returns-in_err-operator c).After-equal in
    let g = plain-on c.requires c.find_places-places.ensures _ r (sym t ∙ c.if-equal.true) in
    handed _ _ _ _ _ c.from_residual-in_err-operator.ensures.1 (operator_unfit _ _ _ _ 1 clears _ _ g refl _ c.in_err-operator.ensures)

pub returns-then-equal : goal.returns-then-equal
returns-then-equal c =
    let r = first_word_read (goal.at.returns-then-equal c).In_ok-word in
    let t = plain_test (goal.at.returns-then-equal c).After-equal in
    let g = plain-on c.requires c.find_places-places.ensures _ r (sym t ∙ c.if-equal.true) in
    operator_given _ _ _ _ 1 clears _ _ g _ c.in_ok-operator.ensures _ (λ b m. b)

pub returns-in_err-fixity : goal.returns-in_err-fixity
returns-in_err-fixity c =
    let p = goal.at.returns-in_err-fixity c in
    let e = c.in_err-fixity.ensures in
    handed_none _ _ _ _ _ _ _ e.value e.ok_part c.from_residual-in_err-fixity.ensures.1
    (word_unfit c.requires c.find_places-places.ensures _ (first_word_read p.In_ok-word) (sym (plain_test p.After-equal) ∙ c.if-equal.false)
    (sym c.fixity_named.ensures ∙ ap (found fixity_in) e.ok_part))

pub word_of-requires-2 : goal.word_of-requires-2
word_of-requires-2 c = let p = second_part_lem _ _ c.find_places-places.ensures (first_within c.requires) in search rules

pub returns-in_err-side : goal.returns-in_err-side
returns-in_err-side c =
    let p = goal.at.returns-in_err-side c in
    let e = c.in_err-side.ensures in
    let n = written_none _ _ _ _ _ _ (sym (ap option_copied e.ok_part) ∙ c.word_of-2.ensures) in
    let g =
    fixity-on c.requires c.find_places-places.ensures _ (first_word_read p.In_ok-word) (sym (plain_test p.After-equal) ∙ c.if-equal.false) _
    (fixity_read p.In_ok-fixity)
    in
    handed_none _ _ _ _ _ _ _ e.value e.ok_part c.from_residual-in_err-side.ensures.1
    (none_unfit _ _ _ _ g 1 1 refl (associativity_refuses _) n)

pub returns-in_err-associativity : goal.returns-in_err-associativity
returns-in_err-associativity c =
    let p = goal.at.returns-in_err-associativity c in
    let e = c.in_err-associativity.ensures in
    handed_none _ _ _ _ _ _ _ e.value e.ok_part c.from_residual-in_err-associativity.ensures.1
    (side_unfit c.requires c.find_places-places.ensures _ (first_word_read p.In_ok-word) (sym (plain_test p.After-equal) ∙ c.if-equal.false) _
    (fixity_read p.In_ok-fixity) _ (side_read p.In_ok-side) (sym c.associativity_named.ensures ∙ ap (found associativity_in) e.ok_part))

pub precedence_of-requires : goal.precedence_of-requires
precedence_of-requires c = let p = third_part _ _ c.find_places-places.ensures (first_within c.requires) in search rules

pub returns-in_err-level : goal.returns-in_err-level
returns-in_err-level c =
    let p = goal.at.returns-in_err-level c in
    let e = c.in_err-level.ensures in
    handed_none _ _ _ _ _ _ _ e.value e.ok_part c.from_residual-in_err-level.ensures.1
    (level_unfit c.requires c.find_places-places.ensures _ (first_word_read p.In_ok-word) (sym (plain_test p.After-equal) ∙ c.if-equal.false) _
    (fixity_read p.In_ok-fixity) _ (side_read p.In_ok-side) _ (associativity_read p.In_ok-associativity)
    (sym e.ok_part ∙ c.precedence_of.ensures))

-- The operator stands behind the precedence.
operator_on :
    (c : In_ok-level)
    → let f = fixity_in c.in_ok-fixity.fixity in
    let a = associativity_in c.in_ok-associativity.associativity in
    Goes c.requires (operator_part 3 (declares f a (digits c.requires c.find_places-places.ensures))) (c.args.from + 3)
    c.find_places-places.result.fourth
operator_on c =
    let p = goal.at.In_ok-level c in
    let l = level_read c in
    level-on c.requires c.find_places-places.ensures _ (first_word_read p.In_ok-word) (sym (plain_test p.After-equal) ∙ c.if-equal.false) _
    (fixity_read p.In_ok-fixity) _ (side_read p.In_ok-side) _ (associativity_read p.In_ok-associativity) l.0 l.1

pub returns-in_err-operator-2 : goal.returns-in_err-operator-2
returns-in_err-operator-2 c =
    handed _ _ _ _ _ c.from_residual-in_err-operator-2.ensures.1
    (operator_unfit _ _ _ _ 3 _ _ _ (operator_on (goal.at.returns-in_err-operator-2 c).In_ok-level) refl _
    c.in_err-operator-2.ensures)

-- The precedence is one.
is_level : (d : Bytes) → is_precedence d ≡ true → (1 ≤ value d) × (value d ≤ widest_precedence)
unfolding is_precedence
is_level d e =
    (leb-true 1 (value d) (and_left _ _ e), leb-true (value d) widest_precedence (and_right (leb 1 (value d)) _ e))

pub new-requires : goal.new-requires
new-requires c =
    let (s, k, l) = level_read (goal.at.new-requires c).In_ok-level in
    let b = is_level _ k in
    (omega (arith, b.0), omega (arith, b.1))

pub returns : goal.returns
returns c =
    let p = goal.at.returns c in
    let (s, k, l) = level_read p.In_ok-level in
    operator_given _ _ _ _ 3 _ _ _ (operator_on p.In_ok-level) _ c.in_ok-operator-2.ensures _
    (λ b m. (refl, omega (arith, c.new.ensures, l), b))
