-- Reading one declaration stops at the first unfit token: the tokens before it begin a declaration, and with it they begin none.
-- Each part of the reader tests one token: it stops there, whatever follows, or goes on as the next part. Where it stops, other tokens
-- would be read to the end; and what is read to the end is a declaration.
use mathlib.Core.Path.{◌≡◌, refl, sym, ap, ◌∙◌}
use mathlib.Core.Bool.{Bool, true, false}
use mathlib.Core.Logic.{◌↔◌}
use mathlib.Core.List.{List, [], ◌∷◌, ◌++◌, append_assoc, append-nil}
use mathlib.Core.Option.{Option, none, some}
use Prim.Native.Nat.{ℕ, zero, suc, ◌+◌, ◌≤◌}
use native.Mathlib.Omega.{arith}
use lib.Dec.{leb}
use lib.ListN.{length, length-append, take}
use lib.Seq.{take-append_seam}
use borrow.Author.Tests.{leb-true, leb-false}
use Rattle.grammar.specs.Bytes.{Bytes, bytes, same}
use Rattle.grammar.specs.Token.{Token, atom, structure, symbol, number, semicolon, keyword_in, is_structure, structure_number}
use Rattle.grammar.specs.Operator.{Fixity, Prefix, Infix, Postfix, Associativity, non, allowed}
use Rattle.grammar.specs.Declaration.{
  Declaration,
  declares,
  clears,
  value,
  value_from,
  associativity_word,
  plain_word,
  declaration_tokens,
  is_precedence,
  is_declaration,
  Parsed,
  unfit,
  parsed,
  symbol_of,
  precedence_of,
  is_semicolon,
  fixity_named,
  associativity_named,
  closed,
  operator_part,
  precedence_part,
  associativity_for,
  associativity_part,
  first_word,
  declaration,
}
use Rattle.grammar.specs.Fault.{FirstUnfit}
use Rattle.grammar.proofs.Logic.{impossible}
use Rattle.grammar.proofs.Declarations.{declaration_of, declaration_sound}
use Rattle.grammar.proofs.DeclarationTokens.{first_told}

-- The tokens of a declaration part and the `in` behind them, which fits nowhere.
abbrev pub with_in : List Token → List Token
with_in ts = ts ++ structure keyword_in ∷ []

-- Some tokens, one at least, are read to the end.
abbrev BeginsOne : (List Token → Parsed) → Type 0
BeginsOne read = (t : Token) × (rest : List Token) × (d : Declaration) × (read (t ∷ rest) ≡ parsed d [])

-- A part of the reader whose first token has the number `n` stops at the token with the number `k`, behind `before` of its own tokens:
-- whatever follows, and others in its place would be read to the end.
record StopsAt (read : List Token → Parsed) (n : ℕ) (ts : List Token) (k : ℕ) : Type 0 where
  before : ℕ
  counted : k ≡ n + before
  stops : (rest : List Token) → read (take (suc before) ts ++ rest) ≡ unfit k
  begins : BeginsOne (λ us. read (take before ts ++ us))

no_unfit : {k : ℕ} {d : Declaration} {rest : List Token} → parsed d rest ≡ unfit k → ⊥
no_unfit e = impossible cc

-- Going on with what a test found.
abbrev go_on : {A : Type 0} → ℕ → (A → List Token → Parsed) → List Token → Option A → Parsed
go_on n further ts o = elim o [ none ↦ unfit n | some x ↦ further x ts ]

-- A part that tests one token and goes on as another part: if that one stops as said, so does it.
module _ (read : List Token → Parsed) (n : ℕ) {A : Type 0} (test : Token → Option A) (further : A → List Token → Parsed)
    (ended : read [] ≡ unfit n)
    (one : (t : Token) (ts : List Token) → read (t ∷ ts) ≡ go_on n further ts (test t))
    (in-unfit : test (structure keyword_in) ≡ none) (begins : BeginsOne read)
    (next : (x : A) (ts : List Token) (k : ℕ) → further x ts ≡ unfit k → StopsAt (further x) (suc n) (with_in ts) k) where
  here : (t : Token) (ts : List Token) (k : ℕ) → test t ≡ none → unfit n ≡ unfit k → StopsAt read n (t ∷ ts) k
  here t ts k p e =
      let h : n ≡ k = cc in
      record { before = 0; counted = omega arith; stops = λ rest. one t rest ∙ rw p e; begins = begins }

  beyond : (t : Token) (x : A) (ts : List Token) (k : ℕ) → test t ≡ some x → StopsAt (further x) (suc n) ts k → StopsAt read n (t ∷ ts) k
  beyond t x ts k p s =
      let on : (us : List Token) → read (t ∷ us) ≡ further x us = λ us. one t us ∙ rw p refl in
      let (u, rest, d, e) = s.begins in
      record {
        before = suc s.before;
        counted = omega (arith, s.counted);
        stops = λ rest. on (take (suc s.before) ts ++ rest) ∙ s.stops rest;
        begins = (u, rest, d, on (take s.before ts ++ u ∷ rest) ∙ e);
      }

  part_stops : (ts : List Token) (k : ℕ) → read ts ≡ unfit k → StopsAt read n (with_in ts) k
  part_stops [] k e = here (structure keyword_in) [] k in-unfit (sym ended ∙ e)
  part_stops (t ∷ ts) k e = go (test t) refl
    where
      go : (o : Option A) → test t ≡ o → StopsAt read n (t ∷ with_in ts) k
      go none p = here t (with_in ts) k p (sym (one t ts ∙ rw p refl) ∙ e)
      go (some x) p = beyond t x (with_in ts) k p (next x ts k (sym (one t ts ∙ rw p refl) ∙ e))

-- The parts, last first. The closing `;`:
abbrev passes : Bool → Option (Unit {0})
passes true = some tt
passes false = none

closed_stops : (n : ℕ) (d : Declaration) (ts : List Token) (k : ℕ) → closed n d ts ≡ unfit k → StopsAt (closed n d) n (with_in ts) k
unfolding closed is_semicolon is_structure structure_number
closed_stops n d =
    part_stops (closed n d) n (λ t. passes (is_semicolon t)) (λ u. parsed d) refl (λ t ts. one (is_semicolon t) ts) refl
    (structure semicolon, [], d, refl) (λ u ts k e. absurd (no_unfit e))
  where
    one : (b : Bool) (ts : List Token)
        → ◌≡◌ {A = Parsed} (elim b [ true ↦ parsed d ts | false ↦ unfit n ]) (go_on n (λ u. parsed d) ts (passes b))
    one true ts = refl
    one false ts = refl

operator_stops :
    (n : ℕ) (make : Bytes → Declaration) (ts : List Token) (k : ℕ) → operator_part n make ts ≡ unfit k
    → StopsAt (operator_part n make) n (with_in ts) k
unfolding operator_part symbol_of closed is_semicolon is_structure structure_number
operator_stops n make =
    part_stops (operator_part n make) n symbol_of (λ m. closed (suc n) (make m)) refl (λ t ts. refl) refl
    (atom (symbol []), structure semicolon ∷ [], make [], refl)
    (λ m. closed_stops (suc n) (make m))

precedence_stops :
    (f : Fixity) (a : Associativity) (ts : List Token) (k : ℕ) → precedence_part f a ts ≡ unfit k
    → StopsAt (precedence_part f a) 2 (with_in ts) k
unfolding precedence_part precedence_of is_precedence value value_from operator_part symbol_of closed is_semicolon is_structure structure_number
precedence_stops f a =
    part_stops (precedence_part f a) 2 precedence_of (λ d. operator_part 3 (declares f a d)) refl (λ t ts. refl) refl
    (atom (number (bytes "1")), atom (symbol []) ∷ structure semicolon ∷ [], declares f a (bytes "1") [], refl)
    (λ d. operator_stops 3 (declares f a d))

-- Every fixity goes with `non`.
non_allowed : (f : Fixity) → allowed f non ≡ true
unfolding allowed
non_allowed Prefix = refl
non_allowed Infix = refl
non_allowed Postfix = refl

non_begins : (f : Fixity) → BeginsOne (associativity_part f)
unfolding associativity_part associativity_for associativity_named associativity_word same
    precedence_part precedence_of is_precedence value value_from operator_part symbol_of closed is_semicolon is_structure structure_number
non_begins f = (
  atom (symbol (associativity_word non)),
  atom (number (bytes "1")) ∷ atom (symbol []) ∷ structure semicolon ∷ [],
  declares f non (bytes "1") [],
  rw (non_allowed f, associativity_part) refl,
)

associativity_stops : (f : Fixity) (ts : List Token) (k : ℕ) → associativity_part f ts ≡ unfit k → StopsAt (associativity_part f) 1 (with_in ts) k
unfolding associativity_part associativity_for symbol_of
associativity_stops f =
    part_stops (associativity_part f) 1 (associativity_for f) (λ a. precedence_part f a) refl (λ t ts. refl) refl (non_begins f)
    (λ a. precedence_stops f a)

-- The first word is a fixity or `plain`.
data Start : Type 0 where
  plain : Start
  fixity : Fixity → Start

abbrev named : Option Fixity → Option Start
named none = none
named (some f) = some (fixity f)

start_word : Bytes → Option Start
start_word w = elim (same w plain_word) [ true ↦ some plain | false ↦ named (fixity_named w) ]

abbrev start_of : Option Bytes → Option Start
start_of none = none
start_of (some w) = start_word w

abbrev started : Start → List Token → Parsed
started plain = operator_part 1 clears
started (fixity f) = associativity_part f

first_word_lem : (w : Bytes) (ts : List Token) → first_word w ts ≡ go_on 0 started ts (start_word w)
unfolding first_word start_word
first_word_lem w ts = go (same w plain_word) (fixity_named w)
  where
    go : (b : Bool) (o : Option Fixity)
        → ◌≡◌ {A = Parsed}
        (elim b [ true ↦ operator_part 1 clears ts | false ↦ elim o [ none ↦ unfit 0 | some f ↦ associativity_part f ts ] ])
        (go_on 0 started ts (elim b [ true ↦ some plain | false ↦ named o ]))
    go true o = refl
    go false none = refl
    go false (some f) = refl

declaration_stops : (ts : List Token) (k : ℕ) → declaration ts ≡ unfit k → StopsAt declaration 0 (with_in ts) k
unfolding declaration symbol_of first_word declaration_tokens is_declaration
declaration_stops =
    part_stops declaration 0 (λ t. start_of (symbol_of t)) started refl one refl
    (atom (symbol plain_word), atom (symbol []) ∷ structure semicolon ∷ [], clears [], declaration_of (clears []) [] refl)
    next
  where
    one : (t : Token) (ts : List Token) → declaration (t ∷ ts) ≡ go_on 0 started ts (start_of (symbol_of t))
    one t ts = go (symbol_of t)
      where
        go : (o : Option Bytes) → go_on 0 first_word ts o ≡ go_on 0 started ts (start_of o)
        go none = refl
        go (some w) = first_word_lem w ts

    next : (s : Start) (ts : List Token) (k : ℕ) → started s ts ≡ unfit k → StopsAt (started s) 1 (with_in ts) k
    next plain = operator_stops 1 clears
    next (fixity f) = associativity_stops f

-- So where the reader stops is the first unfit token: what it reads to the end is a declaration, and every declaration is read.
read_alone : (d : Declaration) (ts : List Token) → is_declaration d ≡ true → declaration_tokens d ≡ ts → declaration ts ≡ parsed d []
read_alone d ts a e = ap declaration (sym e ∙ sym (append-nil (declaration_tokens d))) ∙ declaration_of d [] a

stops_first : (ts : List Token) (k : ℕ) → StopsAt declaration 0 ts k → FirstUnfit ts k
stops_first ts k s =
    let there : s.before ≡ k = omega (arith, s.counted) in
    let (t, rest, d, e) = s.begins in
    let (p, a) = declaration_sound (take s.before ts ++ t ∷ rest) d [] e in
    let begun : declaration_tokens d ≡ take k ts ++ t ∷ rest = sym (append-nil (declaration_tokens d)) ∙ sym p ∙ rw there refl in
    let stopped : (more : List Token) → declaration (take (suc k) ts ++ more) ≡ unfit k = rw there at s.stops in
    record { begun = (d, t, rest, a, begun); unfit = λ c more b h. no_unfit (sym (read_alone c _ b h) ∙ stopped more) }

-- More tokens of a list begin with fewer.
take_more : (ts : List Token) (j k : ℕ) → j ≤ k → (us : List Token) × (take k ts ≡ take j ts ++ us)
take_more ts zero k h = (take k ts, refl)
take_more ts (suc j) zero h = absurd (omega arith)
take_more [] (suc j) (suc k) h = ([], refl)
take_more (t ∷ ts) (suc j) (suc k) h = let (us, e) = take_more ts j k (omega arith) in (us, ap (◌∷◌ t) e)

-- No first unfit token stands before another, for what stands before one begins a declaration ..
no_earlier : (ts : List Token) (j k : ℕ) → FirstUnfit ts j → FirstUnfit ts k → k ≤ j
no_earlier ts j k p q = go (leb k j) refl
  where
    go : (b : Bool) → leb k j ≡ b → k ≤ j
    go true e = leb-true k j e
    go false e =
        let (us, h) = take_more ts (suc j) k (leb-false k j e) in
        let (d, t, rest, a, g) = q.begun in
        absurd (p.unfit d (us ++ t ∷ rest) a (g ∙ ap (λ vs. vs ++ t ∷ rest) h ∙ append_assoc (take (suc j) ts) us (t ∷ rest)))

-- .. and none stands where a whole declaration does: not in it, and not behind it, for no declaration begins with another.
whole_fits : (d : Declaration) (ts : List Token) (k : ℕ) → is_declaration d ≡ true → FirstUnfit (declaration_tokens d ++ ts) k → ⊥
whole_fits d ts k a p = within (length (declaration_tokens d)) (take-append_seam (declaration_tokens d) ts)
  where
    within : (n : ℕ) → take n (declaration_tokens d ++ ts) ≡ declaration_tokens d → ⊥
    within n front = go (leb n k) refl
      where
        go : (b : Bool) → leb n k ≡ b → ⊥
        go true e =
            let (us, h) = take_more (declaration_tokens d ++ ts) n k (leb-true n k e) in
            let (c, t, rest, f, g) = p.begun in
            let longer : declaration_tokens c ++ [] ≡ declaration_tokens d ++ (us ++ t ∷ rest) =
            append-nil (declaration_tokens c) ∙ g ∙ rw (h, front) (append_assoc (declaration_tokens d) us (t ∷ rest)) in
            omega (arith, ap length (first_told c d [] (us ++ t ∷ rest) longer).1, length-append us (t ∷ rest))
        go false e =
            let (us, h) = take_more (declaration_tokens d ++ ts) (suc k) n (leb-false n k e) in
            p.unfit d us a (sym front ∙ h)

-- Reading one declaration stops at the first unfit token.
pub unfit_first : (ts : List Token) (k : ℕ) → (declaration ts ≡ unfit k) ↔ FirstUnfit (with_in ts) k
unfit_first ts k = (λ e. stops_first (with_in ts) k (declaration_stops ts k e), λ p. back p (declaration ts) refl)
  where
    back : FirstUnfit (with_in ts) k → (o : Parsed) → declaration ts ≡ o → declaration ts ≡ unfit k
    back p (unfit j) e =
        let q = stops_first (with_in ts) j (declaration_stops ts j e) in
        e ∙ ap unfit (omega (arith, no_earlier (with_in ts) j k q p, no_earlier (with_in ts) k j p q))
    back p (parsed d rest) e =
        let (h, a) = declaration_sound ts d rest e in
        absurd (whole_fits d (with_in rest) k a (rw (h, append_assoc (declaration_tokens d) rest (structure keyword_in ∷ [])) at p))
