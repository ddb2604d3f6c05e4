-- A declaration over a row of tokens. A part refuses where no token of its kind stands; where one stands, what the code reads at its place
-- are its bytes, and the part goes on behind it, at the place behind the blanks.
use mathlib.Core.Path.{◌≡◌, refl, sym, ap, ap₂, subst, ◌∙◌}
use mathlib.Core.Bool.{Bool, true, false}
use mathlib.Core.List.{List, [], ◌∷◌}
use Prim.Native.Nat.{ℕ, suc, ◌+◌, ◌-◌, ◌≤◌, ◌<◌}
use native.Mathlib.Numerals.{add-one}
use native.Mathlib.Omega.{arith}
use lib.ListN.{length, take, drop}
use Rattle.grammar.specs.Bytes.{Bytes}
use Rattle.grammar.specs.Token.{Token, is_structure, structure_number}
use Rattle.grammar.specs.Scan.{Placed}
use Rattle.grammar.specs.Coded.{token_of}
use Rattle.grammar.specs.Answer.{offset_of}
use Rattle.grammar.specs.Declaration as D
use Rattle.grammar.specs.Declaration.{Declaration, unfit, parsed, symbol_of, is_semicolon, closed, operator_part, declaration}
use Rattle.grammar.proofs.Logic.{clash, impossible}
use Rattle.rows.specs.Fields.{TokenRow, kind, start, size}
use Rattle.rows.specs.Tokens.{written_of, token_in, tokens_in, range, Stored}
use Rattle.rows.proofs.Ranges.{range_next}
use Rattle.rows.proofs.Stored.{stored_kind, stored_offset}
use Rattle.declaration_part.specs.declared.walk.Span.{Span}
use Rattle.declaration_part.specs.declared.parse.Declaration as C
use Rattle.scanner.specs.Places.{token_end}
use Rattle.declaration_part.specs.Walking.{Next}
use Rattle.std.specs.Prelude.{Result, Ok, Err, IsOkAnd}
use Rattle.declaration_part.specs.Parsing.{IsPlace, Denotes, Parses}
use Rattle.declaration_part.specs.Parts.{stands, operator_at}
use Rattle.declaration_part.specs.Parts as P
use Rattle.declaration_part.proofs.Parts.{stands_here, stands-cases, standing, closed_operator, closed_semicolon, closed_behind}
use Rattle.declaration_part.proofs.TokenPlaces.{ends_there, next_there}
use Rattle.declaration_part.proofs.DeclarationParts.{Refuses, operator_refuses, closed-refuses}

module _ {text : Bytes} {ps : List Placed} {K : TokenRow} (v : Stored text ps K) (from to : ℕ) (h : to < length ps) where
  range_end : (at : ℕ) → to ≤ at → range text K at to ≡ []
  unfolding tokens_in
  range_end at l = let e : to - at ≡ 0 = omega arith in rw e

  -- A part by what stands at a token's number: it refuses where no token of its kind does.
  refused_at : {part : List Token → D.Parsed} {k n : ℕ} → Refuses part k n → (at : ℕ) → stands k K at to ≡ false → part (range text K at to) ≡ unfit n
  refused_at {part} {k} r at s =
      stands-cases
      k
      K
      at
      to
      (λ l. ap part (range_end at l) ∙ r.ended)
      (λ l e. absurd (clash (stands_here k K at to l e) s))
      (λ l d. ap part (range_next text K at to l) ∙ r.other _ _ (λ e. d (stored_kind v at (omega arith) ∙ e)))

  here_at : (k at : ℕ) → stands k K at to ≡ true → range text K at to ≡ token_of k (written_of text K at) ∷ range text K (at + 1) to
  unfolding token_in
  here_at k at s =
      let p = standing k K at to s in
      range_next text K at to p.0
      ∙ ap (λ j. token_of j (written_of text K at) ∷ range text K (suc at) to) p.1
      ∙ ap (λ n. token_of k (written_of text K at) ∷ range text K n to) (sym (add-one at))

  -- The declaration is what a part makes of the tokens from number `at` on, the first of which stands at a place.
  pub record Gone (part : List Token → D.Parsed) (at : ℕ) (place : Span) : Type 0 where
    pub goes : declaration (range text K from to) ≡ part (range text K at to)
    pub begins : at < to → (kind K at ≡ 3 → ⊥) → place.start ≡ start K at
    pub ends : place.end ≡ token_end text place.start

  -- What the code answers agrees with the declaration.
  abbrev pub Answered : Result C.Declaration ℕ → Type 0
  Answered = Parses K from (declaration (range text K from to))

  unfit_at : (n at : ℕ) → at ≡ from + n → declaration (range text K from to) ≡ unfit n → Answered (Err at)
  unfit_at n at a e = subst (λ p. Parses K from p (Err at)) (sym e) (ap Err a)

  module _ {part : List Token → D.Parsed} {at : ℕ} {place : Span} (g : Gone part at place) where
    module _ (k : ℕ) (d : k < 3) (s : stands k K at to ≡ true) where
      pub begins_here : place.start ≡ start K at
      begins_here = let p = standing k K at to s in g.begins p.0 (λ q. omega (arith, p.1))

      pub ends_here : place.end ≡ start K at + size K at
      ends_here =
          let p = standing k K at to s in
          g.ends ∙ ends_there v at (omega arith) (λ q. omega (arith, p.1)) begins_here

      written_here : P.part text place ≡ written_of text K at
      written_here =
          let n : place.end - place.start ≡ size K at = omega (arith, begins_here, ends_here) in
          ap₂ (λ n x. take n (drop x text)) n begins_here

      read_here : range text K at to ≡ token_of k (P.part text place) ∷ range text K (at + 1) to
      read_here = here_at k at s ∙ ap (λ c. token_of k c ∷ range text K (at + 1) to) (sym written_here)

    -- The part refuses where nothing is read, ..
    pub none_unfit : (k n : ℕ) → at ≡ from + n → Refuses part k n → stands k K at to ≡ false → Answered (Err at)
    none_unfit k n a r s = unfit_at n at a (g.goes ∙ refused_at r at s)

    module _ (k : ℕ) (d : k < 3) (s : stands k K at to ≡ true) where
      -- .. and what is read.
      pub read_unfit : (n : ℕ) → at ≡ from + n → ((ts : List Token) → part (token_of k (P.part text place) ∷ ts) ≡ unfit n) → Answered (Err at)
      read_unfit n a u = unfit_at n at a (g.goes ∙ ap part (read_here k d s) ∙ u _)

      -- The part goes on behind what is read.
      pub read_on :
          (next : ℕ) (place' : Span) → next ≡ at + 1 → Next text place place' → {further : List Token → D.Parsed}
          → ((ts : List Token) → part (token_of k (P.part text place) ∷ ts) ≡ further ts) → Gone further next place'
      read_on next place' a b {further} f =
          let p = standing k K at to s in
          let n : next ≡ suc at = omega arith in
          record {
            goes = g.goes ∙ ap part (read_here k d s) ∙ f _ ∙ ap (λ m. further (range text K m to)) (sym a);
            begins = λ l q.
                b.0
                ∙ next_there v at (omega arith) (λ z. omega (arith, p.1)) (ends_here k d s)
                ∙ ap (offset_of text ps) (sym n)
                ∙ sym (stored_offset v next (omega arith) q);
            ends = b.1;
          }

  -- The end of a declaration: the operator and its `;`.
  module _ (i : ℕ) (make : Bytes → Declaration) (at : ℕ) (place : Span) where
    operator_here :
        stands 1 K at to ≡ true → operator_part i make (range text K at to) ≡ closed (suc i) (make (written_of text K at)) (range text K (at + 1) to)
    unfolding operator_part symbol_of token_of
    operator_here s = ap (operator_part i make) (here_at 1 at s)

    closed_here : (d : Declaration) (j : ℕ) → stands 6 K j to ≡ true → closed (suc i) d (range text K j to) ≡ parsed d (range text K (j + 1) to)
    unfolding closed is_semicolon is_structure structure_number token_of
    closed_here d j s = ap (closed (suc i) d) (here_at 6 j s)

    operator_cases :
        {X : Type 0} → (operator_at K at to place ≡ Err at → operator_part i make (range text K at to) ≡ unfit i → X)
        → (operator_at K at to place ≡ Err (at + 1) → operator_part i make (range text K at to) ≡ unfit (suc i) → X)
        → (operator_at K at to place ≡ Ok place → stands 1 K at to ≡ true
        → operator_part i make (range text K at to) ≡ parsed (make (written_of text K at)) (range text K (at + 1 + 1) to) → X)
        → X
    operator_cases {X} none bare whole = go (stands 1 K at to) (stands 6 K (at + 1) to) refl refl
      where
        go : (a b : Bool) → stands 1 K at to ≡ a → stands 6 K (at + 1) to ≡ b → X
        go false b s z = none (closed_operator K at to place s) (refused_at (operator_refuses i make) at s)
        go true false s z =
            bare (closed_semicolon K at to place s z) (operator_here s ∙ refused_at (closed-refuses (suc i) (make _)) (at + 1) z)
        go true true s z = whole (closed_behind K at to place s z) s (operator_here s ∙ closed_here (make _) (at + 1) z)

    module _ (g : Gone (operator_part i make) at place) where
      pub operator_unfit : at ≡ from + i → (e : ℕ) → Err e ≡ operator_at K at to place → Answered (Err e)
      operator_unfit a e n =
          operator_cases
          (λ z u. let h : e ≡ at = cc in unfit_at i e (h ∙ a) (g.goes ∙ u))
          (λ z u. let h : e ≡ at + 1 = cc in unfit_at (suc i) e (omega arith) (g.goes ∙ u))
          (λ z s u. impossible (cc))

      -- The code's answer has to agree with a declaration of some operator.
      pub operator_given :
          (o : Span) → Ok o ≡ operator_at K at to place → (r : Result C.Declaration ℕ)
          → (IsPlace K at o → (m : Bytes) → IsOkAnd r (Denotes K from (make m))) → Answered r
      operator_given o n r says =
          operator_cases
          (λ z u. impossible (cc))
          (λ z u. impossible (cc))
          (λ z s u.
          let h : o ≡ place = cc in
          subst
          (λ p. Parses K from p r)
          (sym (g.goes ∙ u))
          (says (rw h (begins_here g 1 (omega arith) s, ends_here g 1 (omega arith) s)) (written_of text K at)))
