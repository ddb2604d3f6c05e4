-- Rows 6 and 7 hold of tokens exactly where the check refuses them, and nothing is left open exactly where it passes.
-- A token fits exactly where its move is not refused, so the check in front of tokens that fit answers what it answers behind them.
use mathlib.Core.Path.{◌≡◌, refl, sym, ap, ◌∙◌}
use mathlib.Core.Bool.{Bool, true, false}
use mathlib.Core.Logic.{◌↔◌, ◌⊎◌, inl, inr}
use mathlib.Core.List.{List, [], ◌∷◌, ◌++◌, append_assoc, append-nil}
use Prim.Native.Nat.{ℕ, suc, ◌-◌, ◌≤◌, ◌<◌}
use native.Mathlib.Omega.{arith}
use lib.Dec.{ltb}
use lib.ListN.{length, length-append}
use borrow.Author.Tests.{ltb-true, ltb-false, le-ltb}
use Rattle.grammar.specs.Token.{opening, closing, semicolon, keyword_let, keyword_in, keyword_end, Token, atom, structure}
use Rattle.grammar.specs.Open.{Open, in_bracket, in_declarations, in_body, Fits, deepest, OpenAfter, at_first, behind_token}
use Rattle.grammar.specs.Open.{an_atom, opens, closes, separates, begins, declared, ends}
use Rattle.grammar.specs.Outcome.{Outcome, refused, passed}
use Rattle.grammar.specs.Nesting.{Move, stays, enters, becomes, leaves, outermost, within, move, close_innermost, nesting}
use Rattle.grammar.specs.Fault.{NestingFault, unclosed, too_deep}
use Rattle.grammar.proofs.Logic.{impossible}
use Rattle.grammar.proofs.Nested.{moved, Allowed, nesting_step, opening_enters, let_enters}

-- A token fits, or its move is refused.
fits_or_broken : (os : List Open) (t : Token) → Fits os t (moved os (move os t)) ⊎ (move os t ≡ Move.broken)
unfolding move outermost within moved close_innermost
fits_or_broken os (atom a) = inl an_atom
fits_or_broken [] (structure opening) = inl (opens tt)
fits_or_broken [] (structure closing) = inr refl
fits_or_broken [] (structure semicolon) = inr refl
fits_or_broken [] (structure keyword_let) = inl (begins tt)
fits_or_broken [] (structure keyword_in) = inr refl
fits_or_broken [] (structure keyword_end) = inr refl
fits_or_broken (in_bracket ∷ os) (structure opening) = inl (opens tt)
fits_or_broken (in_bracket ∷ os) (structure closing) = inl closes
fits_or_broken (in_bracket ∷ os) (structure semicolon) = inr refl
fits_or_broken (in_bracket ∷ os) (structure keyword_let) = inl (begins tt)
fits_or_broken (in_bracket ∷ os) (structure keyword_in) = inr refl
fits_or_broken (in_bracket ∷ os) (structure keyword_end) = inr refl
fits_or_broken (in_declarations ∷ os) (structure opening) = inr refl
fits_or_broken (in_declarations ∷ os) (structure closing) = inr refl
fits_or_broken (in_declarations ∷ os) (structure semicolon) = inl separates
fits_or_broken (in_declarations ∷ os) (structure keyword_let) = inr refl
fits_or_broken (in_declarations ∷ os) (structure keyword_in) = inl declared
fits_or_broken (in_declarations ∷ os) (structure keyword_end) = inr refl
fits_or_broken (in_body ∷ os) (structure opening) = inl (opens tt)
fits_or_broken (in_body ∷ os) (structure closing) = inr refl
fits_or_broken (in_body ∷ os) (structure semicolon) = inr refl
fits_or_broken (in_body ∷ os) (structure keyword_let) = inl (begins tt)
fits_or_broken (in_body ∷ os) (structure keyword_in) = inr refl
fits_or_broken (in_body ∷ os) (structure keyword_end) = inl ends

-- A move that is not refused, and what is open behind it.
abbrev Makes : List Open → Move → List Open → Type 0
Makes os m ps = (m ≡ Move.broken → ⊥) × (moved os m ≡ ps)

fits_makes : {os ps : List Open} {t : Token} → Fits os t ps → Makes os (move os t) ps
unfolding move within moved close_innermost
fits_makes an_atom = ((λ e. impossible cc), refl)
fits_makes {os} (opens r) = rw (opening_enters os r) ((λ e. impossible cc), refl)
fits_makes closes = ((λ e. impossible cc), refl)
fits_makes separates = ((λ e. impossible cc), refl)
fits_makes {os} (begins r) = rw (let_enters os r) ((λ e. impossible cc), refl)
fits_makes declared = ((λ e. impossible cc), refl)
fits_makes ends = ((λ e. impossible cc), refl)

-- The step of the check at a token that fits, where it goes no deeper than 32.
makes_allowed : (os : List Open) {ps : List Open} (m : Move) → Makes os m ps → length ps ≤ deepest → Allowed os m
unfolding moved
makes_allowed os stays p l = tt
makes_allowed os Move.broken p l = p.0 refl
makes_allowed os (enters o) p l = omega (arith, ap length p.1)
makes_allowed os (becomes o) p l = tt
makes_allowed os leaves p l = tt

fits_step : {os ps : List Open} {t : Token} (i : ℕ) (ts : List Token) → Fits os t ps → length ps ≤ deepest
    → nesting os i (t ∷ ts) ≡ nesting ps (suc i) ts
fits_step {os} {ps} {t} i ts f l =
    let p = fits_makes f in
    nesting_step os i t ts (move os t) refl (makes_allowed os (move os t) p l) ∙ ap (λ qs. nesting qs (suc i) ts) p.1

-- Where it goes deeper, it is an opener and refused.
innermost_closed : (os : List Open) → length (close_innermost os) ≤ length os - 1
unfolding close_innermost
innermost_closed [] = omega arith
innermost_closed (o ∷ os) = omega arith

deeper_enters : (os : List Open) {ps : List Open} (m : Move) → Makes os m ps → length os ≤ deepest → deepest < length ps
    → (o : Open) × (m ≡ enters o) × (deepest ≤ length os)
unfolding moved
deeper_enters os stays p l d = absurd (omega (arith, ap length p.1))
deeper_enters os Move.broken p l d = absurd (p.0 refl)
deeper_enters os (enters o) p l d = (o, refl, omega (arith, ap length p.1))
deeper_enters os (becomes o) p l d = absurd (omega (arith, ap length p.1, innermost_closed os))
deeper_enters os leaves p l d = absurd (omega (arith, ap length p.1, innermost_closed os))

deep_refused : {os ps : List Open} {t : Token} (i : ℕ) (ts : List Token) → Fits os t ps → length os ≤ deepest → deepest < length ps
    → nesting os i (t ∷ ts) ≡ refused 7 i
unfolding nesting
deep_refused {os} {ps} {t} i ts f l d =
    let (o, e, r) = deeper_enters os (move os t) (fits_makes f) l d in
    rw (e, nesting, le-ltb (length os) deepest r)

-- A token that does not fit is refused.
misfit_refused : {os : List Open} {t : Token} (i : ℕ) (ts : List Token) → ((ps : List Open) → Fits os t ps → ⊥)
    → nesting os i (t ∷ ts) ≡ refused 6 i
unfolding nesting
misfit_refused {os} {t} i ts n = which (fits_or_broken os t)
  where
    which : Fits os t (moved os (move os t)) ⊎ (move os t ≡ Move.broken) → nesting os i (t ∷ ts) ≡ refused 6 i
    which (inl f) = absurd (n (moved os (move os t)) f)
    which (inr e) = rw (e, nesting)

-- In front of tokens behind which `os` is open the check answers what it answers behind them.
behind : {xs : List Token} {os : List Open} → OpenAfter xs os → (ys : List Token) → nesting [] 0 (xs ++ ys) ≡ nesting os (length xs) ys
behind at_first ys = refl
behind (behind_token {ts = xs} {t = t} {ps = ps} h f l) ys =
    ap (nesting [] 0) (append_assoc xs (t ∷ []) ys)
    ∙ behind h (t ∷ ys)
    ∙ fits_step (length xs) ys f l
    ∙ ap (λ k. nesting ps k ys) (omega (arith, length-append xs (t ∷ [])))

shallow : {xs : List Token} {os : List Open} → OpenAfter xs os → length os ≤ deepest
shallow at_first = omega arith
shallow (behind_token h f l) = l

-- What is open at the end is the answer.
open_answer : {ts : List Token} {os : List Open} → OpenAfter ts os → nesting [] 0 ts ≡ nesting os (length ts) []
open_answer {ts} h = ap (nesting [] 0) (sym (append-nil ts)) ∙ behind h []

-- A row that holds is refused.
fault_refused : {ts : List Token} {n i : ℕ} → NestingFault ts n i → nesting [] 0 ts ≡ refused n i
unfolding nesting
fault_refused (NestingFault.broken xs t ys e h n) = ap (nesting [] 0) e ∙ behind h (t ∷ ys) ∙ misfit_refused (length xs) ys n
fault_refused (unclosed h) = open_answer h
fault_refused (too_deep xs t ys e h f d) = ap (nesting [] 0) e ∙ behind h (t ∷ ys) ∙ deep_refused (length xs) ys f (shallow h) d

-- What an answer of the check says of the tokens.
abbrev Verdict : List Token → Outcome (Unit {0}) → Type 0
Verdict ts (refused n i) = NestingFault ts n i
Verdict ts (passed u) = OpenAfter ts []

-- One token further: it fits and goes no deeper than 32, or it is the fault.
further : (t : Token) (ys xs : List Token) (os : List Open) → OpenAfter xs os
    → ((ps : List Open) → OpenAfter (xs ++ t ∷ []) ps → Verdict ((xs ++ t ∷ []) ++ ys) (nesting ps (length (xs ++ t ∷ [])) ys))
    → Verdict (xs ++ t ∷ ys) (nesting os (length xs) (t ∷ ys))
further t ys xs os h later = which (fits_or_broken os t)
  where
    deep : (ps : List Open) → Fits os t ps → (b : Bool) → ltb deepest (length ps) ≡ b → Verdict (xs ++ t ∷ ys) (nesting os (length xs) (t ∷ ys))
    deep ps f true e =
        let d = ltb-true deepest (length ps) e in
        rw (deep_refused (length xs) ys f (shallow h) d) (too_deep xs t ys refl h f d)
    deep ps f false e =
        let l = ltb-false deepest (length ps) e in
        let n : length (xs ++ t ∷ []) ≡ suc (length xs) = omega (arith, length-append xs (t ∷ [])) in
        rw (fits_step (length xs) ys f l, ← append_assoc xs (t ∷ []) ys, ← n) (later ps (behind_token h f l))

    which : Fits os t (moved os (move os t)) ⊎ (move os t ≡ Move.broken) → Verdict (xs ++ t ∷ ys) (nesting os (length xs) (t ∷ ys))
    which (inl f) = deep (moved os (move os t)) f (ltb deepest (length (moved os (move os t)))) refl
    which (inr e) =
        let n : (ps : List Open) → Fits os t ps → ⊥ = λ ps f. (fits_makes f).0 e in
        rw (misfit_refused (length xs) ys n) (NestingFault.broken xs t ys refl h n)

-- What is said of the check behind the tokens `xs` is true of all tokens.
verdict : (ys xs : List Token) (os : List Open) → OpenAfter xs os → Verdict (xs ++ ys) (nesting os (length xs) ys)
unfolding nesting
verdict [] xs [] h = rw (append-nil xs) h
verdict [] xs (o ∷ os) h = rw (append-nil xs) (unclosed h)
verdict (t ∷ ys) xs os h = further t ys xs os h (verdict ys (xs ++ t ∷ []))

-- Rows 6 and 7: the check refuses exactly where a row holds, at that token.
pub nesting_fault : (ts : List Token) (n i : ℕ) → (nesting [] 0 ts ≡ refused n i) ↔ NestingFault ts n i
nesting_fault ts n i = ((λ e. rw e at (verdict ts [] [] at_first)), fault_refused)

-- It passes exactly where every token fits, none goes too deep and nothing is left open.
pub nesting_open : (ts : List Token) → (nesting [] 0 ts ≡ passed tt) ↔ OpenAfter ts []
unfolding nesting
nesting_open ts = ((λ e. rw e at (verdict ts [] [] at_first)), open_answer)
