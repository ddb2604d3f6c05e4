-- A scan one blank byte or one token at a time. The scan of a text that begins with a blank is that of the text behind it, and where no
-- blank stands the front of the text decides.
use mathlib.Core.Path.{◌≡◌, refl, sym, ap, ◌∙◌}
use mathlib.Core.Bool.{true}
use mathlib.Core.List.{List, [], ◌∷◌, ◌++◌, append_assoc}
use Prim.Native.Nat.{ℕ, zero, suc, ◌+◌}
use native.Mathlib.Omega.{arith}
use lib.ListN.{drop}
use Rattle.grammar.specs.Bytes.{Bytes}
use Rattle.grammar.specs.Token.{Token, is_blank_byte}
use Rattle.grammar.specs.Outcome.{Outcome, refused, passed}
use Rattle.grammar.specs.Scan.{Placed, Front, nothing, wrong, taken, run, front, before, scan}
use Rattle.grammar.proofs.Runs.{run-cons}
use Rattle.grammar.proofs.Scanned.{behind_blanks, judged-first, counted-last, scan_end, scan-next}

abbrev pub at_place : Token → ℕ → Placed
at_place t at = record { token = t; start = at }

-- A blank at the front is passed.
module _ (b : ℕ) (s : Bytes) (h : is_blank_byte b ≡ true) where
  abbrev blanks : ℕ
  blanks = run is_blank_byte s

  one_more : run is_blank_byte (b ∷ s) ≡ suc blanks
  one_more = run-cons is_blank_byte b s h

  same-behind : behind_blanks (b ∷ s) ≡ behind_blanks s
  same-behind = ap (λ n. drop n (b ∷ s)) one_more

  same_place : (at : ℕ) → at + run is_blank_byte (b ∷ s) ≡ at + 1 + blanks
  same_place at = omega (arith, one_more)

  same_rest : (m : ℕ) → drop (run is_blank_byte (b ∷ s) + m) (b ∷ s) ≡ drop (blanks + m) s
  same_rest m = let e : run is_blank_byte (b ∷ s) + m ≡ suc (blanks + m) = omega (arith, one_more) in ap (λ n. drop n (b ∷ s)) e

  pub scan-blank : (room at : ℕ) → scan room at (b ∷ s) ≡ scan room (at + 1) s
  scan-blank room at = go room (front (behind_blanks s)) refl
    where
      go : (room : ℕ) (f : Front) → front (behind_blanks s) ≡ f → scan room at (b ∷ s) ≡ scan room (at + 1) s
      go room nothing e = scan_end room at (b ∷ s) (ap front same-behind ∙ e) ∙ sym (scan_end room (at + 1) s e)
      go room (wrong k) e =
          judged-first room at (b ∷ s) k (ap front same-behind ∙ e) ∙ ap (refused k) (same_place at)
          ∙ sym (judged-first room (at + 1) s k e)
      go zero (taken t m) e =
          counted-last at (b ∷ s) t m (ap front same-behind ∙ e) ∙ ap (refused 5) (same_place at)
          ∙ sym (counted-last (at + 1) s t m e)
      go (suc room) (taken t m) e =
          scan-next room at (b ∷ s) t m (ap front same-behind ∙ e)
          ∙ rw (same_place at, same_rest m) (sym (scan-next room (at + 1) s t m e))

-- Where no blank stands.
module _ (s : Bytes) (z : run is_blank_byte s ≡ 0) (at : ℕ) where
  bare : behind_blanks s ≡ s
  bare = ap (λ n. drop n s) z

  here : at + run is_blank_byte s ≡ at
  here = omega (arith, z)

  pub scan_wrong : (room k : ℕ) → front s ≡ wrong k → scan room at s ≡ refused k at
  scan_wrong room k e = judged-first room at s k (ap front bare ∙ e) ∙ ap (refused k) here

  module _ (t : Token) (m : ℕ) (e : front s ≡ taken t m) where
    pub scan_full : scan 0 at s ≡ refused 5 at
    scan_full = counted-last at s t m (ap front bare ∙ e) ∙ ap (refused 5) here

    pub scan_token : (room : ℕ) → scan (suc room) at s ≡ before (at_place t at) (scan room (at + m) (drop m s))
    scan_token room =
        let f : run is_blank_byte s + m ≡ m = omega (arith, z) in
        scan-next room at s t m (ap front bare ∙ e) ∙ rw (here, f)

-- Behind the last byte no token stands.
pub scan_none : (room at : ℕ) → scan room at [] ≡ passed []
unfolding run front
scan_none room at = scan_end room at [] refl

-- The outcome with the tokens before those of the rest.
abbrev pub before_all : List Placed → Outcome (List Placed) → Outcome (List Placed)
before_all ps (refused k p) = refused k p
before_all ps (passed qs) = passed (ps ++ qs)

pub before_none : (o : Outcome (List Placed)) → o ≡ before_all [] o
before_none (refused k p) = refl
before_none (passed qs) = refl

pub before_one : (ps : List Placed) (p : Placed) (o : Outcome (List Placed)) → before_all ps (before p o) ≡ before_all (ps ++ p ∷ []) o
unfolding before
before_one ps p (refused k a) = refl
before_one ps p (passed qs) = ap passed (sym (append_assoc ps (p ∷ []) qs))
