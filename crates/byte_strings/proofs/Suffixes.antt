-- Functions of a byte string, at the part that begins at a place: a byte further, at a byte that ends it, and behind the last byte.
-- With them a loop goes by what is left of a text.
use mathlib.Core.Path.{◌≡◌, refl, ap, ◌∙◌}
use mathlib.Core.Bool.{Bool, true, false}
use mathlib.Core.List.{◌∷◌}
use Prim.Native.Nat.{ℕ, suc, ◌+◌, ◌-◌, ◌≤◌, ◌<◌}
use native.Mathlib.Numerals.{add-one}
use native.Mathlib.Omega.{arith}
use lib.ListN.{length, take, drop, get_or, drop_of_length-le, length-drop, length-take}
use lib.Seq.{drop-cons}
use borrow.Author.Tests.{eq-eqb, ne_eqb}
use Rattle.grammar.specs.Bytes.{Bytes, same}
use Rattle.grammar.specs.Scan.{run}
use Rattle.grammar.proofs.Logic.{same_eq}
use Rattle.grammar.proofs.Runs.{run-cons, ran}

pub drop_next : (s : Bytes) (i : ℕ) → i < length s → drop i s ≡ get_or s i 0 ∷ drop (i + 1) s
drop_next s i h = rw (add-one, drop-cons s i 0 h)

module _ (p : ℕ → Bool) (s : Bytes) (i : ℕ) where
  pub run_step : i < length s → p (get_or s i 0) ≡ true → run p (drop i s) ≡ suc (run p (drop (i + 1) s))
  run_step h e = ap (run p) (drop_next s i h) ∙ run-cons p (get_or s i 0) (drop (i + 1) s) e

  pub run_stop : i < length s → p (get_or s i 0) ≡ false → run p (drop i s) ≡ 0
  unfolding run
  run_stop h e = ap (run p) (drop_next s i h) ∙ rw (e, run)

  pub run_end : length s ≤ i → run p (drop i s) ≡ 0
  unfolding run
  run_end h = ap (run p) (drop_of_length-le s h)

  -- A run ends within the text.
  pub run-within : i ≤ length s → i + run p (drop i s) ≤ length s
  run-within h = omega (arith, (ran p (drop i s)).size, length-take (run p (drop i s)) (drop i s), length-drop i s)

module _ (a b : Bytes) (i : ℕ) where
  pub same_step
      : i < length a → i < length b → get_or a i 0 ≡ get_or b i 0 → same (drop i a) (drop i b) ≡ same (drop (i + 1) a) (drop (i + 1) b)
  unfolding same
  same_step h g e = rw (drop_next a i h, drop_next b i g, same, eq-eqb (get_or a i 0) (get_or b i 0) e)

  pub same_stop : i < length a → i < length b → (get_or a i 0 ≡ get_or b i 0 → ⊥) → same (drop i a) (drop i b) ≡ false
  unfolding same
  same_stop h g e = rw (drop_next a i h, drop_next b i g, same, ne_eqb (get_or a i 0) (get_or b i 0) e)

  pub same_end : length a ≤ i → length b ≤ i → same (drop i a) (drop i b) ≡ true
  unfolding same
  same_end h g = rw (drop_of_length-le a h, drop_of_length-le b g)

pub same_length : (a b : Bytes) → (length a ≡ length b → ⊥) → same a b ≡ false
same_length a b h = go (same a b) refl
  where
    go : (x : Bool) → same a b ≡ x → same a b ≡ false
    go true e = absurd (h (ap length (same_eq a b e)))
    go false e = e

-- A part that has as many bytes as asked for.
pub part_whole : (s : Bytes) (at n : ℕ) → take (at + n - at) (drop at s) ≡ take n (drop at s)
part_whole s at n = let e : at + n - at ≡ n = omega arith in ap (λ k. take k (drop at s)) e
