-- Digits without leading zeros: of the zeros that stand before the last digit as many go as stand in front.
use mathlib.Core.Path.{◌≡◌, refl, sym, ap, ◌∙◌}
use mathlib.Core.Bool.{Bool, true, false, cond}
use mathlib.Core.List.{[], ◌∷◌}
use Prim.Native.Nat.{ℕ, zero, suc, ◌+◌, ◌<◌}
use native.Mathlib.Numerals.{one-add}
use native.Mathlib.Omega.{arith}
use lib.Dec.{eqb}
use lib.ListN.{length, take, drop}
use borrow.Author.Tests.{eqb-true}
use Rattle.std.specs.List.{prefix_len}
use Rattle.grammar.specs.Bytes.{Bytes}
use Rattle.grammar.specs.Canonical.{without_zeros, or_zero, strip}

-- One digit alone stays as it is.
one_stays : (b : ℕ) → b ∷ [] ≡ strip (b ∷ [])
unfolding strip without_zeros or_zero
one_stays b = go (eqb b 48) refl
  where
    go : (t : Bool) → eqb b 48 ≡ t → b ∷ [] ≡ strip (b ∷ [])
    go true e = rw (e, without_zeros) (ap (λ x. x ∷ []) (eqb-true b 48 e))
    go false e = rw (e, without_zeros)

zero_first : (b : ℕ) (d : Bytes) → eqb b 48 ≡ true → strip (b ∷ d) ≡ strip d
unfolding strip without_zeros
zero_first b d e = rw (e, without_zeros)

other_first : (b : ℕ) (d : Bytes) → eqb b 48 ≡ false → strip (b ∷ d) ≡ b ∷ d
unfolding strip without_zeros or_zero
other_first b d e = rw (e, without_zeros)

zeros_counted
    : (d : Bytes) (k : ℕ) → length d ≡ k + 1 → let z = prefix_len (λ b. eqb b 48) (take k d) in (z < length d) × (drop z d ≡ strip d)
zeros_counted [] k h = absurd (omega arith)
zeros_counted (b ∷ []) zero h = (omega arith, one_stays b)
zeros_counted (b ∷ []) (suc k) h = absurd (omega arith)
zeros_counted (b ∷ c ∷ d) zero h = absurd (omega arith)
zeros_counted (b ∷ c ∷ d) (suc k) h = go (prefix_len (λ x. eqb x 48) (take k (c ∷ d))) (zeros_counted (c ∷ d) k (omega arith)) (eqb b 48) refl
  where
    go :
        (n : ℕ) → (n < length (c ∷ d)) × (drop n (c ∷ d) ≡ strip (c ∷ d)) → (t : Bool) → eqb b 48 ≡ t
        → let z = cond t (1 + n) 0 in (z < length (b ∷ c ∷ d)) × (drop z (b ∷ c ∷ d) ≡ strip (b ∷ c ∷ d))
    go n (l, e) true f = (omega arith, ap (λ x. drop x (b ∷ c ∷ d)) (one-add n) ∙ e ∙ sym (zero_first b (c ∷ d) f))
    go n (l, e) false f = (omega arith, sym (other_first b (c ∷ d) f))

-- `k` digits stand before the last one, and `z` zeros in front of them.
pub zeros_go
    : (d : Bytes) (k z : ℕ) → length d ≡ k + 1 → z ≡ prefix_len (λ b. eqb b 48) (take k d) → (z < length d) × (drop z d ≡ strip d)
zeros_go d k z h e = rw e (zeros_counted d k h)
