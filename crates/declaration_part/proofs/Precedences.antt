-- The value of digits as a precedence. A value that is above the widest precedence stays above it, whatever digits follow: so it stands for
-- none, however far it is above.
use mathlib.Core.Path.{◌≡◌, refl, sym, ap, ◌∙◌}
use mathlib.Core.Bool.{true, false, ◌&&◌}
use mathlib.Core.List.{[], ◌∷◌}
use Prim.Native.Nat.{ℕ, ◌+◌, ◌-◌, ◌*◌, ◌≤◌, ◌<◌}
use native.Mathlib.Numerals.{add-one}
use native.Mathlib.Omega.{arith}
use lib.Dec.{leb}
use lib.ListN.{length, drop, get_or, drop_of_length-le}
use lib.Seq.{drop-cons}
use borrow.Author.Tests.{le-leb, lt-leb}
use Rattle.std.specs.Prelude.{Option, None, Some}
use Rattle.grammar.specs.Bytes.{Bytes}
use Rattle.grammar.specs.Declaration.{is_precedence, value, value_from, widest_precedence}
use Rattle.declaration_part.specs.Named.{precedence_read}

-- A value as a precedence.
unfoldable pub coded : ℕ → Option ℕ
coded v = elim (leb 1 v && leb v widest_precedence) [ true ↦ Some v | false ↦ None ]

pub coded_value : (d : Bytes) → precedence_read d ≡ coded (value_from 0 d)
unfolding precedence_read is_precedence value coded
coded_value d = refl

pub coded_low : (v : ℕ) → 1 ≤ v → v ≤ widest_precedence → Some v ≡ coded v
unfolding coded
coded_low v l h = rw (le-leb 1 v l, le-leb v widest_precedence h, coded)

pub coded_zero : (v : ℕ) → v ≡ 0 → None ≡ coded v
unfolding coded
coded_zero v e = rw (lt-leb 1 v (omega arith), coded)

pub coded_high : (v : ℕ) → widest_precedence < v → None ≡ coded v
unfolding coded
coded_high v h = rw (le-leb 1 v (omega arith), lt-leb v widest_precedence h, coded)

-- Digits that follow don't make a value less.
grows : (v : ℕ) (d : Bytes) → v ≤ value_from v d
unfolding value_from
grows v [] = omega arith
grows v (b ∷ d) = omega (arith, grows (v * 10 + (b - 48)) d)

coded_above : (v : ℕ) (d : Bytes) → widest_precedence < v → coded (value_from v d) ≡ None
coded_above v d h = sym (coded_high (value_from v d) (omega (arith, grows v d)))

-- A digit `x` further: the value `u` is that of the digits so far, or both are above the widest precedence.
module _ (d : Bytes) (i v x : ℕ) (h : i < length d) (e : x ≡ get_or d i 0 - 48) where
  value_step : value_from v (drop i d) ≡ value_from (v * 10 + x) (drop (i + 1) d)
  unfolding value_from
  value_step = rw (e, add-one, drop-cons d i 0 h)

  pub step_exact : (u : ℕ) → u ≡ v * 10 + x → coded (value_from v (drop i d)) ≡ coded (value_from u (drop (i + 1) d))
  step_exact u g = ap coded (value_step ∙ ap (λ u. value_from u (drop (i + 1) d)) (sym g))

  pub step_above :
      (u : ℕ) → widest_precedence < v * 10 + x → widest_precedence < u
      → coded (value_from v (drop i d)) ≡ coded (value_from u (drop (i + 1) d))
  step_above u g f =
      ap coded value_step ∙ coded_above (v * 10 + x) (drop (i + 1) d) g ∙ sym (coded_above u (drop (i + 1) d) f)

-- Behind the last digit.
module _ (d : Bytes) (i v : ℕ) (e : precedence_read d ≡ coded (value_from v (drop i d))) (h : length d ≤ i) where
  ended : precedence_read d ≡ coded v
  unfolding value_from
  ended = e ∙ rw (drop_of_length-le d h)

  pub read_some : 1 ≤ v → v ≤ widest_precedence → Some v ≡ precedence_read d
  read_some l m = coded_low v l m ∙ sym ended

  pub read_zero : v ≡ 0 → None ≡ precedence_read d
  read_zero z = coded_zero v z ∙ sym ended

  pub read_high : widest_precedence < v → None ≡ precedence_read d
  read_high m = coded_high v m ∙ sym ended
