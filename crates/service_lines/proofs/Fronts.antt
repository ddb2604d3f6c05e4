-- What the first characters of a part leave, with one character more.
use mathlib.Core.Path.{◌≡◌, refl}
use mathlib.Core.List.{List, [], ◌∷◌, ◌++◌}
use Prim.Native.Nat.{ℕ, ◌+◌, ◌<◌}
use native.Mathlib.Numerals.{add-one}
use native.Mathlib.Omega.{arith}
use lib.ListN.{length, take, get_or}
use lib.Seq.{take-suc}
use Rattle.calls.specs.declared.Format.{Format}
use Rattle.calls.specs.declared.Call.{Call}
use Rattle.calls.specs.declared.Format.TheVariants.{Texts, Calls}
use Rattle.calls.specs.Calls.{fresh, taken, text_taken, taken_all, text_taken_all, Sound}

-- A line with no character is sound with any text.
pub fresh_sound : (f : Format) (text : List ℕ) → Sound (fresh f) text
fresh_sound Texts text = record { room = omega arith; digit = tt }
fresh_sound Calls text = omega arith

taken_push
    : (f : Format) (text : List ℕ) (call : Call) (s : List ℕ) (b : ℕ)
    → (taken_all f text call (s ++ b ∷ []) ≡ taken f (text_taken_all f text call s) (taken_all f text call s) b)
    × (text_taken_all f text call (s ++ b ∷ []) ≡ text_taken (text_taken_all f text call s) (taken_all f text call s) b)
unfolding taken_all text_taken_all
taken_push f text call [] b = (refl, refl)
taken_push f text call (x ∷ s) b = taken_push f (text_taken text call x) (taken f text call x) s b

-- The line `c` and its text `t` are what the first `i` characters leave; `r` and `u` are what one more leaves of them.
module _ (f : Format) (text : List ℕ) (call : Call) (s : List ℕ) (i : ℕ) (c : Call) (t : List ℕ) where
  module _ (h : i < length s) (p : c ≡ taken_all f text call (take i s)) (q : t ≡ text_taken_all f text call (take i s)) where
    pub front_step : (r : Call) → r ≡ taken f t c (get_or s i 0) → r ≡ taken_all f text call (take (i + 1) s)
    front_step r v = rw (add-one i, take-suc s i 0 h, (taken_push f text call (take i s) (get_or s i 0)).0, ← p, ← q) v

    pub text_front_step : (u : List ℕ) → u ≡ text_taken t c (get_or s i 0) → u ≡ text_taken_all f text call (take (i + 1) s)
    text_front_step u v = rw (add-one i, take-suc s i 0 h, (taken_push f text call (take i s) (get_or s i 0)).1, ← p, ← q) v
