-- The cases of the definitions: a line with one more character.
use mathlib.Core.Path.{◌≡◌, refl, sym, ◌∙◌}
use mathlib.Core.Bool.{true}
use mathlib.Core.List.{List}
use Prim.Native.Nat.{ℕ, ◌+◌, ◌*◌, ◌≤◌, ◌<◌, min}
use native.Mathlib.Omega.{arith}
use lib.ListN.{length, set}
use lib.Seq.{set_out}
use Rattle.std.specs.Prelude.{None, Some}
use Rattle.hex_lines.specs.declared.lines.Line.{Line}
use Rattle.hex_lines.specs.Hexadecimal.{digit_value, after, text_after}

-- A full text stays as it is.
pub full_stays : (text : List ℕ) (i v : ℕ) → length text ≤ i → set text i v ≡ text
full_stays text i v h = set_out text i v h

-- A character behind the line `l`.
module _ (text : List ℕ) (l : Line) (b : ℕ) where
  pub no-digit-after
      : digit_value b ≡ None
      → (record { begun = true; bad = true; kept = l.kept; high = l.high } ≡ after (length text) l b) × (text ≡ text_after text l b)
  unfolding after text_after
  no-digit-after d = (rw (d, after) refl, rw (d, text_after) refl)

  module _ (low : ℕ) (d : digit_value b ≡ Some low) where
    pub first-after
        : l.high ≡ None
        → (record { begun = true; bad = l.bad; kept = l.kept; high = Some low } ≡ after (length text) l b) × (text ≡ text_after text l b)
    unfolding after text_after
    first-after h = (rw (d, h, after) refl, rw (d, h, text_after) refl)

    module _ (high : ℕ) (h : l.high ≡ Some high) where
      second
          : (kept : ℕ) → kept ≡ min (length text) (l.kept + 1)
          → record { begun = true; bad = l.bad; kept = kept; high = None } ≡ after (length text) l b
      unfolding after
      second kept k = rw (k, d, h, after) refl

      stored : set text l.kept (high * 16 + low) ≡ text_after text l b
      unfolding text_after
      stored = rw (d, h, text_after) refl

      pub second-after
          : l.kept < length text
          → (record { begun = true; bad = l.bad; kept = l.kept + 1; high = None } ≡ after (length text) l b)
          × (set text l.kept (high * 16 + low) ≡ text_after text l b)
      second-after r = (second (l.kept + 1) (omega arith), stored)

      pub full_after
          : l.kept ≤ length text → length text ≤ l.kept
          → (record { begun = true; bad = l.bad; kept = l.kept; high = None } ≡ after (length text) l b) × (text ≡ text_after text l b)
      full_after r f = (second l.kept (omega arith), sym (full_stays text l.kept (high * 16 + low) f) ∙ stored)
