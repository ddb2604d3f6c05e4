-- The table of the classes of bytes: one test, which the checker computes, holds all 256 entries against the rule, and a law about tests
-- of an interval gives the rule at each entry.
use mathlib.Core.Path.{◌≡◌}
use mathlib.Core.Bool.{Bool, true}
use mathlib.Core.List.{List}
use Prim.Native.Nat.{ℕ, ◌≤◌, ◌<◌}
use native.Mathlib.Omega.{arith}
use lib.Dec.{eqb, leb}
use lib.ListN.{get_or}
use borrow.Author.Tests.{eqb-true, leb-true}
use Rattle.grammar.specs.Token.{class, other}
use Rattle.byte_classes.proofs.Intervals.{all, all_at}

-- Entry `b` is the class of the byte `b`.
abbrev pub follows : List ℕ → ℕ → Bool
follows C b = eqb (get_or C b 0) (class b)

pub whole_table : (C : List ℕ) → all (follows C) 0 256 ≡ true → (b : ℕ) → b < 256 → get_or C b 0 ≡ class b
whole_table C t b h = eqb-true (get_or C b 0) (class b) (all_at (follows C) 0 256 t b (omega arith) (omega arith))

-- No entry is behind the last class.
abbrev pub known : List ℕ → ℕ → Bool
known C b = leb (get_or C b 0) other

pub all_known : (C : List ℕ) → all (known C) 0 256 ≡ true → (b : ℕ) → b < 256 → get_or C b 0 ≤ other
all_known C t b h = leb-true (get_or C b 0) other (all_at (known C) 0 256 t b (omega arith) (omega arith))
