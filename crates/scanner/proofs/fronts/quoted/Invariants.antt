-- The loop's invariant: the characters up to `e` are counted, and the next one ends at `next`.
use mathlib.Core.Path.{◌≡◌}
use Prim.Native.Nat.{◌+◌, ◌-◌, ◌<◌}
use lib.ListN.{length, drop}
use Rattle.scanner.specs.Scanning.{first_size}
use Rattle.scanner.proofs.QuotedCharacters.{Counted}
use Rattle.scanner.proofs.fronts.quoted.Given as goal

abbrev pub invariant-loop-e : goal.invariant-loop-e
invariant-loop-e l = (l.at < length l.text) × Counted l.text (l.at + 1) l.e l.n × (l.next ≡ l.e + first_size (drop l.e l.text))

abbrev pub decreases-loop-e : goal.decreases-loop-e
decreases-loop-e l = length l.text - l.e
