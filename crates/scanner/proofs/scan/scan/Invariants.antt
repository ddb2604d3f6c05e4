-- The loop's invariant: the whole scan's outcome is that of the rest behind the tokens stored.
use Prim.Native.Nat.{◌-◌}
use lib.ListN.{length}
use Rattle.scanner.proofs.ScannedTo.{ScannedTo}
use Rattle.scanner.proofs.scan.scan.Given as goal

abbrev pub invariant-loop-at : goal.invariant-loop-at
invariant-loop-at l = ScannedTo l.text l.tokens l.count l.at l.nested

abbrev pub decreases-loop-at : goal.decreases-loop-at
decreases-loop-at l = length l.text - l.at
