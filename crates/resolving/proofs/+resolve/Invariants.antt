-- The measure is the length of the range. The loop over items keeps `Progress`.
use Rattle.std.proofs.Common.{◌-◌}
use Rattle.operators.specs.Entries.{table_of}
use Rattle.resolving.proofs.ItemLoop.{Progress}
use Rattle.resolving.proofs.+resolve.Given as goal

abbrev pub decreases-resolve : goal.decreases-resolve
decreases-resolve l = l.to - l.from

abbrev pub invariant-loop-i : goal.invariant-loop-i
invariant-loop-i l = Progress l.text l.tokens (table_of l.text l.table) l.from l.to l.fn.notes l.i l.notes

abbrev pub decreases-loop-i : goal.decreases-loop-i
decreases-loop-i l = l.to - l.i
