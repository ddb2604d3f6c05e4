-- The entries of the first `k` operators stand in the table, with their hints; those of all are the table of the starting operators.
use Rattle.operators.proofs.Starts.{StartedTo}
use Rattle.operators.proofs.table.Table.new.Given as goal

abbrev pub invariant-loop-k : goal.invariant-loop-k
invariant-loop-k l = StartedTo l.k l.table
