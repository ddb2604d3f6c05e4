-- The entries of the first `k` operators stand in the table, with their hints; those of all are the table of the starting operators.
use mathlib.Core.Path.{◌≡◌, refl}
use native.Mathlib.Omega.{arith}
use Rattle.starting_operators.specs.Starting.{start_count}
use Rattle.starting_operators.proofs.Numbers.{computed_count}
use Rattle.operators.proofs.Starts.{none_started, next_started, starting}
use Rattle.operators.proofs.table.Table.new.Goals as goal

pub loop-k-init : goal.loop-k-init
unfolding computed_count
loop-k-init c = none_started _ refl refl refl

pub put-requires : goal.put-requires
unfolding computed_count
put-requires c = omega arith

pub loop-k-preserved : goal.loop-k-preserved
unfolding computed_count
loop-k-preserved c = next_started c.loop-k.invariant (omega arith) c.put.ensures

pub returns : goal.returns
unfolding computed_count
returns c = let e : c.loop-k.k ≡ start_count = omega arith in starting (rw e at c.loop-k.invariant)
