-- The loop keeps `Entering`. The measure is what is left of the tokens.
use Prim.Native.Nat.{◌-◌}
use Rattle.declaring.proofs.DeclarationLoop.{Entering}
use Rattle.declaring.proofs.declare_all.Given as goal

abbrev pub invariant-loop-at : goal.invariant-loop-at
invariant-loop-at l = Entering l.text l.tokens l.from l.to l.fn.table l.inner l.replaced l.before l.at

abbrev pub decreases-loop-at : goal.decreases-loop-at
decreases-loop-at l = l.to - l.at
