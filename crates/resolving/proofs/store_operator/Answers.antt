-- The note has the roles of the entry, and the entry is one of the table's.
use Rattle.std.proofs.Common.{arith, refl}
use Rattle.resolving.proofs.Noting.{operator_noted}
use Rattle.resolving.proofs.store_operator.Goals as goal

pub returns : goal.returns
returns c text sound name found = operator_noted _ _ _ text _ name _ found (omega arith) _ c.requires.0 _ c.arrival.ensures refl
