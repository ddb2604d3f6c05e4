-- The test of an operator is one of its roles, whatever its prefix role.
use Rattle.std.proofs.Common.{rules}
use Rattle.std.proofs.lemmas.Iterator.{YieldsList-from_slice}
use Rattle.std.proofs.lemmas.Iterator.Search.{all_from_yields_List}
use Rattle.grammar.specs.Operator.{is_apart}
use Rattle.rows.specs.InUse.{roles_by}
use Rattle.operators.proofs.table.are_apart.Goals as goal

pub returns : goal.returns
returns c =
    all_from_yields_List (λ e. is_apart (roles_by e.roles)) _ _ _ c.all.ensures.ran (YieldsList-from_slice c.args.operators.now cc)
    (λ x b q k. search rules)
