-- The number of a role is 0 where there is none.
use mathlib.Core.Path.{sym, ◌∙◌}
use borrow.Author.Tests.{eq-eqb}
use Rattle.operators.proofs.Roles.{apart_without, apart_beside}
use Rattle.operators.proofs.conditions.is_apart.Goals as goal

pub returns-then-infix-eq0 : goal.returns-then-infix-eq0
returns-then-infix-eq0 c prefix = eq-eqb _ _ c.if-infix-eq0.true ∙ sym (apart_without prefix _ _ c.if-infix-eq0.true)

pub returns-else-infix-eq0 : goal.returns-else-infix-eq0
returns-else-infix-eq0 c prefix = sym (apart_beside prefix _ _ c.if-infix-eq0.false)
