-- The test of the two roles, by cases on whether there are two.
use mathlib.Core.Path.{sym, ◌∙◌}
use Rattle.grammar.proofs.Logic.{clash}
use Rattle.rows.proofs.Codes.{no_role}
use Rattle.operators.proofs.Roles.{is_zero, not_zero, one_precedence_first, one_precedence_second, one_precedence_both}
use Rattle.operators.proofs.conditions.one_precedence.Goals as goal
use Rattle.operators.proofs.conditions.one_precedence.Goals.{then-is_none, else-is_none}

pub returns-then-is_none-2 : goal.returns-then-is_none-2
returns-then-is_none-2 c =
    let v = c.if-is_none-2.true in
    v
    ∙ elim c.if-is_none.branch [
      | then-is_none w ↦ rw (no_role c.args.a.code (is_zero c.is_none.ensures w.if-is_none.true)) (sym (one_precedence_first _))
      | else-is_none w ↦
          rw (no_role c.args.b.code (is_zero w.is_none-else-is_none.ensures (sym w.value-is ∙ v))) (sym (one_precedence_second _))
    ]

pub returns-else-is_none-2 : goal.returns-else-is_none-2
returns-else-is_none-2 c =
    let v = c.if-is_none-2.false in
    rw (c.precedence.ensures, c.precedence-else-is_none-2.ensures)
    (elim c.if-is_none.branch [
      | then-is_none w ↦ absurd (clash w.if-is_none.true (sym w.value-is ∙ v))
      | else-is_none w ↦
          sym
          (one_precedence_both _ _
          (not_zero c.is_none.ensures w.if-is_none.false)
          (not_zero w.is_none-else-is_none.ensures (sym w.value-is ∙ v)))
    ])
