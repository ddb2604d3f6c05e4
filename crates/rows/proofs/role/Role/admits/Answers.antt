-- An operand of the operator's own precedence is admitted on the left of a left-associative operator, unless its root is right-associative,
-- and on the right of a right-associative one.
use mathlib.Core.Path.{sym, ◌∙◌}
use native.Mathlib.Omega.{arith}
use borrow.Author.Tests.{ltb-true, ltb-false, leb-false}
use Rattle.rows.proofs.Codes.{admits-left-same, admits_left_below, admits-left-right, admits-right-same, admits_right_below}
use Rattle.rows.proofs.role.Role.admits.Goals as goal
use Rattle.rows.proofs.role.Role.admits.Goals.{in-OnLeft+then-is_left+else-not-is_right, in-OnLeft+else-is_left, in-OnRight+else-is_right}

pub returns-then-not-is_right : goal.returns-then-not-is_right
returns-then-not-is_right c q e =
    let h = ltb-true _ _ (sym c.is_left.ensures ∙ c.if-is_left.true) in
    let k = leb-false _ _ (sym c.is_right.ensures ∙ c.if-not-is_right.true) in
    rw (c.in-OnLeft.is, c.precedence.ensures, c.precedence-then-not-is_right.ensures) (sym (admits-left-same _ _ q e h k))

pub returns-then-is_right : goal.returns-then-is_right
returns-then-is_right c q e = rw c.in-OnRight.is (grind (arith, admits-right-same _ c.args.operand.code q e))

pub returns : goal.returns
returns c q e =
    elim c.match-position.branch [
      | in-OnLeft+then-is_left+else-not-is_right w ↦ rw w.in-OnLeft.is (grind (arith, admits-left-right _ c.args.operand.code q e))
      | in-OnLeft+else-is_left w ↦
          let h = ltb-false _ _ (sym w.is_left.ensures ∙ w.if-is_left.false) in
          rw (w.in-OnLeft.is, c.precedence-2.ensures, c.precedence-3.ensures) (sym (admits_left_below _ _ q e h))
      | in-OnRight+else-is_right w ↦ rw w.in-OnRight.is (grind (arith, admits_right_below _ c.args.operand.code q e))
    ]
