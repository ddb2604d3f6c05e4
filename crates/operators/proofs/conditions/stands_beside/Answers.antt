-- The tests of `beside_infix`, one by one, by where the number of the infix role lies.
use mathlib.Core.Path.{sym, ◌∙◌}
use Prim.Native.Nat.{◌≤◌, ◌<◌}
use native.Mathlib.Omega.{arith}
use borrow.Author.Tests.{ltb-true, ltb-false, leb-true, leb-false}
use Rattle.operators.proofs.Roles.{is_zero, not_zero, right_absent, right_beside, not_beside, left_beside, non_beside}
use Rattle.operators.proofs.conditions.stands_beside.Goals as goal
use Rattle.operators.proofs.conditions.stands_beside.Goals.{Else-is_right, Then-is_right}

-- What the first branch says of the infix role.
above-right : (c : Then-is_right) → 6144 ≤ c.args.roles.«infix».code
above-right c = leb-true _ _ (sym c.is_right.ensures ∙ c.if-is_right.true)

below_right : (c : Else-is_right) → c.args.roles.«infix».code < 6144
below_right c = leb-false _ _ (sym c.is_right.ensures ∙ c.if-is_right.false)

pub returns-else-is_none : goal.returns-else-is_none
returns-else-is_none c =
    c.if-is_none.false
    ∙ sym (right_absent _ _ _ (above-right (goal.at.returns-else-is_none c).Then-is_right) (not_zero c.is_none.ensures c.if-is_none.false))

pub returns-then-is_none : goal.returns-then-is_none
returns-then-is_none c =
    c.only.ensures
    ∙ sym (right_beside _ _ _ (above-right (goal.at.returns-then-is_none c).Then-is_right) (is_zero c.is_none.ensures c.if-is_none.true))

pub returns-then-not-only : goal.returns-then-not-only
returns-then-not-only c =
    let h = below_right (goal.at.returns-then-not-only c).Else-is_right in
    sym (not_beside _ _ _ (λ e. omega arith) h (sym c.only-2.ensures ∙ c.if-not-only.true))

pub returns-then-is_left : goal.returns-then-is_left
returns-then-is_left c =
    c.only-then-is_left.ensures
    ∙ sym (left_beside _ _ _ (λ e. omega arith)
    (ltb-true _ _ (sym c.is_left.ensures ∙ c.if-is_left.true))
    (sym c.only-2.ensures ∙ c.if-not-only.false))

pub returns : goal.returns
returns c =
    c.only-3.ensures
    ∙ sym (non_beside _ _ _
    (ltb-false _ _ (sym c.is_left.ensures ∙ c.if-is_left.false))
    (below_right (goal.at.returns c).Else-is_right)
    (sym c.only-2.ensures ∙ c.if-not-only.false))
