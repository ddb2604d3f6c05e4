-- The number is 0, or lies where those of the associativity do.
use mathlib.Core.Path.{sym, ap, ◌∙◌}
use mathlib.Core.Bool.{not}
use borrow.Author.Tests.{ltb-true, ltb-false}
use Rattle.operators.proofs.Roles.{is_zero, not_zero, only_none, only-left, only_non_left, only_non_lem, only-right}
use Rattle.operators.proofs.conditions.only.Goals as goal

pub returns-then-is_none : goal.returns-then-is_none
returns-then-is_none c = sym (only_none _ _ (is_zero c.is_none.ensures c.if-is_none.true))

pub returns-in-Left : goal.returns-in-Left
returns-in-Left c = rw c.in-Left.is (c.is_left.ensures ∙ sym (only-left _))

pub returns-in-Right : goal.returns-in-Right
returns-in-Right c = rw c.in-Right.is (c.is_right-in-Right.ensures ∙ sym (only-right _ (not_zero c.is_none.ensures c.if-is_none.false)))

pub returns-else-not-is_left : goal.returns-else-not-is_left
returns-else-not-is_left c =
    let h = ltb-true _ _ (sym c.is_left-in-Non.ensures ∙ c.if-not-is_left.false) in
    rw c.in-Non.is (ap not c.if-not-is_left.false ∙ sym (only_non_left _ (not_zero c.is_none.ensures c.if-is_none.false) h))

pub returns-then-not-is_left : goal.returns-then-not-is_left
returns-then-not-is_left c =
    let h = ltb-false _ _ (sym c.is_left-in-Non.ensures ∙ c.if-not-is_left.true) in
    rw c.in-Non.is (ap not c.is_right.ensures ∙ sym (only_non_lem _ h))
