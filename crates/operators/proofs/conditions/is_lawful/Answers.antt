-- The tests of `lawful`, one by one. An operator with an infix role alone passes them all.
use mathlib.Core.Path.{◌≡◌, sym, ◌∙◌}
use Rattle.grammar.specs.Operator.{lawful, lawful_associativities}
use Rattle.rows.specs.Codes.{role_of, roles_of}
use Rattle.rows.specs.InUse.{roles_by}
use Rattle.operators.proofs.Roles.{is_zero, infix_alone, one_precedences, beside_none}
use Rattle.operators.proofs.conditions.is_lawful.Goals as goal
use Rattle.operators.proofs.conditions.is_lawful.Goals.{Else-not-one_precedence-3}

-- Where the precedences are one, the associativities are left.
precedences :
    (c : Else-not-one_precedence-3)
    → let r = c.args.roles in
    lawful (roles_by r) ≡ lawful_associativities (role_of r.prefix.code) (role_of r.«infix».code) (role_of r.postfix.code)
precedences c =
    one_precedences _ _ _
    (sym c.one_precedence.ensures ∙ c.if-not-one_precedence.false)
    (sym c.one_precedence-2.ensures ∙ c.if-not-one_precedence-2.false)
    (sym c.one_precedence-3.ensures ∙ c.if-not-one_precedence-3.false)

pub returns-then-is_none-2 : goal.returns-then-is_none-2
returns-then-is_none-2 c =
    sym
    (infix_alone _ _ _
    (is_zero c.is_none.ensures c.if-is_none.true)
    (is_zero c.is_none-then-is_none.ensures c.if-is_none-2.true))

pub returns-then-not-one_precedence : goal.returns-then-not-one_precedence
unfolding lawful roles_of
returns-then-not-one_precedence c = rw (sym c.one_precedence.ensures ∙ c.if-not-one_precedence.true)

pub returns-then-not-one_precedence-2 : goal.returns-then-not-one_precedence-2
unfolding lawful roles_of
returns-then-not-one_precedence-2 c =
    rw (sym c.one_precedence.ensures ∙ c.if-not-one_precedence.false, sym c.one_precedence-2.ensures ∙ c.if-not-one_precedence-2.true)

pub returns-then-not-one_precedence-3 : goal.returns-then-not-one_precedence-3
unfolding lawful roles_of
returns-then-not-one_precedence-3 c =
    rw (
      sym c.one_precedence.ensures ∙ c.if-not-one_precedence.false,
      sym c.one_precedence-2.ensures ∙ c.if-not-one_precedence-2.false,
      sym c.one_precedence-3.ensures ∙ c.if-not-one_precedence-3.true,
    )

pub returns-then-is_none-3 : goal.returns-then-is_none-3
returns-then-is_none-3 c =
    rw (precedences (goal.at.returns-then-is_none-3 c).Else-not-one_precedence-3)
    (c.if-is_none-3.true ∙ sym (beside_none _ _ _ (is_zero c.is_none-2.ensures c.if-is_none-3.true)))

pub returns-else-is_none-3 : goal.returns-else-is_none-3
returns-else-is_none-3 c = rw (precedences (goal.at.returns-else-is_none-3 c).Else-not-one_precedence-3) c.stands_beside.ensures
