-- What the declarations leave passes check 10: it is looked at, or no operator that was listed got a role.
use Rattle.std.proofs.Common.{◌≡◌, sym, ◌∙◌, Err, rules}
use Rattle.operators.specs.Entries.{table_of}
use Rattle.resolving.proofs.Bodies.{answer_refused, Leaving, leaving, answer_broken, enters_refused, enters_passed}
use Rattle.resolving.proofs.enter_block.Goals as goal
use Rattle.resolving.proofs.enter_block.Goals.{In_ok-replaced}

-- The table that the declarations leave.
leaves : (c : In_ok-replaced)
    → let a = c.args in Leaving a.text.now a.tokens.now a.from a.to a.table.now c.declare_all.new.table c.in_ok-replaced.replaced
leaves c = leaving _ _ _ _ c.args.table.now c.requires.0.ordered _ _ c.in_ok-replaced.ensures

pub returns-in_err-replaced : goal.returns-in_err-replaced
returns-in_err-replaced c =
    let f = c.in_err-replaced.field-0.0 in
    let r : c.from_residual.result ≡ Err f = search rules in
    rw r (enters_refused _ _ _ _ c.args.table.now _ f (answer_refused _ _ _ _ c.args.table.now c.requires.0.ordered c.declare_all.new.table f c.in_err-replaced.ensures))

pub returns-then-not-is_permitted : goal.returns-then-not-is_permitted
unfolding table_of
returns-then-not-is_permitted c =
    let l = leaves (goal.at.returns-then-not-is_permitted c).In_ok-replaced in
    enters_refused _ _ _ _ c.args.table.now c.declare_all.new.table _ (answer_broken _ _ _ _ c.args.table.now l (sym (c.is_permitted.ensures _) ∙ c.if-not-is_permitted.true))

pub returns-else-not-is_permitted : goal.returns-else-not-is_permitted
unfolding table_of
returns-else-not-is_permitted c =
    let l = leaves (goal.at.returns-else-not-is_permitted c).In_ok-replaced in
    enters_passed _ _ _ _ c.args.table.now c.declare_all.new.table l (sym (c.is_permitted.ensures _) ∙ c.if-not-is_permitted.false)

pub returns-else-replaced : goal.returns-else-replaced
returns-else-replaced c =
    let l = leaves (goal.at.returns-else-replaced c).In_ok-replaced in
    enters_passed _ _ _ _ c.args.table.now c.declare_all.new.table l (l.kept c.if-replaced.false c.requires.1.kept)
