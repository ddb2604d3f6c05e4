-- By the kind of the operand's root; a pair by the test of its operator's role on the root of what it holds.
use native.Mathlib.Omega.{arith}
use Rattle.std.proofs.Common.{rules}
use Rattle.rows.specs.Codes.{position_in}
use Rattle.rows.proofs.BelowTokens.{leads_within}
use Rattle.canonical_text.proofs.Operand.{
  operand_none,
  has_role_lem,
  operand_leads,
  operand_bare,
  held_in_roles,
  held_in_roots,
  operand_held,
}
use Rattle.canonical_text.proofs.brackets.is_needed.Goals as goal

pub returns-then-operand-eq0 : goal.returns-then-operand-eq0
returns-then-operand-eq0 c T j t q h = operand_none h _ c.if-operand-eq0.true

pub offset_bounds-tokens-opener : goal.offset_bounds-tokens-opener
offset_bounds-tokens-opener c = omega (arith, leads_within (operand_leads c.requires.4 c.if-operand-eq0.false))

pub bounds-tokens-opener : goal.bounds-tokens-opener
bounds-tokens-opener c = (leads_within (operand_leads c.requires.4 c.if-operand-eq0.false)).1

pub returns-then-ne : goal.returns-then-ne
returns-then-ne c T j t q h = operand_bare h c.if-operand-eq0.false _ (search rules)

-- The operand is a bracket pair.
pub content-requires : goal.content-requires
content-requires c = (search rules, (_, operand_leads c.requires.4 c.if-operand-eq0.false))

pub role_in_use-held-requires : goal.role_in_use-held-requires
role_in_use-held-requires c =
    let h = c.requires.4 in
    let d = c.if-operand-eq0.false in
    let e = c.content.ensures _ (operand_leads h d) in
    (held_in_roles h d _ e, held_in_roots h d _ e)

pub admits-requires : goal.admits-requires
admits-requires c = has_role_lem c.requires.4

pub returns : goal.returns
returns c T j t q h =
    let d = c.if-operand-eq0.false in
    let e = c.content.ensures _ (operand_leads h d) in
    operand_held h d _ e _ c.role_in_use-held.ensures (position_in c.args.position) _ (search rules) c.admits.ensures
