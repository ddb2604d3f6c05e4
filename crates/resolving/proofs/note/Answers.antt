-- What the class of the token says is what is noted of it.
use Rattle.std.proofs.Common.{◌≡◌, refl, sym, ◌∙◌, arith}
use Rattle.rows.specs.declared.class.Class.{Class}
use Rattle.starting_operators.proofs.NotedTokens.{is_quoted}
use Rattle.operators.proofs.Lookups.{found_below}
use Rattle.rows.proofs.Noting.{words_stored, symbol_item, name_item}
use Rattle.resolving.specs.Resolving.{Unfound}
use Rattle.resolving.proofs.Classes.{
  Says,
  found_says,
  roles_within,
  part_within,
  part_is,
  part_doubled,
  part_named,
  name_kind_lem,
  no_roles_noted,
}
use Rattle.resolving.proofs.note.Goals as goal
use Rattle.resolving.proofs.note.Goals.{After-classify-class, In-Name}

-- What the class says.
says : (c : After-classify-class) (x : Class) → c.classify-class.result ≡ x
    → let a = c.args in Says a.text.now a.tokens.now a.i a.table.now x
says c x e =
    let (to, g, l) = c.requires.0 in
    found_says _ _ _ _ g.paired l x (sym e ∙ c.classify-class.ensures)

pub store_operator-requires : goal.store_operator-requires
store_operator-requires c =
    let a = c.args in
    let (to, g, l) = c.requires.0 in
    let found = (says (goal.at.store_operator-requires c).After-classify-class _ c.in-Operator.is).1 in (
      roles_within g l,
      (_, c.requires.1, found_below _ a.table.now _ found),
    )

pub overflow_add-start : goal.overflow_add-start
overflow_add-start c =
    let (to, g, l) = c.requires.0 in
    let s = says (goal.at.overflow_add-start c).After-classify-class _ c.in-Name.is in
    omega (arith, part_within g l s.0 s.1, g.short)

pub slice_bounds-store_name-end : goal.slice_bounds-store_name-end
slice_bounds-store_name-end c =
    let (to, g, l) = c.requires.0 in
    let s = says (goal.at.slice_bounds-store_name-end c).After-classify-class _ c.in-Name.is in
    omega (arith, part_within g l s.0 s.1)

pub store_name-requires : goal.store_name-requires
store_name-requires c =
    let (to, g, l) = c.requires.0 in
    let s = says (goal.at.store_name-requires c).After-classify-class _ c.in-Name.is in
    (roles_within g l, c.requires.1, part_named g l s.0 s.1 (name_kind_lem s.2))

pub returns-in-Operator : goal.returns-in-Operator
returns-in-Operator c =
    let s = says (goal.at.returns-in-Operator c).After-classify-class _ c.in-Operator.is in (
      sym c.in-Operator.is ∙ c.classify-class.ensures,
      symbol_item _ _ _ _ _ _ s.0 (c.store_operator.ensures _ c.requires.1 _ s.1),
    )

pub returns-in-Name : goal.returns-in-Name
returns-in-Name c =
    let a = c.args in
    let (to, g, l) = c.requires.0 in
    let s = says (goal.at.returns-in-Name c).After-classify-class _ c.in-Name.is in (
      sym c.in-Name.is ∙ c.classify-class.ensures,
      name_item _ _ _ _ _ _ (Unfound _ a.table.now) refl (part_is g l s.0 s.1) s.2 (part_doubled g l)
          (rw (c.eq-quoted.ensures ∙ is_quoted _) at c.store_name.ensures),
    )

pub returns-in_default : goal.returns-in_default
returns-in_default c =
    let (to, g, l) = c.requires.0 in
    let w = words_stored _ _ (roles_within g l) refl refl refl refl refl in
    let s = says (goal.at.returns-in_default c).After-classify-class _ refl in
    (c.classify-class.ensures, no_roles_noted _ _ _ _ _ _ c.args.table.now c.classify-class.result c.in_default.not-Operator c.in_default.not-Name s w)
