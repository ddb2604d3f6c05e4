-- The operator's role and operands are those of its tree; the left pair is kept before the right one is asked for.
use mathlib.Core.Path.{◌≡◌, refl, ap, ◌∙◌}
use native.Mathlib.Omega.{arith}
use Rattle.std.proofs.lemmas.List.{get_or_default}
use Rattle.grammar.specs.Operator.{Table}
use Rattle.grammar.specs.Tree.{Tree}
use Rattle.grammar.specs.Bytes.{Bytes}
use Prim.Native.Nat.{ℕ}
use Rattle.rows.specs.Fields.{no_note, left, right}
use Rattle.rows.specs.InUse.{role_between, role_beside}
use Rattle.canonical_text.specs.Brackets.{OperatorAt}
use Rattle.canonical_text.proofs.Operator.{in_roles, in_roots, left_operand, right_operand, left_pair, right_pair, pairs_kept}
use Rattle.canonical_text.proofs.brackets.keep_beside.Goals as goal
use Rattle.canonical_text.proofs.brackets.keep_beside.Goals.{After-between-role}

pub offset_bounds-roots-i : goal.offset_bounds-roots-i
offset_bounds-roots-i c = omega (arith, in_roots c.requires.5)

pub bounds-roots-i : goal.bounds-roots-i
bounds-roots-i c = (in_roots c.requires.5).1

pub offset_bounds-notes-i : goal.offset_bounds-notes-i
offset_bounds-notes-i c = omega (arith, in_roles c.requires.5)

pub bounds-notes-i : goal.bounds-notes-i
bounds-notes-i c = (in_roles c.requires.5).1

pub bounds-notes-i-2 : goal.bounds-notes-i-2
bounds-notes-i-2 c = (in_roles c.requires.5).1

-- The role is that of the note in the row.
its_role :
    (c : After-between-role) {T : Table} {j : ℕ} {l : Tree} {m : Bytes} {r : Tree}
    → let a = c.args in
    OperatorAt a.tokens.now a.notes.now a.roots.now a.i T j l m r
    → c.between-role.result.code ≡ role_beside a.notes.now a.i (left a.roots.now a.i) (right a.roots.now a.i)
its_role c h =
    let a = c.args in
    c.between-role.ensures
    ∙ ap (λ n. role_between n.roles (left a.roots.now a.i) (right a.roots.now a.i)) (get_or_default a.notes.now a.i _ no_note (in_roles h).1)

pub is_needed-on_left-requires : goal.is_needed-on_left-requires
is_needed-on_left-requires c =
    let h = c.requires.5 in
    (_, _, _, _, left_operand h refl refl (its_role (goal.at.is_needed-on_left-requires c).After-between-role h))

pub keep_pair-requires : goal.keep_pair-requires
keep_pair-requires c =
    let h = c.requires.5 in
    let f = its_role (goal.at.keep_pair-requires c).After-between-role h in
    left_pair h refl refl f (c.is_needed-on_left.ensures _ _ _ _ (left_operand h refl refl f))

pub is_needed-on_right-requires : goal.is_needed-on_right-requires
is_needed-on_right-requires c =
    let h = c.requires.5 in
    let f = its_role (goal.at.is_needed-on_right-requires c).After-between-role h in
    (_, _, _, _, right_operand h refl refl f _ c.keep_pair.ensures)

pub keep_pair-requires-2 : goal.keep_pair-requires-2
keep_pair-requires-2 c =
    let h = c.requires.5 in
    let f = its_role (goal.at.keep_pair-requires-2 c).After-between-role h in
    right_pair h refl refl f (c.is_needed-on_left.ensures _ _ _ _ (left_operand h refl refl f))
    (c.is_needed-on_right.ensures _ _ _ _ (right_operand h refl refl f _ c.keep_pair.ensures)) c.keep_pair.ensures

pub returns : goal.returns
returns c T j l m r h =
    let f = its_role (goal.at.returns c).After-between-role h in
    pairs_kept h refl refl f (c.is_needed-on_left.ensures _ _ _ _ (left_operand h refl refl f))
    (c.is_needed-on_right.ensures _ _ _ _ (right_operand h refl refl f _ c.keep_pair.ensures)) c.keep_pair.ensures c.keep_pair-2.ensures
