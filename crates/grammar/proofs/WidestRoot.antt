-- The root of an admitted tree has the widest precedence of the roles in which the tree's operators stand. By induction over the tree: an
-- operand's root has no wider precedence than the operator above it.
use mathlib.Core.Path.{◌≡◌, refl}
use native.Mathlib.Omega.{arith}
use Rattle.grammar.specs.Operator.{Table}
use Rattle.grammar.specs.SpanTree.{SpanTree, missing, operand, apply, root, root_precedence, on_left, on_right, Admitted}
use Rattle.grammar.specs.Widest.{widest}
use Rattle.grammar.proofs.AdmittingRole.{admitting_role, admitting_root, admits-cases}

pub root-widest : (T : Table) (s : SpanTree) → Admitted T s → root_precedence (root T s) ≡ widest T s
unfolding root root_precedence widest
root-widest T missing a = refl
root-widest T (operand i) a = refl
root-widest T (apply l m r) a =
    let c = admitting_role T l m r a in
    let before = (admits-cases on_left c.own (root T l) c.left_fits).0 in
    let after = (admits-cases on_right c.own (root T r) c.right_fits).0 in
    rw (admitting_root c) (omega (arith, root-widest T l a.0, root-widest T r a.1))
