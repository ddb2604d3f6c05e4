-- The role of an admitted operator: the operands that it has say its fixity, it has a role of that fixity, and the role admits both
-- operands. So an operand has no wider precedence than its operator.
use mathlib.Core.Path.{◌≡◌, refl, sym}
use mathlib.Core.Bool.{Bool, true, false, ◌&&◌, true≢false}
use mathlib.Core.Option.{Option, none, some}
use Prim.Native.Nat.{◌≤◌}
use native.Mathlib.Omega.{arith}
use lib.Dec.{ltb, eqb}
use borrow.Author.Tests.{ltb-true, eqb-true}
use Rattle.grammar.specs.Bytes.{Bytes}
use Rattle.grammar.specs.Operator.{Fixity, Role, Table, role}
use Rattle.grammar.specs.SpanTree.{
  SpanTree,
  apply,
  fixity,
  role_of_fixity,
  role_over,
  root,
  root_precedence,
  Position,
  on_left,
  on_right,
  admits_equal,
  admits,
  admits_both,
  Admitted,
}
use Rattle.grammar.proofs.Logic.{and_left, and_right}

-- What an admitted operator over two parts says: it has a role there, and the role admits both.
pub record AdmittingRole (T : Table) (l : SpanTree) (m : Bytes) (r : SpanTree) : Type 0 where
  pub own : Role
  pub form : Fixity
  pub formed : fixity l r ≡ some form
  pub known : role T m form ≡ some own
  pub left_fits : admits on_left own (root T l) ≡ true
  pub right_fits : admits on_right own (root T r) ≡ true

pub admitting_role : (T : Table) (l : SpanTree) (m : Bytes) (r : SpanTree) → Admitted T (apply l m r) → AdmittingRole T l m r
unfolding admits_both role_over role_of_fixity
admitting_role T l m r a = go (fixity l r) refl a.2
  where
    in_role :
        (f : Fixity) → fixity l r ≡ some f → (o : Option Role) → role T m f ≡ o → admits_both o (root T l) (root T r) ≡ true → AdmittingRole T l m r
    in_role f g none e h = absurd (true≢false (sym h))
    in_role f g (some q) e h =
        record {
          own = q;
          form = f;
          formed = g;
          known = e;
          left_fits = and_left (admits on_left q (root T l)) (admits on_right q (root T r)) h;
          right_fits = and_right (admits on_left q (root T l)) (admits on_right q (root T r)) h;
        }

    go : (f : Option Fixity) → fixity l r ≡ f → admits_both (role_of_fixity T m f) (root T l) (root T r) ≡ true → AdmittingRole T l m r
    go none g h = absurd (true≢false (sym h))
    go (some f) g h = in_role f g (role T m f) refl h

-- The role of its root.
pub admitting_root : {T : Table} {l : SpanTree} {m : Bytes} {r : SpanTree} (c : AdmittingRole T l m r) → role_over T l m r ≡ some c.own
unfolding role_over role_of_fixity
admitting_root c = rw (c.formed, role_of_fixity) c.known

-- An admitted operand has at most the precedence of its operator, and the same one only where that is admitted.
pub admits-cases :
    (s : Position) (q : Role) (o : Option Role) → admits s q o ≡ true
    → (root_precedence o ≤ q.precedence) × (root_precedence o ≡ q.precedence → admits_equal s q o ≡ true)
unfolding admits
admits-cases s q o h = go (ltb (root_precedence o) q.precedence) refl
  where
    go :
        (b : Bool) → ltb (root_precedence o) q.precedence ≡ b
        → (root_precedence o ≤ q.precedence) × (root_precedence o ≡ q.precedence → admits_equal s q o ≡ true)
    go true e = let l = ltb-true (root_precedence o) q.precedence e in (omega arith, λ f. absurd (omega arith))
    go false e =
        let both : eqb (root_precedence o) q.precedence && admits_equal s q o ≡ true = rw e at h in
        let f = eqb-true (root_precedence o) q.precedence (and_left (eqb (root_precedence o) q.precedence) (admits_equal s q o) both) in
        (omega arith, λ g. and_right (eqb (root_precedence o) q.precedence) (admits_equal s q o) both)
