-- The roles of an atom under operators in force whose roles are within their precedences, and that of a tree's root; what an atom is when
-- it comes is 0 exactly where it is an operand.
use mathlib.Core.Path.{◌≡◌, refl}
use mathlib.Core.Bool.{not}
use mathlib.Core.Option.{Option, none, some}
use Prim.Native.Nat.{◌≤◌}
use native.Mathlib.Omega.{arith}
use lib.Dec.{eqb, eqb-suc-zero}
use Rattle.grammar.specs.Bytes.{Bytes}
use Rattle.grammar.specs.Token.{Atom, symbol, number, quoted, doubled}
use Rattle.grammar.specs.Operator.{Fixity, Prefix, Infix, Postfix, Role, Roles, Table, role, is_some, has_role, in_force}
use Rattle.grammar.specs.SpanTree.{SpanTree, missing, operand, apply, fixity, role_of_fixity, role_over, root, is_operand_atom}
use Rattle.grammar.specs.Climb.{first_role}
use Rattle.rows.specs.Codes.{Fit, Bounded, arrival_of}
use Rattle.rows.specs.Agreeing.{roles_for, arrival_for}
use Rattle.rows.proofs.Codes.{arrival_bound}

pub roles_fit : (T : Table) → Bounded T → (a : Atom) (f : Fixity) → Fit (roles_for T a f)
unfolding roles_for
roles_fit T b (symbol w) f = b w f
roles_fit T b (number d) f = tt
roles_fit T b (quoted c) f = b (doubled c) f

pub arrives-within : (T : Table) → Bounded T → (a : Atom) → arrival_for T a ≤ 1201
unfolding arrival_for
arrives-within T b (symbol w) = arrival_bound (role T w) (b w)
arrives-within T b (number d) = omega arith
arrives-within T b (quoted c) = omega arith

-- The role in which an operator stands over its operands, and that of a tree's root.
module _ (T : Table) (b : Bounded T) where
  fit_fixity : (m : Bytes) (f : Option Fixity) → Fit (role_of_fixity T m f)
  unfolding role_of_fixity
  fit_fixity m none = tt
  fit_fixity m (some f) = b m f

  pub fit_over : (l : SpanTree) (m : Bytes) (r : SpanTree) → Fit (role_over T l m r)
  unfolding role_over
  fit_over l m r = fit_fixity m (fixity l r)

  pub fit_root : (s : SpanTree) → Fit (root T s)
  unfolding root
  fit_root missing = tt
  fit_root (operand i) = tt
  fit_root (apply l m r) = fit_over l m r

-- What comes is 0 exactly where it has no role.
pub arrival_has : (r : Roles) → eqb (arrival_of r) 0 ≡ not (has_role r)
unfolding arrival_of has_role is_some first_role
arrival_has r = go (r Prefix) (r Infix) (r Postfix) refl refl refl
  where
    go :
        (p i q : Option Role) → r Prefix ≡ p → r Infix ≡ i → r Postfix ≡ q → eqb (arrival_of r) 0 ≡ not (has_role r)
    go none (some a) q d e f = rw (d, e, arrival_of) (eqb-suc-zero a.precedence)
    go (some b) (some a) q d e f = rw (d, e, arrival_of) (eqb-suc-zero a.precedence)
    go none none (some a) d e f = rw (d, e, f, arrival_of) (eqb-suc-zero a.precedence)
    go (some b) none (some a) d e f = rw (d, e, f, arrival_of) (eqb-suc-zero a.precedence)
    go none none none d e f = rw (e, f, arrival_of, d)
    go (some b) none none d e f = rw (e, f, arrival_of, d)

pub arrival_operand : (T : Table) (a : Atom) → eqb (arrival_for T a) 0 ≡ is_operand_atom T a
unfolding arrival_for is_operand_atom in_force
arrival_operand T (symbol w) = arrival_has (role T w)
arrival_operand T (number d) = refl
arrival_operand T (quoted c) = refl
