-- The number of an operator's role by the operands that it has, case by case. Where the row of roles has the roles in force, it is that
-- of the role in which the operator stands over its operands.
use mathlib.Core.Path.{◌≡◌, refl, sym, ◌∙◌}
use mathlib.Core.Bool.{Bool, true, false, not}
use Prim.Native.Nat.{ℕ, suc, ◌+◌}
use native.Mathlib.Omega.{arith}
use lib.Dec.{eqb}
use lib.ListN.{length}
use borrow.Author.Tests.{eq-eqb, ne_eqb, eqb-true, eqb-false}
use Rattle.grammar.specs.Bytes.{Bytes}
use Rattle.grammar.specs.Token.{symbol}
use Rattle.grammar.specs.Operator.{Table}
use Rattle.grammar.specs.SpanTree.{present, fixity_by, role_of_fixity}
use Rattle.grammar.specs.Tree.{Tree, nothing, leaf, bracket, block, node, flat, span_tree}
use Rattle.rows.specs.Fields.{NoteRow, RootRow, prefix, infixed, postfix, arrival, left, right}
use Rattle.rows.specs.Codes.{role_code}
use Rattle.rows.specs.Agreeing.{roles_for, Noted}
use Rattle.rows.specs.InUse.{role_between, role_beside, role_in_use}
use Rattle.rows.specs.Standing.{mark}

module _ (R : NoteRow) (i l r : ℕ) where
  pub beside_none : l ≡ 0 → r ≡ 0 → role_beside R i l r ≡ 0
  unfolding role_between
  beside_none e f = rw (eq-eqb l 0 e, eq-eqb r 0 f, role_between)

  pub beside_prefix : l ≡ 0 → (r ≡ 0 → ⊥) → role_beside R i l r ≡ prefix R i
  unfolding role_between
  beside_prefix e f = rw (eq-eqb l 0 e, ne_eqb r 0 f, role_between)

  pub beside_postfix : (l ≡ 0 → ⊥) → r ≡ 0 → role_beside R i l r ≡ postfix R i
  unfolding role_between
  beside_postfix e f = rw (ne_eqb l 0 e, eq-eqb r 0 f, role_between)

  pub beside_infix_lem : (l ≡ 0 → ⊥) → (r ≡ 0 → ⊥) → role_beside R i l r ≡ infixed R i
  unfolding role_between
  beside_infix_lem e f = rw (ne_eqb l 0 e, ne_eqb r 0 f, role_between)

-- It does not matter by what number an operand on the right is told from none.
pub beside_right_lem : (R : NoteRow) (i l r s : ℕ) → (r ≡ 0 → ⊥) → (s ≡ 0 → ⊥) → role_beside R i l r ≡ role_beside R i l s
beside_right_lem R i l r s e f = go (eqb l 0) refl
  where
    go : (b : Bool) → eqb l 0 ≡ b → role_beside R i l r ≡ role_beside R i l s
    go true p = let none = eqb-true l 0 p in beside_prefix R i l r none e ∙ sym (beside_prefix R i l s none f)
    go false p = let some = eqb-false l 0 p in beside_infix_lem R i l r some e ∙ sym (beside_infix_lem R i l s some f)

module _ (R : NoteRow) (O : RootRow) (i : ℕ) where
  pub use_none : arrival R i ≡ 0 → role_in_use R O i ≡ 0
  unfolding role_in_use
  use_none e = rw (eq-eqb (arrival R i) 0 e, role_in_use)

  pub use_beside : (arrival R i ≡ 0 → ⊥) → role_in_use R O i ≡ role_beside R i (left O i) (right O i)
  unfolding role_in_use
  use_beside d = rw (ne_eqb (arrival R i) 0 d, role_in_use)

-- With the roles in force in the row: `p` and `q` say whether there is an operand on the left and on the right.
pub beside_code :
    (T : Table) (R : NoteRow) (i : ℕ) (m : Bytes) → Noted T R i (symbol m) → (l r : ℕ) (p q : Bool) → eqb l 0 ≡ not p → eqb r 0 ≡ not q
    → role_beside R i l r ≡ role_code (role_of_fixity T m (fixity_by p q))
unfolding roles_for role_of_fixity fixity_by role_code
beside_code T R i m n l r true true e f = beside_infix_lem R i l r (eqb-false l 0 e) (eqb-false r 0 f) ∙ n.between
beside_code T R i m n l r true false e f = beside_postfix R i l r (eqb-false l 0 e) (eqb-true r 0 f) ∙ n.postfixed
beside_code T R i m n l r false true e f = beside_prefix R i l r (eqb-true l 0 e) (eqb-false r 0 f) ∙ n.prefixed
beside_code T R i m n l r false false e f = beside_none R i l r (eqb-true l 0 e) (eqb-true r 0 f)

-- An operand is there if its root is noted.
pub mark-present : (i : ℕ) (t : Tree) → eqb (mark i t) 0 ≡ not (present (span_tree t))
unfolding mark present span_tree
mark-present i nothing = refl
mark-present i (leaf a) = ne_eqb (suc i) 0 (λ e. omega arith)
mark-present i (bracket t) = ne_eqb (suc i) 0 (λ e. omega arith)
mark-present i (block ds t) = ne_eqb (suc i) 0 (λ e. omega arith)
mark-present i (node l m r) = ne_eqb (suc (i + length (flat l))) 0 (λ e. omega arith)
