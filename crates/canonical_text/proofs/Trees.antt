-- An operand of the canonical tree is the canonical tree of the operand, in a bracket pair exactly where the operand is a pair that stays.
-- An operator keeps its operands and so its role, so what a pair holds has the same role at its root in both trees.
use mathlib.Core.Path.{◌≡◌, refl, ap, ◌∙◌}
use mathlib.Core.Bool.{Bool, true, false}
use mathlib.Core.Option.{Option}
use Rattle.grammar.specs.Bytes.{Bytes}
use Rattle.grammar.specs.Operator.{Role, Table}
use Rattle.grammar.specs.SpanTree.{present, fixity, root, Position, on_left, on_right, Admitted, role_over}
use Rattle.grammar.specs.Tree.{Tree, nothing, leaf, bracket, block, node, span_tree, InnerOk}
use Rattle.grammar.specs.Canonical.{fitted, canonical, refuses}
use Rattle.grammar.proofs.Logic.{clash}
use Rattle.grammar.proofs.CanonicalTree.{fitted_by, both_admitted}
use Rattle.canonical_text.specs.Brackets.{held, stays}

-- A tree in a bracket pair or not.
unfoldable pub wrap_if : Bool → Tree → Tree
wrap_if true t = bracket t
wrap_if false t = t

-- What the operator of an admitted tree refuses of its operands: neither.
pub admits-left : (T : Table) (l : Tree) (m : Bytes) (r : Tree) → Admitted T (span_tree (node l m r))
    → refuses on_left (role_over T (span_tree l) m (span_tree r)) (root T (span_tree l)) ≡ false
unfolding span_tree
admits-left T l m r a = (both_admitted _ _ _ a.2).1

pub admits-right : (T : Table) (l : Tree) (m : Bytes) (r : Tree) → Admitted T (span_tree (node l m r))
    → refuses on_right (role_over T (span_tree l) m (span_tree r)) (root T (span_tree r)) ≡ false
unfolding span_tree
admits-right T l m r a = (both_admitted _ _ _ a.2).2

-- Without its outer brackets a tree is there if it was, as no bracket pair is empty.
canonical_there : (T : Table) (t : Tree) → InnerOk T t → present (span_tree (canonical T t)) ≡ present (span_tree t)
unfolding canonical span_tree present
canonical_there T nothing i = refl
canonical_there T (leaf a) i = refl
canonical_there T (bracket t) i = canonical_there T t i.1 ∙ i.0.1
canonical_there T (block ds t) i = refl
canonical_there T (node l m r) i = refl

module _ (T : Table) (s : Position) (o : Option Role) where
  fitted_there : (t : Tree) → present (span_tree t) ≡ true → present (span_tree (fitted T s o t)) ≡ true
  unfolding span_tree present
  fitted_there t p = fitted_by (λ u. present (span_tree u) ≡ true) T s o t (λ e. p) (λ e. refl)

  -- So an operand that is admitted is there in the canonical tree if it was.
  operand_there :
      (t : Tree) → InnerOk T t → refuses s o (root T (span_tree t)) ≡ false
      → present (span_tree (fitted T s o (canonical T t))) ≡ present (span_tree t)
  unfolding canonical span_tree present root
  operand_there nothing i a =
      fitted_by (λ u. present (span_tree u) ≡ false) T s o nothing (λ e. refl) (λ e. absurd (clash e a))
  operand_there (leaf x) i a = fitted_there (canonical T (leaf x)) refl
  operand_there (bracket t) i a = fitted_there (canonical T t) (canonical_there T t i.1 ∙ i.0.1)
  operand_there (block ds t) i a = fitted_there (canonical T (block ds t)) refl
  operand_there (node l m r) i a = fitted_there (canonical T (node l m r)) refl

-- An operator keeps its role.
root_kept :
    (T : Table) (l : Tree) (m : Bytes) (r : Tree) → InnerOk T (node l m r) → Admitted T (span_tree (node l m r))
    → root T (span_tree (canonical T (node l m r))) ≡ root T (span_tree (node l m r))
unfolding canonical span_tree root role_over fixity
root_kept T l m r i a =
    rw (operand_there T on_left _ l i.0 (admits-left T l m r a), operand_there T on_right _ r i.1 (admits-right T l m r a))

-- The root of the canonical tree is that of what the brackets hold.
pub root-held : (T : Table) (t : Tree) → InnerOk T t → Admitted T (span_tree t) → root T (span_tree (canonical T t)) ≡ root T (span_tree (held t))
unfolding canonical span_tree root held
root-held T nothing i a = refl
root-held T (leaf x) i a = refl
root-held T (bracket t) i a = root-held T t i.1 i.0.0
root-held T (block ds t) i a = refl
root-held T (node l m r) i a = root_kept T l m r i a

module _ (T : Table) (s : Position) (o : Option Role) where
  wrap_refused : (t : Tree) → fitted T s o t ≡ wrap_if (refuses s o (root T (span_tree t))) t
  unfolding wrap_if
  wrap_refused t =
      fitted_by (λ u. u ≡ wrap_if (refuses s o (root T (span_tree t))) t) T s o t (λ e. rw e) (λ e. rw e)

  -- A bracket pair stays where the canonical tree has one.
  stays-refuses : (t : Tree) → InnerOk T t → Admitted T (span_tree t) → refuses s o (root T (span_tree t)) ≡ false
      → refuses s o (root T (span_tree (canonical T t))) ≡ stays T s o t
  unfolding stays held
  stays-refuses nothing i a e = ap (refuses s o) (root-held T nothing i a) ∙ e
  stays-refuses (leaf x) i a e = ap (refuses s o) (root-held T (leaf x) i a) ∙ e
  stays-refuses (bracket t) i a e = ap (refuses s o) (root-held T (bracket t) i a)
  stays-refuses (block ds t) i a e = ap (refuses s o) (root-held T (block ds t) i a) ∙ e
  stays-refuses (node l m r) i a e = ap (refuses s o) (root-held T (node l m r) i a) ∙ e

  pub operand_wrapped : (t : Tree) → InnerOk T t → Admitted T (span_tree t) → refuses s o (root T (span_tree t)) ≡ false
      → fitted T s o (canonical T t) ≡ wrap_if (stays T s o t) (canonical T t)
  operand_wrapped t i a e = wrap_refused (canonical T t) ∙ ap (λ b. wrap_if b (canonical T t)) (stays-refuses t i a e)
