-- The tree of the canonical text is a tree again, and no bracket of it is spare: an operand is bracketed exactly where its place
-- refuses it. Brackets inserted or taken out leave what is there as it was, so every operator keeps its fixity and its role.
use mathlib.Core.Path.{◌≡◌, refl, sym, ap, subst, ◌∙◌}
use mathlib.Core.Bool.{Bool, true, false, ◌&&◌, not, not-not}
use mathlib.Core.Option.{Option, none, some}
use Prim.Native.Nat.{◌≤◌}
use borrow.Author.Tests.{lt-ltb}
use Rattle.grammar.specs.Bytes.{Bytes}
use Rattle.grammar.specs.Token.{symbol, number, quoted, is_symbol, Atom}
use Rattle.grammar.specs.Operator.{Fixity, Role, Table, role, in_force, is_some}
use Rattle.grammar.specs.Declaration.{declare_all}
use Rattle.grammar.specs.SpanTree.{
  SpanTree,
  missing,
  operand,
  apply,
  present,
  fixity,
  root,
  root_precedence,
  Position,
  on_left,
  on_right,
  admits,
  admits_both,
  is_operand_atom,
  is_operand,
  Admitted,
  role_over,
  role_of_fixity,
}
use Rattle.grammar.specs.Tree.{Tree, nothing, leaf, bracket, block, node, span_tree}
use Rattle.grammar.specs.Canonical.{strip, written_name, written_atom, fitted, canonical, unwrapped, refuses, NoSpare}
use Rattle.grammar.proofs.CheckedTrees.{InnerChecked}
use Rattle.grammar.proofs.Logic.{and_left, and_right, and_intro, clash}
use Rattle.grammar.proofs.Positive.{Positive}
use Rattle.grammar.proofs.Operators.{positive_declared}
use Rattle.grammar.proofs.StripDeclarations.{declare-strip, strip-declarations}

admits_lower : (s : Position) (p : Role) → 1 ≤ p.precedence → admits s p none ≡ true
unfolding admits root_precedence
admits_lower s p h = rw (lt-ltb 0 p.precedence h)

-- A fitted operand is the operand, where its place admits it, or the operand in a bracket, where its place refuses it.
pub fitted_by :
    (P : Tree → Type 0) (T : Table) (s : Position) (o : Option Role) (t : Tree)
    → (refuses s o (root T (span_tree t)) ≡ false → P t)
    → (refuses s o (root T (span_tree t)) ≡ true → P (bracket t))
    → P (fitted T s o t)
unfolding fitted refuses
fitted_by P T s none t bare wrapped = bare refl
fitted_by P T s (some p) t bare wrapped = go (admits s p (root T (span_tree t))) refl
  where
    go : (b : Bool) → admits s p (root T (span_tree t)) ≡ b → P (fitted T s (some p) t)
    go true e = rw (e, fitted) (bare (ap not e))
    go false e = rw (e, fitted) (wrapped (ap not e))

-- What holds between a leaf and the leaf as it is written: a name may lose or get its quotes, a number its zeros.
pub written_by :
    (P : Atom → Atom → Type 0) (T : Table)
    → ((x : Atom) → P x x)
    → ((c : Bytes) → is_symbol c && not (in_force T c) ≡ false → P (symbol c) (quoted c))
    → ((c : Bytes) → is_symbol c && not (in_force T c) ≡ true → P (quoted c) (symbol c))
    → ((d : Bytes) → P (number d) (number (strip d)))
    → (a : Atom) → P a (written_atom T a)
unfolding written_atom written_name
written_by P T same quotes bare strips (symbol w) = go (is_symbol w && not (in_force T w)) refl
  where
    go : (b : Bool) → is_symbol w && not (in_force T w) ≡ b → P (symbol w) (written_name T w)
    go true e = rw (e, written_name) (same (symbol w))
    go false e = rw (e, written_name) (quotes w e)
written_by P T same quotes bare strips (number d) = strips d
written_by P T same quotes bare strips (quoted c) = go (is_symbol c && not (in_force T c)) refl
  where
    go : (b : Bool) → is_symbol c && not (in_force T c) ≡ b → P (quoted c) (written_name T c)
    go true e = rw (e, written_name) (bare c e)
    go false e = rw (e, written_name) (same (quoted c))

-- An operator's role admits both operands: it is there and refuses neither.
pub both_admitted :
    (o a b : Option Role) → admits_both o a b ≡ true
    → (is_some o ≡ true) × (refuses on_left o a ≡ false) × (refuses on_right o b ≡ false)
unfolding admits_both is_some refuses
both_admitted none a b e = absurd (clash e refl)
both_admitted (some p) a b e =
    let l : admits on_left p a ≡ true = and_left _ (admits on_right p b) e in
    let r : admits on_right p b ≡ true = and_right (admits on_left p a) _ e in
    (refl, ap not l, ap not r)

admitted_both :
    (o a b : Option Role) → is_some o ≡ true → refuses on_left o a ≡ false → refuses on_right o b ≡ false → admits_both o a b ≡ true
unfolding admits_both is_some refuses
admitted_both none a b e l r = absurd (clash e refl)
admitted_both (some p) a b e l r =
    and_intro (sym (not-not (admits on_left p a)) ∙ ap not l) (sym (not-not (admits on_right p b)) ∙ ap not r)

-- A place of the operator `m` of the fixity `f`.
module _ (T : Table) (positive : Positive T) (s : Position) (m : Bytes) (f : Option Fixity) where
  -- What has no operator at its root fits everywhere.
  refuses_none : refuses s (role_of_fixity T m f) none ≡ false
  unfolding refuses role_of_fixity
  refuses_none = go f
    where
      in_role : (g : Fixity) (o : Option Role) → role T m g ≡ o → refuses s o none ≡ false
      in_role g none e = refl
      in_role g (some p) e = ap not (admits_lower s p (positive m g p e))

      go : (g : Option Fixity) → refuses s (role_of_fixity T m g) none ≡ false
      go none = refl
      go (some g) = in_role g (role T m g) refl

  -- So what is refused is there,
  refused_present : (u : SpanTree) → refuses s (role_of_fixity T m f) (root T u) ≡ true → present u ≡ true
  unfolding present root
  refused_present missing e = absurd (clash e refuses_none)
  refused_present (operand i) e = refl
  refused_present (apply l n r) e = refl

  -- and what is fitted is there if it was.
  fitted-present : (t : Tree) → present (span_tree (fitted T s (role_of_fixity T m f) t)) ≡ present (span_tree t)
  unfolding present span_tree
  fitted-present t =
      fitted_by (λ u. present (span_tree u) ≡ present (span_tree t)) T s (role_of_fixity T m f) t
      (λ e. refl) (λ e. sym (refused_present (span_tree t) e))

  -- What is fitted fits.
  fitted_fits : (t : Tree) → refuses s (role_of_fixity T m f) (root T (span_tree (fitted T s (role_of_fixity T m f) t))) ≡ false
  unfolding root span_tree
  fitted_fits t =
      fitted_by (λ u. refuses s (role_of_fixity T m f) (root T (span_tree u)) ≡ false) T s (role_of_fixity T m f) t (λ e. e) (λ e. refuses_none)

  -- What is fitted is a tree if it was.
  fitted_inner : (t : Tree) → Admitted T (span_tree t) → InnerChecked T t → InnerChecked T (fitted T s (role_of_fixity T m f) t)
  fitted_inner t a i =
      fitted_by (InnerChecked T) T s (role_of_fixity T m f) t (λ e. i) (λ e. ((a, refused_present (span_tree t) e), i))

fitted_admitted :
    (T : Table) (s : Position) (o : Option Role) (t : Tree) → Admitted T (span_tree t) → Admitted T (span_tree (fitted T s o t))
unfolding span_tree is_operand
fitted_admitted T s o t a = fitted_by (λ u. Admitted T (span_tree u)) T s o t (λ e. a) (λ e. refl)

-- Where no bracket may stand there is none, so there is no spare one where it may.
still_tight : (T : Table) (needed : Bool) (t : Tree) → NoSpare T false t → NoSpare T needed t
still_tight T needed nothing p = p
still_tight T needed (leaf t) p = p
still_tight T needed (bracket t) p = absurd (clash p.0 refl)
still_tight T needed (block ds t) p = p
still_tight T needed (node l m r) p = p

fitted_tight :
    (T : Table) (s : Position) (o : Option Role) (t : Tree) → NoSpare T false t
    → NoSpare T (refuses s o (root T (span_tree (unwrapped (fitted T s o t))))) (fitted T s o t)
unfolding unwrapped
fitted_tight T s o t p =
    fitted_by (λ u. NoSpare T (refuses s o (root T (span_tree (unwrapped u)))) u) T s o t (λ e. still_tight T _ t p) (λ e. (e, p))

-- The operator `m` of the fixity `f` over operands fitted to it.
abbrev pub over : Table → Bytes → Option Fixity → Tree → Tree → Tree
over T m f l r = node (fitted T on_left (role_of_fixity T m f) l) m (fitted T on_right (role_of_fixity T m f) r)

-- The operands `l` and `r` of an operator are replaced by `l'` and `r'`, which are there where `l` and `r` are.
module _ (T : Table) (positive : Positive T) (l r : Tree) (m : Bytes) (l' r' : Tree) where
  abbrev f : Option Fixity
  f = fixity (span_tree l) (span_tree r)

  module _
      (same_left : present (span_tree l') ≡ present (span_tree l))
      (same-right : present (span_tree r') ≡ present (span_tree r))
    where
      left_kept : present (span_tree (fitted T on_left (role_of_fixity T m f) l')) ≡ present (span_tree l)
      left_kept = fitted-present T positive on_left m f l' ∙ same_left

      right_kept : present (span_tree (fitted T on_right (role_of_fixity T m f) r')) ≡ present (span_tree r)
      right_kept = fitted-present T positive on_right m f r' ∙ same-right

      -- The operator keeps its role,
      role_kept : root T (span_tree (over T m f l' r')) ≡ role_of_fixity T m f
      unfolding root span_tree role_over fixity
      role_kept = rw (left_kept, right_kept)

      -- admits its operands,
      node_ok :
          Admitted T (span_tree (node l m r)) → Admitted T (span_tree l') × InnerChecked T l' → Admitted T (span_tree r') × InnerChecked T r'
          → Admitted T (span_tree (over T m f l' r')) × InnerChecked T (over T m f l' r')
      unfolding span_tree root role_over
      node_ok a p q = (
        (
          fitted_admitted T on_left (role_of_fixity T m f) l' p.0,
          fitted_admitted T on_right (role_of_fixity T m f) r' q.0,
          rw role_kept
              (admitted_both (role_of_fixity T m f) _ _ (both_admitted (role_of_fixity T m f) _ _ a.2).0
              (fitted_fits T positive on_left m f l') (fitted_fits T positive on_right m f r')),
        ),
        (fitted_inner T positive on_left m f l' p.0 p.1, fitted_inner T positive on_right m f r' q.0 q.1),
      )

      -- and no bracket of them is spare.
      node_tight : NoSpare T false l' → NoSpare T false r' → NoSpare T false (over T m f l' r')
      unfolding span_tree root role_over
      node_tight p q = rw role_kept (fitted_tight T on_left (role_of_fixity T m f) l' p, fitted_tight T on_right (role_of_fixity T m f) r' q)

-- Without its outer brackets a tree is there if it was, as no bracket is empty.
pub canonical-present : (T : Table) (t : Tree) → InnerChecked T t → present (span_tree (canonical T t)) ≡ present (span_tree t)
unfolding canonical span_tree present
canonical-present T nothing i = refl
canonical-present T (leaf t) i = refl
canonical-present T (bracket t) i = cc (canonical-present T t i.1, i.0.1)
canonical-present T (block ds t) i = refl
canonical-present T (node l m r) i = refl

-- No bracket of the canonical tree is spare.
pub canonical_tight : (T : Table) (t : Tree) → Positive T → InnerChecked T t → NoSpare T false (canonical T t)
unfolding canonical role_over
canonical_tight T nothing p i = tt
canonical_tight T (leaf t) p i = tt
canonical_tight T (bracket t) p i = canonical_tight T t p i.1
canonical_tight T (block ds t) p i =
    subst (λ U. NoSpare U false (canonical (declare_all T ds) t)) (sym (declare-strip T ds))
    (canonical_tight (declare_all T ds) t (positive_declared T ds p i.0) i.3)
canonical_tight T (node l m r) p i =
    node_tight T p l r m (canonical T l) (canonical T r) (canonical-present T l i.0) (canonical-present T r i.1)
    (canonical_tight T l p i.0) (canonical_tight T r p i.1)

-- A leaf as it is written is an operand: a word or sign with a role is quoted.
written_operand : (T : Table) (a : Atom) → is_operand_atom T a ≡ true → is_operand_atom T (written_atom T a) ≡ true
unfolding is_operand_atom
written_operand T =
    written_by (λ x y. is_operand_atom T x ≡ true → is_operand_atom T y ≡ true) T
    (λ x e. e) (λ c f e. refl) (λ c f e. and_right (is_symbol c) (not (in_force T c)) f) (λ d e. refl)

-- The tree of the canonical text is a tree.
pub canonical_ok :
    (T : Table) (t : Tree) → Positive T → Admitted T (span_tree t) → InnerChecked T t
    → Admitted T (span_tree (canonical T t)) × InnerChecked T (canonical T t)
unfolding canonical span_tree is_operand role_over
canonical_ok T nothing p a i = (tt, tt)
canonical_ok T (leaf t) p a i = (written_operand T t a, tt)
canonical_ok T (bracket t) p a i = canonical_ok T t p i.0.0 i.1
canonical_ok T (block ds t) p a i =
    let inside = canonical_ok (declare_all T ds) t (positive_declared T ds p i.0) i.2.0 i.3 in (
      refl,
      (
        strip-declarations ds ∙ i.0,
        rw (declare-strip T ds) i.1,
        rw (declare-strip T ds) (inside.0, canonical-present (declare_all T ds) t i.3 ∙ i.2.1),
        rw (declare-strip T ds) inside.1,
      ),
    )
canonical_ok T (node l m r) p a i =
    node_ok T p l r m (canonical T l) (canonical T r) (canonical-present T l i.0) (canonical-present T r i.1) a
    (canonical_ok T l p a.0 i.0) (canonical_ok T r p a.1 i.1)

-- An operator at the root keeps its role.
pub canonical-root :
    (T : Table) (l : Tree) (m : Bytes) (r : Tree) → Positive T → InnerChecked T (node l m r)
    → root T (span_tree (canonical T (node l m r))) ≡ root T (span_tree (node l m r))
unfolding canonical span_tree root role_over
canonical-root T l m r p i =
    role_kept T p l r m (canonical T l) (canonical T r) (canonical-present T l i.0) (canonical-present T r i.1)
