-- The canonical text has no more tokens than the text, and its brackets and blocks stand no deeper: where the canonical tree brackets
-- an operand, the place refuses it, so it stood in a bracket before. One argument serves both measures.
use mathlib.Core.Path.{◌≡◌, refl, ap, ◌∙◌}
use mathlib.Core.Bool.{false}
use mathlib.Core.List.{List, [], ◌∷◌, map}
use mathlib.Core.Option.{Option, none}
use Prim.Native.Nat.{ℕ, suc, ◌≤◌}
use native.Mathlib.Nat.{le_refl, le_trans}
use native.Mathlib.Omega.{arith}
use lib.ListN.{length, length-append}
use Rattle.grammar.specs.Bytes.{Bytes}
use Rattle.grammar.specs.Token.{Atom}
use Rattle.grammar.specs.Operator.{Role, Table}
use Rattle.grammar.specs.Declaration.{Declaration, declares, clears, declare_all, declaration_tokens, all_tokens}
use Rattle.grammar.specs.SpanTree.{root, Position, on_left, on_right, Admitted, role_over}
use Rattle.grammar.specs.Tree.{Tree, nothing, leaf, bracket, block, node, flat, depth, span_tree}
use Rattle.grammar.specs.Canonical.{strip_declaration, written_atom, fitted, canonical, refuses}
use Rattle.grammar.proofs.CheckedTrees.{InnerChecked}
use Rattle.grammar.proofs.Logic.{clash}
use Rattle.grammar.proofs.Positive.{Positive}
use Rattle.grammar.proofs.Operators.{positive_declared}
use Rattle.grammar.proofs.CanonicalTree.{fitted_by, both_admitted, canonical-root}

-- A measure of trees that a bracket does not lower, that follows the parts of a tree, and for which it does not matter how a leaf
-- or a declaration is written.
record Measure (μ : Tree → ℕ) : Type 0 where
  at_leaf : (x y : Atom) → μ (leaf x) ≤ μ (leaf y)
  bracketed : (t : Tree) → μ t ≤ μ (bracket t)
  in_bracket : (t u : Tree) → μ t ≤ μ u → μ (bracket t) ≤ μ (bracket u)
  in_block : (ds : List Declaration) (t u : Tree) → μ t ≤ μ u → μ (block (map strip_declaration ds) t) ≤ μ (block ds u)
  in_node : (m : Bytes) (l l' r r' : Tree) → μ l ≤ μ l' → μ r ≤ μ r' → μ (node l m r) ≤ μ (node l' m r')

module _ (μ : Tree → ℕ) (measure : Measure μ) where
  -- Where the root is as before and its place does not refuse it, there is no new bracket.
  unwrapped_smaller :
      (T : Table) (s : Position) (o : Option Role) (t t' : Tree) → root T (span_tree t') ≡ root T (span_tree t)
      → refuses s o (root T (span_tree t)) ≡ false → μ t' ≤ μ t → μ (fitted T s o t') ≤ μ t
  unwrapped_smaller T s o t t' same fits h =
      fitted_by (λ u. μ u ≤ μ t) T s o t' (λ e. h) (λ e. absurd (clash e (ap (refuses s o) same ∙ fits)))

  -- Where `t` stands in a bracket, there is room for one.
  wrapped_smaller :
      (T : Table) (s : Position) (o : Option Role) (t t' : Tree) → μ t' ≤ μ t → μ (fitted T s o t') ≤ μ (bracket t)
  wrapped_smaller T s o t t' h =
      fitted_by (λ u. μ u ≤ μ (bracket t)) T s o t'
      (λ e. le_trans h (measure.bracketed t)) (λ e. measure.in_bracket t' t h)

  -- Of a tree at a place that does not refuse it; `none` is the place of a whole span.
  fitted_smaller :
      (T : Table) (t : Tree) → Positive T → Admitted T (span_tree t) → InnerChecked T t
      → (s : Position) (o : Option Role) → refuses s o (root T (span_tree t)) ≡ false → μ (fitted T s o (canonical T t)) ≤ μ t
  unfolding canonical span_tree root refuses fitted
  fitted_smaller T nothing p a i s o f = unwrapped_smaller T s o nothing nothing refl f (le_refl (μ nothing))
  fitted_smaller T (leaf t) p a i s o f = unwrapped_smaller T s o (leaf t) (leaf (written_atom T t)) refl f (measure.at_leaf _ _)
  fitted_smaller T (bracket t) p a i s o f =
      wrapped_smaller T s o t (canonical T t) (fitted_smaller T t p i.0.0 i.1 s none refl)
  fitted_smaller T (block ds t) p a i s o f =
      unwrapped_smaller T s o (block ds t) (canonical T (block ds t)) refl f
      (measure.in_block ds _ _
      (fitted_smaller (declare_all T ds) t (positive_declared T ds p i.0) i.2.0 i.3 s none refl))
  fitted_smaller T (node l m r) p a i s o f =
      let k = both_admitted (role_over T (span_tree l) m (span_tree r)) _ _ a.2 in
      unwrapped_smaller T s o (node l m r) (canonical T (node l m r)) (canonical-root T l m r p i) f
      (measure.in_node m _ l _ r
      (fitted_smaller T l p a.0 i.0 on_left (role_over T (span_tree l) m (span_tree r)) k.1)
      (fitted_smaller T r p a.1 i.1 on_right (role_over T (span_tree l) m (span_tree r)) k.2))

  smaller : (T : Table) (t : Tree) → Positive T → Admitted T (span_tree t) → InnerChecked T t → μ (canonical T t) ≤ μ t
  unfolding fitted refuses
  smaller T t p a i = fitted_smaller T t p a i on_left none refl

strip_tokens : (ds : List Declaration) → length (all_tokens (map strip_declaration ds)) ≡ length (all_tokens ds)
unfolding all_tokens strip_declaration declaration_tokens
strip_tokens [] = refl
strip_tokens (declares f a d m ∷ ds) = ap (λ n. suc (suc (suc (suc (suc n))))) (strip_tokens ds)
strip_tokens (clears m ∷ ds) = ap (λ n. suc (suc (suc n))) (strip_tokens ds)

length_measure : Measure (λ t. length (flat t))
unfolding flat
length_measure =
    record {
      at_leaf = λ x y. omega arith;
      bracketed = λ t. simp length-append (omega arith);
      in_bracket = λ t u h. simp length-append (omega arith);
      in_block = λ ds t u h. simp (length-append, strip_tokens) (omega arith);
      in_node = λ m l l' r r' h k. simp length-append (omega arith);
    }

depth_measure : Measure depth
unfolding depth
depth_measure =
    record {
      at_leaf = λ x y. omega arith;
      bracketed = λ t. omega arith;
      in_bracket = λ t u h. omega arith;
      in_block = λ ds t u h. omega arith;
      in_node = λ m l l' r r' h k. omega arith;
    }

-- The canonical text has no more tokens,
pub canonical_shorter :
    (T : Table) (t : Tree) → Positive T → Admitted T (span_tree t) → InnerChecked T t → length (flat (canonical T t)) ≤ length (flat t)
canonical_shorter = smaller (λ t. length (flat t)) length_measure

-- and no deeper.
pub canonical_shallower :
    (T : Table) (t : Tree) → Positive T → Admitted T (span_tree t) → InnerChecked T t → depth (canonical T t) ≤ depth t
canonical_shallower = smaller depth depth_measure
