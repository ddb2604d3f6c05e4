-- The tree that the search finds for a text is the only tree of the text: the search finds every tree there is, so two trees of
-- one text are the same. The span's own tree comes from the search over its items; inner ones by induction on the fuel.
use mathlib.Core.Path.{◌≡◌, refl, sym, ap, ap₂, ◌∙◌}
use mathlib.Core.List.{List, [], ◌∷◌, ◌++◌}
use mathlib.Core.Option.{Option, some}
use Prim.Native.Nat.{ℕ, zero, suc, ◌≤◌, ◌<◌}
use native.Mathlib.Omega.{arith}
use lib.ListN.{length, length-append}
use Rattle.grammar.specs.Bytes.{Bytes}
use Rattle.grammar.specs.Token.{atom, structure, Token, symbol, closing, keyword_in, keyword_end}
use Rattle.grammar.specs.Operator.{Table, Permitted}
use Rattle.grammar.specs.Declaration.{Declaration, declare_all, declarations, all_tokens}
use Rattle.grammar.specs.Span.{items}
use Rattle.grammar.specs.Tree.{Tree, nothing, leaf, bracket, block, node, flat, span_tree, SpanOk}
use Rattle.grammar.specs.Climb.{climb}
use Rattle.grammar.specs.Blocks.{body_table, under_bracket, under_block, under_operator, hang_item, hang, hang_found, tree_in, tree_of}
use Rattle.grammar.proofs.CheckedTrees.{InnerChecked, IsCheckedTree}
use Rattle.grammar.proofs.ClimbExact.{climb_complete}
use Rattle.grammar.proofs.Items.{items-flat}
use Rattle.grammar.proofs.Declarations.{declarations_of_lem}

-- The inside of a bracket pair, and the body of a block, is shorter than the whole.
pub bracket_shorter : (t : Tree) (k : ℕ) → length (flat (bracket t)) ≤ k → length (flat t) < k
unfolding flat
bracket_shorter t k h = omega (arith, length-append (flat t) (structure closing ∷ []))

pub block_shorter : (ds : List Declaration) (t : Tree) (k : ℕ) → length (flat (block ds t)) ≤ k → length (flat t) < k
unfolding flat
block_shorter ds t k h =
    omega (
      arith,
      length-append (all_tokens ds ++ structure keyword_in ∷ flat t) (structure keyword_end ∷ []),
      length-append (all_tokens ds) (structure keyword_in ∷ flat t),
    )

pub left_shorter : (l : Tree) (m : Bytes) (r : Tree) (k : ℕ) → length (flat (node l m r)) ≤ k → length (flat l) ≤ k
unfolding flat
left_shorter l m r k h = omega (arith, length-append (flat l) (atom (symbol m) ∷ flat r))

pub right_shorter : (l : Tree) (m : Bytes) (r : Tree) (k : ℕ) → length (flat (node l m r)) ≤ k → length (flat r) ≤ k
unfolding flat
right_shorter l m r k h = omega (arith, length-append (flat l) (atom (symbol m) ∷ flat r))

-- If `inner` finds the tree of every shorter text, hanging its trees under the span's own tree gives the tree back.
module _ (inner : Table → List Token → Option Tree) (k : ℕ)
    (finds : (T : Table) (t : Tree) → Permitted T → SpanOk T t → InnerChecked T t → length (flat t) < k → inner T (flat t) ≡ some t) where
  hang_complete : (T : Table) → Permitted T → (t : Tree) → InnerChecked T t → length (flat t) ≤ k → hang inner T (span_tree t) ≡ some t
  unfolding hang hang_item span_tree under_bracket under_block under_operator body_table
  hang_complete T c nothing h n = refl
  hang_complete T c (leaf t) h n = refl
  hang_complete T c (bracket t) h n = ap under_bracket (finds T t c h.0 h.1 (bracket_shorter t k n))
  hang_complete T c (block ds t) h n =
      let e : declarations (all_tokens ds) ≡ ds = declarations_of_lem ds h.0 in
      rw e (ap (under_block ds) (finds (declare_all T ds) t h.1 h.2 h.3 (block_shorter ds t k n)))
  hang_complete T c (node l m r) h n =
      ap₂ (under_operator m) (hang_complete T c l h.0 (left_shorter l m r k n)) (hang_complete T c r h.1 (right_shorter l m r k n))

-- The search finds every tree.
pub tree_in_complete :
    (k : ℕ) (T : Table) (t : Tree) → Permitted T → SpanOk T t → InnerChecked T t → length (flat t) < k → tree_in k T (flat t) ≡ some t
unfolding tree_in hang_found
tree_in_complete zero T t c s h n = absurd (omega arith)
tree_in_complete (suc k) T t c s h n =
    let e : climb T (items (flat t)) ≡ some (span_tree t) =
    climb_complete T c (items (flat t)) (span_tree t)
    (record { yields = sym (items-flat t); admitted = s.0; there = s.1 }) in
    ap (hang_found (tree_in k) T) e ∙ hang_complete (tree_in k) k (tree_in_complete k) T c t h (omega arith)

pub tree_of_complete : (T : Table) → Permitted T → (ts : List Token) (t : Tree) → IsCheckedTree T ts t → tree_of T ts ≡ some t
unfolding tree_of
tree_of_complete T c ts t h =
    rw (← h.tokens) (tree_in_complete (suc (length (flat t))) T t c h.outer h.inner (omega arith))
