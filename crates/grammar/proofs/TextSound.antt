-- What the search finds for a text past checks 6 to 10 and 17 is a tree of the text's own tokens.
use mathlib.Core.Path.{◌≡◌, refl, sym, ap, ap₂, ◌∙◌}
use mathlib.Core.List.{List, [], ◌∷◌, ◌++◌, append-nil}
use mathlib.Core.Option.{Option, none, some}
use Prim.Native.Nat.{ℕ, zero, suc, ◌≤◌, ◌<◌}
use native.Mathlib.Omega.{arith}
use lib.ListN.{length, length-append}
use Rattle.grammar.specs.Bytes.{All, Bytes}
use Rattle.grammar.specs.Token.{atom, structure, Token, symbol, opening, closing, keyword_let, keyword_in, keyword_end, Atom}
use Rattle.grammar.specs.Outcome.{passed}
use Rattle.grammar.specs.Operator.{Table, Permitted}
use Rattle.grammar.specs.Declaration.{declare_all, declarations, all_tokens, enter}
use Rattle.grammar.specs.Span.{Item, single, pair, scope, items, item_tokens, all_item_tokens}
use Rattle.grammar.specs.SpanTree.{SpanTree, missing, operand, apply, yield}
use Rattle.grammar.specs.Tree.{Tree, nothing, leaf, bracket, block, node, flat, span_tree}
use Rattle.grammar.specs.Climb.{climb}
use Rattle.grammar.specs.Blocks.{body_table, check_blocks, hang_item, hang, hang_found, tree_in}
use Rattle.grammar.proofs.CheckedTrees.{InnerChecked, IsCheckedTree}
use Rattle.grammar.proofs.Hung.{under_bracket_some, under_block_some, under_operator_some}
use Rattle.grammar.proofs.ClimbExact.{climb_sound}
use Rattle.grammar.proofs.Positive.{Positive}
use Rattle.grammar.proofs.Operators.{positive_declared}
use Rattle.grammar.proofs.ItemsNested.{Passes, ItemNested, append_tokens, items_tokens, items_nested}
use Rattle.grammar.proofs.Declarations.{enter_sound}
use Rattle.grammar.proofs.OverloadingTest.{permitted_sound}
use Rattle.grammar.proofs.Lists.{all_left, all_right, all_both}
use Rattle.grammar.proofs.ItemLists.{all_within, CheckedBy, check_items_passed}
use Rattle.grammar.proofs.Logic.{impossible}

-- Tokens that pass checks 6 and 7, wherever they begin.
abbrev pub Nested : List Token → Type 0
Nested = Passes []

-- What checks 6 and 7 say of an item of no more than `j` tokens: what is inside passes them too.
abbrev pub Inside : ℕ → Item → Type 0
Inside j x = ItemNested x × (length (item_tokens x) ≤ j)

-- And what checks 8 to 10 and 17 say of it.
abbrev pub Known : ℕ → Table → Item → Type 0
Known j T x = Inside j x × CheckedBy (check_blocks j) T x

pub inside_items : (j : ℕ) (ts : List Token) → Nested ts → length ts ≤ j → All (Inside j) (items ts)
inside_items j ts h n =
    all_both ItemNested (λ x. length (item_tokens x) ≤ j) (items ts)
    (items_nested ts 0 (h 0))
    (all_within j (items ts) (rw (items_tokens ts 0 (h 0)) n))

pub known_items :
    (j : ℕ) (T : Table) (i : ℕ) (ts : List Token) → Nested ts → length ts ≤ j → check_blocks (suc j) T i ts ≡ passed tt
    → All (λ x. Inside j x × CheckedBy (check_blocks j) T x) (items ts)
unfolding check_blocks
known_items j T i ts h n e =
    all_both (Inside j) (CheckedBy (check_blocks j) T) (items ts) (inside_items j ts h n) (check_items_passed (check_blocks j) T i (items ts) e)

pub pair_within : (j : ℕ) (ts : List Token) → length (item_tokens (pair ts)) ≤ j → length ts < j
unfolding item_tokens
pair_within j ts n = omega (arith, length-append ts (structure closing ∷ []))

pub scope_within : (j : ℕ) (ds ts : List Token) → length (item_tokens (scope ds ts)) ≤ j → length ts < j
unfolding item_tokens
scope_within j ds ts n = omega (arith, length-append (ds ++ structure keyword_in ∷ ts) (structure keyword_end ∷ []), length-append ds (structure keyword_in ∷ ts))

-- The tokens of the items around an operator.
at_operator :
    (xs : List Item) (m : Bytes) (ys : List Item)
    → all_item_tokens (xs ++ single (symbol m) ∷ ys) ≡ all_item_tokens xs ++ atom (symbol m) ∷ all_item_tokens ys
unfolding all_item_tokens item_tokens
at_operator xs m ys = append_tokens xs (single (symbol m) ∷ ys)

-- A tree hung together: its outermost span, its tokens, its inner spans.
abbrev Hung : Table → SpanTree → Tree → Type 0
Hung T s t = (span_tree t ≡ s) × (flat t ≡ all_item_tokens (yield s)) × InnerChecked T t

hung_nothing : (T : Table) → Hung T missing nothing
unfolding span_tree flat yield all_item_tokens
hung_nothing T = (refl, refl, tt)

hung_single : (T : Table) (a : Atom) → Hung T (operand (single a)) (leaf a)
unfolding span_tree flat yield all_item_tokens item_tokens
hung_single T a = (refl, refl, tt)

hung_bracket : (T : Table) (ts : List Token) (u : Tree) → IsCheckedTree T ts u → Hung T (operand (pair ts)) (bracket u)
unfolding span_tree flat yield all_item_tokens item_tokens
hung_bracket T ts u h =
    let e = h.tokens in
    (rw e, rw e (sym (append-nil (structure opening ∷ ts ++ structure closing ∷ []))), (h.outer, h.inner))

hung_block :
    (T : Table) (i : ℕ) (ds ts : List Token) (U : Table) (u : Tree) → enter (length ds) T i ds ≡ passed U → IsCheckedTree U ts u
    → Hung T (operand (scope ds ts)) (block (declarations ds) u)
unfolding span_tree flat yield all_item_tokens item_tokens
hung_block T i ds ts U u n h =
    let e = h.tokens in
    let g = enter_sound T i ds U n in
    let d : all_tokens (declarations ds) ≡ ds = g.0 in
    let w : U ≡ declare_all T (declarations ds) = g.2 in (
      rw (e, d),
      rw (e, d) (sym (append-nil (structure keyword_let ∷ ds ++ structure keyword_in ∷ ts ++ structure keyword_end ∷ []))),
      (g.1, rw w at (permitted_sound U g.3), rw w at h.outer, rw w at h.inner),
    )

hung_node : (T : Table) (l r : SpanTree) (m : Bytes) (t u : Tree) → Hung T l t → Hung T r u → Hung T (apply l m r) (node t m u)
unfolding span_tree flat yield
hung_node T l r m t u h g = (
  ap₂ (λ x y. apply x m y) h.0 g.0,
  ap₂ (λ x y. x ++ atom (symbol m) ∷ y) h.1 g.1 ∙ sym (at_operator (yield l) m (yield r)),
  (h.2, g.2),
)

module _ (inner : Table → List Token → Option Tree) (j : ℕ)
    (sound : (T : Table) → Permitted T × Positive T → (i : ℕ) (ts : List Token) (t : Tree) → Nested ts → length ts < j
    → check_blocks j T i ts ≡ passed tt → inner T ts ≡ some t → IsCheckedTree T ts t) where
  hang_item_sound : (T : Table) → Permitted T × Positive T → (x : Item) (t : Tree) → Known j T x → hang_item inner T x ≡ some t → Hung T (operand x) t
  unfolding hang_item body_table
  hang_item_sound T p (single t₀) t k e = let h : t ≡ leaf t₀ = cc in rw h (hung_single T t₀)
  hang_item_sound T p (pair ts) t k e =
      let h = under_bracket_some (inner T ts) t e in
      rw h.2 (hung_bracket T ts h.0 (sound T p k.1.0 ts h.0 k.0.0 (pair_within j ts k.0.1) k.1.1 h.1))
  hang_item_sound T p (scope ds ts) t k e =
      let h = under_block_some (declarations ds) (inner (declare_all T (declarations ds)) ts) t e in
      let g = enter_sound T k.1.0 ds k.1.1 k.1.3 in
      let f : inner k.1.1 ts ≡ some h.0 = rw g.2 h.1 in
      let positive : Positive k.1.1 = rw g.2 (positive_declared T (declarations ds) p.1 g.1) in
      rw h.2
      (hung_block T k.1.0 ds ts k.1.1 h.0 k.1.3
      (sound k.1.1 (permitted_sound k.1.1 g.3, positive) k.1.2 ts h.0 k.0.0.1 (scope_within j ds ts k.0.1) k.1.4 f))

  hang_sound : (T : Table) → Permitted T × Positive T → (s : SpanTree) (t : Tree) → All (Known j T) (yield s) → hang inner T s ≡ some t → Hung T s t
  unfolding hang yield
  hang_sound T p missing t k e = let h : t ≡ nothing = cc in rw h (hung_nothing T)
  hang_sound T p (operand x) t k e = hang_item_sound T p x t k.0 e
  hang_sound T p (apply l m r) t k e =
      let h = under_operator_some m (hang inner T l) (hang inner T r) t e in
      rw h.4
      (hung_node T l r m h.0 h.1
      (hang_sound T p l h.0 (all_left (Known j T) (yield l) (single (symbol m) ∷ yield r) k) h.2)
      (hang_sound T p r h.1 (all_right (Known j T) (yield l) (single (symbol m) ∷ yield r) k).1 h.3))

  found_sound :
      (T : Table) → Permitted T × Positive T → (i : ℕ) (ts : List Token) (t : Tree)
      → Nested ts → length ts < suc j → check_blocks (suc j) T i ts ≡ passed tt
      → (o : Option SpanTree) → climb T (items ts) ≡ o → hang_found inner T o ≡ some t → IsCheckedTree T ts t
  unfolding hang_found
  found_sound T p i ts t n b c none q e = impossible cc
  found_sound T p i ts t n b c (some s) q e =
      let g = climb_sound T p.0 p.1 (items ts) s q in
      let y = g.yields in
      let h = hang_sound T p s t (rw y (known_items j T i ts n (omega arith) c)) e in
      record {
        tokens = h.1 ∙ ap all_item_tokens y ∙ items_tokens ts 0 (n 0);
        outer = (rw h.0 g.admitted, rw h.0 g.there);
        inner = h.2;
      }

-- What the search finds is a tree of the tokens: by induction on its fuel `k`; `j` is the fuel of the checks.
pub tree_in_sound :
    (k j : ℕ) (T : Table) → Permitted T × Positive T → (i : ℕ) (ts : List Token) (t : Tree)
    → Nested ts → length ts < j → check_blocks j T i ts ≡ passed tt → tree_in k T ts ≡ some t → IsCheckedTree T ts t
unfolding tree_in
tree_in_sound zero j T p i ts t n b c e = impossible cc
tree_in_sound (suc k) zero T p i ts t n b c e = absurd (omega arith)
tree_in_sound (suc k) (suc j) T p i ts t n b c e = found_sound (tree_in k) j (tree_in_sound k j) T p i ts t n b c (climb T (items ts)) refl e
