-- Refusal 11: some span has no tree exactly where the text has none, and it is given at the first such span.
use mathlib.Core.Path.{◌≡◌, refl, ap, ap₂, ◌∙◌}
use mathlib.Core.List.{List, [], ◌∷◌, ◌++◌}
use mathlib.Core.Option.{Option, none, some}
use Prim.Native.Nat.{ℕ, zero, suc, ◌+◌, ◌<◌}
use native.Mathlib.Omega.{arith}
use lib.ListN.{length}
use Rattle.grammar.specs.Spans.{Span, start_of}
use Rattle.grammar.specs.Token.{Token, symbol}
use Rattle.grammar.specs.Outcome.{passed}
use Rattle.grammar.specs.Operator.{Table, Permitted}
use Rattle.grammar.specs.Declaration.{declare_all, declarations}
use Rattle.grammar.specs.Span.{Item, single, pair, scope, items, item_tokens}
use Rattle.grammar.specs.SpanTree.{SpanTree, missing, operand, apply, yield}
use Rattle.grammar.specs.Tree.{Tree, nothing, leaf, bracket, block, node}
use Rattle.grammar.specs.Climb.{stops, search, climb}
use Rattle.grammar.specs.Blocks.{
  body_table,
  check_blocks,
  item_spans,
  all_item_spans,
  spans,
  first_without,
  lost_token,
  under_bracket,
  under_block,
  under_operator,
  hang_item,
  hang,
  hang_found,
  tree_in,
}
use Rattle.grammar.specs.Bytes.{All}
use Rattle.grammar.proofs.Lists.{all_left, all_right, all_append}
use Rattle.grammar.proofs.ClimbExact.{climb_yields, stops_somewhere, found_anywhere}
use Rattle.grammar.proofs.Positive.{Positive}
use Rattle.grammar.proofs.Operators.{positive_declared}
use Rattle.grammar.proofs.Declarations.{enter_sound}
use Rattle.grammar.proofs.OverloadingTest.{permitted_sound}
use Rattle.grammar.proofs.ItemLists.{CheckedBy}
use Rattle.grammar.proofs.Hung.{under_bracket_some, under_block_some, under_operator_some}
use Rattle.grammar.proofs.TextSound.{Nested, Inside, inside_items, known_items, pair_within, scope_within}
use Rattle.grammar.proofs.Logic.{impossible}

-- A span has a tree.
abbrev pub HasTree : Span → Type 0
HasTree s = (t : SpanTree) × (climb s.table s.contents ≡ some t)

without_none :
    (s : Span) (ss : List Span) → (first_without ss ≡ none → All HasTree ss)
    → (o : Option SpanTree) → climb s.table s.contents ≡ o → first_without (s ∷ ss) ≡ none → All HasTree (s ∷ ss)
unfolding first_without
without_none s ss h none q e = let f = rw (q, first_without) at e in impossible cc
without_none s ss h (some t) q e = ((t, q), h (rw (q, first_without) at e))

-- No span is without a tree exactly where every span has one.
pub first_without_none : (ss : List Span) → first_without ss ≡ none → All HasTree ss
first_without_none [] e = tt
first_without_none (s ∷ ss) e = without_none s ss (first_without_none ss) (climb s.table s.contents) refl e

pub first_without_all : (ss : List Span) → All HasTree ss → first_without ss ≡ none
unfolding first_without
first_without_all [] h = refl
first_without_all (s ∷ ss) h = rw (h.0.1, first_without) (first_without_all ss h.1)

-- What stands inside an item has a tree by `inner`.
module _ (inner : Table → List Token → Option Tree) where
  abbrev Hangs : Table → Item → Type 0
  Hangs T (single t) = Unit {0}
  Hangs T (pair ts) = (u : Tree) × (inner T ts ≡ some u)
  Hangs T (scope ds ts) = (u : Tree) × (inner (body_table T ds) ts ≡ some u)

  hang_item_inside : (T : Table) (x : Item) (t : Tree) → hang_item inner T x ≡ some t → Hangs T x
  unfolding hang_item
  hang_item_inside T (single t₀) t e = tt
  hang_item_inside T (pair ts) t e = let h = under_bracket_some (inner T ts) t e in (h.0, h.1)
  hang_item_inside T (scope ds ts) t e = let h = under_block_some (declarations ds) (inner (body_table T ds) ts) t e in (h.0, h.1)

  hang_item_some : (T : Table) (x : Item) → Hangs T x → (t : Tree) × (hang_item inner T x ≡ some t)
  unfolding hang_item under_bracket under_block
  hang_item_some T (single t) h = (leaf t, refl)
  hang_item_some T (pair ts) h = (bracket h.0, ap under_bracket h.1)
  hang_item_some T (scope ds ts) h = (block (declarations ds) h.0, ap (under_block (declarations ds)) h.1)

  hang_inside : (T : Table) (s : SpanTree) (t : Tree) → hang inner T s ≡ some t → All (Hangs T) (yield s)
  unfolding hang yield
  hang_inside T missing t e = tt
  hang_inside T (operand x) t e = (hang_item_inside T x t e, tt)
  hang_inside T (apply l m r) t e =
      let h = under_operator_some m (hang inner T l) (hang inner T r) t e in
      all_append (Hangs T) (yield l) (single (symbol m) ∷ yield r) (hang_inside T l h.0 h.2) (tt, hang_inside T r h.1 h.3)

  hang_some : (T : Table) (s : SpanTree) → All (Hangs T) (yield s) → (t : Tree) × (hang inner T s ≡ some t)
  unfolding hang yield under_operator
  hang_some T missing h = (nothing, refl)
  hang_some T (operand x) h = hang_item_some T x h.0
  hang_some T (apply l m r) h =
      let p = hang_some T l (all_left (Hangs T) (yield l) (single (symbol m) ∷ yield r) h) in
      let q = hang_some T r (all_right (Hangs T) (yield l) (single (symbol m) ∷ yield r) h).1 in
      (node p.0 m q.0, ap₂ (under_operator m) p.1 q.1)

-- If a text has a tree, so has each of its spans. `below` gives the spans inside, `inner` their trees.
module _ (inner : Table → List Token → Option Tree) (below : Table → Option ℕ → ℕ → List Token → List Span)
    (have : (T : Table) (o : Option ℕ) (i : ℕ) (ts : List Token) (t : Tree) → inner T ts ≡ some t → All HasTree (below T o i ts)) where
  item_spans_have : (T : Table) (i : ℕ) (x : Item) → Hangs inner T x → All HasTree (item_spans below T i x)
  unfolding item_spans
  item_spans_have T i (single t) h = tt
  item_spans_have T i (pair ts) h = have T (some i) (suc i) ts h.0 h.1
  item_spans_have T i (scope ds ts) h =
      have (body_table T ds) (some (suc (i + length ds))) (suc (suc (i + length ds))) ts h.0 h.1

  all_item_spans_have : (T : Table) (i : ℕ) (xs : List Item) → All (Hangs inner T) xs → All HasTree (all_item_spans below T i xs)
  unfolding all_item_spans
  all_item_spans_have T i [] h = tt
  all_item_spans_have T i (x ∷ xs) h =
      all_append HasTree (item_spans below T i x) (all_item_spans below T (i + length (item_tokens x)) xs)
      (item_spans_have T i x h.0) (all_item_spans_have T (i + length (item_tokens x)) xs h.1)

  spans_of_found :
      (T : Table) (o : Option ℕ) (i : ℕ) (ts : List Token) (t : Tree)
      → (f : Option SpanTree) → climb T (items ts) ≡ f → hang_found inner T f ≡ some t
      → All HasTree (record { opener = o; table = T; contents = items ts } ∷ all_item_spans below T i (items ts))
  unfolding hang_found
  spans_of_found T o i ts t none q e = impossible cc
  spans_of_found T o i ts t (some s) q e =
      let y = climb_yields T (items ts) s q in
      ((s, q), all_item_spans_have T i (items ts) (rw y at (hang_inside inner T s t e)))

pub spans_have :
    (j k : ℕ) (T : Table) (o : Option ℕ) (i : ℕ) (ts : List Token) (t : Tree) → tree_in k T ts ≡ some t → All HasTree (spans j T o i ts)
unfolding spans tree_in
spans_have zero k T o i ts t e = tt
spans_have (suc j) zero T o i ts t e = impossible cc
spans_have (suc j) (suc k) T o i ts t e =
    spans_of_found (tree_in k) (spans j) (spans_have j k) T o i ts t (climb T (items ts)) refl e

-- If each span of a nested text has a tree, so has the text.
module _ (inner : Table → List Token → Option Tree) (below : Table → Option ℕ → ℕ → List Token → List Span) (k : ℕ)
    (hangs : (T : Table) (o : Option ℕ) (i : ℕ) (ts : List Token) → Nested ts → length ts < k → All HasTree (below T o i ts) → (t : Tree) × (inner T ts ≡ some t)) where
  item_spans-hang : (T : Table) (i : ℕ) (x : Item) → Inside k x → All HasTree (item_spans below T i x) → Hangs inner T x
  unfolding item_spans
  item_spans-hang T i (single t) n h = tt
  item_spans-hang T i (pair ts) n h = hangs T (some i) (suc i) ts n.0 (pair_within k ts n.1) h
  item_spans-hang T i (scope ds ts) n h =
      hangs (body_table T ds) (some (suc (i + length ds))) (suc (suc (i + length ds))) ts n.0.1 (scope_within k ds ts n.1) h

  all_item_spans-hang :
      (T : Table) (i : ℕ) (xs : List Item) → All (Inside k) xs → All HasTree (all_item_spans below T i xs) → All (Hangs inner T) xs
  unfolding all_item_spans
  all_item_spans-hang T i [] n h = tt
  all_item_spans-hang T i (x ∷ xs) n h =
      let here = item_spans below T i x in
      let rest = all_item_spans below T (i + length (item_tokens x)) xs in (
        item_spans-hang T i x n.0 (all_left HasTree here rest h),
        all_item_spans-hang T (i + length (item_tokens x)) xs n.1 (all_right HasTree here rest h),
      )

pub spans-hang :
    (k : ℕ) (T : Table) (o : Option ℕ) (i : ℕ) (ts : List Token) → Nested ts → length ts < k → All HasTree (spans k T o i ts)
    → (t : Tree) × (tree_in k T ts ≡ some t)
unfolding spans tree_in hang_found
spans-hang zero T o i ts n b h = absurd (omega arith)
spans-hang (suc k) T o i ts n b h =
    let s = h.0.0 in
    let q : climb T (items ts) ≡ some s = h.0.1 in
    let y = climb_yields T (items ts) s q in
    let g = all_item_spans-hang (tree_in k) (spans k) k (spans-hang k) T i (items ts) (inside_items k ts n (omega arith)) h.1 in
    let f = hang_some (tree_in k) T s (rw y g) in
    (f.0, ap (hang_found (tree_in k) T) q ∙ f.1)

-- The first span without a tree: those before it have one.
pub record Treeless (ss : List Span) (o : Option ℕ) : Type 0 where
  pub before : List Span
  pub span : Span
  pub after : List Span
  pub cut : ss ≡ before ++ span ∷ after
  pub opened : span.opener ≡ o
  pub earlier : All HasTree before
  pub without : climb span.table span.contents ≡ none

without_some :
    (s : Span) (ss : List Span) (o : Option ℕ) → (first_without ss ≡ some o → Treeless ss o)
    → (f : Option SpanTree) → climb s.table s.contents ≡ f → first_without (s ∷ ss) ≡ some o → Treeless (s ∷ ss) o
unfolding first_without
without_some s ss o h none q e =
    let f : some s.opener ≡ some o = rw (q, first_without) at e in
    record { before = []; span = s; after = ss; cut = refl; opened = cc; earlier = tt; without = q }
without_some s ss o h (some t) q e =
    let g = h (rw (q, first_without) at e) in
    record {
      before = s ∷ g.before;
      span = g.span;
      after = g.after;
      cut = ap (λ z. s ∷ z) g.cut;
      opened = g.opened;
      earlier = ((t, q), g.earlier);
      without = g.without;
    }

pub first_without_some : (ss : List Span) (o : Option ℕ) → first_without ss ≡ some o → Treeless ss o
unfolding first_without
first_without_some [] o e = impossible cc
first_without_some (s ∷ ss) o e = without_some s ss o (first_without_some ss o) (climb s.table s.contents) refl e

-- The search of it stops at the token at which the tokens are lost.
pub lost_behind :
    (before : List Span) (s : Span) (after : List Span) → All HasTree before → climb s.table s.contents ≡ none
    → search s.table (start_of s.opener) s.contents ≡ stops (lost_token (before ++ s ∷ after))
unfolding lost_token
lost_behind [] s after h e =
    let (k, f) = stops_somewhere s.table (start_of s.opener) s.contents e in
    f ∙ ap stops (rw (f, lost_token))
lost_behind (b ∷ before) s after h e =
    lost_behind before s after h.1 e
    ∙ ap stops (rw (found_anywhere b.table (start_of b.opener) b.contents h.0.0 h.0.1, lost_token))

-- The operators of every span of a text past checks 6 to 10 and 17 keep the overloading rule.
abbrev pub LawfulSpan : Span → Type 0
LawfulSpan s = Permitted s.table × Positive s.table

module _ (below : Table → Option ℕ → ℕ → List Token → List Span) (j : ℕ)
    (lawful : (T : Table) (o : Option ℕ) (i n : ℕ) (ts : List Token) → Permitted T × Positive T → Nested ts → length ts < j
    → check_blocks j T n ts ≡ passed tt → All LawfulSpan (below T o i ts)) where
  item_spans-lawful : (T : Table) (i : ℕ) (x : Item) → Permitted T × Positive T → Inside j x × CheckedBy (check_blocks j) T x → All LawfulSpan (item_spans below T i x)
  unfolding item_spans body_table
  item_spans-lawful T i (single t) c k = tt
  item_spans-lawful T i (pair ts) c k = lawful T (some i) (suc i) k.1.0 ts c k.0.0 (pair_within j ts k.0.1) k.1.1
  item_spans-lawful T i (scope ds ts) c k =
      let g = enter_sound T k.1.0 ds k.1.1 k.1.3 in
      let e : k.1.1 ≡ declare_all T (declarations ds) = g.2 in
      lawful (declare_all T (declarations ds)) (some (suc (i + length ds))) (suc (suc (i + length ds))) k.1.2 ts
      (rw e at (permitted_sound k.1.1 g.3), positive_declared T (declarations ds) c.1 g.1) k.0.0.1 (scope_within j ds ts k.0.1) (rw e at k.1.4)

  all_item_spans-lawful :
      (T : Table) (i : ℕ) (xs : List Item) → Permitted T × Positive T → All (λ x. Inside j x × CheckedBy (check_blocks j) T x) xs
      → All LawfulSpan (all_item_spans below T i xs)
  unfolding all_item_spans
  all_item_spans-lawful T i [] c k = tt
  all_item_spans-lawful T i (x ∷ xs) c k =
      all_append LawfulSpan (item_spans below T i x) (all_item_spans below T (i + length (item_tokens x)) xs)
      (item_spans-lawful T i x c k.0) (all_item_spans-lawful T (i + length (item_tokens x)) xs c k.1)

pub spans-lawful :
    (k j : ℕ) (T : Table) (o : Option ℕ) (i n : ℕ) (ts : List Token)
    → Permitted T × Positive T → Nested ts → length ts < j → check_blocks j T n ts ≡ passed tt → All LawfulSpan (spans k T o i ts)
unfolding spans
spans-lawful zero j T o i n ts c h b e = tt
spans-lawful (suc k) zero T o i n ts c h b e = absurd (omega arith)
spans-lawful (suc k) (suc j) T o i n ts c h b e =
    (c, all_item_spans-lawful (spans k) j (spans-lawful k j) T i (items ts) c (known_items j T n ts h (omega arith) e))
