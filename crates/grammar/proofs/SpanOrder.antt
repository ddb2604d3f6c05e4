-- The spans of a text stand in the order of their starts, so the first one without a tree is the first by its start.
-- The items of a span stand one behind the other and together are its tokens: of nested tokens nothing is lost. So the spans inside
-- an item start within that item, and those of a later item start later.
use mathlib.Core.Path.{◌≡◌, refl, ap, ◌∙◌}
use mathlib.Core.List.{List, [], ◌∷◌, ◌++◌, Memᴰ}
use mathlib.Core.Option.{Option, none, some}
use Prim.Native.Nat.{ℕ, zero, suc, ◌+◌, ◌≤◌, ◌<◌}
use native.Mathlib.Omega.{arith}
use lib.ListN.{length, length-append}
use Rattle.grammar.specs.Spans.{Span, start_of}
use Rattle.grammar.specs.Token.{structure, Token, closing, keyword_in, keyword_end}
use Rattle.grammar.specs.Outcome.{passed}
use Rattle.grammar.specs.Operator.{Table}
use Rattle.grammar.specs.Nesting.{nesting}
use Rattle.grammar.specs.Span.{Item, single, pair, scope, item_tokens, items, all_item_tokens}
use Rattle.grammar.specs.SpanTree.{SpanTree}
use Rattle.grammar.specs.Climb.{climb}
use Rattle.grammar.specs.Blocks.{body_table, item_spans, all_item_spans, spans, first_without, treeless_opener}
use Rattle.grammar.specs.Bytes.{All}
use Rattle.grammar.proofs.Lists.{all_append, all_map, all_member}
use Rattle.grammar.proofs.Logic.{impossible}
use Rattle.grammar.proofs.ItemsNested.{ItemNested, AllNested, items_tokens, items_nested}

-- The starts ascend: the first is `low` or more, each further one is higher than the one before it, and all are below `high`.
abbrev pub Ascending : ℕ → ℕ → List Span → Type 0
Ascending low high [] = low ≤ high
Ascending low high (s ∷ ss) = (low ≤ start_of s.opener) × Ascending (suc (start_of s.opener)) high ss

ascending_wider : {low low' high high' : ℕ} (ss : List Span) → low' ≤ low → high ≤ high' → Ascending low high ss → Ascending low' high' ss
ascending_wider [] l h a = omega arith
ascending_wider (s ∷ ss) l h a = (omega arith, ascending_wider ss (omega arith) h a.1)

ascending_append : (low mid high : ℕ) (xs ys : List Span) → Ascending low mid xs → Ascending mid high ys → Ascending low high (xs ++ ys)
ascending_append low mid high [] ys a b = ascending_wider ys a (omega arith) b
ascending_append low mid high (s ∷ xs) ys a b = (a.0, ascending_append (suc (start_of s.opener)) mid high xs ys a.1 b)

-- For nested tokens `inner` gives spans that start from the span's own start on and no later than behind its last token.
abbrev Ordered : (Table → Option ℕ → ℕ → List Token → List Span) → Type 0
Ordered inner =
    (T : Table) (o : Option ℕ) (ts : List Token) (i : ℕ) → nesting [] i ts ≡ passed tt
    → Ascending (start_of o) (suc (start_of o + length ts)) (inner T o (start_of o) ts)

module _ (inner : Table → Option ℕ → ℕ → List Token → List Span) (ordered : Ordered inner) where
  -- The spans inside an item at token `i` start within it.
  item_ordered : (T : Table) (i : ℕ) (x : Item) → ItemNested x → Ascending (suc i) (suc (i + length (item_tokens x))) (item_spans inner T i x)
  unfolding item_spans item_tokens
  item_ordered T i (single t) n = omega arith
  item_ordered T i (pair ts) n =
      let e = length-append ts (structure closing ∷ []) in
      ascending_wider (inner T (some i) (suc i) ts) (omega arith) (omega arith) (ordered T (some i) ts 0 (n 0))
  item_ordered T i (scope ds ts) n =
      let e = length-append (ds ++ structure keyword_in ∷ ts) (structure keyword_end ∷ []) in
      let f = length-append ds (structure keyword_in ∷ ts) in
      let j = suc (i + length ds) in
      ascending_wider (inner (body_table T ds) (some j) (suc j) ts) (omega arith) (omega arith) (ordered (body_table T ds) (some j) ts 0 (n.1 0))

  -- So the spans inside items that stand one behind the other, the first at token `i`, are in order.
  items_ordered : (T : Table) (i : ℕ) (xs : List Item) → AllNested xs → Ascending (suc i) (suc (i + length (all_item_tokens xs))) (all_item_spans inner T i xs)
  unfolding all_item_spans all_item_tokens
  items_ordered T i [] n = omega arith
  items_ordered T i (x ∷ xs) n =
      let e = length-append (item_tokens x) (all_item_tokens xs) in
      let j = i + length (item_tokens x) in
      let later = all_item_spans inner T j xs in
      ascending_append (suc i) (suc j) (suc (i + length (item_tokens x ++ all_item_tokens xs))) (item_spans inner T i x) later (item_ordered T i x n.0)
      (ascending_wider later (omega arith) (omega arith) (items_ordered T j xs n.1))

-- The spans of a span's nested tokens are in order: first itself, then those inside its items.
pub spans_ordered : (k : ℕ) → Ordered (spans k)
unfolding spans
spans_ordered zero T o ts i n = omega arith
spans_ordered (suc k) T o ts i n =
    (omega arith, rw (items_tokens ts i n) at (items_ordered (spans k) (spans_ordered k) T (start_of o) (items ts) (items_nested ts i n)))

-- No span of an ascending list starts before its lower bound.
ascending_member : {s : Span} (low high : ℕ) {ss : List Span} → Memᴰ s ss → Ascending low high ss → low ≤ start_of s.opener
ascending_member low high (Memᴰ.head e) a = rw e a.0
ascending_member low high (Memᴰ.tail {x = x} m) a =
    let h = ascending_member (suc (start_of x.opener)) high m a.1 in
    omega arith

-- .. or behind its upper bound.
ascending_bound : (low high : ℕ) (ss : List Span) → Ascending low high ss → low ≤ high
ascending_bound low high [] a = a
ascending_bound low high (s ∷ ss) a = let h = ascending_bound (suc (start_of s.opener)) high ss a.1 in omega (arith, a.0)

ascending_below : {s : Span} (low high : ℕ) {ss : List Span} → Memᴰ s ss → Ascending low high ss → start_of s.opener < high
ascending_below low high (Memᴰ.head {x = x} {xs = xs} e) a =
    let h = ascending_bound (suc (start_of x.opener)) high xs a.1 in
    rw e (omega arith)
ascending_below low high (Memᴰ.tail {x = x} m) a = ascending_below (suc (start_of x.opener)) high m a.1

-- The opener of a span of a text is one of its tokens.
pub opener_within : (k : ℕ) (T : Table) (ts : List Token) → nesting [] 0 ts ≡ passed tt → (s : Span) → Memᴰ s (spans k T none 0 ts)
    → start_of s.opener ≤ length ts
opener_within k T ts n s m = omega (arith, ascending_below 0 (suc (0 + length ts)) m (spans_ordered k T none ts 0 n))

-- Two spans that start at one token are the same.
ascending_same :
    {s r : Span} (low high : ℕ) {ss : List Span} → Memᴰ s ss → Memᴰ r ss → Ascending low high ss
    → start_of s.opener ≡ start_of r.opener → s ≡ r
ascending_same low high (Memᴰ.head e) (Memᴰ.head f) a q = cc
ascending_same low high (Memᴰ.head {x = x} e) (Memᴰ.tail m) a q =
    absurd (omega (arith, ascending_member (suc (start_of x.opener)) high m a.1, ap (λ s. start_of s.opener) e))
ascending_same low high (Memᴰ.tail {x = x} m) (Memᴰ.head f) a q =
    absurd (omega (arith, ascending_member (suc (start_of x.opener)) high m a.1, ap (λ s. start_of s.opener) f))
ascending_same low high (Memᴰ.tail {x = x} m) (Memᴰ.tail n) a q = ascending_same (suc (start_of x.opener)) high m n a.1 q

pub same_span :
    (k : ℕ) (T : Table) (ts : List Token) → nesting [] 0 ts ≡ passed tt → (s r : Span) → Memᴰ s (spans k T none 0 ts)
    → Memᴰ r (spans k T none 0 ts) → start_of s.opener ≡ start_of r.opener → s ≡ r
same_span k T ts n s r m l = ascending_same 0 (suc (0 + length ts)) m l (spans_ordered k T none ts 0 n)

-- The items of a span end within the text.
abbrev EndsBy : ℕ → Span → Type 0
EndsBy high s = start_of s.opener + length (all_item_tokens s.contents) ≤ high

ends_later : {low high : ℕ} (ss : List Span) → low ≤ high → All (EndsBy low) ss → All (EndsBy high) ss
ends_later {low} {high} ss l = all_map (EndsBy low) (EndsBy high) (λ s a. omega arith) ss

abbrev Ends : (Table → Option ℕ → ℕ → List Token → List Span) → Type 0
Ends inner =
    (T : Table) (o : Option ℕ) (ts : List Token) (i : ℕ) → nesting [] i ts ≡ passed tt
    → All (EndsBy (start_of o + length ts)) (inner T o (start_of o) ts)

module _ (inner : Table → Option ℕ → ℕ → List Token → List Span) (ends : Ends inner) where
  item_ends : (T : Table) (i : ℕ) (x : Item) → ItemNested x → All (EndsBy (i + length (item_tokens x))) (item_spans inner T i x)
  unfolding item_spans item_tokens
  item_ends T i (single t) n = tt
  item_ends T i (pair ts) n =
      let e = length-append ts (structure closing ∷ []) in
      ends_later (inner T (some i) (suc i) ts) (omega arith) (ends T (some i) ts 0 (n 0))
  item_ends T i (scope ds ts) n =
      let e = length-append (ds ++ structure keyword_in ∷ ts) (structure keyword_end ∷ []) in
      let f = length-append ds (structure keyword_in ∷ ts) in
      let j = suc (i + length ds) in
      ends_later (inner (body_table T ds) (some j) (suc j) ts) (omega arith) (ends (body_table T ds) (some j) ts 0 (n.1 0))

  items_end : (T : Table) (i : ℕ) (xs : List Item) → AllNested xs → All (EndsBy (i + length (all_item_tokens xs))) (all_item_spans inner T i xs)
  unfolding all_item_spans all_item_tokens
  items_end T i [] n = tt
  items_end T i (x ∷ xs) n =
      let e = length-append (item_tokens x) (all_item_tokens xs) in
      let j = i + length (item_tokens x) in
      all_append (EndsBy (i + length (item_tokens x ++ all_item_tokens xs))) (item_spans inner T i x) (all_item_spans inner T j xs)
      (ends_later (item_spans inner T i x) (omega arith) (item_ends T i x n.0))
      (ends_later (all_item_spans inner T j xs) (omega arith) (items_end T j xs n.1))

spans_end : (k : ℕ) → Ends (spans k)
unfolding spans
spans_end zero T o ts i n = tt
spans_end (suc k) T o ts i n =
    let e = items_tokens ts i n in
    (omega (arith, ap length e), rw e at (items_end (spans k) (spans_end k) T (start_of o) (items ts) (items_nested ts i n)))

pub span_within :
    (k : ℕ) (T : Table) (ts : List Token) → nesting [] 0 ts ≡ passed tt → (s : Span) → Memᴰ s (spans k T none 0 ts)
    → start_of s.opener + length (all_item_tokens s.contents) ≤ length ts
span_within k T ts n s m = omega (arith, all_member (EndsBy (0 + length ts)) m (spans_end k T none ts 0 n))

-- The first span without a tree, by the tree of the first span.
first_without_here : (x : Span) (ss : List Span) (o : Option ℕ) → climb x.table x.contents ≡ none → first_without (x ∷ ss) ≡ some o → o ≡ x.opener
unfolding first_without
first_without_here x ss o t e = let f : some x.opener ≡ some o = rw (t, first_without) at e in cc

first_without_later : (x : Span) (ss : List Span) (o : Option ℕ) (t : SpanTree) → climb x.table x.contents ≡ some t
    → first_without (x ∷ ss) ≡ some o → first_without ss ≡ some o
unfolding first_without
first_without_later x ss o t h e = rw (h, first_without) at e

-- No span without a tree starts before the first one of an ascending list.
first_ascending : {s : Span} (low high : ℕ) {ss : List Span} → Memᴰ s ss → Ascending low high ss → climb s.table s.contents ≡ none
    → (o : Option ℕ) → first_without ss ≡ some o → start_of o ≤ start_of s.opener
first_ascending low high (Memᴰ.head {x = x} {xs = xs} e) a t o f = rw (first_without_here x xs o (rw e at t) f, e) (omega arith)
first_ascending {s} low high (Memᴰ.tail {x = x} {xs = xs} m) a t o f =
    split (first_ascending (suc (start_of x.opener)) high m a.1 t o) (climb x.table x.contents) refl
  where
    split : (first_without xs ≡ some o → start_of o ≤ start_of s.opener) → (r : Option SpanTree) → climb x.table x.contents ≡ r
        → start_of o ≤ start_of s.opener
    split later none h =
        let l = ascending_member (suc (start_of x.opener)) high m a.1 in
        rw (first_without_here x xs o h f) (omega arith)
    split later (some r) h = later (first_without_later x xs o r h f)

-- "11 for the first span by its start": the span that the search names first starts no later than any other span without a tree.
pub first_by_start : (k : ℕ) (T : Table) (ts : List Token) → nesting [] 0 ts ≡ passed tt → (o : Option ℕ) → first_without (spans k T none 0 ts) ≡ some o
    → (s : Span) → Memᴰ s (spans k T none 0 ts) → climb s.table s.contents ≡ none → start_of o ≤ start_of s.opener
first_by_start k T ts n o f s m t = first_ascending 0 (suc (0 + length ts)) m (spans_ordered k T none ts 0 n) t o f

-- Its opener is one of the tokens.
first_below : (low high : ℕ) (ss : List Span) → Ascending low high ss → (o : Option ℕ) → first_without ss ≡ some o → start_of o < high
unfolding first_without
first_below low high [] a o f = impossible cc
first_below low high (x ∷ ss) a o f = go (climb x.table x.contents) refl (first_below (suc (start_of x.opener)) high ss a.1 o)
  where
    go : (r : Option SpanTree) → climb x.table x.contents ≡ r → (first_without ss ≡ some o → start_of o < high) → start_of o < high
    go none h later = rw (first_without_here x ss o h f) (omega (arith, ascending_bound (suc (start_of x.opener)) high ss a.1))
    go (some r) h later = later (first_without_later x ss o r h f)

pub treeless-within : (k : ℕ) (T : Table) (ts : List Token) → nesting [] 0 ts ≡ passed tt → (i : ℕ) → treeless_opener (spans k T none 0 ts) ≡ some i
    → i < length ts
unfolding treeless_opener
treeless-within k T ts n i e = go (first_without (spans k T none 0 ts)) refl
  where
    go : (o : Option (Option ℕ)) → first_without (spans k T none 0 ts) ≡ o → i < length ts
    go none f = let z : none ≡ some i = rw (f, treeless_opener) at e in impossible cc
    go (some o) f =
        let z : o ≡ some i = rw (f, treeless_opener) at e in
        omega (arith, first_below 0 (suc (0 + length ts)) (spans k T none 0 ts) (spans_ordered k T none ts 0 n) (some i) (f ∙ ap some z))
