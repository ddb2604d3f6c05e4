-- A text's blocks and spans in order: refusals 8 to 11 and 17, and the tree of a text. Places are token numbers.
use Rattle.std.specs.Prelude.{List, [], ◌∷◌, ◌++◌, ℕ, zero, suc, ◌+◌, length}
use Rattle.std.proofs.Math.Option.{Option, none, some}
use Rattle.grammar.specs.Bytes.{Bytes}
use Rattle.grammar.specs.Token.{Token}
use Rattle.grammar.specs.Outcome.{Outcome, passed, and_then}
use Rattle.grammar.specs.Operator.{Table}
use Rattle.grammar.specs.Declaration.{Declaration, declare_all, declarations, enter}
use Rattle.grammar.specs.Span.{Item, single, pair, scope, item_tokens, items}
use Rattle.grammar.specs.Spans.{Span, start_of}
use Rattle.grammar.specs.SpanTree.{SpanTree, missing, operand, apply}
use Rattle.grammar.specs.Tree.{Tree, nothing, leaf, bracket, block, node}
use Rattle.grammar.specs.Climb.{found, stops, search, climb}

-- The operators in force in the body of a block with the declarations `ds`.
unfoldable pub body_table : Table → List Token → Table
body_table T ds = declare_all T (declarations ds)

-- "then blocks by their `let`, each declaration complete .. (8, then 9), then 10", 17 between 8 and 9. The first number is fuel: no
-- less than the depth. `i` is the number of the first token.
module _ (inner : Table → ℕ → List Token → Outcome (Unit {0})) where
  unfoldable pub check_item : Table → ℕ → Item → Outcome (Unit {0})
  check_item T i (single a) = passed tt
  check_item T i (pair ts) = inner T (suc i) ts
  check_item T i (scope ds ts) =
      and_then (enter (length ds) T (suc i) ds) (λ U. inner U (suc (suc (i + length ds))) ts)

  unfoldable pub check_items : Table → ℕ → List Item → Outcome (Unit {0})
  check_items T i [] = passed tt
  check_items T i (x ∷ xs) = and_then (check_item T i x) (λ u. check_items T (i + length (item_tokens x)) xs)

unfoldable pub check_blocks : ℕ → Table → ℕ → List Token → Outcome (Unit {0})
check_blocks zero T i ts = passed tt
check_blocks (suc k) T i ts = check_items (check_blocks k) T i (items ts)

-- The spans of a text by their start: the outermost, then those of its items in order.
module _ (inner : Table → Option ℕ → ℕ → List Token → List Span) where
  unfoldable pub item_spans : Table → ℕ → Item → List Span
  item_spans T i (single a) = []
  item_spans T i (pair ts) = inner T (some i) (suc i) ts
  item_spans T i (scope ds ts) = inner (body_table T ds) (some (suc (i + length ds))) (suc (suc (i + length ds))) ts

  unfoldable pub all_item_spans : Table → ℕ → List Item → List Span
  all_item_spans T i [] = []
  all_item_spans T i (x ∷ xs) = item_spans T i x ++ all_item_spans T (i + length (item_tokens x)) xs

unfoldable pub spans : ℕ → Table → Option ℕ → ℕ → List Token → List Span
spans zero T o i ts = []
spans (suc k) T o i ts =
    record { opener = o; table = T; contents = items ts } ∷ all_item_spans (spans k) T i (items ts)

-- "11 for the first span by its start": the opener of the first span without a tree, if there is one.
unfoldable pub first_without : List Span → Option (Option ℕ)
first_without [] = none
first_without (s ∷ ss) = elim (climb s.table s.contents) [ none ↦ some s.opener | some t ↦ first_without ss ]

-- Its place: "0, the `(`, or the `in`" (none for the whole text).
unfoldable pub treeless_opener : List Span → Option ℕ
treeless_opener ss = elim (first_without ss) [ none ↦ none | some o ↦ o ]

-- Where the tokens of that span are lost: the token at which the search stops.
unfoldable pub lost_token : List Span → ℕ
lost_token [] = 0
lost_token (s ∷ ss) = elim (search s.table (start_of s.opener) s.contents) [ found t ↦ lost_token ss | stops n ↦ n ]

-- The tree of a text: the tree of its outermost span, with the trees of the inner ones hung under their brackets and blocks.
unfoldable pub under_bracket : Option Tree → Option Tree
under_bracket none = none
under_bracket (some t) = some (bracket t)

unfoldable pub under_block : List Declaration → Option Tree → Option Tree
under_block ds none = none
under_block ds (some t) = some (block ds t)

unfoldable pub under_operator : Bytes → Option Tree → Option Tree → Option Tree
under_operator m none r = none
under_operator m (some l) none = none
under_operator m (some l) (some r) = some (node l m r)

module _ (inner : Table → List Token → Option Tree) where
  unfoldable pub hang_item : Table → Item → Option Tree
  hang_item T (single a) = some (leaf a)
  hang_item T (pair ts) = under_bracket (inner T ts)
  hang_item T (scope ds ts) = under_block (declarations ds) (inner (body_table T ds) ts)

  unfoldable pub hang : Table → SpanTree → Option Tree
  hang T missing = some nothing
  hang T (operand i) = hang_item T i
  hang T (apply l m r) = under_operator m (hang T l) (hang T r)

  unfoldable pub hang_found : Table → Option SpanTree → Option Tree
  hang_found T none = none
  hang_found T (some s) = hang T s

unfoldable pub tree_in : ℕ → Table → List Token → Option Tree
tree_in zero T ts = none
tree_in (suc k) T ts = hang_found (tree_in k) T (climb T (items ts))

-- The tree of a list of tokens under the operators `T`, if there is one.
unfoldable pub tree_of : Table → List Token → Option Tree
tree_of T ts = tree_in (suc (length ts)) T ts
