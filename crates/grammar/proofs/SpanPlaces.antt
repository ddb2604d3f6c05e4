-- Where a tree stands in a text: in a span of the text, under the operators in force there, with items before and behind it. A whole tree
-- stands in the whole text; what is inside a bracket pair or a block stands in the span of that; an operand beside its operator.
use mathlib.Core.Path.{◌≡◌, refl, sym, ap, subst, ◌∙◌}
use mathlib.Core.List.{List, [], ◌∷◌, ◌++◌, append_assoc, append-nil}
use Prim.Native.Nat.{ℕ, suc, ◌+◌, ◌≤◌}
use native.Mathlib.Omega.{arith}
use lib.ListN.{length, length-append}
use Rattle.grammar.specs.Bytes.{Bytes}
use Rattle.grammar.specs.Token.{Token, atom, structure, symbol, closing, keyword_in, keyword_end}
use Rattle.grammar.specs.Operator.{Table}
use Rattle.grammar.specs.Declaration.{Declaration, start_table, declare_all, all_tokens}
use Rattle.grammar.specs.Span.{Item, single, item_tokens, all_item_tokens, ItemsOf, empty, own, inner, body}
use Rattle.grammar.specs.Spans.{Span, number_behind, whole_span, pair_span, body_span, SpanIn, itself, in_pair, in_body, SpanOf}
use Rattle.grammar.specs.SpanTree.{yield}
use Rattle.grammar.specs.Tree.{Tree, nothing, leaf, bracket, block, node, flat, span_tree}
use Rattle.grammar.proofs.WordsOffsets.{bracket_size, block_size, node-size}
use Rattle.grammar.proofs.Items.{declarations_quiet}
use Rattle.grammar.proofs.ItemsRelation.{items_flat_tokens}
use Rattle.grammar.proofs.ItemsNested.{append_tokens}

-- The items of a tree's tokens are those of its outermost span.
items-append : {us vs : List Token} {xs ys : List Item} → ItemsOf us xs → ItemsOf vs ys → ItemsOf (us ++ vs) (xs ++ ys)
items-append empty h = h
items-append (own g) h = own (items-append g h)
items-append {vs = vs} (inner {us} {ts} g k) h = rw (append_assoc us (structure closing ∷ ts) vs) (inner g (items-append k h))
items-append {vs = vs} (body {ds} {us} {ts} q g k) h =
    rw (append_assoc (ds ++ structure keyword_in ∷ us) (structure keyword_end ∷ ts) vs) (body q g (items-append k h))

tree_items : (t : Tree) → ItemsOf (flat t) (yield (span_tree t))
unfolding flat yield span_tree
tree_items nothing = empty
tree_items (leaf a) = own empty
tree_items (bracket t) = inner (tree_items t) empty
tree_items (block ds t) = body (declarations_quiet ds) (tree_items t) empty
tree_items (node l m r) = items-append (tree_items l) (own (tree_items r))

tree_tokens : (t : Tree) → all_item_tokens (yield (span_tree t)) ≡ flat t
tree_tokens t = items_flat_tokens (flat t) (yield (span_tree t)) (tree_items t)

-- A span in a span of a span.
deeper : {s r q : Span} → SpanIn s r → SpanIn r q → SpanIn s q
deeper itself h = h
deeper (in_pair xs us ys ks e i g) h = in_pair xs us ys ks e i (deeper g h)
deeper (in_body xs ds us ys ks e i g) h = in_body xs ds us ys ks e i (deeper g h)

span_deeper : {ts : List Token} {s r : Span} → SpanOf ts s → SpanIn s r → SpanOf ts r
span_deeper (is, h, g) k = (is, h, deeper g k)

-- The tree `t` stands in a text with the tokens `ts`, its first token at number `i`, under the operators `T`.
pub record InSpan (ts : List Token) (T : Table) (t : Tree) (i : ℕ) : Type 0 where
  pub span : Span
  pub among : SpanOf ts span
  pub table : span.table ≡ T
  pub before : List Item
  pub after : List Item
  pub cut : span.contents ≡ before ++ (yield (span_tree t) ++ after)
  pub number : number_behind span before ≡ i
  pub within : i + length (flat t) ≤ length ts

-- It is all that a span has.
alone : {ts : List Token} {T : Table} {t : Tree} {i : ℕ} (s : Span) → SpanOf ts s → s.table ≡ T → s.contents ≡ yield (span_tree t)
    → number_behind s [] ≡ i → i + length (flat t) ≤ length ts → InSpan ts T t i
alone {t = t} s among e c n w = record {
  span = s;
  among = among;
  table = e;
  before = [];
  after = [];
  cut = c ∙ sym (append-nil (yield (span_tree t)));
  number = n;
  within = w;
}

pub in_text_lem : {ts : List Token} {t : Tree} → flat t ≡ ts → InSpan ts start_table t 0
unfolding all_item_tokens
in_text_lem {t = t} e =
    let is = yield (span_tree t) in
    alone (whole_span is) (is, subst (λ us. ItemsOf us is) e (tree_items t), itself) refl refl refl (omega (arith, ap length e))

module _ {ts : List Token} {T : Table} {i : ℕ} where
  pub in_pair_lem : {t : Tree} → InSpan ts T (bracket t) i → InSpan ts T t (suc i)
  unfolding all_item_tokens yield span_tree
  in_pair_lem {t} h =
      let ks = yield (span_tree t) in
      alone (pair_span h.span h.before ks)
      (span_deeper h.among (in_pair h.before (flat t) h.after ks h.cut (tree_items t) itself))
      h.table refl (omega (arith, h.number)) (omega (arith, h.within, bracket_size t))

  pub in_body_lem :
      {ds : List Declaration} {t : Tree} → InSpan ts T (block ds t) i → InSpan ts (declare_all T ds) t (suc (suc (i + length (all_tokens ds))))
  unfolding all_item_tokens yield span_tree
  in_body_lem {ds} {t} h =
      let ks = yield (span_tree t) in
      alone (body_span h.span h.before ds ks)
      (span_deeper h.among (in_body h.before ds (flat t) h.after ks h.cut (tree_items t) itself))
      (ap (λ U. declare_all U ds) h.table) refl (omega (arith, h.number)) (omega (arith, h.within, block_size ds t))

  -- An operator and its operands.
  module _ {l : Tree} {m : Bytes} {r : Tree} (h : InSpan ts T (node l m r) i) where
    abbrev on_the_left : List Item
    on_the_left = yield (span_tree l)

    abbrev on_the_right : List Item
    on_the_right = yield (span_tree r) ++ h.after

    around : h.span.contents ≡ h.before ++ (on_the_left ++ single (symbol m) ∷ on_the_right)
    unfolding yield span_tree
    around = h.cut ∙ ap (λ is. h.before ++ is) (append_assoc on_the_left (single (symbol m) ∷ yield (span_tree r)) h.after)

    pub operator_cut : h.span.contents ≡ (h.before ++ yield (span_tree l)) ++ single (symbol m) ∷ (yield (span_tree r) ++ h.after)
    operator_cut = around ∙ sym (append_assoc h.before on_the_left (single (symbol m) ∷ on_the_right))

    pub operator_number : number_behind h.span (h.before ++ yield (span_tree l)) ≡ i + length (flat l)
    operator_number =
        rw (append_tokens h.before on_the_left, tree_tokens l)
        (omega (arith, h.number, length-append (all_item_tokens h.before) (flat l)))

    pub in_left : InSpan ts T l i
    in_left = record {
      span = h.span;
      among = h.among;
      table = h.table;
      before = h.before;
      after = single (symbol m) ∷ on_the_right;
      cut = around;
      number = h.number;
      within = omega (arith, h.within, node-size l m r);
    }

    pub in_right : InSpan ts T r (suc (i + length (flat l)))
    unfolding all_item_tokens item_tokens
    in_right = record {
      span = h.span;
      among = h.among;
      table = h.table;
      before = (h.before ++ on_the_left) ++ single (symbol m) ∷ [];
      after = h.after;
      cut = operator_cut ∙ sym (append_assoc (h.before ++ on_the_left) (single (symbol m) ∷ []) on_the_right);
      number = behind;
      within = omega (arith, h.within, node-size l m r);
    }
      where
        behind : number_behind h.span ((h.before ++ on_the_left) ++ single (symbol m) ∷ []) ≡ suc (i + length (flat l))
        behind =
            rw (append_tokens (h.before ++ on_the_left) (single (symbol m) ∷ []))
            (omega (arith, operator_number, length-append (all_item_tokens (h.before ++ on_the_left)) (atom (symbol m) ∷ [])))
