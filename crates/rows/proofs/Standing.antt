-- Where the parts of a tree stand among the tokens of a row. Items that agree with a row can be split where a part of them ends; so each
-- subtree has its own range, and its brackets and blocks are closed where its tokens say.
use mathlib.Core.Path.{◌≡◌, refl, sym, ap, subst, ◌∙◌}
use mathlib.Core.List.{List, [], ◌∷◌, ◌++◌, append-nil, append_assoc}
use Prim.Native.Nat.{ℕ, suc, ◌+◌, ◌≤◌, ◌<◌}
use native.Mathlib.Omega.{arith}
use lib.ListN.{length, length-append}
use Rattle.grammar.specs.Bytes.{Bytes}
use Rattle.grammar.specs.Token.{Token, Atom, structure, symbol, opening, keyword_let}
use Rattle.grammar.specs.Operator.{Table}
use Rattle.grammar.specs.Declaration.{declarations, all_tokens}
use Rattle.grammar.specs.Blocks.{body_table}
use Rattle.grammar.specs.SpanTree.{yield}
use Rattle.grammar.specs.Tree.{Tree, nothing, leaf, bracket, block, node, flat, span_tree}
use Rattle.grammar.specs.Span.{Item, item_tokens, all_item_tokens, items}
use Rattle.grammar.specs.Span as Span
use Rattle.grammar.proofs.Logic.{impossible}
use Rattle.rows.specs.Fields.{TokenRow, NoteRow, kind, closer, arrival}
use Rattle.rows.specs.Codes.{Bounded}
use Rattle.rows.specs.Tokens.{range, atom_in, IsAtomKind}
use Rattle.rows.specs.Agreeing.{Noted, Agrees, ends, atoms, brackets, blocks}
use Rattle.rows.proofs.PairedItems.{items_done, items_single, items_bracket, items_block, behind_pair, behind_scope}
use Rattle.rows.proofs.PairedCases.{paired_ordered, agrees_paired}

pub agrees_ordered : {text : Bytes} {K : TokenRow} {R : NoteRow} {T : Table} {i to : ℕ} → Agrees text K R T i to → i ≤ to
agrees_ordered p = paired_ordered (agrees_paired p)

module _ (text : Bytes) (K : TokenRow) (R : NoteRow) where
  -- The items `xs` at the front stand from `i` to `at`, the items `ys` behind them from `at` to `to`.
  pub record Split (T : Table) (i at to : ℕ) (xs ys : List Item) : Type 0 where
    pub place : at ≡ i + length (all_item_tokens xs)
    pub front : Agrees text K R T i at
    pub back : Agrees text K R T at to
    pub first : items (range text K i at) ≡ xs
    pub second : items (range text K at to) ≡ ys

  -- One item more at the front: it ends before `next`.
  place_next :
      (i next at : ℕ) (x : Item) (xs : List Item) → i + length (item_tokens x) ≡ next → at ≡ next + length (all_item_tokens xs)
      → at ≡ i + length (all_item_tokens (x ∷ xs))
  unfolding all_item_tokens
  place_next i next at x xs e f = omega (arith, length-append (item_tokens x) (all_item_tokens xs))

  more : (i next at to : ℕ) (T : Table) (x y : Item) (xs ys : List Item) → y ≡ x → i + length (item_tokens y) ≡ next
      → Split T next at to xs ys → Agrees text K R T i at → items (range text K i at) ≡ y ∷ items (range text K next at)
      → Split T i at to (x ∷ xs) ys
  more i next at to T x y xs ys e b s a f =
      record {
        place = place_next i next at x xs (ap (λ z. i + length (item_tokens z)) (sym e) ∙ b) s.place;
        front = a;
        back = s.back;
        first = f ∙ cc (e, s.first);
        second = s.second;
      }

  pub agrees_split :
      {T : Table} {i to : ℕ} → Agrees text K R T i to → (xs ys : List Item) → items (range text K i to) ≡ xs ++ ys
      → (at : ℕ) × Split T i at to xs ys
  unfolding item_tokens all_item_tokens
  agrees_split {T} {i} {to} p [] ys e =
      (i, record { place = omega arith; front = ends; back = p; first = items_done text K i; second = e })
  agrees_split (ends {to = to}) (x ∷ xs) ys e =
      let z : ◌≡◌ {A = List Item} [] (x ∷ (xs ++ ys)) = sym (items_done text K to) ∙ e in
      impossible cc
  agrees_split (atoms {T} {i} {to} l k n p) (x ∷ xs) ys e =
      let h = sym (items_single text K i to l k) ∙ e in
      let r = agrees_split p xs ys (cc h) in
      let o = agrees_ordered r.1.front in
      let m = items_single text K i r.0 (omega arith) k in
      (r.0, more i (suc i) r.0 to T x _ xs ys (cc h) (omega arith) r.1 (atoms (omega arith) k n r.1.front) m)
  agrees_split (brackets {T} {i} {to} c k w l m y a p q) (x ∷ xs) ys e =
      let h = sym (items_bracket text K i c to k l m y (agrees_paired p)) ∙ e in
      let r = agrees_split q xs ys (cc h) in
      let o = agrees_ordered r.1.front in (
        r.0,
        more i (suc c) r.0 to T x _ xs ys (cc h) (behind_pair text K i c l) r.1 (brackets c k w l (omega arith) y a p r.1.front)
            (items_bracket text K i c r.0 k l (omega arith) y (agrees_paired p)),
      )
  agrees_split (blocks {T} {i} {to} c d k w v l m n y z f a g b p q) (x ∷ xs) ys e =
      let h = sym (items_block text K i c d to k l m n y z f (agrees_paired p)) ∙ e in
      let r = agrees_split q xs ys (cc h) in
      let o = agrees_ordered r.1.front in (
        r.0,
        more i (suc d) r.0 to T x _ xs ys (cc h) (behind_scope text K i c d l m) r.1
            (blocks c d k w v l m (omega arith) y z f a g b p r.1.front)
            (items_block text K i c d r.0 k l m (omega arith) y z f (agrees_paired p)),
      )

  -- What stands where the first item is an atom, a bracket pair or a block.
  pub record AtomHere (T : Table) (i to : ℕ) (a : Atom) (ys : List Item) : Type 0 where
    pub within : i < to
    pub is_atom : IsAtomKind (kind K i)
    pub same : atom_in text K i ≡ a
    pub noted : Noted T R i a
    pub rest : Agrees text K R T (suc i) to
    pub others : items (range text K (suc i) to) ≡ ys

  pub record PairHere (T : Table) (i to : ℕ) (us : List Token) (ys : List Item) : Type 0 where
    pub at : ℕ
    pub is_opening : kind K i ≡ 4
    pub closes : closer K i ≡ at
    pub before : i < at
    pub within : at < to
    pub is_closing : kind K at ≡ 5
    pub inside : range text K (suc i) at ≡ us
    pub inner : Agrees text K R T (suc i) at

  pub record BlockHere (T : Table) (i to : ℕ) (ds us : List Token) (ys : List Item) : Type 0 where
    pub body : ℕ
    pub at : ℕ
    pub is_let : kind K i ≡ 7
    pub opens : closer K i ≡ body
    pub closes : closer K body ≡ at
    pub is_in : kind K body ≡ 8
    pub is_end : kind K at ≡ 9
    pub before : i < body
    pub between : body < at
    pub within : at < to
    pub declared : range text K (suc i) body ≡ ds
    pub inside : range text K (suc body) at ≡ us
    pub is_operand : arrival R i ≡ 0
    pub complete : all_tokens (declarations (range text K (suc i) body)) ≡ range text K (suc i) body
    pub bounded : Bounded (body_table T (range text K (suc i) body))
    pub inner : Agrees text K R (body_table T (range text K (suc i) body)) (suc body) at

  nothing_here : (to : ℕ) (x : Item) (ys : List Item) → items (range text K to to) ≡ x ∷ ys → ⊥
  nothing_here to x ys e =
      let z : ◌≡◌ {A = List Item} [] (x ∷ ys) = sym (items_done text K to) ∙ e in
      impossible cc

  pub atom_here : {T : Table} {i to : ℕ} → Agrees text K R T i to → (a : Atom) (ys : List Item) → items (range text K i to) ≡ Span.single a ∷ ys
      → AtomHere T i to a ys
  atom_here (ends {to = to}) a ys e = absurd (nothing_here to _ ys e)
  atom_here (atoms {T} {i} {to} l k n p) a ys e =
      let h = sym (items_single text K i to l k) ∙ e in
      let g : atom_in text K i ≡ a = cc h in
      record { within = l; is_atom = k; same = g; noted = subst (Noted T R i) g n; rest = p; others = cc h }
  atom_here (brackets {T} {i} {to} c k w l m y z p q) a ys e =
      let h = sym (items_bracket text K i c to k l m y (agrees_paired p)) ∙ e in
      impossible cc
  atom_here (blocks {T} {i} {to} c d k w v l m n y z f o g b p q) a ys e =
      let h = sym (items_block text K i c d to k l m n y z f (agrees_paired p)) ∙ e in
      impossible cc

  pub pair_here : {T : Table} {i to : ℕ} → Agrees text K R T i to → (us : List Token) (ys : List Item) → items (range text K i to) ≡ Span.pair us ∷ ys
      → PairHere T i to us ys
  pair_here (ends {to = to}) us ys e = absurd (nothing_here to _ ys e)
  pair_here (atoms {T} {i} {to} l k n p) us ys e =
      let h = sym (items_single text K i to l k) ∙ e in
      impossible cc
  pair_here (brackets {T} {i} {to} c k w l m y z p q) us ys e =
      let h = sym (items_bracket text K i c to k l m y (agrees_paired p)) ∙ e in
      record { at = c; is_opening = k; closes = w; before = l; within = m; is_closing = y; inside = cc h; inner = p }
  pair_here (blocks {T} {i} {to} c d k w v l m n y z f o g b p q) us ys e =
      let h = sym (items_block text K i c d to k l m n y z f (agrees_paired p)) ∙ e in
      impossible cc

  pub block_here : {T : Table} {i to : ℕ} → Agrees text K R T i to → (ds us : List Token) (ys : List Item)
      → items (range text K i to) ≡ Span.scope ds us ∷ ys → BlockHere T i to ds us ys
  block_here (ends {to = to}) ds us ys e = absurd (nothing_here to _ ys e)
  block_here (atoms {T} {i} {to} l k n p) ds us ys e =
      let h = sym (items_single text K i to l k) ∙ e in
      impossible cc
  block_here (brackets {T} {i} {to} c k w l m y z p q) ds us ys e =
      let h = sym (items_bracket text K i c to k l m y (agrees_paired p)) ∙ e in
      impossible cc
  block_here (blocks {T} {i} {to} c d k w v l m n y z f o g b p q) ds us ys e =
      let h = sym (items_block text K i c d to k l m n y z f (agrees_paired p)) ∙ e in
      record {
        body = c;
        at = d;
        is_let = k;
        opens = w;
        closes = v;
        is_in = y;
        is_end = z;
        before = l;
        between = m;
        within = n;
        declared = cc h;
        inside = cc h;
        is_operand = o;
        complete = g;
        bounded = b;
        inner = p;
      }

all_append : (xs ys : List Item) → all_item_tokens (xs ++ ys) ≡ all_item_tokens xs ++ all_item_tokens ys
unfolding all_item_tokens
all_append [] ys = refl
all_append (x ∷ xs) ys =
    ap (λ ts. item_tokens x ++ ts) (all_append xs ys) ∙ sym (append_assoc (item_tokens x) (all_item_tokens xs) (all_item_tokens ys))

-- The tokens of a tree are those of its span's items.
pub span_tokens : (t : Tree) → all_item_tokens (yield (span_tree t)) ≡ flat t
unfolding all_item_tokens yield span_tree flat item_tokens
span_tokens nothing = refl
span_tokens (leaf a) = refl
span_tokens (bracket t) = ap (λ ts. structure opening ∷ ts) (append-nil _)
span_tokens (block ds t) = ap (λ ts. structure keyword_let ∷ ts) (append-nil _)
span_tokens (node l m r) =
    all_append (yield (span_tree l)) (Span.single (symbol m) ∷ yield (span_tree r)) ∙ cc (span_tokens l, span_tokens r)
