-- The list of a text's spans is the relation: for tokens past checks 6 to 10 and 17 the spans of the text are those listed.
-- Either way a span is the whole one or one in an item, whose items are those that the walk finds and whose declarations are those read.
use mathlib.Core.Path.{◌≡◌, refl, sym, ap, ◌∙◌}
use mathlib.Core.Logic.{◌↔◌, ◌⊎◌, inl, inr}
use mathlib.Core.List.{List, [], ◌∷◌, ◌++◌, Memᴰ}
use mathlib.Core.Option.{Option, none}
use Prim.Native.Nat.{ℕ, zero, suc, ◌+◌, ◌<◌}
use native.Mathlib.Omega.{arith}
use lib.ListN.{length, length-append}
use Rattle.grammar.specs.Bytes.{All}
use Rattle.grammar.specs.Token.{Token}
use Rattle.grammar.specs.Outcome.{passed}
use Rattle.grammar.specs.Nesting.{nesting}
use Rattle.grammar.specs.Operator.{Table}
use Rattle.grammar.specs.Declaration.{start_table, all_tokens, declarations, Free}
use Rattle.grammar.specs.Span.{Item, single, pair, scope, item_tokens, all_item_tokens, items}
use Rattle.grammar.specs.Spans.{Span, start_of, number_behind, whole_span, pair_span, body_span, SpanIn, itself, in_pair, in_body, SpanOf}
use Rattle.grammar.specs.Blocks.{body_table, check_blocks, item_spans, all_item_spans, spans}
use Rattle.grammar.proofs.Lists.{all_right}
use Rattle.grammar.proofs.Declarations.{enter_sound}
use Rattle.grammar.proofs.DeclarationTokens.{declarations_told}
use Rattle.grammar.proofs.Nested.{nesting_anywhere}
use Rattle.grammar.proofs.ItemsRelation.{items_of, items-only}
use Rattle.grammar.proofs.TextSound.{Nested, Known, known_items, pair_within, scope_within}

-- Tokens past checks 6 to 10 and 17 under the operators `T`, with fuel `k` that is enough.
abbrev pub PastUnder : ℕ → Table → List Token → Type 0
PastUnder k T ts = Nested ts × (length ts < k) × ((n : ℕ) × (check_blocks k T n ts ≡ passed tt))

-- What the checks say of an item of such tokens: what is inside is past them too, and declaration parts are declarations, none of a
-- reserved operator.
abbrev pub ItemPast : ℕ → Table → Item → Type 0
ItemPast k T (single a) = Unit {0}
ItemPast k T (pair us) = PastUnder k T us
ItemPast k T (scope ds us) = (all_tokens (declarations ds) ≡ ds) × PastUnder k (body_table T ds) us × All Free (declarations ds)

item_past : (k : ℕ) (T : Table) (x : Item) → Known k T x → ItemPast k T x
unfolding body_table
item_past k T (single a) h = tt
item_past k T (pair us) h = (h.0.0, pair_within k us h.0.1, h.1)
item_past k T (scope ds us) h =
    let (i, U, j, entered, inner) = h.1 in
    let (d, a, e, l, free) = enter_sound T i ds U entered in
    (d, (h.0.0.1, scope_within k ds us h.0.1, (j, rw e at inner)), free)

pub past_at : (k : ℕ) (T : Table) (ts : List Token) (xs : List Item) (x : Item) (ys : List Item) → PastUnder (suc k) T ts
    → items ts ≡ xs ++ x ∷ ys → ItemPast k T x
past_at k T ts xs x ys (n, l, (i, c)) e =
    item_past k T x (all_right (Known k T) xs (x ∷ ys) (rw e at (known_items k T i ts n (omega arith) c))).0

-- The number of the token behind no items, and behind items of which the first is `z`.
behind_none : (i : ℕ) → i + length (all_item_tokens []) ≡ i
unfolding all_item_tokens
behind_none i = omega arith

behind_first : (i : ℕ) (z : Item) (xs : List Item) → i + length (all_item_tokens (z ∷ xs)) ≡ i + length (item_tokens z) + length (all_item_tokens xs)
unfolding all_item_tokens
behind_first i z xs = omega (arith, length-append (item_tokens z) (all_item_tokens xs))

-- The spans listed for items are those listed for one of them, at the number of the token behind the items before it.
module _ (inner : Table → Option ℕ → ℕ → List Token → List Span) (T : Table) (s : Span) where
  record AtItem (i : ℕ) (zs : List Item) : Type 0 where
    before : List Item
    item : Item
    after : List Item
    cut : zs ≡ before ++ item ∷ after
    member : Memᴰ s (item_spans inner T (i + length (all_item_tokens before)) item)

  listed_at :
      (i : ℕ) (xs : List Item) (x : Item) (ys : List Item) → Memᴰ s (item_spans inner T (i + length (all_item_tokens xs)) x)
      → Memᴰ s (all_item_spans inner T i (xs ++ x ∷ ys))
  unfolding all_item_spans all_item_tokens
  listed_at i [] x ys m = mathlib.Core.List.Memᴰ.append_left (all_item_spans inner T (i + length (item_tokens x)) ys) (rw (behind_none i) at m)
  listed_at i (z ∷ xs) x ys m =
      mathlib.Core.List.Memᴰ.append_right (item_spans inner T i z) (listed_at (i + length (item_tokens z)) xs x ys (rw (behind_first i z xs) at m))

  at_item : (i : ℕ) (zs : List Item) → Memᴰ s (all_item_spans inner T i zs) → AtItem i zs
  unfolding all_item_spans all_item_tokens
  at_item i [] m = absurd (mathlib.Core.List.Memᴰ.not-nil m)
  at_item i (z ∷ zs) m = which (at_item (i + length (item_tokens z)) zs) (mathlib.Core.List.Memᴰ.append_cases (item_spans inner T i z) m)
    where
      rest : List Span
      rest = all_item_spans inner T (i + length (item_tokens z)) zs

      which :
          (Memᴰ s rest → AtItem (i + length (item_tokens z)) zs) → Memᴰ s (item_spans inner T i z) ⊎ Memᴰ s rest
          → AtItem i (z ∷ zs)
      which later (inl m) = record { before = []; item = z; after = zs; cut = refl; member = rw (behind_none i) m }
      which later (inr m) =
          let f = later m in
          record {
            before = z ∷ f.before;
            item = f.item;
            after = f.after;
            cut = ap (◌∷◌ z) f.cut;
            member = rw (behind_first i z f.before) f.member;
          }

-- `r` is listed for the span `s`, which has the tokens `ts`.
abbrev Listed : ℕ → Span → List Token → Span → Type 0
Listed k s ts r = Memᴰ r (spans k s.table s.opener (start_of s.opener) ts)

-- First the span itself is listed, then what is listed for one of its items.
abbrev with_items : Span → List Item → Span
with_items s is = record { opener = s.opener; table = s.table; contents = is }

itself_listed : (k : ℕ) (s : Span) (ts : List Token) → s.contents ≡ items ts → Listed (suc k) s ts s
unfolding spans
itself_listed k s ts c = mathlib.Core.List.Memᴰ.head (ap (with_items s) c)

inside_listed :
    (k : ℕ) (s : Span) (ts : List Token) {r : Span} (xs : List Item) (x : Item) (ys : List Item) → items ts ≡ xs ++ x ∷ ys
    → Memᴰ r (item_spans (spans k) s.table (number_behind s xs) x) → Listed (suc k) s ts r
unfolding spans
inside_listed k s ts {r} xs x ys e m =
    let i = start_of s.opener in
    let n : Memᴰ r (all_item_spans (spans k) s.table i (items ts)) = rw e (listed_at (spans k) s.table r i xs x ys m) in
    mathlib.Core.List.Memᴰ.tail n

-- A span in a span is listed for it.
in_listed : {s r : Span} → SpanIn s r → (k : ℕ) (ts : List Token) → s.contents ≡ items ts → PastUnder k s.table ts → Listed k s ts r
unfolding item_spans body_table
in_listed h zero ts c p = absurd (omega arith)
in_listed {s} itself (suc k) ts c p = itself_listed k s ts c
in_listed {s} (in_pair xs us ys ks e i h) (suc k) ts c p =
    let q = past_at k s.table ts xs (pair us) ys p (sym c ∙ e) in
    inside_listed k s ts xs (pair us) ys (sym c ∙ e) (in_listed {s = pair_span s xs ks} h k us (items-only us ks i) q)
in_listed {s} (in_body xs ds us ys ks e i h) (suc k) ts c p =
    let (d, q, free) = past_at k s.table ts xs (scope (all_tokens ds) us) ys p (sym c ∙ e) in
    let t = declarations_told (declarations (all_tokens ds)) ds d in
    inside_listed k s ts xs (scope (all_tokens ds) us) ys (sym c ∙ e) (rw t (in_listed {s = body_span s xs ds ks} h k us (items-only us ks i) (rw t at q)))

-- What is listed for a span is a span in it: by induction on the fuel.
abbrev ListedIn : ℕ → Type 0
ListedIn k = (s : Span) (ts : List Token) → s.contents ≡ items ts → PastUnder k s.table ts → (r : Span) → Listed k s ts r → SpanIn s r

module _ (k : ℕ) (inner : ListedIn k) (s : Span) where
  item_listed_in :
      (r : Span) (xs : List Item) (x : Item) (ys : List Item) → s.contents ≡ xs ++ x ∷ ys → ItemPast k s.table x
      → Memᴰ r (item_spans (spans k) s.table (number_behind s xs) x) → SpanIn s r
  unfolding item_spans body_table
  item_listed_in r xs (single a) ys e p m = absurd (mathlib.Core.List.Memᴰ.not-nil m)
  item_listed_in r xs (pair us) ys e p m =
      in_pair xs us ys (items us) e (items_of us 0 (p.0 0)) (inner (pair_span s xs (items us)) us refl p r m)
  item_listed_in r xs (scope ds us) ys e (d, p, free) m =
      let es = declarations ds in
      in_body {s = s} xs es us ys (items us) (rw d e) (items_of us 0 (p.0 0)) (inner (body_span s xs es (items us)) us refl p r (rw d m))

  span_listed_in : (ts : List Token) → s.contents ≡ items ts → PastUnder (suc k) s.table ts → (r : Span) → Listed (suc k) s ts r → SpanIn s r
  unfolding spans
  span_listed_in ts c p r m = which (mathlib.Core.List.Memᴰ.cases_cons m)
    where
      which : (r ≡ with_items s (items ts)) ⊎ Memᴰ r (all_item_spans (spans k) s.table (start_of s.opener) (items ts)) → SpanIn s r
      which (inl e) = rw (e ∙ ap (with_items s) (sym c)) itself
      which (inr n) =
          let f = at_item (spans k) s.table r (start_of s.opener) (items ts) n in
          let q = past_at k s.table ts f.before f.item f.after p f.cut in
          item_listed_in r f.before f.item f.after (c ∙ f.cut) q f.member

listed_in : (k : ℕ) → ListedIn k
listed_in zero s ts c p r m = absurd (omega arith)
listed_in (suc k) s ts c p r m = span_listed_in k (listed_in k) s ts c p r m

-- The spans of a text past checks 6 to 10 and 17 are those listed.
pub span_listed :
    (ts : List Token) → nesting [] 0 ts ≡ passed tt → check_blocks (suc (length ts)) start_table 0 ts ≡ passed tt → (s : Span)
    → SpanOf ts s ↔ Memᴰ s (spans (suc (length ts)) start_table none 0 ts)
span_listed ts n c s = (
  (λ (is, i, h). in_listed h (suc (length ts)) ts (items-only ts is i) past),
  λ m. (items ts, items_of ts 0 n, listed_in (suc (length ts)) (whole_span (items ts)) ts refl past s m),
)
  where
    past : PastUnder (suc (length ts)) start_table ts
    past = ((λ j. nesting_anywhere ts [] 0 j n), omega arith, (0, c))
