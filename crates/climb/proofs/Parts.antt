-- A range whose roles are in the row, as the check of its spans goes over it: tokens of its own, and items that hold a span of their own,
-- a bracket pair behind its `(` and a block behind its `in`.
use mathlib.Core.Path.{◌≡◌, refl, sym, ap, ◌∙◌}
use mathlib.Core.Logic.{⊎_elim}
use mathlib.Core.List.{List, [], ◌∷◌, ◌++◌}
use mathlib.Core.Option.{Option, some}
use Prim.Native.Nat.{ℕ, suc, ◌+◌, ◌-◌, ◌≤◌, ◌<◌}
use native.Mathlib.Omega.{arith}
use lib.ListN.{length, length-append}
use Rattle.grammar.specs.Bytes.{Bytes}
use Rattle.grammar.specs.Token.{Atom, Token, structure, closing, keyword_in, keyword_end}
use Rattle.grammar.specs.Operator.{Table}
use Rattle.grammar.specs.Declaration.{declarations, all_tokens}
use Rattle.grammar.specs.Span.{Item, single, pair, scope, item_tokens, all_item_tokens, items}
use Rattle.grammar.specs.Spans.{Span}
use Rattle.grammar.specs.Tree.{Tree, bracket, block, flat}
use Rattle.grammar.specs.Nodes.{count}
use Rattle.grammar.specs.Blocks.{body_table, item_spans, hang_item, under_bracket, under_block}
use Rattle.grammar.proofs.Logic.{below, impossible}
use Rattle.rows.specs.Fields.{TokenRow, NoteRow, RootRow, kind, closer, left}
use Rattle.rows.specs.Codes.{Bounded}
use Rattle.rows.specs.Tokens.{range, IsAtomKind, IsQuietKind}
use Rattle.rows.specs.Agreeing.{Agrees, ends, atoms, brackets, blocks}
use Rattle.rows.specs.Standing.{mark, Rooted}
use Rattle.rows.proofs.Ranges.{length-range}
use Rattle.rows.proofs.PairedCases.{agrees_paired}
use Rattle.rows.proofs.PairedItems.{items_done, items_single, items_bracket, items_block, behind_pair, behind_scope}
use Rattle.climb.specs.Searched.{InForce}
use Rattle.climb.proofs.Spare.{
  Opens,
  opens_bracket,
  opens_in,
  opens_none,
  opens-kind,
  spare,
  spare_to,
  spare_opens,
  spare_let,
  spare_none,
  spare_quiet,
  spare_cut,
  spare_next,
  spare_last,
  spare_nothing,
  spare_atom,
  spare_done,
}

-- An item that begins at token `i` and holds the span of the tokens behind `o` up to `e`, under the operators `U`.
pub record Opened (text : Bytes) (K : TokenRow) (T : Table) (i o e to : ℕ) (U : Table) : Type 0 where
  pub item : Item
  pub not_one : (a : Atom) → item ≡ single a → ⊥
  pub before : i ≤ o
  pub inside : o < e
  pub within : e < to
  pub opens : Opens K o
  pub closes : closer K o ≡ e
  pub only : (j : ℕ) → i ≤ j → j ≤ e → Opens K j → (o ≤ j) × (j < e)
  pub comes : items (range text K i to) ≡ item ∷ items (range text K (suc e) to)
  pub long : i + length (item_tokens item) ≡ suc e
  pub spared : spare_to K i (suc e) ≡ suc (o - i) + spare_to K (suc o) e
  -- Its span, and the tree that it is with a tree of that.
  pub span_is :
      (inner : Table → Option ℕ → ℕ → List Token → List Span) → item_spans inner T i item ≡ inner U (some o) (suc o) (range text K (suc o) e)
  pub wrap : Tree → Tree
  pub hangs :
      (inner : Table → List Token → Option Tree) (u : Tree) → inner U (range text K (suc o) e) ≡ some u → hang_item inner T item ≡ some (wrap u)
  pub rooted : (O : RootRow) (u : Tree) → left O o ≡ mark (suc o) u → Rooted O (suc o) u → Rooted O i (wrap u)
  pub marked : (u : Tree) → mark i (wrap u) ≡ suc i
  pub counted : (u : Tree) → count (wrap u) ≡ suc (count u)
  pub flat_long : (u : Tree) → length (flat u) ≡ e - suc o → length (flat (wrap u)) ≡ suc e - i

pub data Parts (text : Bytes) (K : TokenRow) (R : NoteRow) : Table → ℕ → ℕ → Type 0 where
  done : {T : Table} {to : ℕ} → Parts text K R T to to
  own : {T : Table} {i to : ℕ} → i < to → IsAtomKind (kind K i) → Parts text K R T (suc i) to → Parts text K R T i to
  inner :
      {T : Table} {i to : ℕ} (o e : ℕ) (U : Table) → Opened text K T i o e to U → InForce text U K R (suc o) e
      → Parts text K R U (suc o) e → Parts text K R T (suc e) to → Parts text K R T i to

module _ (text : Bytes) (K : TokenRow) (R : NoteRow) where
  -- A token of another kind opens no span.
  edge : (j c n : ℕ) → kind K c ≡ n → (n ≡ 4 → ⊥) → (n ≡ 8 → ⊥) → Opens K j → j ≡ c → ⊥
  edge j c n k d e o s =
      let same : kind K j ≡ n = rw s k in
      ⊎_elim (λ x. d (sym same ∙ x)) (λ x. e (sym same ∙ x)) (opens-kind (kind K j) o)

  edge_spare : (c n : ℕ) → kind K c ≡ n → (n ≡ 4 → ⊥) → (n ≡ 7 → ⊥) → (n ≡ 8 → ⊥) → spare K c ≡ 0
  edge_spare c n k d f e = spare_none K c (opens_none (kind K c) (λ x. d (sym k ∙ x)) (λ x. e (sym k ∙ x))) (λ x. f (sym k ∙ x))

  opened_bracket :
      (T : Table) (i c to : ℕ) → kind K i ≡ 4 → closer K i ≡ c → i < c → c < to → kind K c ≡ 5 → Agrees text K R T (suc i) c
      → Opened text K T i i c to T
  unfolding item_spans hang_item under_bracket mark count flat
  opened_bracket T i c to k w l m y p =
      record {
        item = pair (range text K (suc i) c);
        not_one = λ a e. impossible cc;
        before = omega arith;
        inside = l;
        within = m;
        opens = opens_bracket (kind K i) k;
        closes = w;
        only = λ j a b o. (a, below j c (λ h. h) (λ h. absurd (edge j c 5 y (λ x. omega arith) (λ x. omega arith) o (omega arith))));
        comes = items_bracket text K i c to k l m y (agrees_paired p);
        long = behind_pair text K i c l;
        spared =
            omega (
              arith,
              spare_next K i (suc c) (omega arith),
              spare_last K (suc i) c l,
              spare_opens K i (opens_bracket (kind K i) k),
              edge_spare c 5 y (λ x. omega arith) (λ x. omega arith) (λ x. omega arith),
            );
        span_is = λ inner. refl;
        wrap = bracket;
        hangs = λ inner u e. rw e;
        rooted = λ O u e r. (e, r);
        marked = λ u. refl;
        counted = λ u. omega arith;
        flat_long = λ u e. omega (arith, length-append (flat u) (structure closing ∷ []));
      }

  opened_block :
      (T : Table) (i c e to : ℕ) → kind K i ≡ 7 → closer K i ≡ c → closer K c ≡ e → i < c → c < e → e < to → kind K c ≡ 8 → kind K e ≡ 9
      → ((j : ℕ) → i < j → j < c → IsQuietKind (kind K j))
      → all_tokens (declarations (range text K (suc i) c)) ≡ range text K (suc i) c
      → Agrees text K R (body_table T (range text K (suc i) c)) (suc c) e
      → Opened text K T i c e to (body_table T (range text K (suc i) c))
  unfolding item_spans hang_item under_block mark count flat
  opened_block T i c e to k w v l m n y z f t p =
      let ds = range text K (suc i) c in
      let at : suc (i + length ds) ≡ c = omega (arith, length-range text K (suc i) c) in
      record {
        item = scope ds (range text K (suc c) e);
        not_one = λ a e. impossible cc;
        before = omega arith;
        inside = m;
        within = n;
        opens = opens_in (kind K c) y;
        closes = v;
        only = λ j a b o. (behind_let j a o, below j e (λ h. h) (λ h. absurd (edge j e 9 z (λ x. omega arith) (λ x. omega arith) o (omega arith))));
        comes = items_block text K i c e to k l m n y z f (agrees_paired p);
        long = behind_scope text K i c e l m;
        spared =
            omega (
              arith,
              spare_cut K i c (suc e) (omega arith) (omega arith),
              spare_next K i c l,
              spare_let K i k,
              w,
              spare_nothing K (suc i) c (λ j a b. spare_quiet K j (f j a b)),
              spare_next K c (suc e) (omega arith),
              spare_opens K c (opens_in (kind K c) y),
              spare_last K (suc c) e m,
              edge_spare e 9 z (λ x. omega arith) (λ x. omega arith) (λ x. omega arith),
            );
        span_is = λ inner. rw at;
        wrap = block (declarations ds);
        hangs = λ inner u e. rw e;
        rooted = λ O u e r. rw (t, at) (e, r);
        marked = λ u. refl;
        counted = λ u. omega arith;
        flat_long =
            λ u h.
            omega (
              arith,
              ap length t,
              length-append (all_tokens (declarations ds) ++ structure keyword_in ∷ flat u) (structure keyword_end ∷ []),
              length-append (all_tokens (declarations ds)) (structure keyword_in ∷ flat u),
            );
      }
    where
      behind_let : (j : ℕ) → i ≤ j → Opens K j → c ≤ j
      behind_let j a o =
          below j c
          (λ h.
          below i j
          (λ g. absurd (⊎_elim (λ x. (f j g h).2 x) (λ x. omega (arith, (f j g h).1)) (opens-kind (kind K j) o)))
          (λ g. absurd (edge j i 7 k (λ x. omega arith) (λ x. omega arith) o (omega arith))))
          (λ h. h)

  pub parts : {T : Table} {i to : ℕ} → Bounded T → Agrees text K R T i to → Parts text K R T i to
  parts b ends = done
  parts b (atoms l k n r) = own l k (parts b r)
  parts {T} {i} {to} b (brackets c k w l m y z p q) =
      inner i c T (opened_bracket T i c to k w l m y p) (record { bounded = b; agrees = p }) (parts b p) (parts b q)
  parts {T} {i} {to} b (blocks c e k w v l m n y z f a t d p q) =
      inner c e (body_table T (range text K (suc i) c)) (opened_block T i c e to k w v l m n y z f t p) (record { bounded = d; agrees = p })
      (parts d p) (parts b q)

-- No more nodes are spared than there are tokens.
pub parts_spare : {text : Bytes} {K : TokenRow} {R : NoteRow} {T : Table} {i to : ℕ} → Parts text K R T i to → (i ≤ to) × (spare_to K i to ≤ to - i)
parts_spare {K = K} (done {to = to}) = (omega arith, omega (arith, spare_done K to))
parts_spare {K = K} (own {i = i} {to = to} l a p) =
    (omega arith, omega (arith, parts_spare p, spare_next K i to l, spare_atom K i a.1))
parts_spare {K = K} (inner {i = i} {to = to} o e U x f p q) = (
  omega (arith, x.before, x.inside, x.within),
  omega (
    arith,
    x.before,
    x.inside,
    x.within,
    x.spared,
    parts_spare p,
    parts_spare q,
    spare_cut K i (suc e) to (omega (arith, x.before, x.inside)) x.within,
  ),
)

-- All of its tokens are its items'.
pub parts_long :
    {text : Bytes} {K : TokenRow} {R : NoteRow} {T : Table} {i to : ℕ} → Parts text K R T i to
    → i + length (all_item_tokens (items (range text K i to))) ≡ to
unfolding all_item_tokens item_tokens
parts_long {text} {K} (done {to = to}) = rw (items_done text K to) (omega arith)
parts_long {text} {K} (own {i = i} {to = to} l a p) = rw (items_single text K i to l a) (omega (arith, parts_long p))
parts_long {text} {K} (inner {i = i} {to = to} o e U x f p q) =
    rw x.comes
    (omega (
      arith,
      x.long,
      parts_long q,
      length-append (item_tokens x.item) (all_item_tokens (items (range text K (suc e) to))),
    ))
