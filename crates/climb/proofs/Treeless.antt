-- The spans of the definitions come in the order of their openers, so the first without a tree is the one behind the first opener that the
-- search finds without one.
use mathlib.Core.Path.{◌≡◌, refl, sym, ap, ap₂, ◌∙◌}
use mathlib.Core.List.{List, [], ◌∷◌, ◌++◌}
use mathlib.Core.Option.{Option, none, some}
use Prim.Native.Nat.{ℕ, zero, suc, ◌+◌, ◌-◌, ◌≤◌, ◌<◌}
use native.Mathlib.Omega.{arith}
use lib.ListN.{length}
use Rattle.std.specs.declared.result.Result.TheVariants.{Err}
use Rattle.grammar.specs.Bytes.{Bytes, All}
use Rattle.grammar.specs.Operator.{Table}
use Rattle.grammar.specs.Span.{item_tokens, items}
use Rattle.grammar.specs.Spans.{Span, start_of}
use Rattle.grammar.specs.SpanTree.{SpanTree}
use Rattle.grammar.specs.Climb.{stops, search, tree_found, climb}
use Rattle.grammar.specs.Tree.{Tree}
use Rattle.grammar.specs.Blocks.{item_spans, all_item_spans, spans, first_without, treeless_opener, lost_token, tree_of}
use Rattle.grammar.proofs.Lists.{all_append}
use Rattle.grammar.proofs.ClimbExact.{search-climb, found_anywhere}
use Rattle.grammar.proofs.Spans.{HasTree, first_without_all, spans_have}
use Rattle.grammar.proofs.Logic.{impossible}
use Rattle.rows.specs.Fields.{TokenRow, NoteRow, RootRow, closer}
use Rattle.rows.specs.Tokens.{range}
use Rattle.rows.proofs.PairedItems.{items_done, items_single}
use Rattle.climb.specs.Searched.{InForce, Checks, treeless, treeless_of}
use Rattle.climb.proofs.Spare.{Opens}
use Rattle.climb.proofs.Parts.{Opened, Parts, done, own, inner}
use Rattle.climb.proofs.Openers.{behind_own, within-item}

-- The first span without a tree has the opener `o`, and the search of it stops at token `k`.
pub data FirstLost : List Span → Option ℕ → ℕ → Type 0 where
  here :
      {s : Span} {ss : List Span} {o : Option ℕ} {k : ℕ} → s.opener ≡ o → search s.table (start_of s.opener) s.contents ≡ stops k
      → FirstLost (s ∷ ss) o k
  later : {s : Span} {ss : List Span} {o : Option ℕ} {k : ℕ} → HasTree s → FirstLost ss o k → FirstLost (s ∷ ss) o k

first_without_lem : {ss : List Span} {o : Option ℕ} {k : ℕ} → FirstLost ss o k → first_without ss ≡ some o
unfolding first_without tree_found
first_without_lem (here {s = s} e f) =
    let none_found : climb s.table s.contents ≡ none =
    sym (search-climb s.table (start_of s.opener) s.contents) ∙ ap tree_found f in
    rw (none_found, first_without) (ap some e)
first_without_lem (later h l) = rw (h.1, first_without) (first_without_lem l)

first_lost : {ss : List Span} {o : Option ℕ} {k : ℕ} → FirstLost ss o k → lost_token ss ≡ k
unfolding lost_token
first_lost (here e f) = rw (f, lost_token)
first_lost (later {s = s} h l) =
    rw (found_anywhere s.table (start_of s.opener) s.contents h.0 h.1, lost_token) (first_lost l)

-- In two lists of spans.
first_behind : (ss rs : List Span) {o : Option ℕ} {k : ℕ} → All HasTree ss → FirstLost rs o k → FirstLost (ss ++ rs) o k
first_behind [] rs h l = l
first_behind (s ∷ ss) rs h l = later h.0 (first_behind ss rs h.1 l)

first_before : {ss : List Span} (rs : List Span) {o : Option ℕ} {k : ℕ} → FirstLost ss o k → FirstLost (ss ++ rs) o k
first_before rs (here e f) = here e f
first_before rs (later h l) = later h (first_before rs l)

module _ (text : Bytes) (K : TokenRow) (R : NoteRow) where
  -- The span behind token `j` has a tree, or the search of it stops at token `k`.
  abbrev pub TreeBehind : ℕ → Type 0
  TreeBehind j =
      (U : Table) → InForce text U K R (suc j) (closer K j) → (t : SpanTree) × (climb U (items (range text K (suc j) (closer K j))) ≡ some t)

  abbrev pub StopsBehind : ℕ → ℕ → Type 0
  StopsBehind j k = (U : Table) → InForce text U K R (suc j) (closer K j) → search U (suc j) (items (range text K (suc j) (closer K j))) ≡ stops k

  module _ {T U : Table} {i o e to : ℕ} (x : Opened text K T i o e to U) (f : InForce text U K R (suc o) e) where
    tree_in_lem : TreeBehind o → (t : SpanTree) × (climb U (items (range text K (suc o) e)) ≡ some t)
    tree_in_lem h = rw x.closes at (h U (rw x.closes f))

    stops_in : (k : ℕ) → StopsBehind o k → search U (suc o) (items (range text K (suc o) e)) ≡ stops k
    stops_in k h = rw x.closes at (h U (rw x.closes f))

  -- Where all have trees.
  all_have :
      (k : ℕ) {T : Table} {i to : ℕ} → Parts text K R T i to → ((j : ℕ) → i ≤ j → j < to → Opens K j → TreeBehind j)
      → All HasTree (all_item_spans (spans k) T i (items (range text K i to)))
  unfolding all_item_spans item_spans item_tokens spans
  all_have k (done {to = to}) h = rw (items_done text K to) tt
  all_have k (own {i = i} {to = to} l a p) h =
      let next : i + 1 ≡ suc i = omega arith in
      rw (items_single text K i to l a, next) (all_have k p (λ j b c. h j (omega arith) c))
  all_have zero (inner o e U x f p q) h =
      rw (x.comes, x.span_is (spans zero), x.long) (all_have zero q (λ j b c. h j (omega (arith, x.before, x.inside)) c))
  all_have (suc k) (inner o e U x f p q) h =
      rw (x.comes, x.span_is (spans (suc k)), x.long) (
        tree_in_lem x f (h o x.before (omega (arith, x.inside, x.within)) x.opens),
        all_append HasTree (all_item_spans (spans k) U (suc o) (items (range text K (suc o) e))) _
            (all_have k p (λ j b c. h j (omega (arith, x.before)) (omega (arith, x.within))))
            (all_have (suc k) q (λ j b c. h j (omega (arith, x.before, x.inside)) c)),
      )

  -- Where the one behind token `j` is the first that has none.
  first_at :
      (k : ℕ) {T : Table} {i to : ℕ} → Parts text K R T i to → to - i ≤ k → (j lost : ℕ) → i ≤ j → j < to → Opens K j
      → ((m : ℕ) → i ≤ m → m < j → Opens K m → TreeBehind m) → StopsBehind j lost
      → FirstLost (all_item_spans (spans k) T i (items (range text K i to))) (some j) lost
  unfolding all_item_spans item_spans item_tokens spans
  first_at k done b j lost l m op h n = absurd (omega arith)
  first_at k (own {i = i} {to = to} c a p) b j lost l m op h n =
      behind_own K i j a l op
      (λ u.
      let next : i + 1 ≡ suc i = omega arith in
      rw (items_single text K i to c a, next) (first_at k p (omega arith) j lost u m op (λ v w. h v (omega arith)) n))
  first_at zero (inner o e U x f p q) b j lost l m op h n = absurd (omega arith)
  first_at (suc k) (inner {T = T} {i = i} {to = to} o e U x f p q) b j lost l m op h n =
      rw (x.comes, x.span_is (spans (suc k)), x.long)
      (within-item x j l op
      (λ s. here (ap some (sym s)) (stops_in x f lost (rw s at n)))
      (λ u v.
      later (tree u)
      (first_before rest (first_at k p (omega (arith, x.before, x.within)) j lost u v op (λ w y. h w (omega (arith, x.before))) n)))
      (λ u.
      later (tree (omega (arith, x.inside)))
      (first_behind in_there rest (all_have k p (λ w y z. h w (omega (arith, x.before)) (omega (arith, x.inside))))
      (first_at (suc k) q (omega (arith, x.before, x.inside)) j lost u m op (λ w y. h w (omega (arith, x.before, x.inside))) n))))
    where
      in_there : List Span
      in_there = all_item_spans (spans k) U (suc o) (items (range text K (suc o) e))

      rest : List Span
      rest = all_item_spans (spans (suc k)) T (suc e) (items (range text K (suc e) to))

      tree : o < j → (t : SpanTree) × (climb U (items (range text K (suc o) e)) ≡ some t)
      tree u = tree_in_lem x f (h o x.before u x.opens)

  -- What is answered: there is no tree of the text, which span has none, and where it is lost.
  pub record Refused (T : Table) (n : ℕ) (o : Option ℕ) (k : ℕ) : Type 0 where
    pub none_there : tree_of T (range text K 0 n) ≡ none
    pub first : treeless_opener (spans (suc n) T none 0 (range text K 0 n)) ≡ o
    pub lost : lost_token (spans (suc n) T none 0 (range text K 0 n)) ≡ k

  refused_by : (T : Table) (n : ℕ) (o : Option ℕ) (k : ℕ) → FirstLost (spans (suc n) T none 0 (range text K 0 n)) o k → Refused T n o k
  unfolding treeless_opener tree_of
  refused_by T n o k l =
      record { none_there = go (tree_of T (range text K 0 n)) refl; first = rw (e, treeless_opener); lost = first_lost l }
    where
      e : first_without (spans (suc n) T none 0 (range text K 0 n)) ≡ some o
      e = first_without_lem l

      go : (t : Option Tree) → tree_of T (range text K 0 n) ≡ t → tree_of T (range text K 0 n) ≡ none
      go none f = f
      go (some t) f =
          let all = spans_have (suc n) (suc (length (range text K 0 n))) T none 0 (range text K 0 n) t f in
          let z : none ≡ some o = sym (first_without_all (spans (suc n) T none 0 (range text K 0 n)) all) ∙ e in
          impossible cc

  -- The whole text.
  pub whole_refused : (T : Table) (n k : ℕ) → search T 0 (items (range text K 0 n)) ≡ stops k → Refused T n none k
  unfolding spans
  whole_refused T n k e = refused_by T n none k (here refl e)

  -- The span behind token `j`, where the whole text has a tree and those behind the openers before `j` have.
  pub behind_refused :
      (T : Table) (n j k : ℕ) → Parts text K R T 0 n → (t : SpanTree) → climb T (items (range text K 0 n)) ≡ some t → j < n → Opens K j
      → ((m : ℕ) → m < j → Opens K m → TreeBehind m) → StopsBehind j k → Refused T n (some j) k
  unfolding spans
  behind_refused T n j k p t e l op h z =
      refused_by T n (some j) k (later (t, e) (first_at n p (omega arith) j k (omega arith) l op (λ m a. h m) z))

  pub refused_answer :
      (T : Table) (n : ℕ) (O : RootRow) (o : Option ℕ) (k : ℕ) → Refused T n o k
      → Checks text T K n O (tree_of T (range text K 0 n)) (Err (treeless o k))
  unfolding treeless_of
  refused_answer T n O o k r = rw r.none_there (ap Err (ap₂ treeless (sym r.first) (sym r.lost)))
