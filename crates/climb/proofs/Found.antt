-- Spans that have been searched and have a tree, whatever the operators of which the rows have the roles: what the search answers,
-- and that it stays so while the spans behind later openers are searched.
use mathlib.Core.Path.{◌≡◌, refl, sym, ap, ◌∙◌}
use mathlib.Core.Logic.{inl, inr, ⊎_elim}
use mathlib.Core.Option.{some}
use Prim.Native.Nat.{ℕ, suc, ◌+◌, ◌≤◌, ◌<◌}
use native.Mathlib.Omega.{arith}
use lib.ListN.{length, set}
use Rattle.std.specs.declared.result.Result.TheVariants.{Ok, Err}
use Rattle.grammar.specs.Bytes.{Bytes}
use Rattle.grammar.specs.Operator.{Table}
use Rattle.grammar.specs.Span.{all_item_tokens, items}
use Rattle.grammar.specs.SpanTree.{SpanTree}
use Rattle.grammar.specs.Climb.{Ending, found, stops, search, tree_found, climb}
use Rattle.grammar.proofs.Logic.{below, impossible}
use Rattle.grammar.proofs.ClimbExact.{climb_yields, search-climb}
use Rattle.rows.specs.declared.operands.Operands.{Operands}
use Rattle.rows.specs.Fields.{TokenRow, NoteRow, RootRow, closer, left, Within}
use Rattle.rows.specs.Tokens.{range}
use Rattle.climb.specs.declared.search.Lost.{Lost}
use Rattle.climb.specs.Searched.{span_mark, SpanRooted, Searches, RootsKept, InForce, Searched}
use Rattle.climb.proofs.Spare.{Opens}
use Rattle.climb.proofs.Waiting.{mark_most, Same, same_left}
use Rattle.climb.proofs.Kept.{set_here, set_other}
use Rattle.climb.proofs.Parts.{parts, parts_long}
use Rattle.climb.proofs.Openers.{Along, OwnKept, own_rooted, Outside, kept_behind, kept_within}

-- The tree of the tokens from `from` to `to`, with its mark `m` and its roots in the row.
pub record FoundTree (text : Bytes) (U : Table) (K : TokenRow) (from to : ℕ) (O : RootRow) (m : ℕ) : Type 0 where
  pub tree : SpanTree
  pub found : climb U (items (range text K from to)) ≡ some tree
  pub marks : m ≡ span_mark from tree
  pub rooted : SpanRooted O from tree

abbrev pub SpanFound : TokenRow → NoteRow → RootRow → ℕ → ℕ → ℕ → Type 0
SpanFound K R O from to m = (text : Bytes) (U : Table) → InForce text U K R from to → FoundTree text U K from to O m

-- No tree, and where it is lost.
abbrev pub lost_at : ℕ → Lost
lost_at k = record { at = k }

module _ (K : TokenRow) (R : NoteRow) where
  -- What the search answers.
  root_found :
      (O : RootRow) (from at : ℕ) (text : Bytes) (U : Table) (to : ℕ) (x : Ending) → search U from (items (range text K from to)) ≡ x
      → Searches O from x (Ok at) → FoundTree text U K from to O (suc at)
  unfolding tree_found
  root_found O from at text U to (stops n) e h = impossible cc
  root_found O from at text U to (found s) e h =
      let same : h.0.0 ≡ at = let z = h.0.1 in cc in
      record { tree = s; found = sym (search-climb U from (items (range text K from to))) ∙ ap tree_found e; marks = rw same at h.0.2; rooted = h.1 }

  pub searched_found : (O O' : RootRow) (from to at : ℕ) → Searched K R from to O O' (Ok at) → SpanFound K R O' from to (suc at)
  searched_found O O' from to at h text U f = root_found O' from at text U to _ refl (h.answer text U f)

  -- A mark is one of the span's tokens.
  pub found_within : (O : RootRow) (from to m : ℕ) (text : Bytes) (U : Table) → InForce text U K R from to → FoundTree text U K from to O m → m ≤ to
  found_within O from to m text U f x =
      let y = climb_yields U (items (range text K from to)) x.tree x.found in
      let wide = ap (λ is. from + length (all_item_tokens is)) y ∙ parts_long (parts text K R f.bounded f.agrees) in
      omega (arith, x.marks, mark_most from x.tree)

  stopped_by : (O : RootRow) (from k : ℕ) (x : Ending) → Searches O from x (Err (lost_at k)) → x ≡ stops k
  stopped_by O from k (stops n) h =
      let same : lost_at k ≡ lost_at n = cc in
      sym (ap (λ (l : Lost). stops l.at) same)
  stopped_by O from k (found s) h = let z = h.0.1 in impossible cc

  pub searched_none :
      (O O' : RootRow) (from to k : ℕ) → Searched K R from to O O' (Err (lost_at k)) → (text : Bytes) (U : Table) → InForce text U K R from to
      → search U from (items (range text K from to)) ≡ stops k
  searched_none O O' from to k h text U f = stopped_by O' from k _ (h.answer text U f)

  -- It stays so where the row is kept at the span's own tokens.
  module _ (O O' : RootRow) (from to m : ℕ) (h : SpanFound K R O from to m) where
    stays_found :
        ((text : Bytes) (U : Table) → InForce text U K R from to → Along (OwnKept O O') from (items (range text K from to)))
        → SpanFound K R O' from to m
    stays_found k text U f =
        let x = h text U f in
        let y = climb_yields U (items (range text K from to)) x.tree x.found in
        record { tree = x.tree; found = x.found; marks = x.marks; rooted = own_rooted O O' x.tree from (rw y (k text U f)) x.rooted }

    pub stays_apart : Same O O' from to → SpanFound K R O' from to m
    stays_apart k = stays_found (λ text U f. kept_behind O O' (parts text K R f.bounded f.agrees) k)

    pub stays_round : (i : ℕ) → from ≤ i → Opens K i → Outside i (closer K i) O O' → SpanFound K R O' from to m
    stays_round i l op k =
        below i to
        (λ b. stays_found (λ text U f. kept_within O O' (parts text K R f.bounded f.agrees) i l b op k))
        (λ b. stays_apart (λ j v w. k j (inl (omega arith))))

  -- The spans behind all openers before token `i` have been searched.
  abbrev pub Before : RootRow → ℕ → Type 0
  Before O i = (j : ℕ) → j < i → Opens K j → SpanFound K R O (suc j) (closer K j) (left O j)

  pub before_none : (O : RootRow) → Before O 0
  before_none O j l = absurd (omega arith)

  pub before_quiet : (O : RootRow) (i c : ℕ) → Before O i → ((j : ℕ) → i ≤ j → j < c → Opens K j → ⊥) → Before O c
  before_quiet O i c h q j l op = below j i (λ b. h j b op) (λ b. absurd (q j b l op))

  -- The span behind token `i` is searched, and the mark of its root is noted there.
  module _ (O P : RootRow) (i m n : ℕ) (l : i < closer K i) (k : RootsKept O (suc i) (closer K i) P) where
    abbrev root_noted : Operands
    root_noted = record { left = m; right = n }

    abbrev pub noted_row : RootRow
    noted_row = set P i root_noted

    pub noted_outside : Outside i (closer K i) O noted_row
    noted_outside j d =
        set_other P i root_noted j (λ e. ⊎_elim (λ x. omega arith) (λ x. omega arith) d)
        ∙ k.same j (⊎_elim (λ x. inl (omega arith)) (λ x. inr x) d)

    pub before_opened : Within P i → Before O i → Opens K i → SpanFound K R P (suc i) (closer K i) m → Before noted_row (suc i)
    before_opened w h op f j b oj = below j i earlier (λ c. let same : j ≡ i = omega arith in rw same here)
      where
        earlier : j < i → SpanFound K R noted_row (suc j) (closer K j) (left noted_row j)
        earlier c =
            rw (same_left (noted_outside j (inl c)))
            (stays_round O noted_row (suc j) (closer K j) (left O j) (h j c oj) i c op noted_outside)

        here : SpanFound K R noted_row (suc i) (closer K i) (left noted_row i)
        here =
            rw (same_left (set_here P i root_noted w))
            (stays_apart P noted_row (suc i) (closer K i) m f (λ j v x. set_other P i root_noted j (λ y. omega arith)))
