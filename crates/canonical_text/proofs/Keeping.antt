-- The row of tokens between turns of the loop over operators, and what a turn does to it by the kind of the token.
use Rattle.rows.proofs.Fields.{within}
use mathlib.Core.Path.{◌≡◌, refl, sym, ap, ◌∙◌}
use mathlib.Core.Bool.{false}
use Prim.Native.Nat.{ℕ, suc, max, ◌+◌, ◌≤◌, ◌<◌}
use native.Mathlib.Omega.{arith}
use lib.ListN.{length}
use Rattle.grammar.specs.Bytes.{Bytes}
use Rattle.grammar.specs.Operator.{Table}
use Rattle.grammar.specs.SpanTree.{on_left, on_right, role_over}
use Rattle.grammar.specs.Tree.{Tree, node, flat, span_tree}
use Rattle.rows.specs.Fields.{TokenRow, NoteRow, RootRow, Within, kind, closer, size, arrival}
use Rattle.rows.specs.Kinds.{kind_code}
use Rattle.canonical_text.specs.Brackets.{stays, TreeAt, DiffersInSizes, OperatorAt, kept_pair, kept_beside, Keepable, KeptRow}
use Rattle.canonical_text.proofs.TreeRows.{left_at, right_at, tree_kept, operator_arrives}
use Rattle.canonical_text.proofs.Pairs.{sizes_then, pair_long, pair_fields, pair_small}
use Rattle.canonical_text.proofs.Going.{
  Going,
  going_start,
  going_end,
  pair_brackets,
  After,
  Turn,
  operator,
  jumps,
  plain,
  turn,
}

-- The row when the loop stands at token `at`.
pub record KeptTo (K : TokenRow) (T : Table) (t : Tree) (n at : ℕ) (K' : TokenRow) : Type 0 where
  pub upto : at ≤ n
  pub long : length K' ≡ length K
  pub fields : DiffersInSizes K K'
  pub others : (j : ℕ) → (kind K j ≡ 4 → ⊥) → (kind K j ≡ 5 → ⊥) → size K' j ≡ size K j
  pub small : (j : ℕ) → size K' j ≤ max 1 (size K j)
  pub going : Going at K' T 0 false t

module _ {K : TokenRow} {R : NoteRow} {O : RootRow} {n : ℕ} {T : Table} {t : Tree} (h : Keepable K R O n T t) where
  pub keeping_start : KeptTo K T t n 0 K
  keeping_start = record {
    upto = omega arith;
    long = refl;
    fields = λ j. refl;
    others = λ j d e. refl;
    small = λ j. omega arith;
    going = going_start T 0 t h.tree h.none;
  }

  module _ {at : ℕ} {K' : TokenRow} (v : KeptTo K T t n at K') where
    pub keeping_end : n ≤ at → KeptRow K T t K'
    keeping_end l = record {
      long = v.long;
      fields = v.fields;
      others = v.others;
      small = v.small;
      sized = going_end at K' T 0 false t (omega (arith, h.whole)) v.going;
    }

    pub keeping_tree : TreeAt K' R O n T 0 t
    keeping_tree =
        tree_kept K K' R v.fields v.long h.tree

    pub in_roles : at < n → Within R at
    in_roles l = within n R at h.tree.rows.1 l

    -- The row after a turn.
    abbrev Next : ℕ → TokenRow → Type 0
    Next at' K'' = (at < at') × KeptTo K T t n at' K''

    same_row : {at' : ℕ} → After at K' T 0 false t at' K' → Next at' K'
    same_row a = (
      a.onward,
      record { upto = omega (arith, a.upto, h.whole); long = v.long; fields = v.fields; others = v.others; small = v.small; going = a.going },
    )

    beside_row : {U : Table} {j : ℕ} {l : Tree} {m : Bytes} {r : Tree} {at' : ℕ} → TreeAt K' R O n U j (node l m r) → (K'' : TokenRow)
        → K'' ≡ kept_beside K' U j l m r
        → After at K' T 0 false t at' K'' → Next at' K''
    unfolding kept_beside
    beside_row {U} {j} {l} {m} {r} p K'' e a =
        let o = role_over U (span_tree l) m (span_tree r) in
        let c = suc (j + length (flat l)) in
        let K₁ = kept_pair (stays U on_left o l) K' j in
        let kept : DiffersInSizes K' K₁ = pair_fields K' j _ in
        let q : TreeAt K₁ R O n U c r =
        tree_kept K' K₁ R kept (pair_long K' j _)
        (right_at p) in
        let kinds : (i : ℕ) → kind K' i ≡ kind K i = λ i. ap (λ t. kind_code t.kind) (v.fields i) in
        let kinds₁ : (i : ℕ) → kind K₁ i ≡ kind K i = λ i. ap (λ t. kind_code t.kind) (kept i) ∙ kinds i in (
          a.onward,
          record {
            upto = omega (arith, a.upto, h.whole);
            long = ap length e ∙ pair_long K₁ c _ ∙ pair_long K' j _ ∙ v.long;
            fields = rw e (sizes_then K K' _ v.fields (sizes_then K' K₁ _ kept (pair_fields K₁ c _)));
            others =
                λ i x y. ap (λ M. size M i) e ∙ pair_brackets on_right o r q i (λ z. x (sym (kinds₁ i) ∙ z)) (λ z. y (sym (kinds₁ i) ∙ z))
                ∙ pair_brackets on_left o l (left_at p) i (λ z. x (sym (kinds i) ∙ z)) (λ z. y (sym (kinds i) ∙ z)) ∙ v.others i x y;
            small = λ i. rw e (omega (arith, pair_small K₁ c (stays U on_right o r) i, pair_small K' j (stays U on_left o l) i, v.small i));
            going = a.going;
          },
        )

    keeping_turn : at < n → Turn K' R O n at Next
    keeping_turn l = go (turn at t false keeping_tree v.going (omega arith) (omega (arith, h.whole)))
      where
        go : Turn K' R O n at (After at K' T 0 false t) → Turn K' R O n at Next
        go (operator U j x m y p e f) = operator U j x m y p e (λ K'' k. beside_row p K'' k (f K'' k))
        go (jumps k a) = jumps k (same_row a)
        go (plain k d a) = plain k d (same_row a)

    -- By the kind of the token.
    pub turn_jumps : at < n → kind K' at ≡ 7 → Next (closer K' at) K'
    turn_jumps l k = go (keeping_turn l)
      where
        go : Turn K' R O n at Next → Next (closer K' at) K'
        go (operator U j x m y p e f) = absurd (omega (arith, ap (kind K') e, p.stands.0))
        go (jumps z a) = a
        go (plain z d a) = absurd (z k)

    pub turn_plain : at < n → (kind K' at ≡ 7 → ⊥) → (kind K' at ≡ 1 → arrival R at ≡ 0) → Next (suc at) K'
    turn_plain l k d = go (keeping_turn l)
      where
        go : Turn K' R O n at Next → Next (suc at) K'
        go (operator U j x m y p e f) = absurd (operator_arrives p (ap (arrival R) (sym e) ∙ d (ap (kind K') e ∙ p.stands.0)))
        go (jumps z a) = absurd (k z)
        go (plain z c a) = a

    -- An operator, with its tree.
    pub record Found : Type 0 where
      pub table : Table
      pub first : ℕ
      pub before : Tree
      pub name : Bytes
      pub behind : Tree
      pub here : OperatorAt K' R O at table first before name behind
      pub next : (K'' : TokenRow) → K'' ≡ kept_beside K' table first before name behind → Next (suc at) K''

    pub turn_operator : at < n → kind K' at ≡ 1 → (arrival R at ≡ 0 → ⊥) → Found
    turn_operator l k d = go (keeping_turn l)
      where
        go : Turn K' R O n at Next → Found
        go (operator U j x m y p e f) =
            record { table = U; first = j; before = x; name = m; behind = y; here = record { count = n; tree = p; place = e }; next = f }
        go (jumps z a) = absurd (omega arith)
        go (plain z c a) = absurd (d (c k))
