-- The loop over the tokens of a tree, at a token that is not within declarations: the pairs that the operators before it keep have their bytes.
-- A turn changes the part of the tree alone that the token stands in, so what is known of the other parts stays known.
use mathlib.Core.Path.{◌≡◌, refl, sym, ap, ◌∙◌}
use mathlib.Core.Bool.{Bool, false, ◌&&◌}
use mathlib.Core.Option.{Option}
use Prim.Native.Nat.{ℕ, suc, ◌+◌, ◌≤◌, ◌<◌}
use native.Mathlib.Omega.{arith}
use lib.Dec.{ltb}
use lib.ListN.{length}
use borrow.Author.Tests.{lt-ltb, le-ltb, ltb-true, ltb-false}
use Rattle.grammar.specs.Bytes.{Bytes}
use Rattle.grammar.specs.Operator.{Role, Table}
use Rattle.grammar.specs.Declaration.{declare_all, all_tokens}
use Rattle.grammar.specs.SpanTree.{Position, on_left, on_right, role_over}
use Rattle.grammar.specs.Tree.{Tree, nothing, leaf, bracket, block, node, flat, span_tree}
use Rattle.grammar.proofs.Logic.{below}
use Rattle.rows.specs.Fields.{TokenRow, NoteRow, RootRow, kind, closer, size, arrival}
use Rattle.rows.proofs.Fields.{within}
use Rattle.canonical_text.specs.Brackets.{stays, TreeAt, kept_pair, kept_beside, size_if, Sized}
use Rattle.canonical_text.proofs.TreeRows.{
  bracket_length,
  block_length,
  node-length,
  inside_at,
  body_at,
  left_at,
  right_at,
  tree_kept,
  operand_arrives,
}
use Rattle.canonical_text.proofs.Pairs.{pair_long, pair_fields, pair_others, pair_opener, pair_closer}

abbrev pub Going : ℕ → TokenRow → Table → ℕ → Bool → Tree → Type 0
Going at K T i b nothing = Unit {0}
Going at K T i b (leaf a) = Unit {0}
Going at K T i b (bracket t) = (size K i ≡ size_if b) × (size K (suc (i + length (flat t))) ≡ size_if b) × Going at K T (suc i) false t
Going at K T i b (block ds t) =
    let c = suc (i + length (all_tokens ds)) in (i < at → at < c → ⊥) × Going at K (declare_all T ds) (suc c) false t
Going at K T i b (node l m r) =
    let a = i + length (flat l) in
    let o = role_over T (span_tree l) m (span_tree r) in
    Going at K T i (ltb a at && stays T on_left o l) l × Going at K T (suc a) (ltb a at && stays T on_right o r) r

-- At the first token, where no bracket has a byte; and at the end.
pub going_start :
    {K : TokenRow} {R : NoteRow} {O : RootRow} {n : ℕ} (T : Table) (i : ℕ) (t : Tree) → TreeAt K R O n T i t
    → ((j : ℕ) → j < n → 4 ≤ kind K j → kind K j ≤ 5 → size K j ≡ 0) → Going 0 K T i false t
unfolding size_if
going_start T i nothing h z = tt
going_start T i (leaf a) h z = tt
going_start T i (bracket t) h z =
    let c = suc (i + length (flat t)) in (
      z i (omega (arith, h.within, bracket_length t)) (omega (arith, h.stands.0)) (omega (arith, h.stands.0)),
      z c (omega (arith, h.within, bracket_length t)) (omega (arith, h.stands.2)) (omega (arith, h.stands.2)),
      going_start T (suc i) t (inside_at h) z,
    )
going_start T i (block ds t) h z =
    (λ p q. omega arith, going_start (declare_all T ds) (suc (suc (i + length (all_tokens ds)))) t (body_at h) z)
going_start T i (node l m r) h z =
    let a = i + length (flat l) in
    rw (le-ltb a 0 (omega arith)) (going_start T i l (left_at h) z, going_start T (suc a) r (right_at h) z)

pub going_end : (at : ℕ) (K : TokenRow) (T : Table) (i : ℕ) (b : Bool) (t : Tree) → i + length (flat t) ≤ at → Going at K T i b t → Sized K T i b t
going_end at K T i b nothing h g = tt
going_end at K T i b (leaf a) h g = tt
going_end at K T i b (bracket t) h g = (g.0, g.1, going_end at K T (suc i) false t (omega (arith, bracket_length t)) g.2)
going_end at K T i b (block ds t) h g =
    going_end at K (declare_all T ds) (suc (suc (i + length (all_tokens ds)))) false t (omega (arith, block_length ds t)) g.1
going_end at K T i b (node l m r) h g =
    let a = i + length (flat l) in
    let f = rw (lt-ltb a at (omega (arith, node-length l m r))) at g in (
      going_end at K T i _ l (omega (arith, node-length l m r)) f.0,
      going_end at K T (suc a) _ r (omega (arith, node-length l m r)) f.1,
    )

-- A part of the tree in which the loop is not: the tokens of it that have been passed are the same, and so are the sizes.
before_by : (at at' j : ℕ) → ltb j at ≡ ltb j at' → j < at' → j < at
before_by at at' j e h = ltb-true j at (e ∙ lt-ltb j at' h)

behind_by : (at at' j : ℕ) → ltb j at ≡ ltb j at' → at' ≤ j → at ≤ j
behind_by at at' j e h = ltb-false j at (e ∙ le-ltb j at' h)

module _ (at at' : ℕ) (K K' : TokenRow) where
  pub elsewhere :
      (T : Table) (i : ℕ) (b : Bool) (t : Tree) → ((j : ℕ) → i ≤ j → j < i + length (flat t) → ltb j at ≡ ltb j at')
      → ((j : ℕ) → i ≤ j → j < i + length (flat t) → size K' j ≡ size K j) → Going at K T i b t → Going at' K' T i b t
  elsewhere T i b nothing p s g = tt
  elsewhere T i b (leaf a) p s g = tt
  elsewhere T i b (bracket t) p s g =
      let n = bracket_length t in (
        s i (omega arith) (omega (arith, n)) ∙ g.0,
        s (suc (i + length (flat t))) (omega arith) (omega (arith, n)) ∙ g.1,
        elsewhere T (suc i) false t (λ j x y. p j (omega arith) (omega (arith, n))) (λ j x y. s j (omega arith) (omega (arith, n))) g.2,
      )
  elsewhere T i b (block ds t) p s g =
      let c = suc (i + length (all_tokens ds)) in
      let n = block_length ds t in (
        λ x y. g.0 (before_by at at' i (p i (omega arith) (omega (arith, n))) x)
            (omega (arith, behind_by at at' at' (p at' (omega arith) (omega (arith, n))) (omega arith))),
        elsewhere (declare_all T ds) (suc c) false t (λ j x y. p j (omega arith) (omega (arith, n)))
            (λ j x y. s j (omega arith) (omega (arith, n))) g.1,
      )
  elsewhere T i b (node l m r) p s g =
      let a = i + length (flat l) in
      let n = node-length l m r in
      rw (← p a (omega arith) (omega (arith, n))) (
        elsewhere T i _ l (λ j x y. p j x (omega (arith, n))) (λ j x y. s j x (omega (arith, n))) g.0,
        elsewhere T (suc a) _ r (λ j x y. p j (omega arith) (omega (arith, n))) (λ j x y. s j (omega arith) (omega (arith, n))) g.1,
      )

-- The pair that an operand is gets its bytes if it stays: no token outside the operand changes, and none but brackets.
module _ {K : TokenRow} {R : NoteRow} {O : RootRow} {n : ℕ} {T : Table} (s : Position) (o : Option Role) where
  pub pair_elsewhere :
      {i : ℕ} (t : Tree) → TreeAt K R O n T i t → (j : ℕ) → (i ≤ j → j < i + length (flat t) → ⊥) → size (kept_pair (stays T s o t) K i) j ≡ size K j
  unfolding stays kept_pair
  pair_elsewhere nothing h j d = refl
  pair_elsewhere (leaf a) h j d = refl
  pair_elsewhere {i} (bracket t) h j d =
      let n = bracket_length t in
      pair_others K i (stays T s o (bracket t)) j (λ e. d (omega arith) (omega (arith, n)))
      (λ e. d (omega (arith, h.stands.1)) (omega (arith, h.stands.1, n)))
  pair_elsewhere (block ds t) h j d = refl
  pair_elsewhere (node l m r) h j d = refl

  pub pair_brackets :
      {i : ℕ} (t : Tree) → TreeAt K R O n T i t → (j : ℕ) → (kind K j ≡ 4 → ⊥) → (kind K j ≡ 5 → ⊥)
      → size (kept_pair (stays T s o t) K i) j ≡ size K j
  unfolding stays kept_pair
  pair_brackets nothing h j d e = refl
  pair_brackets (leaf a) h j d e = refl
  pair_brackets {i} (bracket t) h j d e =
      pair_others K i (stays T s o (bracket t)) j (λ q. d (ap (kind K) (sym q) ∙ h.stands.0)) (λ q. e (ap (kind K) (sym q ∙ h.stands.1) ∙ h.stands.2))
  pair_brackets (block ds t) h j d e = refl
  pair_brackets (node l m r) h j d e = refl

  -- The operand itself.
  pair_going :
      (at at' : ℕ) {i : ℕ} (t : Tree) → TreeAt K R O n T i t → ((j : ℕ) → i ≤ j → j < i + length (flat t) → ltb j at ≡ ltb j at')
      → Going at K T i false t → Going at' (kept_pair (stays T s o t) K i) T i (stays T s o t) t
  unfolding stays kept_pair size_if
  pair_going at at' nothing h p g = tt
  pair_going at at' (leaf a) h p g = tt
  pair_going at at' {i} (bracket t) h p g =
      let b = stays T s o (bracket t) in
      let l = bracket_length t in
      let c = suc (i + length (flat t)) in (
        pair_opener K i c h.stands.1 (λ e. omega arith) b (within n K i h.rows.0 (omega (arith, h.within))) g.0,
        pair_closer K i c h.stands.1 (λ e. omega arith) b (within n K c h.rows.0 (omega (arith, h.within))) g.1,
        elsewhere at at' K (kept_pair b K i) T (suc i) false t (λ j x y. p j (omega arith) (omega (arith, l)))
            (λ j x y. pair_others K i b j (λ e. omega arith) (λ e. omega (arith, h.stands.1))) g.2,
      )
  pair_going at at' {i} (block ds t) h p g = elsewhere at at' K K T i false (block ds t) p (λ j x y. refl) g
  pair_going at at' {i} (node l m r) h p g = elsewhere at at' K K T i false (node l m r) p (λ j x y. refl) g

-- After a turn at token `at` of the tree the loop stands behind it.
pub record After (at : ℕ) (K : TokenRow) (T : Table) (i : ℕ) (b : Bool) (t : Tree) (at' : ℕ) (K' : TokenRow) : Type 0 where
  pub onward : at < at'
  pub upto : at' ≤ i + length (flat t)
  pub same : (j : ℕ) → (i ≤ j → j < i + length (flat t) → ⊥) → size K' j ≡ size K j
  pub going : Going at' K' T i b t

-- The turn: the token is an operator, a `let`, or another token that changes nothing.
pub data Turn (K : TokenRow) (R : NoteRow) (O : RootRow) (n at : ℕ) (P : ℕ → TokenRow → Type 0) : Type 0 where
  operator :
      (T : Table) (j : ℕ) (l : Tree) (m : Bytes) (r : Tree) → TreeAt K R O n T j (node l m r) → at ≡ j + length (flat l)
      → ((K' : TokenRow) → K' ≡ kept_beside K T j l m r → P (suc at) K') → Turn K R O n at P
  jumps : kind K at ≡ 7 → P (closer K at) K → Turn K R O n at P
  plain : (kind K at ≡ 7 → ⊥) → (kind K at ≡ 1 → arrival R at ≡ 0) → P (suc at) K → Turn K R O n at P

turn_map :
    {K : TokenRow} {R : NoteRow} {O : RootRow} {n at : ℕ} (P Q : ℕ → TokenRow → Type 0) → ((at' : ℕ) (K' : TokenRow) → P at' K' → Q at' K') → Turn K R O n at P → Turn K R O n at Q
turn_map P Q f (operator T j l m r h e p) = operator T j l m r h e (λ K' q. f _ K' (p K' q))
turn_map P Q f (jumps k p) = jumps k (f _ _ p)
turn_map P Q f (plain k a p) = plain k a (f _ _ p)

-- What has been passed of a part behind the loop, and of a part that it has passed.
ahead : (at at' i j : ℕ) → at ≤ i → at' ≤ i → i ≤ j → ltb j at ≡ ltb j at'
ahead at at' i j p q h = le-ltb j at (omega arith) ∙ sym (le-ltb j at' (omega arith))

passed : (at at' e j : ℕ) → e ≤ at → e ≤ at' → j < e → ltb j at ≡ ltb j at'
passed at at' e j p q h = lt-ltb j at (omega arith) ∙ sym (lt-ltb j at' (omega arith))

module _ (at : ℕ) (K : TokenRow) where
  -- A turn within a bracket pair, within a body, and within an operand on each side.
  in_bracket_lem : (T : Table) (i : ℕ) (b : Bool) (t : Tree) → Going at K T i b (bracket t) → (at' : ℕ) (K' : TokenRow)
      → After at K T (suc i) false t at' K' → After at K T i b (bracket t) at' K'
  in_bracket_lem T i b t g at' K' a =
      let l = bracket_length t in
      record {
        onward = a.onward;
        upto = omega (arith, a.upto);
        same = λ j d. a.same j (λ x y. d (omega arith) (omega arith));
        going = (
          a.same i (λ x y. omega arith) ∙ g.0,
          a.same (suc (i + length (flat t))) (λ x y. omega arith) ∙ g.1,
          a.going,
        );
      }

  in_body_lem : (T : Table) (i : ℕ) (b : Bool) (ds : _) (t : Tree) → suc (suc (i + length (all_tokens ds))) ≤ at → (at' : ℕ) (K' : TokenRow)
      → After at K (declare_all T ds) (suc (suc (i + length (all_tokens ds)))) false t at' K' → After at K T i b (block ds t) at' K'
  in_body_lem T i b ds t h at' K' a =
      let l = block_length ds t in
      record {
        onward = a.onward;
        upto = omega (arith, a.upto);
        same = λ j d. a.same j (λ x y. d (omega arith) (omega arith));
        going = (λ x y. omega (arith, a.onward), a.going);
      }

  module _ (T : Table) (i : ℕ) (b : Bool) (l : Tree) (m : Bytes) (r : Tree) where
    abbrev a : ℕ
    a = i + length (flat l)

    abbrev o : Option Role
    o = role_over T (span_tree l) m (span_tree r)

    in_left : Going at K T i b (node l m r) → at < a → (at' : ℕ) (K' : TokenRow) → After at K T i (ltb a at && stays T on_left o l) l at' K'
        → After at K T i b (node l m r) at' K'
    in_left g h at' K' f =
        let k = node-length l m r in
        let e : ltb a at ≡ ltb a at' = ahead at at' a a (omega arith) f.upto (omega arith) in
        record {
          onward = f.onward;
          upto = omega (arith, f.upto);
          same = λ j d. f.same j (λ x y. d x (omega arith));
          going =
              rw (← e) (
                f.going,
                elsewhere at at' K K' T (suc a) _ r (λ j x y. ahead at at' a j (omega arith) f.upto (omega arith))
                    (λ j x y. f.same j (λ v w. omega arith)) g.1,
              );
        }

    in_right :
        Going at K T i b (node l m r) → a < at → (at' : ℕ) (K' : TokenRow)
        → After at K T (suc a) (ltb a at && stays T on_right o r) r at' K' → After at K T i b (node l m r) at' K'
    in_right g h at' K' f =
        let k = node-length l m r in
        let e : ltb a at ≡ ltb a at' = passed at at' (suc a) a (omega arith) (omega (arith, f.onward)) (omega arith) in
        record {
          onward = f.onward;
          upto = omega (arith, f.upto);
          same = λ j d. f.same j (λ x y. d (omega arith) (omega arith));
          going =
              rw (← e) (
                elsewhere at at' K K' T i _ l (λ j x y. passed at at' a j (omega arith) (omega (arith, f.onward)) y)
                    (λ j x y. f.same j (λ v w. omega arith)) g.0,
                f.going,
              );
        }

  -- A turn at the operator itself.
  at_operator :
      {R : NoteRow} {O : RootRow} {n : ℕ} (T : Table) (i : ℕ) (b : Bool) (l : Tree) (m : Bytes) (r : Tree) → TreeAt K R O n T i (node l m r)
      → at ≡ i + length (flat l)
      → Going at K T i b (node l m r) → (K' : TokenRow) → K' ≡ kept_beside K T i l m r → After at K T i b (node l m r) (suc at) K'
  unfolding kept_beside
  at_operator {R} {O} {n} T i b l m r h e g K' k =
      let o = role_over T (span_tree l) m (span_tree r) in
      let c = suc (i + length (flat l)) in
      let K₁ = kept_pair (stays T on_left o l) K i in
      let K₂ = kept_pair (stays T on_right o r) K₁ c in
      let h₁ : TreeAt K₁ R O n T c r =
      tree_kept K K₁ R (pair_fields K i _)
      (pair_long K i _) (right_at h) in
      let q = node-length l m r in
      let f = rw (le-ltb (i + length (flat l)) at (omega arith)) at g in
      rw k (record {
        onward = omega arith;
        upto = omega arith;
        same =
            λ j d. pair_elsewhere on_right o r h₁ j (λ x y. d (omega arith) (omega arith))
            ∙ pair_elsewhere on_left o l (left_at h) j (λ x y. d x (omega arith));
        going =
            rw (lt-ltb (i + length (flat l)) (suc at) (omega arith)) (
              elsewhere (suc at) (suc at) K₁ K₂ T i _ l (λ j x y. refl) (λ j x y. pair_elsewhere on_right o r h₁ j (λ v w. omega arith))
                  (pair_going on_left o at (suc at) l (left_at h) (λ j x y. passed at (suc at) at j (omega arith) (omega arith) (omega arith)) f.0),
              pair_going on_right o at (suc at) r h₁ (λ j x y. ahead at (suc at) c j (omega arith) (omega arith) x)
                  (elsewhere at at K K₁ T c false r (λ j x y. refl) (λ j x y. pair_elsewhere on_left o l (left_at h) j (λ v w. omega arith)) f.1),
            );
      })

  -- A turn that changes nothing.
  passes : {T : Table} {i : ℕ} {b : Bool} {t : Tree} (at' : ℕ) → at < at' → at' ≤ i + length (flat t) → Going at' K T i b t → After at K T i b t at' K
  passes at' p q g = record { onward = p; upto = q; same = λ j d. refl; going = g }

  stays_put :
      (at' : ℕ) (T : Table) (i : ℕ) (t : Tree) → ((j : ℕ) → i ≤ j → j < i + length (flat t) → ltb j at ≡ ltb j at')
      → Going at K T i false t → Going at' K T i false t
  stays_put at' T i t p g = elsewhere at at' K K T i false t p (λ j x y. refl) g

  structure_here :
      {R : NoteRow} {O : RootRow} {n : ℕ} {P : ℕ → TokenRow → Type 0} (j k : ℕ) → at ≡ j → kind K j ≡ k → (k ≡ 7 → ⊥) → (k ≡ 1 → ⊥) → P (suc at) K
      → Turn K R O n at P
  structure_here j k e f d c p = plain (λ z. d (sym f ∙ ap (kind K) (sym e) ∙ z)) (λ z. absurd (c (sym f ∙ ap (kind K) (sym e) ∙ z))) p

-- A turn at any token of a tree.
pub turn :
    {K : TokenRow} {R : NoteRow} {O : RootRow} {n : ℕ} (at : ℕ) (t : Tree) {T : Table} {i : ℕ} (b : Bool) → TreeAt K R O n T i t → Going at K T i b t → i ≤ at
    → at < i + length (flat t) → Turn K R O n at (After at K T i b t)
unfolding flat
turn at nothing b h g p q = absurd (omega arith)
turn {K} {R} at (leaf x) {T} {i} b h g p q =
    let e : at ≡ i = omega arith in
    plain (λ k. omega (arith, ap (kind K) e, h.stands.0)) (λ k. ap (arrival R) e ∙ operand_arrives h)
    (passes at K (suc at) (omega arith) (omega arith) tt)
turn {K} at (bracket t) {T} {i} b h g p q =
    let c = suc (i + length (flat t)) in
    let l = bracket_length t in
    below at (suc i)
    (λ z. structure_here at K i 4 (omega arith) h.stands.0 (λ k. omega arith) (λ k. omega arith)
    (passes at K (suc at) (omega arith) (omega (arith, l))
    (g.0, g.1, stays_put at K (suc at) T (suc i) t (λ j x y. ahead at (suc at) (suc i) j (omega arith) (omega arith) x) g.2)))
    (λ z. below at c
    (λ y. turn_map _ _ (in_bracket_lem at K T i b t g) (turn at t false (inside_at h) g.2 z (omega arith)))
    (λ y. structure_here at K c 5 (omega (arith, l)) h.stands.2 (λ k. omega arith) (λ k. omega arith)
    (passes at K (suc at) (omega arith) (omega (arith, l))
    (g.0, g.1, stays_put at K (suc at) T (suc i) t (λ j x w. passed at (suc at) c j y (omega arith) (omega arith)) g.2))))
turn {K} at (block ds t) {T} {i} b h g p q =
    let c = suc (i + length (all_tokens ds)) in
    let f = suc (c + length (flat t)) in
    let l = block_length ds t in
    let U = declare_all T ds in
    below at (suc i)
    (λ z. let e : at ≡ i = omega arith in
    let k : closer K at ≡ c = ap (closer K) e ∙ h.stands.1 in
    jumps (ap (kind K) e ∙ h.stands.0)
    (rw k (passes at K c (omega arith) (omega (arith, l))
    (λ x y. omega arith, stays_put at K c U (suc c) t (λ j x y. ahead at c (suc c) j (omega arith) (omega arith) x) g.1))))
    (λ z. below at c (λ y. absurd (g.0 z y))
    (λ y. below at (suc c)
    (λ x. structure_here at K c 8 (omega arith) h.stands.2 (λ k. omega arith) (λ k. omega arith)
    (passes at K (suc at) (omega arith) (omega (arith, l))
    (λ v w. omega arith, stays_put at K (suc at) U (suc c) t (λ j v w. ahead at (suc at) (suc c) j (omega arith) (omega arith) v) g.1)))
    (λ x. below at f
    (λ v. turn_map _ _ (in_body_lem at K T i b ds t x) (turn at t false (body_at h) g.1 x (omega arith)))
    (λ v. structure_here at K f 9 (omega (arith, l)) h.stands.3 (λ k. omega arith) (λ k. omega arith)
    (passes at K (suc at) (omega arith) (omega (arith, l))
    (λ r w. omega arith, stays_put at K (suc at) U (suc c) t (λ j r w. passed at (suc at) f j v (omega arith) (omega arith)) g.1))))))
turn {K} at (node l m r) {T} {i} b h g p q =
    let a = i + length (flat l) in
    let k = node-length l m r in
    below at a
    (λ z. turn_map _ _ (in_left at K T i b l m r g z) (turn at l _ (left_at h) g.0 p z))
    (λ z. below a at
    (λ y. turn_map _ _ (in_right at K T i b l m r g y) (turn at r _ (right_at h) g.1 y (omega arith)))
    (λ y. let e : at ≡ a = omega arith in operator T i l m r h e (at_operator at K T i b l m r h e g)))
