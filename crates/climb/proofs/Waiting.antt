-- Where the operators that wait and what has been read stand in the rows: the operators that wait are linked by the right field, each
-- behind its left operand. What stands before the place of a store is kept by it.
use mathlib.Core.Path.{◌≡◌, refl, ap, ◌∙◌}
use mathlib.Core.Bool.{true, not}
use mathlib.Core.List.{[], ◌∷◌}
use Prim.Native.Nat.{ℕ, suc, ◌+◌, ◌≤◌, ◌<◌}
use native.Mathlib.Omega.{arith}
use lib.Dec.{eqb, eqb-suc-zero}
use lib.ListN.{length, length-append}
use Rattle.grammar.specs.Bytes.{Bytes}
use Rattle.grammar.specs.Token.{symbol}
use Rattle.grammar.specs.Operator.{Table}
use Rattle.grammar.specs.Span.{Item, single, pair, scope, item_tokens, all_item_tokens}
use Rattle.grammar.specs.SpanTree.{SpanTree, missing, operand, apply, yield, present, fixity, role_over}
use Rattle.grammar.specs.Climb.{Stack, empty, waiting, taking}
use Rattle.grammar.proofs.ItemsNested.{append_tokens}
use Rattle.rows.specs.declared.operands.Operands.{Operands}
use Rattle.rows.specs.Fields.{NoteRow, RootRow, operands, arrival, left, right}
use Rattle.rows.specs.Codes.{role_code}
use Rattle.rows.specs.Agreeing.{Noted}
use Rattle.climb.specs.Searched.{width, span_mark, SpanRooted}
use Rattle.rows.specs.InUse.{role_beside}
use Rattle.rows.proofs.InUse.{beside_code}

-- How many tokens a tree has.
pub width_missing : width missing ≡ 0
unfolding yield all_item_tokens
width_missing = refl

pub width_operand : (x : Item) → width (operand x) ≡ length (item_tokens x)
unfolding yield all_item_tokens
width_operand x = omega (arith, length-append (item_tokens x) [])

item_tokens_lem : (x : Item) → 1 ≤ length (item_tokens x)
unfolding item_tokens
item_tokens_lem (single a) = omega arith
item_tokens_lem (pair ts) = omega arith
item_tokens_lem (scope ds ts) = omega arith

pub width_apply : (l : SpanTree) (m : Bytes) (r : SpanTree) → width (apply l m r) ≡ suc (width l + width r)
unfolding yield all_item_tokens item_tokens
width_apply l m r =
    omega (
      arith,
      ap length (append_tokens (yield l) (single (symbol m) ∷ yield r)),
      length-append (all_item_tokens (yield l)) (all_item_tokens (single (symbol m) ∷ yield r)),
    )

-- The mark of a tree: 0 for none, else one of its tokens.
pub mark_shows : (i : ℕ) (s : SpanTree) → eqb (span_mark i s) 0 ≡ not (present s)
unfolding span_mark present
mark_shows i missing = refl
mark_shows i (operand x) = eqb-suc-zero i
mark_shows i (apply l m r) = eqb-suc-zero (i + width l)

pub mark_most : (i : ℕ) (s : SpanTree) → span_mark i s ≤ i + width s
unfolding span_mark
mark_most i missing = omega arith
mark_most i (operand x) = omega (arith, width_operand x, item_tokens_lem x)
mark_most i (apply l m r) = omega (arith, width_apply l m r)

-- Rows that agree from one token to another.
abbrev pub Same : RootRow → RootRow → ℕ → ℕ → Type 0
Same O O' from to = (j : ℕ) → from ≤ j → j < to → operands O' j ≡ operands O j

pub same_left : {x y : Operands} → x ≡ y → x.left ≡ y.left
same_left e = ap (λ (o : Operands). o.left) e

pub same_right : {x y : Operands} → x ≡ y → x.right ≡ y.right
same_right e = ap (λ (o : Operands). o.right) e

pub rooted_kept : (O O' : RootRow) (i : ℕ) (s : SpanTree) → Same O O' i (i + width s) → SpanRooted O i s → SpanRooted O' i s
rooted_kept O O' i missing f r = tt
rooted_kept O O' i (operand (single a)) f r =
    let b : i < i + width (operand (single a)) = omega (arith, width_operand (single a), item_tokens_lem (single a)) in
    (same_left (f i (omega arith) b) ∙ r.0, same_right (f i (omega arith) b) ∙ r.1)
rooted_kept O O' i (operand (pair ts)) f r = tt
rooted_kept O O' i (operand (scope ds ts)) f r = tt
rooted_kept O O' i (apply l m r) f h =
    let a = i + width l in
    let w = width_apply l m r in (
      same_left (f a (omega arith) (omega arith)) ∙ h.0,
      same_right (f a (omega arith) (omega arith)) ∙ h.1,
      rooted_kept O O' i l (λ j x y. f j x (omega arith)) h.2,
      rooted_kept O O' (suc a) r (λ j x y. f j (omega arith) (omega arith)) h.3,
    )

module _ (T : Table) (R : NoteRow) where
  -- An operator stands at a token.
  pub record Operates (a : ℕ) (m : Bytes) : Type 0 where
    pub noted : Noted T R a (symbol m)
    pub is_one : arrival R a ≡ 0 → ⊥

  -- A tree that begins at token `i`, with all of its roots in the row.
  pub record Built (O : RootRow) (i : ℕ) (s : SpanTree) : Type 0 where
    pub rooted : SpanRooted O i s

  -- The operator `m` at token `a` waits, with the left operand `l` that begins at token `s`.
  pub record WaitsAt (O : RootRow) (s a : ℕ) (l : SpanTree) (m : Bytes) : Type 0 where
    pub place : a ≡ s + width l
    pub before : Built O s l
    pub operates : Operates a m
    pub own : left O a ≡ span_mark s l

  -- The operators that wait behind token `from`: `h` is one more than the innermost, 0 if none waits, and `e` the token behind it.
  abbrev pub Waits : ℕ → RootRow → Stack → ℕ → ℕ → Type 0
  Waits from O empty h e = (h ≡ 0) × (e ≡ from)
  Waits from O (waiting l m w) h e = (s : ℕ) × (a : ℕ) × (h ≡ suc a) × (e ≡ suc a) × WaitsAt O s a l m × Waits from O w (right O a) s

  pub waits_behind : (from : ℕ) (O : RootRow) (w : Stack) (h e : ℕ) → Waits from O w h e → (from ≤ e) × (h ≤ e)
  waits_behind from O empty h e c = (omega arith, omega arith)
  waits_behind from O (waiting l m w) h e (s, a, p, q, t, c) =
      let b = waits_behind from O w (right O a) s c in
      (omega (arith, t.place), omega arith)

  -- Rows that agree there have the same.
  pub built_kept : (O O' : RootRow) (i : ℕ) (s : SpanTree) → Same O O' i (i + width s) → Built O i s → Built O' i s
  built_kept O O' i s f b = record { rooted = rooted_kept O O' i s f b.rooted }

  pub waits_kept :
      (from : ℕ) (O O' : RootRow) (w : Stack) (h e : ℕ) → Same O O' from e → Waits from O w h e → Waits from O' w h e
  waits_kept from O O' empty h e f c = c
  waits_kept from O O' (waiting l m w) h e f (s, a, p, q, t, c) =
      let b = waits_behind from O w (right O a) s c in
      let here = f a (omega (arith, t.place)) (omega arith) in (
        s,
        a,
        p,
        q,
        record {
          place = t.place;
          before = built_kept O O' s l (λ j y z. f j (omega arith) (omega (arith, t.place))) t.before;
          operates = t.operates;
          own = same_left here ∙ t.own;
        },
        rw (same_right here) (waits_kept from O O' w (right O a) s (λ j y z. f j y (omega (arith, t.place))) c),
      )

  -- The number of the role in which an operator stands over operands with these marks.
  pub over-code :
      (a : ℕ) (m : Bytes) → Operates a m → (l r : SpanTree) (x y : ℕ) (i j : ℕ) → x ≡ span_mark i l → y ≡ span_mark j r
      → role_beside R a x y ≡ role_code (role_over T l m r)
  unfolding role_over fixity
  over-code a m o l r x y i j p q =
      beside_code T R a m o.noted x y (present l) (present r) (rw p (mark_shows i l)) (rw q (mark_shows j r))

  -- That of the role in which it takes an operand on its right.
  pub taking-code :
      (a : ℕ) (m : Bytes) → Noted T R a (symbol m) → (l : SpanTree) (x i : ℕ) → x ≡ span_mark i l → role_beside R a x 1 ≡ role_code (taking T l m)
  unfolding taking
  taking-code a m o l x i p = beside_code T R a m o x 1 (present l) true (rw p (mark_shows i l)) refl
