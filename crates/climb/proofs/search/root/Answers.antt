-- The search takes the steps of the pass over the items, whatever the operators in force; what it needs of the rows is known of some.
use mathlib.Core.Path.{◌≡◌, refl, sym, ap, ◌∙◌}
use mathlib.Core.Logic.{◌⊎◌, inl, inr, ⊎_elim}
use mathlib.Core.Bool.{true}
use Prim.Native.Nat.{ℕ, ◌-◌, ◌≤◌, ◌<◌}
use native.Mathlib.Numerals.{add-one}
use native.Mathlib.Omega.{arith}
use borrow.Author.Tests.{eqb-true, eqb-false}
use Rattle.std.specs.declared.result.Result.TheVariants.{Err}
use Rattle.grammar.specs.Bytes.{Bytes}
use Rattle.grammar.specs.Operator.{Table}
use Rattle.grammar.specs.Span.{items}
use Rattle.rows.specs.declared.operands.Operands.{Operands}
use Rattle.rows.specs.declared.roles.Note.{Note}
use Rattle.rows.specs.Fields.{TokenRow, NoteRow, RootRow, no_operands, arrival, left, right, Within}
use Rattle.rows.specs.Codes.{role_of, gives_way_to}
use Rattle.rows.specs.Tokens.{range}
use Rattle.rows.specs.InUse.{role_beside}
use Rattle.rows.proofs.Fields.{within}
use Rattle.climb.specs.Searched.{RootsKept, Rows, InForce, Searched}
use Rattle.climb.proofs.Arrives.{note_read, beside_read}
use Rattle.climb.proofs.Pass.{Next, next_bound}
use Rattle.climb.proofs.Coming.{OperandAt, operand_at}
use Rattle.climb.proofs.Climbing.{begins, top, bounds, top_bounds, Halts, refuses, untaken_here, takes_operand, next_operator, next_last}
use Rattle.climb.proofs.Climbing.{closes, Stops, refused_here, waits, left_over, nothing_read, ends}
use Rattle.climb.proofs.Found.{lost_at}
use Rattle.climb.proofs.Kept.{kept_all, kept_then, set_here, set_other, set_kept}
use Rattle.climb.proofs.search.root.Invariants.{Stands}
use Rattle.climb.proofs.search.root.Goals as goal
use Rattle.climb.proofs.search.root.Goals.{
  Joined-i-to,
  Joined-waiting-eq0,
  then-i-to,
  else-i-to,
  then-waiting-eq0,
  else-waiting-eq0+then-not-gives_way,
}

-- The roles are those under some operators.
abbrev Known : TokenRow → NoteRow → ℕ → ℕ → Type 0
Known K R from to = (text : Bytes) × (T : Table) × InForce text T K R from to

tokens-hold : {K : TokenRow} {R : NoteRow} {O : RootRow} {to : ℕ} → Rows K R O to → (j : ℕ) → j < to → Within K j
tokens-hold {K = K} {to = to} r j h = within to K j r.tokens h

roles-hold : {K : TokenRow} {R : NoteRow} {O : RootRow} {to : ℕ} → Rows K R O to → (j : ℕ) → j < to → Within R j
roles-hold {R = R} {to = to} r j h = within to R j r.roles h

roots-hold : {K : TokenRow} {R : NoteRow} {O O' : RootRow} {from to : ℕ} → Rows K R O to → RootsKept O from to O' → (j : ℕ) → j < to → Within O' j
roots-hold {O' = O'} {to = to} r k j h = within to O' j (r.roots.0, omega (arith, k.long, r.roots.1)) h

loop-kept : {O P Q : RootRow} {from to : ℕ} → RootsKept O from to P → RootsKept P from to Q → RootsKept O from to Q
loop-kept {O = O} {P = P} {Q = Q} {from = from} {to = to} f g = kept_then O P Q from to f g

-- Where things stand.
place : {K : TokenRow} {R : NoteRow} {P O O' : RootRow} {from to h d q k i : ℕ} → Rows K R P to → Known K R from to → Stands K R from to O O' h d q k i
    → (from ≤ i) × (i ≤ to) × (to ≤ 1024) × (h ≤ 1024) × (d ≤ 1024)
place r (text, T, f) s =
    let b = bounds text T _ _ _ _ _ _ _ _ _ _ (s.climbs text T f) in
    let n = r.tokens.0 in
    (b.0, b.1, n, omega (arith, b.1, b.2), omega (arith, b.1, b.3))

-- The innermost operator that waits.
place-bounds :
    {K : TokenRow} {R : NoteRow} {O O' : RootRow} {from to h d q k i : ℕ} → Known K R from to → Stands K R from to O O' h d q k i → (h ≡ 0 → ⊥)
    → (from ≤ h - 1) × (h - 1 < to) × (right O' (h - 1) < h)
place-bounds {h = h} (text, T, f) s n =
    let t = top_bounds text T _ _ _ _ _ _ _ _ _ (top text T _ _ _ _ _ _ _ _ _ _ (h - 1) (s.climbs text T f) (omega arith)) in
    let b = bounds text T _ _ _ _ _ _ _ _ _ _ (s.climbs text T f) in
    (t.0, omega (arith, t.1, b.1), omega (arith, t.2))

waiting-within :
    {K : TokenRow} {R : NoteRow} {O P Q : RootRow} {from to h d q k i : ℕ} → Rows K R O to → Known K R from to → RootsKept O from to P
    → Stands K R from to P Q h d q k i → (h ≡ 0 → ⊥) → Within Q (h - 1)
waiting-within r f k s n = roots-hold r (loop-kept k s.kept) _ (place-bounds f s n).1

-- What comes: a token of the span, or nothing more.
comes-at :
    (c : Joined-i-to)
    → ((c.span.i < c.args.to) × (c.if-i-to.arrival ≡ arrival c.args.notes.now c.span.i))
    ⊎ ((c.args.to ≤ c.span.i) × (c.if-i-to.arrival ≡ 2047))
comes-at c =
    elim c.if-i-to.branch [
      | then-i-to w ↦
          let n = note_read c.args.notes.now c.span.i w.index-notes-i.result (roles-hold c.requires.0 _ w.if-i-to.true) in
          inl (w.if-i-to.true, w.arrival-is ∙ sym (ap (λ (m : Note). m.arrival) n))
      | else-i-to w ↦ inr (w.if-i-to.false, w.arrival-is)
    ]

operand-comes : (c : Joined-i-to) → c.if-i-to.arrival ≡ 0 → (c.span.i < c.args.to) × (arrival c.args.notes.now c.span.i ≡ 0)
operand-comes c e = ⊎_elim (λ w. (w.0, sym w.1 ∙ e)) (λ w. absurd (omega (arith, w.1))) (comes-at c)

operand_there :
    (c : Joined-i-to) → c.if-i-to.arrival ≡ 0
    → OperandAt c.requires.1.0 c.requires.1.1 c.args.tokens.now c.args.notes.now c.span.i c.args.to
operand_there c e =
    let k = c.requires.1 in
    operand_at (c.span.invariant.climbs k.0 k.1 k.2).rest (operand-comes c e).0 (operand-comes c e).1

operator-comes : (c : Joined-i-to) → c.span.i < c.args.to → c.if-i-to.arrival ≡ arrival c.args.notes.now c.span.i
operator-comes c h = ⊎_elim (λ w. w.1) (λ w. absurd (omega (arith, w.0))) (comes-at c)

end-comes : (c : Joined-i-to) → c.args.to ≤ c.span.i → c.if-i-to.arrival ≡ 2047
end-comes c h = ⊎_elim (λ w. absurd (omega (arith, w.0))) (λ w. w.1) (comes-at c)

next-at :
    (c : Joined-i-to) (text : Bytes) (T : Table) → InForce text T c.args.tokens.now c.args.notes.now c.args.from c.args.to
    → (c.if-i-to.arrival ≡ 0 → ⊥) → Next T (items (range text c.args.tokens.now c.span.i c.args.to)) c.if-i-to.arrival
next-at c text T f n =
    let g = (c.span.invariant.climbs text T f).rest in
    ⊎_elim
    (λ w. next_operator text T _ _ c.args.from _ f.bounded _ _ g w.0 w.1 n)
    (λ w. next_last text T _ _ c.args.from _ f.bounded _ _ g w.0 w.1)
    (comes-at c)

-- The number of the role of the operator at token `t`, where `d` has been read behind it.
abbrev role_at : NoteRow → RootRow → ℕ → ℕ → ℕ
role_at R O t d = role_beside R t (left O t) d

-- Where none more gives way.
stops_at :
    (c : Joined-waiting-eq0)
    → (c.if-waiting-eq0.left ≡ c.loop-waiting.operand)
    × Stops c.args.notes.now c.loop-waiting.roots c.loop-waiting.waiting c.loop-waiting.operand c.if-i-to.arrival
stops_at c =
    elim c.if-waiting-eq0.branch [
      | then-waiting-eq0 w ↦ (w.left-is, inl w.if-waiting-eq0.true)
      | else-waiting-eq0+then-not-gives_way w ↦
          let b = place-bounds c.requires.1 c.loop-waiting.invariant w.if-waiting-eq0.false in
          let role = beside_read c.args.notes.now _ _ _ w.index-notes-t.result (roles-hold c.requires.0 _ b.1) w.between-role.ensures in (
            w.left-is,
            inr (c.loop-waiting.waiting - 1, omega (arith, w.if-waiting-eq0.false), rw (← role) (sym w.gives_way.ensures ∙ w.if-not-gives_way.true)),
          )
    ]

answers-none :
    (K : TokenRow) (R : NoteRow) (from to : ℕ) (O O' : RootRow) (i : ℕ) → ((text : Bytes) (T : Table) → InForce text T K R from to → Halts text T K R from to i)
    → RootsKept O from to O' → Searched K R from to O O' (Err (lost_at i))
answers-none K R from to O O' i f k =
    record { answer = λ text T g. rw (f text T g) refl; kept = k }

pub span-init : goal.span-init
span-init c =
    record { climbs = λ text T f. begins text T _ _ _ _ _ f; kept = kept_all _ _ _; inner_role = refl; taking_role = refl }

pub item_end-i-requires : goal.item_end-i-requires
item_end-i-requires c =
    let m = (goal.at.item_end-i-requires c).Joined-i-to in
    let e = c.if-arrival-eq0.true in
    (tokens-hold c.requires.0 _ (operand-comes m e).0, λ k. tokens-hold c.requires.0 _ ((operand_there m e).closed k))

pub span-smaller-then-arrival-eq0 : goal.span-smaller-then-arrival-eq0
span-smaller-then-arrival-eq0 c =
    let m = (goal.at.span-smaller-then-arrival-eq0 c).Joined-i-to in
    let e = c.if-arrival-eq0.true in
    omega (arith, c.item_end-i.ensures, (operand_there m e).further, (operand-comes m e).0)

pub span-preserved-then-arrival-eq0 : goal.span-preserved-then-arrival-eq0
span-preserved-then-arrival-eq0 c =
    let m = (goal.at.span-preserved-then-arrival-eq0 c).Joined-i-to in
    let h = operand-comes m c.if-arrival-eq0.true in
    let s = c.span in
    let b = place c.requires.0 c.requires.1 s.invariant in
    let i = s.i in
    let here = set_here s.roots i no_operands (roots-hold c.requires.0 s.invariant.kept i h.0) in
    record {
      climbs =
          λ text T f.
          rw (c.item_end-i.ensures, add-one i)
          (takes_operand text T _ _ _ _ s.roots _ s.waiting s.operand 0 s.taking.0 i f.bounded
          (s.invariant.climbs text T f) h.0 h.1 c.if-operand-ne0.false (eqb-false _ 0 (sym c.is_none.ensures ∙ c.if-is_none.false))
          (ap (λ (o : Operands). o.left) here) (ap (λ (o : Operands). o.right) here)
          (λ j z u. set_other s.roots i no_operands j (λ v. omega arith)));
      kept = kept_then _ s.roots _ c.args.from c.args.to s.invariant.kept (set_kept s.roots i no_operands c.args.from c.args.to b.0 h.0);
      inner_role = refl;
      taking_role = s.invariant.taking_role;
    }

pub bounds-roots-t : goal.bounds-roots-t
bounds-roots-t c = (waiting-within c.requires.0 c.requires.1 c.span.invariant.kept c.loop-waiting.invariant c.if-waiting-eq0.false).1

pub offset_bounds-roots-t-in-loop-waiting : goal.offset_bounds-roots-t-in-loop-waiting
offset_bounds-roots-t-in-loop-waiting c =
    let w = waiting-within c.requires.0 c.requires.1 c.span.invariant.kept c.loop-waiting.invariant c.if-waiting-eq0.false in
    omega arith

pub bounds-roots-t-in-loop-waiting : goal.bounds-roots-t-in-loop-waiting
bounds-roots-t-in-loop-waiting c =
    (waiting-within c.requires.0 c.requires.1 c.span.invariant.kept c.loop-waiting.invariant c.if-waiting-eq0.false).1

pub overflow_cast-roots : goal.overflow_cast-roots
overflow_cast-roots c = let b = place c.requires.0 c.requires.1 c.loop-waiting.invariant in omega arith

pub offset_bounds-roots-t-in-loop-waiting-2 : goal.offset_bounds-roots-t-in-loop-waiting-2
offset_bounds-roots-t-in-loop-waiting-2 c =
    let w = waiting-within c.requires.0 c.requires.1 c.span.invariant.kept c.loop-waiting.invariant c.if-waiting-eq0.false in
    omega arith

pub bounds-roots-t-in-loop-waiting-2 : goal.bounds-roots-t-in-loop-waiting-2
bounds-roots-t-in-loop-waiting-2 c =
    (waiting-within c.requires.0 c.requires.1 c.span.invariant.kept c.loop-waiting.invariant c.if-waiting-eq0.false).1

pub overflow_cast-roots-else-arrival-eq0 : goal.overflow_cast-roots-else-arrival-eq0
overflow_cast-roots-else-arrival-eq0 c =
    let b = place c.requires.0 c.requires.1 c.loop-waiting.invariant in
    let s = (stops_at (goal.at.overflow_cast-roots-else-arrival-eq0 c).Joined-waiting-eq0).0 in
    omega arith

pub overflow_cast-roots-else-arrival-eq0-2 : goal.overflow_cast-roots-else-arrival-eq0-2
overflow_cast-roots-else-arrival-eq0-2 c = let b = place c.requires.0 c.requires.1 c.loop-waiting.invariant in omega arith

pub gives_way-requires : goal.gives_way-requires
gives_way-requires c =
    let (text, T, f) = c.requires.1 in
    let m = (goal.at.gives_way-requires c).Joined-i-to in
    next_bound T f.bounded _ _ (next-at m text T f c.if-arrival-eq0.false)

pub loop-waiting-smaller : goal.loop-waiting-smaller
loop-waiting-smaller c = let b = place-bounds c.requires.1 c.loop-waiting.invariant c.if-waiting-eq0.false in omega arith

pub loop-waiting-preserved : goal.loop-waiting-preserved
loop-waiting-preserved c =
    let w = c.loop-waiting in
    let m = (goal.at.loop-waiting-preserved c).Joined-i-to in
    let row = w.roots in
    let t = w.waiting - 1 in
    let b = place-bounds c.requires.1 w.invariant c.if-waiting-eq0.false in
    let read : Operands = record { left = left row t; right = w.operand } in
    let here = set_here row t read (roots-hold c.requires.0 (loop-kept c.span.invariant.kept w.invariant.kept) t b.1) in
    let role = beside_read c.args.notes.now _ _ _ c.index-notes-t.result (roles-hold c.requires.0 _ b.1) c.between-role.ensures in
    let gives : gives_way_to (role_of (role_at c.args.notes.now row t w.operand)) c.if-i-to.arrival ≡ true =
    rw (← role) (sym c.gives_way.ensures ∙ c.if-not-gives_way.false) in
    record {
      climbs =
          λ text T f.
          rw role
          (closes text T _ _ _ _ f.bounded _ _ _ _ _ (top text T _ _ _ _ _ _ _ _ _ _ t (w.invariant.climbs text T f) (omega arith))
          _ (next-at m text T f c.if-arrival-eq0.false) gives
          w.waiting (omega arith) _ (ap (λ (o : Operands). o.right) here) (ap (λ (o : Operands). o.left) here) (set_other row t read) _);
      kept = kept_then _ _ _ _ _ w.invariant.kept (set_kept row t read _ _ b.0 b.1);
      inner_role = c.between-role.result.valid;
      taking_role = w.invariant.taking_role;
    }

pub span-preserved : goal.span-preserved
span-preserved c =
    let j = (goal.at.span-preserved c).Joined-waiting-eq0 in
    let m = (goal.at.span-preserved c).Joined-i-to in
    let w = c.loop-waiting in
    let i = c.span.i in
    let o = w.roots in
    let h = c.if-to-i.false in
    let k = loop-kept c.span.invariant.kept w.invariant.kept in
    let s = stops_at j in
    let by : Operands = record { left = w.operand; right = w.waiting } in
    let here = set_here o i by (roots-hold c.requires.0 k i h) in
    let b = place c.requires.0 c.requires.1 c.span.invariant in
    let t = rw s.0 at (sym c.arrives.ensures ∙ c.if-not-arrives.false) in
    let role = beside_read c.args.notes.now i _ _ c.index-notes-i-else-arrival-eq0.result (roles-hold c.requires.0 _ h) c.between-taking.ensures in
    record {
      climbs =
          λ text T f.
          rw (add-one i, role, s.0)
          (waits text T _ _ _ _ f.bounded o w.waiting w.operand w.inner.0 c.span.taking.0 i (w.invariant.climbs text T f) _ s.1
          h (operator-comes m h) c.if-arrival-eq0.false t _ (ap (λ (o : Operands). o.left) here) (ap (λ (o : Operands). o.right) here)
          (λ n z v. set_other o i by n (λ e. omega arith)));
      kept = kept_then _ o _ c.args.from c.args.to k (set_kept o i _ c.args.from c.args.to b.0 h);
      inner_role = refl;
      taking_role = c.between-taking.result.valid;
    }

pub returns-then-operand-ne0 : goal.returns-then-operand-ne0
returns-then-operand-ne0 c =
    let h = operand-comes (goal.at.returns-then-operand-ne0 c).Joined-i-to c.if-arrival-eq0.true in
    answers-none _ _ _ _ _ _ _
    (λ text T f. refuses text T _ _ _ _ _ _ _ _ _ _ (c.span.invariant.climbs text T f) h.0 h.1 c.if-operand-ne0.true)
    c.span.invariant.kept

pub returns-then-is_none : goal.returns-then-is_none
returns-then-is_none c =
    let h = operand-comes (goal.at.returns-then-is_none c).Joined-i-to c.if-arrival-eq0.true in
    answers-none _ _ _ _ _ _ _
    (λ text T f.
    untaken_here text T _ _ _ _ _ _ _ _ _ _ f.bounded (c.span.invariant.climbs text T f) h.0 h.1 c.if-operand-ne0.false
    (eqb-true _ 0 (sym c.is_none.ensures ∙ c.if-is_none.true)))
    c.span.invariant.kept

pub returns-then-waiting-ne0 : goal.returns-then-waiting-ne0
returns-then-waiting-ne0 c =
    let j = (goal.at.returns-then-waiting-ne0 c).Joined-waiting-eq0 in
    let h = c.if-to-i.true in
    let v = end-comes (goal.at.returns-then-waiting-ne0 c).Joined-i-to h in
    answers-none _ _ _ _ _ _ _
    (λ text T f.
    ⊎_elim
    (λ z. absurd (c.if-waiting-ne0.true z))
    (λ z.
    left_over text T _ _ _ _ f.bounded _ _ _ _ _ (top text T _ _ _ _ _ _ _ _ _ _ _ (c.loop-waiting.invariant.climbs text T f) z.1) h (rw v at z.2))
    (stops_at j).1)
    (loop-kept c.span.invariant.kept c.loop-waiting.invariant.kept)

pub returns-then-left-eq0 : goal.returns-then-left-eq0
returns-then-left-eq0 c =
    let j = (goal.at.returns-then-left-eq0 c).Joined-waiting-eq0 in
    answers-none _ _ _ _ _ _ _
    (λ text T f.
    nothing_read text T _ _ _ _ f.bounded _ _ _ _ _ _ (c.loop-waiting.invariant.climbs text T f) c.if-to-i.true c.if-waiting-ne0.false
    (sym (stops_at j).0 ∙ c.if-left-eq0.true))
    (loop-kept c.span.invariant.kept c.loop-waiting.invariant.kept)

pub returns-else-left-eq0 : goal.returns-else-left-eq0
returns-else-left-eq0 c =
    let j = (goal.at.returns-else-left-eq0 c).Joined-waiting-eq0 in
    record {
      answer =
          λ text T f.
          ends text T _ _ _ _ f.bounded _ _ _ _ _ _ (c.loop-waiting.invariant.climbs text T f) c.if-to-i.true c.if-waiting-ne0.false _
          (omega (arith, (stops_at j).0, c.if-left-eq0.false));
      kept = loop-kept c.span.invariant.kept c.loop-waiting.invariant.kept;
    }

pub returns-then-not-arrives : goal.returns-then-not-arrives
returns-then-not-arrives c =
    let s = stops_at (goal.at.returns-then-not-arrives c).Joined-waiting-eq0 in
    let m = (goal.at.returns-then-not-arrives c).Joined-i-to in
    let h = c.if-to-i.false in
    let t = rw s.0 at (sym c.arrives.ensures ∙ c.if-not-arrives.true) in
    answers-none _ _ _ _ _ _ _
    (λ text T f.
    refused_here text T _ _ _ _ f.bounded _ _ _ _ _ _ (c.loop-waiting.invariant.climbs text T f) _ s.1 h (operator-comes m h) c.if-arrival-eq0.false t)
    (loop-kept c.span.invariant.kept c.loop-waiting.invariant.kept)
