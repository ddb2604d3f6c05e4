-- The loop's invariant: of every tree that stands in the rows, the pairs are kept that the operators passed need.
use mathlib.Core.Path.{◌≡◌, sym, ap, ◌∙◌}
use Prim.Native.Nat.{ℕ}
use lib.ListN.{get_or}
use native.Mathlib.Numerals.{add-one}
use native.Mathlib.Omega.{arith}
use Rattle.std.proofs.Common.{rules}
use Rattle.std.proofs.lemmas.List.{get_or_default}
use Rattle.rows.specs.declared.roles.Note.{Note}
use Rattle.rows.specs.Fields.{NoteRow, no_note, kind, arrival, Within}
use Rattle.canonical_text.proofs.Keeping.{keeping_start, keeping_end, in_roles, turn_jumps, turn_plain, turn_operator}
use Rattle.canonical_text.proofs.brackets.keep.Goals as goal
use Rattle.canonical_text.proofs.brackets.keep.Goals.{
  then-eq-2+then-notes-i-ne0,
  else-eq-2,
  else-eq-2-via-then-eq-2+else-notes-i-ne0,
  else-eq-2-via-else-eq-2,
}

pub loop-i-init : goal.loop-i-init
loop-i-init c T t h = keeping_start h

-- Declarations are passed over.
pub overflow_cast-i : goal.overflow_cast-i
overflow_cast-i c =
    let p = c.requires in
    omega (arith, (turn_jumps p.2 (c.loop-i.invariant _ _ p.2) c.loop-i-test.true (search rules)).1.upto, c.ranges.count)

pub loop-i-smaller-then-eq : goal.loop-i-smaller-then-eq
loop-i-smaller-then-eq c =
    let p = c.requires in
    let t = c.loop-i-test.true in
    omega (arith, t, (turn_jumps p.2 (c.loop-i.invariant _ _ p.2) t (search rules)).0)

pub loop-i-preserved-then-eq : goal.loop-i-preserved-then-eq
loop-i-preserved-then-eq c T t h = (turn_jumps h (c.loop-i.invariant T t h) c.loop-i-test.true (search rules)).1

-- Whether an operator arrives, by the note that is read.
arrives : (R : NoteRow) (i : ℕ) (x : Note) → Within R i → (get_or R i x).arrival ≡ arrival R i
arrives R i x w = ap (λ n. n.arrival) (get_or_default R i x no_note w.1)

pub bounds-notes-i : goal.bounds-notes-i
bounds-notes-i c = let p = c.requires in (in_roles p.2 (c.loop-i.invariant _ _ p.2) c.loop-i-test.true).1

pub keep_beside-requires : goal.keep_beside-requires
keep_beside-requires c =
    let p = c.requires in
    let v = c.loop-i.invariant _ _ p.2 in
    let x = c.loop-i-test.true in
    let f = turn_operator p.2 v x (search rules) (λ z. c.if-notes-i-ne0.true (arrives c.args.notes.now c.loop-i.i c.index-notes-i.result (in_roles p.2 v x) ∙ z)) in
    (f.table, f.first, f.before, f.name, f.behind, f.here)

pub loop-i-preserved : goal.loop-i-preserved
loop-i-preserved c T t h =
    let v = c.loop-i.invariant T t h in
    let x = c.loop-i-test.true in
    let R = c.args.notes.now in
    let i = c.loop-i.i in
    let n = in_roles h v x in
    let d : kind c.loop-i.tokens i ≡ 7 → ⊥ = search rules in
    rw (add-one c.loop-i.i)
    (elim c.if-eq-2.branch [
      | then-eq-2+then-notes-i-ne0 w ↦
          let f = turn_operator h v x (search rules) (λ z. w.if-notes-i-ne0.true (arrives R i w.index-notes-i.result n ∙ z)) in
          rw w.tokens-is (f.next w.keep_beside.new.tokens (w.keep_beside.ensures f.table f.first f.before f.name f.behind f.here)).1
      | else-eq-2 w ↦
          rw w.tokens-is
          (elim w.else-eq-2.branch [
            | else-eq-2-via-then-eq-2+else-notes-i-ne0 u ↦
                (turn_plain h v x d (λ z. sym (arrives R i u.index-notes-i.result n) ∙ u.if-notes-i-ne0.false)).1
            | else-eq-2-via-else-eq-2 u ↦ (turn_plain h v x d (let m : kind c.loop-i.tokens i ≡ 1 → ⊥ = search rules in λ z. absurd (m z))).1
          ])
    ])

pub returns : goal.returns
returns c T t h = keeping_end h (c.loop-i.invariant T t h) c.loop-i-test.false
