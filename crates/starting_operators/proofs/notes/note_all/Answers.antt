-- The tokens before number `i` are noted, and the rest of the row is as it was; each turn notes one token more, or comes to a closing bracket.
use mathlib.Core.Bool.{Bool, true, false, not}
use mathlib.Core.Path.{◌≡◌, sym, ◌∙◌}
use Prim.Native.Nat.{◌<◌}
use native.Mathlib.Numerals.{add-one}
use native.Mathlib.Omega.{arith}
use borrow.Author.Tests.{eqb-true, eqb-false}
use lib.Dec.{eqb}
use Rattle.grammar.proofs.Logic.{impossible}
use Rattle.rows.specs.Fields.{kind, token}
use Rattle.starting_operators.proofs.NotedTokens.{next_noted, passed_over, notable_kept, is_closing}
use Rattle.starting_operators.proofs.notes.note_all.Goals as goal
use Rattle.starting_operators.proofs.notes.note_all.Goals.{After-ne, then-ne, else-ne}

-- What the test says of the kind.
tested : (c : After-ne) (b : Bool) → c.ne.result ≡ not b → eqb (kind c.args.tokens.now c.loop-i.i) 5 ≡ b
tested c b e = go _ b (sym (is_closing (token c.args.tokens.now c.loop-i.i).kind)) (sym c.ne.ensures ∙ e)
  where
    go : {p : Bool} (q b : Bool) → p ≡ q → not q ≡ not b → p ≡ b
    go true true e n = e
    go true false e n = impossible cc
    go false true e n = impossible cc
    go false false e n = e

pub note-requires : goal.note-requires
note-requires c =
    let g = c.requires in
    let d = eqb-false _ _ (tested (goal.at.note-requires c).After-ne false c.if-ne.true) in
    let h : c.loop-i.i < c.args.count = omega arith in
    ((c.args.count, notable_kept g c.loop-i.auto.notes, h), omega (arith, g.flat c.loop-i.i h))

pub loop-i-preserved : goal.loop-i-preserved
loop-i-preserved c =
    rw add-one
    (elim c.if-ne.branch [
      | then-ne w ↦ rw w.notes-is (next_noted c.loop-i.invariant w.note.ensures)
      | else-ne w ↦
          rw w.notes-is
          (passed_over c.loop-i.invariant (eqb-true _ _ (tested (goal.at.loop-i-preserved c).After-ne true w.if-ne.false)))
    ])
