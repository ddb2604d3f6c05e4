-- The loop's invariant: the tokens passed have what they leave, and `total` is how long that is with a space before each.
use native.Mathlib.Numerals.{add-one}
use native.Mathlib.Omega.{arith}
use Rattle.std.proofs.lemmas.List.{get_or_default}
use Rattle.rows.specs.Fields.{no_note, note, token}
use Rattle.canonical_text.specs.Trimming.{Trimmed}
use Rattle.canonical_text.proofs.TrimRow.{here_trimmable, trimmed_some, trimmed_none, trimming_end}
use Rattle.canonical_text.proofs.pieces.trim.Goals as goal
use Rattle.canonical_text.proofs.pieces.trim.Goals.{then-size-ne0, else-size-ne0}

pub trim_token-requires : goal.trim_token-requires
trim_token-requires c = let p = c.requires in here_trimmable p.0 p.2 c.loop-i.invariant c.loop-i-test.true

pub loop-i-preserved : goal.loop-i-preserved
loop-i-preserved c =
    let p = c.requires in
    let v = c.loop-i.invariant in
    let x = c.loop-i-test.true in
    let e = get_or_default c.args.notes.now c.loop-i.i c.index-notes-i.result no_note (omega (arith, p.1)) in
    let t : Trimmed c.args.text.now (note c.args.notes.now c.loop-i.i).roles (token c.loop-i.tokens c.loop-i.i) c.trim_token.new.token =
    rw e at c.trim_token.ensures in
    rw (add-one c.loop-i.i)
    (elim c.if-size-ne0.branch [
      | then-size-ne0 w ↦ rw w.total-is (trimmed_some p.0 p.2 v x t w.if-size-ne0.true)
      | else-size-ne0 w ↦ rw w.total-is (trimmed_none p.0 p.2 v x t w.if-size-ne0.false)
    ])

pub returns-then-total-eq0 : goal.returns-then-total-eq0
returns-then-total-eq0 c =
    let p = c.requires in
    trimming_end p.0 p.2 c.loop-i.invariant c.loop-i-test.false (omega arith)

pub returns : goal.returns
returns c =
    let p = c.requires in
    trimming_end p.0 p.2 c.loop-i.invariant c.loop-i-test.false (omega arith)
