-- What a turn of the loop answers, or how it goes on, are the laws of `ItemLoop`; what a block answers, those of `Bodies`.
use Rattle.std.proofs.Common.{◌≡◌, ℕ, refl, sym, ◌∙◌, arith, add-one, rules, Err}
use Rattle.grammar.specs.Outcome.{passed}
use Rattle.rows.specs.Fields.{closer}
use Rattle.rows.proofs.PairedCases.{BracketAt, BlockAt, paired_bracket, paired_block}
use Rattle.operators.specs.Entries.{table_of}
use Rattle.resolving.specs.Resolving.{end_of, PermittedTable, block_entered}
use Rattle.resolving.proofs.Classes.{atom_noted}
use Rattle.resolving.proofs.ItemLoop.{ranged_part, finished, atom_over, bracket_over, bracket_refused, block_over, block_stops}
use Rattle.resolving.proofs.Bodies.{body_ranged, entered_refused, entered_passed, block_refused, block_answered}
use Rattle.resolving.proofs.+resolve.Goals as goal
use Rattle.resolving.proofs.+resolve.Goals.{In-Bracket, In-Block, In_ok-enter_block-in-Block}

-- Where the bracket pair or block at token `i` ends.
bracket : (t : ℕ) (c : In-Bracket t) → BracketAt c.args.tokens.now c.loop-i.i c.in-Bracket.closer c.args.to
bracket t c = let n = c.in-Bracket.ensures.1 in paired_bracket c.loop-i.invariant.paired c.loop-i-test.true n.0 _ n.1

block : (t : ℕ) (c : In-Block t)
    → let K = c.args.tokens.now in BlockAt K c.loop-i.i (closer K c.loop-i.i) (end_of K c.loop-i.i) c.args.to
block t c = paired_block c.loop-i.invariant.paired c.loop-i-test.true (omega (arith, c.in-Block.ensures.1.0)) _ _ refl refl

-- The operators in force in the body of a block.
in_force : (t : ℕ) (c : In_ok-enter_block-in-Block t)
    → let a = c.args in
    let i = c.loop-i.i in
    let u = c.enter_block.new.table in
    (block_entered a.text.now a.tokens.now (table_of a.text.now a.table.now) i (closer a.tokens.now i) ≡ passed (table_of a.text.now u))
    × PermittedTable a.text.now u
in_force t c = entered_passed _ c.enter_block.new.table _ c.in_ok-enter_block-in-Block.ensures

pub resolve-requires : goal.resolve-requires
resolve-requires t c =
    let v = c.loop-i.invariant in
    let n = c.in-Bracket.ensures.1 in
    let b = bracket t (goal.at.resolve-requires t c).In-Bracket in (
      omega (arith, c.decreases, v.low, b.before, b.within),
      (
        ranged_part c.requires.0 _ (n.3.long ∙ v.kept.long) _ _ (omega (arith, b.within)) (rw (add-one c.loop-i.i) b.inner),
        c.requires.1,
      ),
    )

pub returns-in_err-resolve-in-Bracket : goal.returns-in_err-resolve-in-Bracket
returns-in_err-resolve-in-Bracket t c =
    let f = c.in_err-resolve-in-Bracket.field-0.0 in
    let r : c.from_residual.result ≡ Err f = search rules in
    rw r
    (bracket_refused c.loop-i.invariant _ _ _ _ c.loop-i-test.true c.in-Bracket.ensures.1 c.in_err-resolve-in-Bracket.ensures f refl)

pub loop-i-preserved-in-Bracket : goal.loop-i-preserved-in-Bracket
loop-i-preserved-in-Bracket t c =
    bracket_over c.loop-i.invariant _ _ _ _ c.loop-i-test.true c.in-Bracket.ensures.1 c.in_ok-resolve-in-Bracket.ensures refl

pub enter_block-requires : goal.enter_block-requires
enter_block-requires t c =
    let g = c.requires.0 in
    let b = block t (goal.at.enter_block-requires t c).In-Block in (
      record {
        placed = g.placed;
        stored = g.stored;
        short = g.short;
        room = g.tokens;
        is_let = b.is_let;
        ordered = b.before;
        within = omega (arith, b.between, b.within, g.within);
      },
      c.requires.1,
    )

pub returns-in_err-enter_block-in-Block : goal.returns-in_err-enter_block-in-Block
returns-in_err-enter_block-in-Block t c =
    let a = c.args in
    let f = c.in_err-enter_block-in-Block.field-0.0 in
    let r : c.from_residual-in_err-enter_block-in-Block.result ≡ Err f = search rules in
    rw r
    (block_stops c.loop-i.invariant _ _ _ _ c.loop-i-test.true c.in-Block.ensures.1
    (block_refused _ _ _ _ a.table.now _ _ f (entered_refused _ c.enter_block.new.table _ f c.in_err-enter_block-in-Block.ensures)) f refl)

pub resolve-requires-in-Block : goal.resolve-requires-in-Block
resolve-requires-in-Block t c =
    let v = c.loop-i.invariant in
    let n = c.in-Block.ensures.1 in
    let b = block t (goal.at.resolve-requires-in-Block t c).In-Block in (
      omega (arith, c.decreases, v.low, n.1, b.before, b.between, b.within),
      (
        body_ranged refl (sym n.1) (ranged_part c.requires.0 _ (n.3.long ∙ v.kept.long) _ _ (omega (arith, b.within)) b.body),
        (in_force t (goal.at.resolve-requires-in-Block t c).In_ok-enter_block-in-Block).1,
      ),
    )

pub returns-in_err-resolve-in-Block : goal.returns-in_err-resolve-in-Block
returns-in_err-resolve-in-Block t c =
    let n = c.in-Block.ensures.1 in
    let s = in_force t (goal.at.returns-in_err-resolve-in-Block t c).In_ok-enter_block-in-Block in
    let f = c.in_err-resolve-in-Block.field-0.0 in
    let r : c.from_residual-in_err-resolve-in-Block.result ≡ Err f = search rules in
    rw r
    (block_stops c.loop-i.invariant _ _ _ _ c.loop-i-test.true n
    (block_answered _ _ _ _ c.args.table.now c.enter_block.new.table s.0 _ _ _ _ refl (sym n.1) c.in_err-resolve-in-Block.ensures) f refl)

pub overflow_add-i-in-Block : goal.overflow_add-i-in-Block
overflow_add-i-in-Block t c =
    let n = c.in-Block.ensures.1 in
    let b = block t (goal.at.overflow_add-i-in-Block t c).In-Block in
    omega (arith, n.1, b.within)

pub loop-i-smaller-in-Block : goal.loop-i-smaller-in-Block
loop-i-smaller-in-Block t c =
    let n = c.in-Block.ensures.1 in
    let b = block t (goal.at.loop-i-smaller-in-Block t c).In-Block in
    omega (arith, c.loop-i-test.true, b.before, b.between, n.1)

pub loop-i-preserved-in-Block : goal.loop-i-preserved-in-Block
loop-i-preserved-in-Block t c =
    let n = c.in-Block.ensures.1 in
    let s = in_force t (goal.at.loop-i-preserved-in-Block t c).In_ok-enter_block-in-Block in
    block_over c.loop-i.invariant _ _ _ _ c.loop-i-test.true n
    (block_answered _ _ _ _ c.args.table.now c.enter_block.new.table s.0 _ _ _ _ refl (sym n.1) c.in_ok-resolve-in-Block.ensures) refl

pub loop-i-preserved : goal.loop-i-preserved
loop-i-preserved t c =
    atom_over c.loop-i.invariant _ c.loop-i-test.true
    (atom_noted _ _ _ _ _ _ c.note.result c.in_default.not-Bracket c.in_default.not-Block c.note.ensures.1)

pub returns : goal.returns
returns t c = finished c.loop-i.invariant c.loop-i-test.false
