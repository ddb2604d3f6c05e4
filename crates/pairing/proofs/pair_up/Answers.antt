-- Each arm of the match is one of the laws of `Walks`, by what the token does there.
use mathlib.Core.Path.{refl, sym, ◌∙◌}
use native.Mathlib.Omega.{arith}
use borrow.Author.Tests.{leb-true}
use Rattle.grammar.proofs.Logic.{impossible}
use Rattle.pairing.proofs.Walks.{
  walk_starts,
  walk_made,
  walk_atom,
  walk_stays,
  walk_breaks,
  walk_deep,
  walk_enters,
  turns_open,
  closes_open,
  walk_turns,
  walk_closes,
  walk_unclosed,
  walk_passed,
  seen_atom,
  seen_made,
  seen_none,
  seen_block,
}
use Rattle.pairing.proofs.pair_up.Goals as goal
use Rattle.pairing.proofs.pair_up.Goals.{
  then-not-is_atom+in-Stay,
  then-not-is_atom+in-Open+else-depth-ge-MAX_DEPTH,
  then-not-is_atom+in-Turn,
  then-not-is_atom+in-Close,
  else-not-is_atom,
}

pub loop-i-init : goal.loop-i-init
loop-i-init c = (walk_starts _ _ _ refl refl, seen_none _)

pub returns-in-Break : goal.returns-in-Break
returns-in-Break c =
    let w = c.loop-i.invariant.0.1 in
    let l = c.loop-i-test.true in
    walk_breaks w l (walk_made w l c.is_atom.ensures c.if-not-is_atom.true c.move_of.ensures c.in-Break.is)

pub returns-then-depth-ge-MAX_DEPTH : goal.returns-then-depth-ge-MAX_DEPTH
returns-then-depth-ge-MAX_DEPTH c =
    let w = c.loop-i.invariant.0.1 in
    let l = c.loop-i-test.true in
    walk_deep w l (walk_made w l c.is_atom.ensures c.if-not-is_atom.true c.move_of.ensures c.in-Open.is) (omega arith)

pub bounds-tokens-opener : goal.bounds-tokens-opener
bounds-tokens-opener c =
    let w = c.loop-i.invariant.0.1 in
    let o = turns_open w (walk_made w c.loop-i-test.true c.is_atom.ensures c.if-not-is_atom.true c.move_of.ensures c.in-Turn.is) in
    omega (arith, c.loop-i.auto.tokens)

pub bounds-tokens-opener-in-Close : goal.bounds-tokens-opener-in-Close
bounds-tokens-opener-in-Close c =
    let w = c.loop-i.invariant.0.1 in
    let o = closes_open w (walk_made w c.loop-i-test.true c.is_atom.ensures c.if-not-is_atom.true c.move_of.ensures c.in-Close.is) in
    omega (arith, c.loop-i.auto.tokens)

pub overflow_sub-depth : goal.overflow_sub-depth
overflow_sub-depth c =
    let w = c.loop-i.invariant.0.1 in
    (closes_open w (walk_made w c.loop-i-test.true c.is_atom.ensures c.if-not-is_atom.true c.move_of.ensures c.in-Close.is)).0

pub loop-i-preserved : goal.loop-i-preserved
loop-i-preserved c =
    let (w, u) = c.loop-i.invariant in
    let l = c.loop-i-test.true in
    let a = c.is_atom.ensures in
    elim c.if-not-is_atom.branch [
      | then-not-is_atom+in-Stay x ↦
          let m = walk_made w.1 l a x.if-not-is_atom.true x.move_of.ensures x.in-Stay.is in
          rw (x.tokens-is, x.pairs-is, x.blocks-is, x.depth-is)
          (walk_stays w.1 l m, seen_made w.1 l m (λ e. impossible cc) (λ e. impossible cc) u)
      | then-not-is_atom+in-Open+else-depth-ge-MAX_DEPTH x ↦
          let m = walk_made w.1 l a x.if-not-is_atom.true x.move_of.ensures x.in-Open.is in
          rw (x.tokens-is, x.pairs-is, x.blocks-is, x.depth-is)
          (walk_enters w.1 l m (omega arith), seen_made w.1 l m (λ e. impossible cc) (λ e. impossible cc) u)
      | then-not-is_atom+in-Turn x ↦
          let m = walk_made w.1 l a x.if-not-is_atom.true x.move_of.ensures x.in-Turn.is in
          rw (x.tokens-is, x.pairs-is, x.blocks-is, x.depth-is) (walk_turns c.requires l w.1 m, seen_block w.1 l m)
      | then-not-is_atom+in-Close x ↦
          let m = walk_made w.1 l a x.if-not-is_atom.true x.move_of.ensures x.in-Close.is in
          rw (x.tokens-is, x.pairs-is, x.blocks-is, x.depth-is)
          (walk_closes c.requires l w.1 m, seen_made w.1 l m (λ e. impossible cc) (λ e. impossible cc) u)
      | else-not-is_atom x ↦
          let k = leb-true _ 3 (sym a ∙ x.if-not-is_atom.false) in
          rw (x.tokens-is, x.pairs-is, x.blocks-is, x.depth-is) (walk_atom w.1 l k, seen_atom w.1 l k u)
    ]

pub returns-then-depth-gt0 : goal.returns-then-depth-gt0
returns-then-depth-gt0 c = walk_unclosed c.loop-i-test.false _ c.loop-i.invariant.0.1 (omega arith)

pub returns : goal.returns
returns c =
    let (w, u) = c.loop-i.invariant in
    walk_passed c.loop-i-test.false _ _ w.1 u (omega arith)
