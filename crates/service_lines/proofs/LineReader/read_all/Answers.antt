-- Each read brings the loop further, and the last one finds the end. The turns are not used up, since fewer bytes are left.
use mathlib.Core.Path.{refl, ◌∙◌}
use Rattle.service_lines.proofs.Turns.{reached_first, reached_next, reached_last, reached_none}
use Rattle.service_lines.proofs.LineReader.read_all.Goals as goal

pub loop-init : goal.loop-init
loop-init g c =
    let a = c.args.self.now in
    record { format = refl; reached = λ bs e h. reached_first a.format a.text a.call _ _ bs e h }

pub loop-preserved : goal.loop-preserved
loop-preserved g c =
    let i = c.loop.invariant in
    let r = c.in_ok-read_some.ensures in
    let some = rw i.format at r.some c.if-not-branch.false in
    record {
      format = r.format ∙ i.format;
      reached = λ bs e h. reached_next _ _ _ _ _ _ _ _ _ _ _ _ (i.reached bs e h) some;
    }

pub returns-then-not-branch : goal.returns-then-not-branch
returns-then-not-branch g c =
    let none = c.in_ok-read_some.ensures.none c.if-not-branch.true in
    λ bs e h. reached_last c.args.self.now.format _ _ _ c.loop.counter _ _ _ _ _ (c.loop.invariant.reached bs e h) none

pub returns : goal.returns
returns g c = λ bs e h. absurd (reached_none _ _ _ _ _ _ _ _ (c.loop.invariant.reached bs e h) c.loop-test.false)
