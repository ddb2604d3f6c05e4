-- Each turn stores one byte of the part.
use mathlib.Core.Path.{refl, ◌∙◌}
use native.Mathlib.Nat.{add-zero}
use native.Mathlib.Omega.{arith}
use lib.ListN.{length-set}
use Rattle.byte_strings.proofs.Puts.{put_step, put-end}
use Rattle.byte_strings.proofs.put.Goals as goal

pub loop-i-init : goal.loop-i-init
loop-i-init c = (refl, rw (add-zero c.args.n) refl)

pub loop-i-preserved : goal.loop-i-preserved
loop-i-preserved c =
    let a = c.args in
    let e = c.loop-i.invariant.1 ∙ put_step c.loop-i.buffer a.part.now a.n c.loop-i.i (omega (arith, c.loop-i-test.true)) in
    (simp length-set c.loop-i.invariant.0, e)

pub returns : goal.returns
returns c =
    record {
      size = omega arith;
      stored = put-end _ _ c.args.part.now c.args.n c.loop-i.i (omega (arith, c.loop-i-test.false)) c.loop-i.invariant.1;
    }
