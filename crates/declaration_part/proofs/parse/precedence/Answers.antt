-- The value so far is that of the digits so far, or both are above the widest precedence and stand for none.
use Rattle.std.proofs.Common.{◌∙◌, arith}
use Rattle.declaration_part.proofs.Precedences.{coded_value, step_exact, step_above}
use Rattle.declaration_part.proofs.parse.precedence.Goals as goal
use Rattle.declaration_part.proofs.parse.precedence.Goals.{then-value-gt-MAX_PRECEDENCE, else-value-gt-MAX_PRECEDENCE}

pub loop-b-init : goal.loop-b-init
loop-b-init c = (omega arith, coded_value c.args.digits.now)

pub loop-b-preserved : goal.loop-b-preserved
loop-b-preserved c =
    let digits = c.args.digits.now in
    let v = c.loop-b.value in
    let i = c.loop-b.b-index in
    let x = c.saturating_sub.result in
    let u = c.if-value-gt-MAX_PRECEDENCE.value in
    elim c.if-value-gt-MAX_PRECEDENCE.branch [
      | then-value-gt-MAX_PRECEDENCE w ↦
          (omega arith, c.loop-b.invariant.1 ∙ step_above digits i v x (omega arith) (omega arith) u (omega arith) (omega arith))
      | else-value-gt-MAX_PRECEDENCE w ↦
          (omega arith, c.loop-b.invariant.1 ∙ step_exact digits i v x (omega arith) (omega arith) u (omega arith))
    ]
