-- The byte at `i` is one character more, and as many bytes on begin the next.
use mathlib.Core.Path.{ap}
use Prim.Native.Nat.{◌+◌}
use native.Mathlib.Omega.{arith}
use lib.ListN.{length, drop, get_or}
use Rattle.grammar.specs.Token.{undoubled}
use Rattle.names.proofs.Characters.{some_wide, undoubled_next, undoubled_end}
use Rattle.names.proofs.count.Goals as goal

pub overflow_add-i : goal.overflow_add-i
overflow_add-i c = omega (arith, some_wide (get_or c.args.written.now c.loop-i.i 0))

pub loop-i-smaller : goal.loop-i-smaller
loop-i-smaller c = omega (arith, some_wide (get_or c.args.written.now c.loop-i.i 0))

pub loop-i-preserved : goal.loop-i-preserved
loop-i-preserved c =
    let w = c.args.written.now in
    let i = c.loop-i.i in
    omega (
      arith,
      some_wide (get_or w i 0),
      ap (λ k. length (undoubled (drop (i + k) w))) c.width-i.ensures,
      ap length (undoubled_next w i c.loop-i-test.true),
    )

pub returns : goal.returns
returns c = omega (arith, ap length (undoubled_end c.args.written.now c.loop-i.i c.loop-i-test.false))
