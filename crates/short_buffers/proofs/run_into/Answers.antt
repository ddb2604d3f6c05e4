-- The nodes that reading counts stand in the lent part of the table.
use native.Mathlib.Omega.{arith}
use lib.ListN.{take, length-take}
use Rattle.reader.proofs.Fits.{count_fits}
use Rattle.short_buffers.proofs.run_into.Goals as goal

pub overflow_mul-a : goal.overflow_mul-a
overflow_mul-a g c =
    let words = c.widen.new.words in
    let fits = count_fits c.args.text.now (take c.args.len words) c.read-a.new.nodes c.read-a.result c.read-a.ensures in
    omega (arith, fits, length-take c.args.len words, c.requires)
