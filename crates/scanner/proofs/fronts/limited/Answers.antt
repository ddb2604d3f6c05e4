-- The test is that of `at_most`, for any token of the kind.
use mathlib.Core.Path.{refl, sym}
use Rattle.scanner.proofs.TokenAtFront.{short_enough, too_long}
use Rattle.scanner.proofs.fronts.limited.Goals as goal

pub returns-then-most-size : goal.returns-then-most-size
returns-then-most-size c t e = rw (too_long c.args.most c.args.size t c.if-most-size.true) refl

pub returns : goal.returns
returns c t e = rw (short_enough c.args.most c.args.size t c.if-most-size.false) (record { coded = sym e; long = refl })
