-- The measure is the number of tokens of the part.
use Rattle.std.proofs.Common.{◌-◌}
use Rattle.nodes.proofs.build.+build.Given as goal

abbrev pub decreases-build : goal.decreases-build
decreases-build l = l.to - l.from
