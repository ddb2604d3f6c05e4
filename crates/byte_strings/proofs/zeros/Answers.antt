-- All but the last digit are counted through.
use Prim.Native.Nat.{◌-◌}
use native.Mathlib.Omega.{arith}
use lib.ListN.{length}
use Rattle.byte_strings.proofs.LeadingZeros.{zeros_go}
use Rattle.byte_strings.proofs.zeros.Goals as goal

pub returns : goal.returns
returns c = let d = c.args.digits.now in zeros_go d (length d - 1) _ (omega arith) c.leading_zeros.ensures
