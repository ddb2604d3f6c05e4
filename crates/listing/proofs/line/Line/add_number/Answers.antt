-- The digits that `decimal` gives are those of the definition, at most 20.
use mathlib.Core.Path.{◌≡◌, ap, ◌∙◌}
use mathlib.Core.List.{List, ◌++◌}
use Prim.Native.Nat.{ℕ}
use native.Mathlib.Omega.{arith}
use lib.ListN.{length, length-append, take}
use Rattle.listing.specs.Lines.{spelled}
use Rattle.listing.proofs.Digits.{digits_spelled, length-spelled}
use Rattle.listing.proofs.line.Line.add_number.Goals as goal
use Rattle.listing.proofs.line.Line.add_number.Goals.{After-decimal-k}

-- The bytes that `decimal` leaves.
decimal-spelled : (c : After-decimal-k) → take c.decimal-k.result c.decimal-k.new.out ≡ spelled c.args.n
decimal-spelled c =
    let d = c.decimal-k.ensures in
    d.digits ∙ digits_spelled c.decimal-k.result c.args.n c.ranges.n.fits d.len

pub add-requires : goal.add-requires
add-requires c = omega (arith, ap length (decimal-spelled (goal.at.add-requires c).After-decimal-k), length-spelled c.args.n)

pub returns : goal.returns
returns c =
    let e = decimal-spelled (goal.at.returns c).After-decimal-k in
    let added = c.add.ensures ∙ ap (λ (x : List ℕ). c.args.self.now ++ x) e in
    record {
      added = added;
      upper_bound = omega (arith, ap length added, length-append c.args.self.now (spelled c.args.n), length-spelled c.args.n);
    }
