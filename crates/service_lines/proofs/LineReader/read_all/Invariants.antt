-- The loop's invariant: what is printed so far and what the rest of the input gives are together what the whole input gives.
use mathlib.Core.Path.{◌≡◌}
use mathlib.Core.List.{List}
use Prim.Native.Nat.{ℕ, ◌-◌, ◌^◌, ◌<◌}
use lib.ListN.{length}
use Rattle.std.specs.Prelude.{Some}
use Rattle.service_lines.specs.Parts.{rest_gives}
use Rattle.service_lines.proofs.Turns.{Reached}
use Rattle.service_lines.proofs.LineReader.read_all.Given as goal

abbrev pub invariant-loop : goal.invariant-loop
invariant-loop g l =
    let a = l.initial.self in
    record {
      format : l.self.format ≡ a.format;
      reached : (bs : List ℕ) → g.R.Read.remaining l.initial.input ≡ Some bs → length bs < 2 ^ 64 - 1
          → Reached a.format (rest_gives a.format a.text a.call bs) l.self.text l.self.call l.counter (g.R.Read.remaining l.input)
          (g.W.Write.contents l.initial.out) (g.W.Write.contents l.out);
    }
