-- The loop's invariant: what has been passed and the run from `i` on are the run from `at` on.
use mathlib.Core.Path.{◌≡◌}
use Prim.Native.Nat.{◌+◌}
use lib.ListN.{drop}
use Rattle.grammar.specs.Scan.{run}
use Rattle.scanner.specs.Classes.{in_class}
use Rattle.scanner.proofs.runs.run_end.Given as goal

abbrev pub invariant-loop-i : goal.invariant-loop-i
invariant-loop-i l = l.at + run (in_class l.class) (drop l.at l.text) ≡ l.i + run (in_class l.class) (drop l.i l.text)
