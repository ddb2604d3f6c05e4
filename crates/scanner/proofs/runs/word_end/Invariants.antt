-- The loop's invariant: what has been passed and the run from `i` on are the run from `at` on.
use mathlib.Core.Path.{◌≡◌}
use Prim.Native.Nat.{◌+◌}
use lib.ListN.{drop}
use Rattle.grammar.specs.Scan.{run}
use Rattle.grammar.specs.Token.{in_word}
use Rattle.scanner.proofs.runs.word_end.Given as goal

abbrev pub invariant-loop-i : goal.invariant-loop-i
invariant-loop-i l = l.at + run in_word (drop l.at l.text) ≡ l.i + run in_word (drop l.i l.text)
