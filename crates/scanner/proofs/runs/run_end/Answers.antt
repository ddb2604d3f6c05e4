-- What has been passed and the run from `i` on are the run from `at` on: another byte is passed, or the run ends.
use mathlib.Core.Path.{sym, ◌∙◌}
use native.Mathlib.Omega.{arith}
use lib.ListN.{length}
use Rattle.grammar.proofs.Logic.{below}
use Rattle.scanner.specs.Classes.{in_class}
use Rattle.byte_strings.proofs.Suffixes.{run_step, run_stop, run_end}
use Rattle.scanner.proofs.runs.run_end.Goals as goal

pub returns-then-not-is_in : goal.returns-then-not-is_in
returns-then-not-is_in c =
    omega (arith, run_stop (in_class c.args.class) c.args.text.now c.loop-i.i (omega arith) (sym c.is_in.ensures ∙ c.if-not-is_in.true))

pub loop-i-preserved : goal.loop-i-preserved
loop-i-preserved c =
    omega (arith, run_step (in_class c.args.class) c.args.text.now c.loop-i.i (omega arith) (sym c.if-not-is_in.ensures))

pub returns : goal.returns
returns c =
    below c.args.at (length c.args.text.now)
    (λ l. omega (arith, run_end (in_class c.args.class) c.args.text.now c.loop-i.i (omega arith)))
    (λ l. omega (arith, run_end (in_class c.args.class) c.args.text.now c.args.at l))
