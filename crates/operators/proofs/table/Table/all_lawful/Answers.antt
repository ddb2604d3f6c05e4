-- A test of every entry is one of every operator.
use mathlib.Core.Path.{◌∙◌}
use native.Mathlib.Omega.{arith}
use Rattle.grammar.specs.Operator.{lawful}
use Rattle.operators.proofs.TableEntries.{every_entry}
use Rattle.operators.proofs.table.Table.all_lawful.Goals as goal

pub returns : goal.returns
returns c text = let s = c.requires in c.are_lawful.ensures ∙ every_entry lawful text c.args.self.now (omega arith)
