-- A starting operator is at its own number if its name is still there; and where there is no hint for the hash, there is no operator.
use mathlib.Core.Path.{sym, ap, ◌∙◌}
use native.Mathlib.Omega.{arith}
use lib.ListN.{get_or}
use Rattle.starting_operators.proofs.Numbers.{some_number}
use Rattle.std.proofs.lemmas.List.{get_or_default}
use Rattle.operators.specs.Entries.{no_entry}
use Rattle.operators.specs.declared.table.Entry.{Entry}
use Rattle.operators.proofs.Searches.{unhinted, found_start}
use Rattle.operators.proofs.table.Table.find_quickly.Goals as goal

pub returns-then-self-entry : goal.returns-then-self-entry
returns-then-self-entry c text sound =
    found_start text _ sound _ _ (omega arith) (some_number _ _ (sym c.number.ensures ∙ c.in-Some.is)).1
    (ap (λ (e : Entry). e.start) (get_or_default c.args.self.now.entries _ no_entry _ (omega arith)) ∙ c.if-self-entry.true)

pub returns-then-self-hash-eq0 : goal.returns-then-self-hash-eq0
returns-then-self-hash-eq0 c text sound =
    unhinted text _ sound _ (ap (λ h. get_or c.args.self.now.hints h 0) (sym c.hash.ensures.0) ∙ c.if-self-hash-eq0.true)
