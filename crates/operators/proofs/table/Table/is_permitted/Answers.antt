-- A test of every entry is one of every operator.
use mathlib.Core.Path.{sym, ◌∙◌}
use native.Mathlib.Omega.{arith}
use Rattle.grammar.specs.Operator.{is_apart}
use Rattle.operators.proofs.TableEntries.{every_entry, by_conditions, by_apart}
use Rattle.operators.proofs.table.Table.is_permitted.Goals as goal

pub returns-then-are_apart : goal.returns-then-are_apart
returns-then-are_apart c text =
    let s = c.requires in
    let t = c.args.self.now in
    let e = every_entry is_apart text t (omega arith) in
    c.if-are_apart.true ∙ sym (by_apart _ (sym (c.are_apart.ensures ∙ e) ∙ c.if-are_apart.true))

pub returns-else-are_apart : goal.returns-else-are_apart
returns-else-are_apart c text =
    let s = c.requires in
    let t = c.args.self.now in
    let e = every_entry is_apart text t (omega arith) in
    c.all_lawful.ensures text ∙ sym (by_conditions _ (sym (c.are_apart.ensures ∙ e) ∙ c.if-are_apart.false))
