-- What an answer of the code says of the declarations of a part: each case of it is that case of the definition.
use mathlib.Core.Path.{◌≡◌, sym, ap, subst}
use mathlib.Core.Bool.{Bool}
use Rattle.std.specs.Prelude.{Ok, Err}
use Rattle.grammar.specs.Bytes.{Bytes}
use Rattle.grammar.specs.Outcome.{Outcome, refused, passed}
use Rattle.grammar.specs.Operator as G
use Rattle.refusals.specs.declared.Refused.{Refused}
use Rattle.refusals.specs.Numbers.{number_of}
use Rattle.operators.specs.Entries.{table_of}
use Rattle.operators.specs.declared.table.Table.{Table}
use Rattle.declaring.specs.Declaring.{Leaves, Declares}

module _ (text : Bytes) (t u : Table) where
  pub part_refused : (o : Outcome G.Table) (x : Refused) → Declares text t o u (Err x) → o ≡ refused (number_of x.refusal) x.at
  part_refused (refused m q) x h = let n = h.0.numbered in let p = h.0.placed in cc
  part_refused (passed U) x h = absurd h

  pub part_passed :
      (o : Outcome G.Table) (replaced : Bool) → Declares text t o u (Ok replaced)
      → (o ≡ passed (table_of text u)) × Leaves text (table_of text t) (table_of text u) replaced u
  part_passed (refused m q) replaced h = absurd h.0
  part_passed (passed U) replaced left =
      let table = sym left.table in
      (ap passed table, subst (λ Z. Leaves text (table_of text t) Z replaced u) table left)
