-- The entries from the one that was found up to `k` hold what stood one place behind; the rest is as it was.
use mathlib.Core.Path.{◌≡◌}
use Prim.Native.Nat.{ℕ, ◌≤◌}
use lib.ListN.{length}
use Rattle.operators.specs.Entries.{entry}
use Rattle.operators.specs.declared.table.Table.{Table}
use Rattle.operators.proofs.Clearing.{Moved}
use Rattle.operators.proofs.table.Table.clear.Given as goal

pub record Turned (t : Table) (at : ℕ) (u : Table) (k : ℕ) : Type 0 where
  pub long : length u.entries ≡ 64
  pub moved : Moved t.entries at k u.entries
  pub rest : (j : ℕ) → k ≤ j → entry u.entries j ≡ entry t.entries j
  pub hints : u.hints ≡ t.hints
  pub counted : u.count ≡ t.count

abbrev pub invariant-loop-k : goal.invariant-loop-k
invariant-loop-k l = Turned l.initial.self l.entry l.self l.k
