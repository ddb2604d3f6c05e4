-- Suffix style: the search of all entries is that of the entries from `i` on.
use mathlib.Core.Path.{◌≡◌}
use Prim.Native.Nat.{◌-◌}
use Rattle.operators.specs.Entries.{coded_find}
use Rattle.operators.proofs.table.Table.find.Given as goal

abbrev pub invariant-loop-i : goal.invariant-loop-i
invariant-loop-i l =
    let t = l.self in
    coded_find l.text t.entries l.name 0 t.count ≡ coded_find l.text t.entries l.name l.i (t.count - l.i)
