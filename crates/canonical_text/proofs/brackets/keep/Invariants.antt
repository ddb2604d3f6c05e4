-- The loop's invariant: of every tree that stands in the rows, the pairs are kept that the operators passed need.
use Prim.Native.Nat.{◌-◌}
use Rattle.grammar.specs.Operator.{Table}
use Rattle.grammar.specs.Tree.{Tree}
use Rattle.canonical_text.specs.Brackets.{Keepable}
use Rattle.canonical_text.proofs.Keeping.{KeptTo}
use Rattle.canonical_text.proofs.brackets.keep.Given as goal

abbrev pub invariant-loop-i : goal.invariant-loop-i
invariant-loop-i l = (T : Table) (t : Tree) → Keepable l.initial.tokens l.notes l.roots l.count T t → KeptTo l.initial.tokens T t l.count l.i l.tokens

abbrev pub decreases-loop-i : goal.decreases-loop-i
decreases-loop-i l = l.count - l.i
