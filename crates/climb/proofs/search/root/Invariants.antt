-- The search takes the steps of the pass over the items, whatever the operators in force: what is read so far is known under all of them.
use mathlib.Core.Path.{◌≡◌}
use mathlib.Core.Bool.{true}
use Prim.Native.Nat.{ℕ, ◌-◌}
use Rattle.grammar.specs.Bytes.{Bytes}
use Rattle.grammar.specs.Operator.{Table}
use Rattle.rows.specs.Fields.{TokenRow, NoteRow, RootRow}
use Rattle.rows.specs.Codes.{is_role}
use Rattle.climb.specs.Searched.{RootsKept, InForce}
use Rattle.climb.proofs.Climbing.{Climbing}
use Rattle.climb.proofs.search.root.Given as goal

-- Where the search stands, with the row as it was and as it is; `q` and `k` are the numbers of two roles.
pub record Stands (K : TokenRow) (R : NoteRow) (from to : ℕ) (O₀ O : RootRow) (h d q k i : ℕ) : Type 0 where
  pub climbs : (text : Bytes) (T : Table) → InForce text T K R from to → Climbing text T K R from to O h d q k i
  pub kept : RootsKept O₀ from to O
  pub inner_role : is_role q ≡ true
  pub taking_role : is_role k ≡ true

abbrev pub invariant-loop-waiting : goal.invariant-loop-waiting
invariant-loop-waiting l =
    Stands l.tokens l.notes l.from l.to l.initial.roots l.roots l.waiting l.operand l.inner.0 l.taking.0 l.i

abbrev pub decreases-loop-waiting : goal.decreases-loop-waiting
decreases-loop-waiting l = l.waiting

abbrev pub invariant-span : goal.invariant-span
invariant-span l = Stands l.tokens l.notes l.from l.to l.initial.roots l.roots l.waiting l.operand 0 l.taking.0 l.i

abbrev pub decreases-span : goal.decreases-span
decreases-span l = l.to - l.i
