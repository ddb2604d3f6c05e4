-- The loop's invariant: from here one comes to the same root. The measure is how many tokens may still come.
use Prim.Native.Nat.{ℕ, ◌-◌}
use Rattle.grammar.specs.Fault.{most_tokens}
use Rattle.rows.specs.Below.{Leads}
use Rattle.rows.proofs.below.content.Given as goal

abbrev pub invariant-loop-at : goal.invariant-loop-at
invariant-loop-at l = ((h : ℕ) × Leads l.tokens l.roots l.at h) × ((h : ℕ) → Leads l.tokens l.roots l.opener h → Leads l.tokens l.roots l.at h)

abbrev pub decreases-loop-at : goal.decreases-loop-at
decreases-loop-at l = most_tokens - l.at
