-- The invariant is `Walks`: the array and the row hold what is open, and the answer comes out from here as from the start.
use Rattle.pairing.proofs.Walks.{Walks, Seen}
use Rattle.pairing.proofs.pair_up.Given as goal

abbrev pub invariant-loop-i : goal.invariant-loop-i
invariant-loop-i l = Walks l.initial.tokens l.count l.tokens l.pairs l.depth l.i × Seen l.initial.tokens l.blocks l.i
