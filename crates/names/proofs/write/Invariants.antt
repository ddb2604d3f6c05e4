-- The loop's invariant: the characters from `i` on, put behind the `n` that stand, make the buffer what it is to be.
use mathlib.Core.Path.{◌≡◌}
use Prim.Native.Nat.{◌+◌, ◌-◌, ◌≤◌}
use lib.ListN.{length, drop}
use lib.Seq.{sets}
use Rattle.grammar.specs.Token.{undoubled}
use Rattle.names.proofs.write.Given as goal

abbrev pub invariant-loop-i : goal.invariant-loop-i
invariant-loop-i l =
    (length l.buffer ≡ length l.initial.buffer)
    × (l.n + length (undoubled (drop l.i l.written)) ≤ length l.buffer)
    × (sets l.initial.buffer 0 (undoubled l.written) ≡ sets l.buffer l.n (undoubled (drop l.i l.written)))

abbrev pub decreases-loop-i : goal.decreases-loop-i
decreases-loop-i l = length l.written - l.i
