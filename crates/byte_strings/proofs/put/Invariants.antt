-- The loop's invariant: what is left of the part is to be put behind the `n + i` bytes that stand.
use mathlib.Core.Path.{◌≡◌}
use Prim.Native.Nat.{◌+◌}
use lib.ListN.{length, drop}
use lib.Seq.{sets}
use Rattle.byte_strings.proofs.put.Given as goal

abbrev pub invariant-loop-i : goal.invariant-loop-i
invariant-loop-i l = (length l.buffer ≡ length l.initial.buffer) × (sets l.initial.buffer l.n l.part ≡ sets l.buffer (l.n + l.i) (drop l.i l.part))
