-- The loop's invariant: the bytes for the tokens passed stand over the front of the buffer.
use Rattle.canonical_text.proofs.Written.{Filled}
use Rattle.canonical_text.proofs.pieces.write.Given as goal

abbrev pub invariant-loop-token : goal.invariant-loop-token
invariant-loop-token l = Filled l.text l.tokens l.count l.initial.buffer l.buffer l.n l.token-index
