-- The loop's invariant: the tokens passed have what they leave, and `total` is how long that is with a space before each.
use Rattle.canonical_text.proofs.TrimRow.{TrimmedTo}
use Rattle.canonical_text.proofs.pieces.trim.Given as goal

abbrev pub invariant-loop-i : goal.invariant-loop-i
invariant-loop-i l = TrimmedTo l.text l.notes l.initial.tokens l.count l.i l.total l.tokens
