-- The tokens before number `i` are noted, and the rest of the row is as it was; each turn notes one token more.
use Rattle.starting_operators.specs.Starting.{NotesAll}
use Rattle.starting_operators.proofs.notes.note_all.Given as goal

abbrev pub invariant-loop-i : goal.invariant-loop-i
invariant-loop-i l = NotesAll l.text l.tokens l.i l.initial.notes l.notes
