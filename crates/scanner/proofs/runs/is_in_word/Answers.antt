-- By the class.
use Rattle.scanner.proofs.TestedClasses.{in_word_lem, not_in_word}
use Rattle.scanner.proofs.runs.is_in_word.Goals as goal

pub returns-in-Letter : goal.returns-in-Letter
returns-in-Letter c = in_word_lem _ _ c.class.ensures c.in-Letter.is

pub returns-in_default : goal.returns-in_default
returns-in_default c = not_in_word _ _ c.class.ensures c.in_default.not-Letter c.in_default.not-Digit c.in_default.not-Underscore
