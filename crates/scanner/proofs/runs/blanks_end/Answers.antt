-- The blanks are the run of bytes of their class.
use Rattle.grammar.specs.Token.{is_blank_byte}
use Rattle.scanner.specs.Classes.{in_class}
use Rattle.scanner.proofs.runs.blanks_end.Goals as goal

pub returns : goal.returns
unfolding in_class is_blank_byte
returns c = c.run_end.ensures
