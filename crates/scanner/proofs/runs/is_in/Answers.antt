-- The class of the byte by its number.
use mathlib.Core.Path.{ap, ◌∙◌}
use lib.Dec.{eqb}
use Rattle.byte_classes.proofs.Codes.{tag_code}
use Rattle.scanner.specs.Classes.{in_class}
use Rattle.scanner.proofs.runs.is_in.Goals as goal

pub returns : goal.returns
unfolding in_class
returns c = ap (λ n. eqb n c.args.class) (tag_code c.class.result ∙ c.class.ensures)
