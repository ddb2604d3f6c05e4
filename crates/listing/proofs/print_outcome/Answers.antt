-- The word, or the refusal, is the text of the outcome.
use mathlib.Core.Path.{ap}
use mathlib.Core.List.{◌++◌}
use Rattle.grammar.specs.Bytes.{Bytes}
use Rattle.grammar.specs.Listing.{newline}
use Rattle.std.proofs.Common.{rules}
use Rattle.listing.proofs.Appended.{ok_same}
use Rattle.listing.proofs.Outcomes.{outcome_text-counted, outcome_text-refused}
use Rattle.listing.proofs.print_outcome.Goals as goal

pub returns-in-Ok : goal.returns-in-Ok
returns-in-Ok g c =
    ok_same c.print_line.result _ _
    (ap (λ (x : Bytes). x ++ newline) (outcome_text-counted c.args.a c.args.word.now c.in-Ok.field-0 (search rules)))
    c.print_line.ensures

pub returns-in-Err : goal.returns-in-Err
returns-in-Err g c =
    ok_same c.writeln.result _ _
    (ap (λ (x : Bytes). x ++ newline)
    (outcome_text-refused c.args.a c.args.word.now c.in-Err.error (search rules) (search rules) (search rules)))
    c.writeln.ensures.bytes
