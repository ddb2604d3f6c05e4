-- The word and the count, or the refusal, are the text of the answer.
use Rattle.std.proofs.Common.{rules}
use Rattle.listing.proofs.Appended.{ok_same}
use Rattle.listing.proofs.Outcomes.{answer-counted, answer-refused}
use Rattle.listing.proofs.print_answer.Goals as goal

pub returns-in-Ok : goal.returns-in-Ok
returns-in-Ok g c =
    ok_same c.write_behind.result _ _ (answer-counted c.args.a c.args.word.now c.in-Ok.count (search rules) (search rules)) c.write_behind.ensures

pub returns-in-Err : goal.returns-in-Err
returns-in-Err g c =
    ok_same c.write.result _ _ (answer-refused c.args.a c.args.word.now c.in-Err.error (search rules) (search rules) (search rules))
    c.write.ensures.bytes
