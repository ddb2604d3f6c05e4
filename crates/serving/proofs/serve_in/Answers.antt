-- A refusal of the checks is that of the service, and so is nothing of a blank text; else the rows hold what the services write from.
use mathlib.Core.Path.{refl}
use Rattle.serving.proofs.Reading.{found}
use Rattle.serving.proofs.Serving.{serves_read, serves_canonicalize, serves_locate, serves_unread, serves_blank}
use Rattle.serving.proofs.serve_in.Goals as goal

pub returns-in-Err : goal.returns-in-Err
returns-in-Err c =
    let m = c.check.new in
    serves_unread _ _ m.tokens m.notes m.roots _ c.in-Err.ensures _ c.refused.ensures

pub returns-in-Ok-None : goal.returns-in-Ok-None
returns-in-Ok-None c = serves_blank _ _ _ _ _ (rw c.in-Ok-None.field-0-is at c.in-Ok-None.ensures)

pub write_nodes-requires : goal.write_nodes-requires
write_nodes-requires c = (_, found _ _ _ _ _ (rw c.in-Ok-Some.field-0-is at c.in-Ok-Some.ensures))

pub write_text-requires : goal.write_text-requires
write_text-requires c = (_, refl, found _ _ _ _ _ (rw c.in-Ok-Some.field-0-is at c.in-Ok-Some.ensures))

pub returns-in-Read : goal.returns-in-Read
returns-in-Read c =
    let f = found _ _ _ _ _ (rw c.in-Ok-Some.field-0-is at c.in-Ok-Some.ensures) in
    serves_read _ _ c.in-Read.is (c.write_nodes.ensures _ f)

pub returns-in-Canonicalize : goal.returns-in-Canonicalize
returns-in-Canonicalize c = serves_canonicalize _ _ c.in-Canonicalize.is c.write_text.ensures

pub returns-in-Locate : goal.returns-in-Locate
returns-in-Locate c =
    let f = found _ _ _ _ _ (rw c.in-Ok-Some.field-0-is at c.in-Ok-Some.ensures) in
    serves_locate _ _ c.in-Locate.is f.reading f.reads
