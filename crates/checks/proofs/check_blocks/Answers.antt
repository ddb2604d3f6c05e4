-- What resolving answers is checks 8 to 10 and 17; where they pass, the roles in force are known.
use Rattle.checks.proofs.Stages.{not_resolved, classified}
use Rattle.checks.proofs.check_blocks.Goals as goal

pub check_spans-requires : goal.check_spans-requires
check_spans-requires c = classified c.requires.0 _ _ c.resolve_text.ensures _ c.in_default.is

pub returns-in-Err : goal.returns-in-Err
returns-in-Err c =
    rw c.into.ensures (not_resolved c.requires.0 _ _ c.resolve_text.ensures c.args.roots.now _ _ c.in-Err.is c.at_offset.ensures)
