-- What the pairing answers is checks 6 and 7; where they pass, the tokens are paired.
use Rattle.checks.proofs.Stages.{not_matched, matched}
use Rattle.checks.proofs.check_tokens.Goals as goal

pub check_blocks-requires : goal.check_blocks-requires
check_blocks-requires c = matched c.requires _ _ c.pair_up.ensures _ c.in-Ok.is

pub returns-in-Err : goal.returns-in-Err
returns-in-Err c =
    rw c.into.ensures (not_matched c.requires _ _ c.pair_up.ensures c.args.notes.now c.args.roots.now _ _ c.in-Err.is c.at_offset.ensures)
