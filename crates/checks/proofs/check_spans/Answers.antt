-- What the search of all spans answers is check 11.
use Rattle.grammar.specs.Declaration.{start_table}
use Rattle.checks.proofs.Spans.{rows, in_force_lem, no_tree_lem, trees}
use Rattle.checks.proofs.check_spans.Goals as goal

pub check-requires : goal.check-requires
check-requires c = (rows c.requires, c.requires.matched.flat, (_, start_table, in_force_lem c.requires))

pub returns-in-Ok : goal.returns-in-Ok
returns-in-Ok c = trees c.requires _ _ c.check.ensures _ c.in-Ok.is

pub returns-in-Err : goal.returns-in-Err
returns-in-Err c =
    no_tree_lem c.requires _ _ c.check.ensures _ c.in-Err.is _ _ c.span_offset.ensures c.offset_of.ensures
