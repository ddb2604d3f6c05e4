-- Without blocks every token has the roles that it starts with. With blocks, the table made is that of the starting operators, which keep
-- the overloading rule.
use Rattle.std.proofs.Common.{ap, ◌∙◌}
use Rattle.grammar.specs.Operator.{permitted}
use Rattle.grammar.specs.Declaration.{start_table}
use Rattle.grammar.proofs.Operators.{distinct_start}
use Rattle.grammar.proofs.OverloadingTest.{permitted_complete, permitted-start}
use Rattle.resolving.proofs.WithoutBlocks.{notable, blockless_resolves}
use Rattle.resolving.proofs.resolve_text.Goals as goal

pub note_all-requires : goal.note_all-requires
note_all-requires c = notable c.requires.0 (c.requires.1 c.if-not-blocks.true)

pub returns-then-not-blocks : goal.returns-then-not-blocks
returns-then-not-blocks c = blockless_resolves c.requires.0 (c.requires.1 c.if-not-blocks.true) _ c.note_all.ensures

pub resolve-requires : goal.resolve-requires
resolve-requires c =
    let (sound, table) = c.new.ensures _ in
    (c.requires.0, record { sound = sound; kept = ap permitted table ∙ permitted_complete start_table distinct_start permitted-start })
