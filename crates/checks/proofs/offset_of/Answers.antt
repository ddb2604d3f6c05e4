-- The offset of a token's first byte, or the length of the text.
use mathlib.Core.Path.{sym, ◌∙◌}
use Rattle.checks.proofs.Stages.{offset_token, offset_end, quoted_start}
use Rattle.checks.proofs.offset_of.Goals as goal

pub offset-requires : goal.offset-requires
offset-requires c = quoted_start c.requires.2 c.if-i-count.true

pub returns-then-i-count : goal.returns-then-i-count
returns-then-i-count c = c.offset.ensures ∙ sym (offset_token _ _ _ _ c.if-i-count.true)

pub returns : goal.returns
returns c = sym (offset_end _ _ _ _ c.if-i-count.false)
