-- By whether the byte is a quote.
use Rattle.names.proofs.Characters.{quote_wide, other_wide}
use Rattle.names.proofs.width.Goals as goal

pub returns-then-first-eq39 : goal.returns-then-first-eq39
returns-then-first-eq39 c = quote_wide _ c.if-first-eq39.true

pub returns-else-first-eq39 : goal.returns-else-first-eq39
returns-else-first-eq39 c = other_wide _ c.if-first-eq39.false
