-- The class of the quote is that of one byte, and behind the text stands none.
use mathlib.Core.Path.{◌≡◌, sym, ap, ◌∙◌}
use native.Mathlib.Omega.{arith}
use lib.ListN.{get_or}
use Rattle.grammar.specs.Token.{is_quote}
use Rattle.scanner.proofs.TestedClasses.{quote_test}
use Rattle.scanner.proofs.QuotedCharacters.{quoted_none}
use Rattle.scanner.proofs.runs.is_quote.Goals as goal

pub returns-in-Some : goal.returns-in-Some
returns-in-Some c =
    let b : c.in-Some.b.now ≡ get_or c.args.text.now c.args.at 0 = grind arith in
    quote_test _ _ c.eq.ensures c.class.ensures ∙ ap is_quote b

pub returns-in-None : goal.returns-in-None
returns-in-None c = sym (quoted_none c.args.text.now c.args.at (grind arith))
