-- By what stands there: a pair of quotes, a lone quote, a byte that can stand in quotes, one that cannot, or nothing.
use mathlib.Core.Path.{sym, ◌∙◌}
use Prim.Native.Nat.{◌≤◌, ◌<◌}
use native.Mathlib.Omega.{arith}
use lib.ListN.{length}
use Rattle.scanner.proofs.TestedClasses.{in_quotes_lem, below_quotes, above_quotes}
use Rattle.scanner.proofs.QuotedCharacters.{size_end, size_pair, size_lone, size_bad, size_one}
use Rattle.scanner.proofs.runs.character_end.Goals as goal

pub returns-then-is_quote-2 : goal.returns-then-is_quote-2
returns-then-is_quote-2 c =
    let h : c.args.at < length c.args.text.now = grind arith in
    omega (arith, size_pair c.args.text.now c.args.at h (sym c.if-is_quote.ensures) (sym c.if-is_quote-2.ensures))

pub returns-else-is_quote-2 : goal.returns-else-is_quote-2
returns-else-is_quote-2 c =
    let h : c.args.at < length c.args.text.now = grind arith in
    omega (arith, size_lone c.args.text.now c.args.at h (sym c.if-is_quote.ensures) (sym c.is_quote-in-Some.ensures ∙ c.if-is_quote-2.false))

pub returns-in-Some-32-to-126 : goal.returns-in-Some-32-to-126
returns-in-Some-32-to-126 c =
    let h : c.args.at < length c.args.text.now = grind arith in
    omega (arith, size_one c.args.text.now c.args.at h (sym c.is_quote.ensures ∙ c.if-is_quote.false) (in_quotes_lem _ (grind arith) (grind arith)))

pub returns-in_default : goal.returns-in_default
returns-in_default c =
    let h : c.args.at < length c.args.text.now = grind arith in
    omega (arith, size_bad c.args.text.now c.args.at h (sym c.is_quote.ensures ∙ c.if-is_quote.false) (below_quotes _ (grind arith)))

pub returns-in_default-2 : goal.returns-in_default-2
returns-in_default-2 c =
    let h : c.args.at < length c.args.text.now = grind arith in
    omega (arith, size_bad c.args.text.now c.args.at h (sym c.is_quote.ensures ∙ c.if-is_quote.false) (above_quotes _ (grind arith)))

pub returns-in_default-3 : goal.returns-in_default-3
returns-in_default-3 c =
    let h : length c.args.text.now ≤ c.args.at = grind arith in
    omega (arith, size_end c.args.text.now c.args.at h)
