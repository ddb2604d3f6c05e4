-- The kind tells; a symbol is an operator if its bytes have the number of one.
use mathlib.Core.Path.{refl, sym, ◌∙◌}
use borrow.Author.Rules.{rules}
use mathlib.Core.Logic.{inl}
use Rattle.rows.proofs.Stored.{stored_within, part_written}
use Rattle.starting_operators.proofs.Numbers.{some_number, none_number_is}
use Rattle.starting_operators.proofs.NotedTokens.{stands}
use Rattle.starting_operators.proofs.notes.classify.Goals as goal

pub slice_bounds-number-end : goal.slice_bounds-number-end
slice_bounds-number-end c = let (n, R, g, h) = c.requires.0 in stored_within g.stored _ (stands g h)

pub returns-in-Some : goal.returns-in-Some
returns-in-Some c =
    let e = sym c.number.ensures ∙ c.in-Some.is in
    (search rules, rw (part_written _ c.args.tokens.now c.args.i refl refl) at (some_number _ _ e).1)

pub returns-in-None : goal.returns-in-None
returns-in-None c =
    let e = sym c.number.ensures ∙ c.in-None.is in
    (refl, refl, inl (search rules, rw (part_written _ c.args.tokens.now c.args.i refl refl) at (none_number_is _ e)))
