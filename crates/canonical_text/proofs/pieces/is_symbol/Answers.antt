-- By the class of the first byte.
use mathlib.Core.Path.{◌≡◌, refl, sym, ap, ◌∙◌}
use native.Mathlib.Nat.{zero-add}
use lib.Dec.{eqb}
use lib.ListN.{length}
use borrow.Author.Tests.{ne_eqb}
use Rattle.std.proofs.Common.{rules}
use Rattle.grammar.specs.Token.{in_sign}
use Rattle.scanner.specs.Classes.{in_class}
use denote.Enum.Bare.{sameb}
use Rattle.rows.specs.contracts.token.Kind.{the_type}
use Rattle.rows.specs.declared.token.Kind.{Kind}
use Rattle.rows.specs.declared.token.Kind.TheVariants.{Symbol, Number, Quoted, Opening, Closing, Semicolon, Let, In, End}
use Rattle.rows.specs.Kinds.{kind_code}
use Rattle.canonical_text.proofs.Symbols.{sign_symbol, word_symbol, word_no_symbol, other_no_symbol}
use Rattle.canonical_text.proofs.pieces.is_symbol.Goals as goal

-- The test for a symbol, by the number of the kind.
symbol_test : (k : Kind) → sameb the_type k Symbol ≡ eqb (kind_code k) 1
symbol_test Symbol = refl
symbol_test Number = refl
symbol_test Quoted = refl
symbol_test Opening = refl
symbol_test Closing = refl
symbol_test Semicolon = refl
symbol_test Let = refl
symbol_test In = refl
symbol_test End = refl

pub returns-in-Sign : goal.returns-in-Sign
unfolding in_class in_sign
returns-in-Sign c =
    ap (λ n. eqb n (length c.args.name.now)) (c.run_end.ensures ∙ zero-add _) ∙ sign_symbol _ c.requires (sym c.in-Sign.ensures)

pub returns-then-word_end-name : goal.returns-then-word_end-name
returns-then-word_end-name c =
    c.eq.ensures ∙ symbol_test c.word_kind.result ∙ ap (λ n. eqb n 1) c.word_kind.ensures
    ∙ word_symbol _ c.requires (sym c.in-Letter.ensures) (sym (zero-add _) ∙ sym c.word_end.ensures ∙ c.if-word_end-name.true)

pub returns-else-word_end-name : goal.returns-else-word_end-name
returns-else-word_end-name c =
    ne_eqb _ _ c.if-word_end-name.false
    ∙ word_no_symbol _ c.requires (sym c.in-Letter.ensures) (λ e. c.if-word_end-name.false (c.word_end.ensures ∙ zero-add _ ∙ e))

pub returns-in_default : goal.returns-in_default
returns-in_default c = other_no_symbol _ c.requires (search rules) (search rules)
