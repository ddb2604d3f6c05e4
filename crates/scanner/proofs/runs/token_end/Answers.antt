-- The token at `at` goes by the class of the byte there, and the match is that of `token_size_of`.
use mathlib.Core.Path.{sym, ap, ◌∙◌}
use native.Mathlib.Omega.{arith}
use Rattle.grammar.specs.Token.{in_sign, in_number}
use Rattle.byte_classes.specs.Classes.{class_code}
use Rattle.byte_classes.proofs.Codes.{one_class}
use Rattle.scanner.specs.Classes.{in_class}
use Rattle.scanner.proofs.TokenSizes.{size-behind, end_word, end_sign, end_number, end_other}
use Rattle.scanner.proofs.runs.token_end.Goals as goal

pub returns-then-text-at : goal.returns-then-text-at
returns-then-text-at c = omega (arith, size-behind c.args.text.now c.args.at c.if-text-at.true)

pub returns-in-Letter : goal.returns-in-Letter
returns-in-Letter c = end_word c.args.text.now c.args.at c.if-text-at.false (sym c.class.ensures ∙ ap class_code c.in-Letter.is) c.word_end.ensures

pub returns-in-Digit : goal.returns-in-Digit
unfolding in_class in_number
returns-in-Digit c = end_number c.args.text.now c.args.at c.if-text-at.false (sym c.class.ensures ∙ ap class_code c.in-Digit.is) c.run_end.ensures

pub returns-in-Sign : goal.returns-in-Sign
unfolding in_class in_sign
returns-in-Sign c = end_sign c.args.text.now c.args.at c.if-text-at.false (sym c.class.ensures ∙ ap class_code c.in-Sign.is) c.run_end-in-Sign.ensures

pub returns-in_default : goal.returns-in_default
returns-in_default c =
    end_other c.args.text.now c.args.at c.if-text-at.false (class_code c.class.result) (sym c.class.ensures)
    (λ e. c.in_default.not-Letter (one_class _ _ e))
    (λ e. c.in_default.not-Sign (one_class _ _ e))
    (λ e. c.in_default.not-Digit (one_class _ _ e))
