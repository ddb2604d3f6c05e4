-- What stands at `at` goes by the class of the byte there, and the match is that of `front_of`.
use mathlib.Core.Path.{◌≡◌, refl, sym, ap, ◌∙◌}
use Prim.Native.Nat.{◌+◌, ◌-◌}
use native.Mathlib.Omega.{arith}
use lib.ListN.{take, drop}
use Rattle.grammar.specs.Bytes.{Bytes}
use Rattle.grammar.specs.Token.{in_word, in_sign, in_number, structure_number}
use Rattle.grammar.specs.Token.{atom, structure, symbol, number, opening, closing, semicolon}
use Rattle.grammar.specs.Scan.{keyword_or_symbol, front_of, front}
use Rattle.grammar.specs.Coded.{kind_of}
use Rattle.grammar.proofs.Runs.{words, signs, numbers}
use Rattle.byte_classes.specs.declared.classes.Class.{Class}
use Rattle.byte_classes.specs.declared.classes.Class.TheVariants.{Opening, Closing, Semicolon}
use Rattle.byte_classes.specs.Classes.{class_code}
use Rattle.byte_classes.proofs.Codes.{one_class}
use Rattle.byte_strings.proofs.Suffixes.{run-within}
use Rattle.scanner.specs.Classes.{in_class}
use Rattle.scanner.proofs.TokenAtFront.{front-class, front-run, front-quote, front-other}
use Rattle.scanner.proofs.fronts.front_at.Goals as goal
use Rattle.scanner.proofs.fronts.front_at.Goals.{After-class}

module _ (c : After-class) where
  -- The bytes from `at` on.
  abbrev here : Bytes
  here = drop c.args.at c.args.text.now

  -- What stands at their front, if the byte is of class `k`.
  opened : (k : Class) → c.class.result ≡ k → front here ≡ front_of (class_code k) here
  opened k e = front-class c.args.text.now c.args.at c.requires (class_code k) (sym c.class.ensures ∙ ap class_code e)

pub slice_bounds-word_kind-end : goal.slice_bounds-word_kind-end
slice_bounds-word_kind-end c =
    let i = c.requires in
    omega (arith, run-within in_word c.args.text.now (c.args.at + 1) (omega arith), c.word_end-e.ensures)

pub returns-in-Letter : goal.returns-in-Letter
returns-in-Letter c =
    let e = c.word_end-e.result in
    rw (front-run c.args.text.now c.args.at c.requires words (sym c.class.ensures ∙ ap class_code c.in-Letter.is) e c.word_end-e.ensures)
    (c.limited.ensures (keyword_or_symbol (take (e - c.args.at) (here (goal.at.returns-in-Letter c).After-class))) (sym c.word_kind.ensures))

pub returns-in-Digit : goal.returns-in-Digit
unfolding in_class in_number kind_of
returns-in-Digit c =
    let e = c.run_end.result in
    rw (front-run c.args.text.now c.args.at c.requires numbers (sym c.class.ensures ∙ ap class_code c.in-Digit.is) e c.run_end.ensures)
    (c.limited-in-Digit.ensures (atom (number (take (e - c.args.at) (here (goal.at.returns-in-Digit c).After-class)))) refl)

pub returns-in-Sign : goal.returns-in-Sign
unfolding in_class in_sign kind_of
returns-in-Sign c =
    let e = c.run_end-in-Sign.result in
    rw (front-run c.args.text.now c.args.at c.requires signs (sym c.class.ensures ∙ ap class_code c.in-Sign.is) e c.run_end-in-Sign.ensures)
    (c.limited-in-Sign.ensures (atom (symbol (take (e - c.args.at) (here (goal.at.returns-in-Sign c).After-class)))) refl)

pub returns-in-Quote : goal.returns-in-Quote
returns-in-Quote c = rw (front-quote c.args.text.now c.args.at c.requires (sym c.class.ensures ∙ ap class_code c.in-Quote.is)) c.quoted.ensures

pub returns-in-Opening : goal.returns-in-Opening
unfolding front_of kind_of structure_number
returns-in-Opening c = rw (opened (goal.at.returns-in-Opening c).After-class Opening c.in-Opening.is) (c.solo.ensures (structure opening) refl)

pub returns-in-Closing : goal.returns-in-Closing
unfolding front_of kind_of structure_number
returns-in-Closing c = rw (opened (goal.at.returns-in-Closing c).After-class Closing c.in-Closing.is) (c.solo-in-Closing.ensures (structure closing) refl)

pub returns-in-Semicolon : goal.returns-in-Semicolon
unfolding front_of kind_of structure_number
returns-in-Semicolon c = rw (opened (goal.at.returns-in-Semicolon c).After-class Semicolon c.in-Semicolon.is) (c.solo-in-Semicolon.ensures (structure semicolon) refl)

pub returns-in_default : goal.returns-in_default
returns-in_default c =
    let h = (goal.at.returns-in_default c).After-class in
    let d = c.in_default in
    let e = front-other (class_code c.class.result) (here h) (λ i. d.not-Letter (one_class _ _ i)) (λ i. d.not-Digit (one_class _ _ i))
    (λ i. d.not-Sign (one_class _ _ i)) (λ i. d.not-Quote (one_class _ _ i)) (λ i. d.not-Opening (one_class _ _ i))
    (λ i. d.not-Closing (one_class _ _ i)) (λ i. d.not-Semicolon (one_class _ _ i)) in
    rw (opened h _ refl ∙ e) refl
