-- The tests are those of `coded_class`, and a word or sign is what the search of its name finds.
use Rattle.std.proofs.Common.{sym, ap, ◌∙◌, arith}
use Rattle.rows.specs.Kinds.{kind_code}
use Rattle.rows.proofs.KindNumbers.{same_kind}
use Rattle.resolving.proofs.Classes.{class_operator, class_name, class_number, class_bracket, class_block, class-other, token_ends, token_named}
use Rattle.resolving.proofs.classify.Goals as goal

pub written-written-requires : goal.written-written-requires
written-written-requires c =
    let (to, R, g, l) = c.requires.0 in
    token_ends g l

pub find_quickly-requires : goal.find_quickly-requires
find_quickly-requires c =
    let (to, R, g, l) = c.requires.0 in
    ((c.args.text.now, c.requires.1), token_named g l c.written-written.ensures (omega (arith, ap kind_code c.in-Symbol.is)))

pub find-requires : goal.find-requires
find-requires c =
    let (to, R, g, l) = c.requires.0 in
    (c.requires.1, token_named g l c.written-written.ensures (omega (arith, ap kind_code c.in-Symbol.is)))

pub returns-in-Opening : goal.returns-in-Opening
returns-in-Opening c = sym (class_bracket _ _ _ _ (ap kind_code c.in-Opening.is))

pub returns-in-Let : goal.returns-in-Let
returns-in-Let c = sym (class_block _ _ _ _ (ap kind_code c.in-Let.is))

pub returns-in-Number : goal.returns-in-Number
returns-in-Number c = sym (class_number _ _ _ _ (ap kind_code c.in-Number.is))

pub returns-in-At : goal.returns-in-At
returns-in-At c =
    sym (class_operator _ _ _ _ (ap kind_code c.in-Symbol.is) _ (rw c.written-written.ensures at (c.in-At.ensures _ c.requires.1)))

pub returns-in-Nothing : goal.returns-in-Nothing
returns-in-Nothing c =
    sym (class_name _ _ _ _ (ap kind_code c.in-Symbol.is) (rw c.written-written.ensures at (c.in-Nothing.ensures _ c.requires.1)))

pub returns-in-Some : goal.returns-in-Some
returns-in-Some c =
    sym (class_operator _ _ _ _ (ap kind_code c.in-Symbol.is) _ (rw c.written-written.ensures at (sym c.find.ensures ∙ c.in-Some.is)))

pub returns-in-None : goal.returns-in-None
returns-in-None c =
    sym (class_name _ _ _ _ (ap kind_code c.in-Symbol.is) (rw c.written-written.ensures at (sym c.find.ensures ∙ c.in-None.is)))

pub returns-in_default : goal.returns-in_default
returns-in_default c =
    let d = c.in_default in
    sym (class-other _ _ _ _ (λ z. d.not-Symbol (same_kind _ _ z)) (λ z. d.not-Number (same_kind _ _ z))
    (λ z. d.not-Opening (same_kind _ _ z)) (λ z. d.not-Let (same_kind _ _ z)))
