-- The whole scan's outcome is that of the rest behind the tokens stored. Each turn passes a blank byte, stores a token or ends with a refusal.
use mathlib.Core.Path.{◌≡◌, refl, sym, subst, ◌∙◌}
use native.Mathlib.Omega.{arith}
use borrow.Author.Rules.{rules}
use lib.ListN.{drop}
use Rattle.std.specs.Prelude.{Ok, Err, IsErrAnd}
use Rattle.grammar.specs.Scan.{front}
use Rattle.scanner.specs.Scanning.{Fronts}
use Rattle.scanner.proofs.TestedClasses.{blank_test}
use Rattle.scanner.proofs.ScannedTo.{placed, still_plain, at_end, at_blank, at_wrong, next_within, at_full, storable, at_token}
use Rattle.scanner.proofs.scan.scan.Goals as goal

pub loop-at-preserved-then-eq : goal.loop-at-preserved-then-eq
loop-at-preserved-then-eq c =
    at_blank c.loop-at.invariant c.loop-at-test.true (sym (blank_test _ _ c.eq.ensures c.class.ensures) ∙ c.if-eq.true)

pub returns-in_err-front-clause-scanned : goal.returns-in_err-front-clause-scanned
returns-in_err-front-clause-scanned c =
    let e = c.in_err-front.field-0.0 in
    let b = sym (blank_test _ _ c.eq.ensures c.class.ensures) ∙ c.if-eq.false in
    let m : IsErrAnd c.front_at.result (λ w. e ≡ record { refusal = w; at = c.loop-at.at }) = search rules in
    let h = placed (front (drop c.loop-at.at c.args.text.now)) c.loop-at.at e c.front_at.result c.front_at.ensures m in
    let r : c.from_residual.result ≡ Err e = search rules in
    rw r (at_wrong c.loop-at.invariant c.loop-at-test.true b e h.0 h.1)

pub returns-then-count-ge-MAX_TOKENS-clause-scanned : goal.returns-then-count-ge-MAX_TOKENS-clause-scanned
returns-then-count-ge-MAX_TOKENS-clause-scanned c =
    let b = sym (blank_test _ _ c.eq.ensures c.class.ensures) ∙ c.if-eq.false in
    let x = c.in_ok-front.front in
    let e : c.front_at.result ≡ Ok x = search rules in
    let a = subst (Fronts (front (drop c.loop-at.at c.args.text.now))) e c.front_at.ensures in
    at_full c.loop-at.invariant c.loop-at-test.true b x a c.if-count-ge-MAX_TOKENS.true _ refl refl

pub store-requires : goal.store-requires
store-requires c =
    let b = sym (blank_test _ _ c.eq.ensures c.class.ensures) ∙ c.if-eq.false in
    let x = c.in_ok-front.front in
    let e : c.front_at.result ≡ Ok x = search rules in
    let a = subst (Fronts (front (drop c.loop-at.at c.args.text.now))) e c.front_at.ensures in
    storable c.loop-at.invariant c.loop-at-test.true b x a c.if-count-ge-MAX_TOKENS.false _ c.requires c.loop-at.auto.tokens

pub overflow_add-at-else-eq : goal.overflow_add-at-else-eq
overflow_add-at-else-eq c =
    let b = sym (blank_test _ _ c.eq.ensures c.class.ensures) ∙ c.if-eq.false in
    let x = c.in_ok-front.front in
    let e : c.front_at.result ≡ Ok x = search rules in
    let a = subst (Fronts (front (drop c.loop-at.at c.args.text.now))) e c.front_at.ensures in
    omega (arith, next_within c.loop-at.invariant c.loop-at-test.true b x a)

pub loop-at-smaller : goal.loop-at-smaller
loop-at-smaller c =
    let b = sym (blank_test _ _ c.eq.ensures c.class.ensures) ∙ c.if-eq.false in
    let x = c.in_ok-front.front in
    let e : c.front_at.result ≡ Ok x = search rules in
    let a = subst (Fronts (front (drop c.loop-at.at c.args.text.now))) e c.front_at.ensures in
    omega (arith, next_within c.loop-at.invariant c.loop-at-test.true b x a)

pub loop-at-preserved : goal.loop-at-preserved
loop-at-preserved c =
    let b = sym (blank_test _ _ c.eq.ensures c.class.ensures) ∙ c.if-eq.false in
    let x = c.in_ok-front.front in
    let e : c.front_at.result ≡ Ok x = search rules in
    let a = subst (Fronts (front (drop c.loop-at.at c.args.text.now))) e c.front_at.ensures in
    at_token c.loop-at.invariant c.loop-at-test.true b x a c.if-count-ge-MAX_TOKENS.false c.store.ensures
    (still_plain c.loop-at.nested c.is_atom.result _ c.is_atom.ensures)

pub returns-clause-scanned : goal.returns-clause-scanned
returns-clause-scanned c = at_end c.loop-at.invariant c.loop-at-test.false _ refl refl
