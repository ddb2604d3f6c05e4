-- Each way through the match gives the place and the size that `place_of` and `size_of` give there.
use mathlib.Core.Path.{◌≡◌, sym, ap, ◌∙◌}
use native.Mathlib.Omega.{arith}
use Rattle.rows.specs.Kinds.{kind_code}
use Rattle.rows.specs.Tokens.{place_of, size_of}
use Rattle.rows.proofs.KindNumbers.{same_kind}
use Rattle.scanner.proofs.StoredToken.{
  bracket_bounds,
  token_stored,
  quoted_place,
  quoted_size,
  other_place,
  bracket_size,
  whole_size,
}
use Rattle.scanner.proofs.scan.store.Goals as goal
use Rattle.scanner.proofs.scan.store.Goals.{in-Quoted, in-Opening, in_default}

pub returns : goal.returns
returns c t p q =
    let at = c.args.at in
    let place : place_of t at ≡ c.match-kind.start.0 =
    elim c.match-kind.branch [
      | in-Quoted w ↦ quoted_place t at p q (ap kind_code w.in-Quoted.is) ∙ sym (ap (λ x. x.0) w.start-is)
      | in-Opening w ↦
          other_place t at p q (λ e. omega (arith, bracket_bounds _ w.in-Opening.is)) ∙ sym (ap (λ x. x.0) w.start-is)
      | in_default w ↦ other_place t at p q (λ e. w.in_default.not-Quoted (same_kind _ _ e)) ∙ sym (ap (λ x. x.0) w.start-is)
    ] in
    let size : size_of t ≡ c.match-kind.start.1 =
    elim c.match-kind.branch [
      | in-Quoted w ↦ quoted_size t at p q (ap kind_code w.in-Quoted.is) ∙ sym (ap (λ x. x.1) w.start-is)
      | in-Opening w ↦
          let b = bracket_bounds _ w.in-Opening.is in
          bracket_size t at p q (λ e. omega (arith, b)) (omega (arith, b)) (omega (arith, b)) ∙ sym (ap (λ x. x.1) w.start-is)
      | in_default w ↦
          let d = w.in_default in
          whole_size t at p q (λ e. d.not-Quoted (same_kind _ _ e)) (λ e. d.not-Opening (same_kind _ _ e))
          (λ e. d.not-Closing (same_kind _ _ e))
          ∙ sym (ap (λ x. x.1) w.start-is)
    ] in
    token_stored c.args.tokens.now c.args.n _ c.requires.within t at p place size
