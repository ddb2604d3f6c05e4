-- A space and then a number.
use mathlib.Core.Path.{ap, ◌∙◌}
use mathlib.Core.List.{List, [], ◌∷◌, ◌++◌, append_assoc}
use Prim.Native.Nat.{ℕ, ◌<◌, ◌^◌}
use native.Mathlib.Omega.{arith}
use Rattle.listing.specs.Lines.{spelled}
use Rattle.listing.proofs.Digits.{spelled-field}
use Rattle.listing.proofs.line.Line.add_field.Goals as goal

pub returns-clause-added : goal.returns-clause-added
returns-clause-added c =
    let n = c.args.n in
    let line = c.args.self.now in
    let small : n < 10 ^ 10 = omega (arith, c.ranges.n.fits) in
    c.add_number.ensures.added
    ∙ ap (λ (m : ℕ). c.add.new.self ++ spelled m) c.from.ensures
    ∙ ap (λ (l : List ℕ). l ++ spelled n) c.add.ensures
    ∙ append_assoc line (32 ∷ []) (spelled n)
    ∙ ap (λ (x : List ℕ). line ++ x) (spelled-field n small)
