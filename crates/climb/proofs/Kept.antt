-- Stores into the row of roots within a span leave all else as it was.
use mathlib.Core.Path.{◌≡◌, refl, sym, ◌∙◌}
use mathlib.Core.Logic.{⊎_elim}
use Prim.Native.Nat.{ℕ, ◌≤◌, ◌<◌}
use native.Mathlib.Omega.{arith}
use lib.ListN.{set, length-set}
use Rattle.rows.specs.declared.operands.Operands.{Operands}
use Rattle.rows.specs.Fields.{RootRow, no_operands, operands, Within}
use Rattle.rows.proofs.Fields.{same_entry, other_entry}
use Rattle.climb.specs.Searched.{RootsKept}

pub kept_all : (O : RootRow) (from to : ℕ) → RootsKept O from to O
kept_all O from to = record { long = refl; same = λ j d. refl }

pub kept_then : (O P Q : RootRow) (from to : ℕ) → RootsKept O from to P → RootsKept P from to Q → RootsKept O from to Q
kept_then O P Q from to f g = record { long = g.long ∙ f.long; same = λ j d. g.same j d ∙ f.same j d }

-- The operands `v` are stored at token `i`.
module _ (O : RootRow) (i : ℕ) (v : Operands) where
  pub set_here : Within O i → operands (set O i v) i ≡ v
  set_here w = same_entry O i v no_operands w.1

  pub set_other : (j : ℕ) → (j ≡ i → ⊥) → operands (set O i v) j ≡ operands O j
  set_other j d = other_entry O i j v no_operands (λ e. d (sym e))

  pub set_kept : (from to : ℕ) → from ≤ i → i < to → RootsKept O from to (set O i v)
  set_kept from to l m =
      record { long = length-set O i v; same = λ j d. set_other j (λ e. ⊎_elim (λ x. omega arith) (λ x. omega arith) d) }
