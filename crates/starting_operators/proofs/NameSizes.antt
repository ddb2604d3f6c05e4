-- How many bytes the names of the starting operators have, which is computed of every operator: one to three. A name of another length is
-- another name.
use mathlib.Core.Path.{◌≡◌, refl, ap}
use mathlib.Core.Bool.{Bool, true, false, ◌&&◌}
use Prim.Native.Nat.{ℕ, ◌≤◌, ◌<◌}
use lib.Dec.{leb}
use lib.ListN.{length}
use borrow.Author.Tests.{leb-true}
use Rattle.grammar.specs.Bytes.{Bytes, same}
use Rattle.grammar.proofs.Logic.{and_left, and_right, same_eq}
use Rattle.starting_operators.specs.Starting.{start_name, start_count}
use Rattle.starting_operators.proofs.Numbers.{every_number, computed_count, each_start}

pub other_length : (x y : Bytes) → (length x ≡ length y → ⊥) → same x y ≡ false
other_length x y d = go (same x y) refl
  where
    go : (b : Bool) → same x y ≡ b → b ≡ false
    go true e = absurd (d (ap length (same_eq x y e)))
    go false e = refl

-- Every name has one to three bytes.
pub name_sizes : (k : ℕ) → k < start_count → (1 ≤ length (start_name k)) × (length (start_name k) ≤ 3)
unfolding computed_count every_number
name_sizes k h =
    let e : leb 1 (length (start_name k)) && leb (length (start_name k)) 3 ≡ true =
    each_start (λ k o. leb 1 (length o.name) && leb (length o.name) 3) refl k h in
    (leb-true _ _ (and_left _ _ e), leb-true _ _ (and_right (leb 1 (length (start_name k))) _ e))
