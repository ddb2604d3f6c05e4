-- The reserved operators are the starting operators with the first three numbers: their names and numbers are computed.
use mathlib.Core.Path.{◌≡◌, refl, ap, ◌∙◌}
use mathlib.Core.Bool.{Bool, true, false, ◌||◌}
use mathlib.Core.Logic.{⊎_elim}
use Prim.Native.Nat.{ℕ, ◌<◌}
use native.Mathlib.Omega.{arith}
use lib.Dec.{ltb, leb}
use borrow.Author.Tests.{lt-ltb, le-ltb, lt-leb}
use Rattle.grammar.specs.Bytes.{Bytes, bytes}
use Rattle.grammar.specs.Declaration.{is_reserved}
use Rattle.grammar.proofs.Logic.{below, clash}
use Rattle.grammar.proofs.ReservedRoles.{reserved_names}
use Rattle.starting_operators.specs.Starting.{number_in, start_number, start_name, start_count}
use Rattle.starting_operators.proofs.Numbers.{every_number, computed_count, each_start, start_name_lem}

-- How many there are.
abbrev pub reserved_count : ℕ
reserved_count = 3

first_reserved : (n : ℕ) → n < start_count → n < reserved_count → is_reserved (start_name n) ≡ true
unfolding computed_count every_number is_reserved
first_reserved n h l =
    let e : leb reserved_count n || is_reserved (start_name n) ≡ true =
    each_start (λ k o. leb reserved_count k || is_reserved o.name) refl n h in
    rw (lt-leb reserved_count n l) at e

reserved_numbers :
    (start_number (bytes "and") < reserved_count) × (start_number (bytes "or") < reserved_count) × (start_number (bytes "not") < reserved_count)
unfolding start_number number_in computed_count
reserved_numbers = (omega arith, omega arith, omega arith)

module _ (name : Bytes) where
  numbered_reserved : start_number name < reserved_count → is_reserved name ≡ true
  unfolding computed_count
  numbered_reserved h =
      ⊎_elim (λ e. absurd (omega arith)) (λ n. ap is_reserved n.1 ∙ first_reserved (start_number name) n.0 h) (start_name_lem name)

  -- A reserved operator has one of these numbers.
  reserved_numbered : is_reserved name ≡ true → start_number name < reserved_count
  reserved_numbered e =
      let (a, o, n) = reserved_numbers in ⊎_elim (numbered a) (⊎_elim (numbered o) (numbered n)) (reserved_names name e)
    where
      numbered : {m : Bytes} → start_number m < reserved_count → name ≡ m → start_number name < reserved_count
      numbered l e = rw e l

  pub reserved_below : ltb (start_number name) reserved_count ≡ is_reserved name
  reserved_below = go (is_reserved name) refl
    where
      go : (b : Bool) → is_reserved name ≡ b → ltb (start_number name) reserved_count ≡ b
      go true e = lt-ltb _ _ (reserved_numbered e)
      go false e =
          below (start_number name) reserved_count (λ h. absurd (clash (numbered_reserved h) e)) (λ h. le-ltb _ _ h)
