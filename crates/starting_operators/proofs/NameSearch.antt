-- The number of a name as a search of the names one after the other, which is computed for the names of the starting operators.
use mathlib.Core.Path.{◌≡◌, refl, sym, ap, ◌∙◌}
use mathlib.Core.Bool.{Bool, true, false}
use mathlib.Core.List.{[], ◌∷◌}
use Prim.Native.Nat.{ℕ, suc, ◌+◌}
use native.Mathlib.Omega.{arith}
use borrow.Author.Tests.{lt-ltb, le-ltb}
use lib.Dec.{ltb}
use lib.ListN.{length}
use Rattle.std.specs.Prelude.{Option, Some, None}
use Rattle.grammar.specs.Bytes.{Bytes, same}
use Rattle.grammar.specs.Operator.{Table}
use Rattle.grammar.specs.Declaration.{start_table}
use Rattle.grammar.proofs.Logic.{below}
use Rattle.starting_operators.specs.Starting.{number_in, start_number, start_count, found_number}

-- The first of a table's operators that has the name; its first operator has number `i`.
unfoldable pub number_at : Table → ℕ → Bytes → Option ℕ
number_at [] i s = None
number_at (o ∷ T) i s = elim (same s o.name) [ true ↦ Some i | false ↦ number_at T (suc i) s ]

suc_ltb : (m n : ℕ) → ltb (suc m) (suc n) ≡ ltb m n
suc_ltb m n =
    below m n (λ h. lt-ltb (suc m) (suc n) (omega arith) ∙ sym (lt-ltb m n h)) (λ h. le-ltb (suc m) (suc n) (omega arith) ∙ sym (le-ltb m n h))

unfoldable counted : Bool → ℕ → Option ℕ
counted true n = Some n
counted false n = None

searched : (T : Table) (i : ℕ) (s : Bytes) → number_at T i s ≡ counted (ltb (number_in T s) (length T)) (i + number_in T s)
unfolding number_at number_in counted
searched [] i s = refl
searched (o ∷ T) i s = go (same s o.name) refl (searched T (suc i) s)
  where
    go :
        (b : Bool) → same s o.name ≡ b → number_at T (suc i) s ≡ counted (ltb (number_in T s) (length T)) (suc i + number_in T s)
        → number_at (o ∷ T) i s ≡ counted (ltb (number_in (o ∷ T) s) (length (o ∷ T))) (i + number_in (o ∷ T) s)
    go true e u = let z : i + 0 ≡ i = omega arith in rw (e, number_at, number_in, lt-ltb 0 (suc (length T)) (omega arith), counted, z)
    go false e u =
        let z : i + suc (number_in T s) ≡ suc i + number_in T s = omega arith in
        rw (e, number_at, number_in, suc_ltb (number_in T s) (length T), z) u

pub found_search : (s : Bytes) → found_number s ≡ number_at start_table 0 s
unfolding found_number start_number start_count counted
found_search s = sym (searched start_table 0 s ∙ go (ltb (number_in start_table s) (length start_table)))
  where
    go : (b : Bool) → counted b (0 + number_in start_table s) ≡ elim b [ true ↦ Some (number_in start_table s) | false ↦ None ]
    go true = ap Some (omega arith)
    go false = refl
