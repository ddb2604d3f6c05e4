-- What holds of every item of a list, and what a check that went through all of them leaves.
use mathlib.Core.Path.{◌≡◌, refl}
use mathlib.Core.Logic.{◌⊎◌, inl, inr}
use mathlib.Core.List.{List, [], ◌∷◌}
use Prim.Native.Nat.{ℕ, suc, ◌+◌, ◌≤◌}
use native.Mathlib.Omega.{arith}
use lib.ListN.{length, length-append}
use Rattle.grammar.specs.Token.{Token}
use Rattle.grammar.specs.Outcome.{Outcome, refused, passed, and_then}
use Rattle.grammar.specs.Operator.{Table}
use Rattle.grammar.specs.Declaration.{enter}
use Rattle.grammar.specs.Span.{Item, single, pair, scope, item_tokens, all_item_tokens}
use Rattle.grammar.specs.Blocks.{check_item, check_items}
use Rattle.grammar.specs.Bytes.{All}
use Rattle.grammar.proofs.Logic.{impossible}

-- No item has more tokens than the whole list.
pub all_within : (n : ℕ) (xs : List Item) → length (all_item_tokens xs) ≤ n → All (λ x. length (item_tokens x) ≤ n) xs
unfolding all_item_tokens
all_within n [] h = tt
all_within n (x ∷ xs) h =
    let e = length-append (item_tokens x) (all_item_tokens xs) in
    (omega arith, all_within n xs (omega arith))

-- A check that passed after another one: both did.
pub and_then_passed : {A B : Type 0} (o : Outcome A) (f : A → Outcome B) (b : B) → and_then o f ≡ passed b → (a : A) × (o ≡ passed a) × (f a ≡ passed b)
unfolding and_then
and_then_passed (refused n p) f b e = impossible cc
and_then_passed (passed a) f b e = (a, refl, e)

-- A refusal of two checks is that of the first, or that of the second after the first passed.
pub and_then_refused :
    {A B : Type 0} (o : Outcome A) (f : A → Outcome B) (n p : ℕ) → and_then o f ≡ refused n p
    → (o ≡ refused n p) ⊎ ((a : A) × (o ≡ passed a) × (f a ≡ refused n p))
unfolding and_then
and_then_refused (refused m q) f n p e = inl cc
and_then_refused (passed a) f n p e = inr (a, refl, e)

-- What the check of an item by `inner` says of what is inside.
module _ (inner : Table → ℕ → List Token → Outcome (Unit {0})) where
  abbrev pub CheckedBy : Table → Item → Type 0
  CheckedBy T (single t) = Unit {0}
  CheckedBy T (pair ts) = (i : ℕ) × (inner T i ts ≡ passed tt)
  CheckedBy T (scope ds ts) = (i : ℕ) × (U : Table) × (j : ℕ) × (enter (length ds) T i ds ≡ passed U) × (inner U j ts ≡ passed tt)

  check_item_passed : (T : Table) (i : ℕ) (x : Item) → check_item inner T i x ≡ passed tt → CheckedBy T x
  unfolding check_item
  check_item_passed T i (single t) e = tt
  check_item_passed T i (pair ts) e = (suc i, e)
  check_item_passed T i (scope ds ts) e =
      let h = and_then_passed (enter (length ds) T (suc i) ds) (λ U. inner U (suc (suc (i + length ds))) ts) tt e in
      (suc i, h.0, suc (suc (i + length ds)), h.1, h.2)

  pub check_items_passed : (T : Table) (i : ℕ) (xs : List Item) → check_items inner T i xs ≡ passed tt → All (CheckedBy T) xs
  unfolding check_items
  check_items_passed T i [] e = tt
  check_items_passed T i (x ∷ xs) e =
      let h = and_then_passed (check_item inner T i x) (λ u. check_items inner T (i + length (item_tokens x)) xs) tt e in
      (check_item_passed T i x h.1, check_items_passed T (i + length (item_tokens x)) xs h.2)
