-- A match on a number with ranges, against a function of the number. An arm is a list of numbers, or an interval of numbers that no
-- arm lists: what the function gives there is computed number by number.
use mathlib.Core.Path.{◌≡◌, refl, sym, ap, subst, ◌∙◌}
use mathlib.Core.Bool.{Bool, true, false, ◌&&◌, ◌||◌}
use mathlib.Core.Logic.{◌⊎◌, inl, inr}
use mathlib.Core.List.{List, [], ◌∷◌}
use Prim.Native.Nat.{ℕ, zero, suc, ◌+◌, ◌≤◌, ◌<◌}
use native.Mathlib.Omega.{arith}
use lib.Dec.{eqb, T}
use borrow.Author.Tests.{eqb-true, eqb-false}
use types.Run.{OneOf, hit}
use mir.Val.{has_key}
use Rattle.grammar.proofs.Logic.{and_left, and_right, or_cases, clash}

-- The test passes at each of `w` numbers from `low` on.
abbrev pub all : (ℕ → Bool) → ℕ → ℕ → Bool
all f low zero = true
all f low (suc w) = f low && all f (suc low) w

pub all_at : (f : ℕ → Bool) (low w : ℕ) → all f low w ≡ true → (b : ℕ) → low ≤ b → b < low + w → f b ≡ true
all_at f low zero t b h g = absurd (omega arith)
all_at f low (suc w) t b h g = go (all_at f (suc low) w (and_right (f low) (all f (suc low) w) t) b) (eqb low b) refl
  where
    go : (suc low ≤ b → b < suc low + w → f b ≡ true) → (x : Bool) → eqb low b ≡ x → f b ≡ true
    go ih true e = subst (λ z. f z ≡ true) (eqb-true low b e) (and_left (f low) (all f (suc low) w) t)
    go ih false e = let ne : low ≡ b → ⊥ = eqb-false low b e in ih (omega arith) (omega arith)

-- What a match knows of a number that no arm lists: the last arm's list comes first.
abbrev pub NoneOf : List (List ℕ) → ℕ → Type 0
NoneOf [] b = Unit {0}
NoneOf (ks ∷ kss) b = NoneOf kss b × (OneOf ks b → ⊥)

abbrev pub listed : List (List ℕ) → ℕ → Bool
listed [] b = false
listed (ks ∷ kss) b = has_key ks b || listed kss b

key_one : (ks : List ℕ) (b : ℕ) → has_key ks b ≡ true → OneOf ks b
key_one ks b e = hit ks b (subst T (sym e) tt)

not_listed : (kss : List (List ℕ)) (b : ℕ) → NoneOf kss b → listed kss b ≡ true → ⊥
not_listed [] b h e = clash e refl
not_listed (ks ∷ kss) b h e = go (not_listed kss b h.0) (or_cases (has_key ks b) (listed kss b) e)
  where
    go : (listed kss b ≡ true → ⊥) → (has_key ks b ≡ true) ⊎ (listed kss b ≡ true) → ⊥
    go ih (inl x) = h.1 (key_one ks b x)
    go ih (inr x) = ih x

module _ (f : ℕ → ℕ) (k : ℕ) where
  abbrev pub gives : ℕ → Bool
  gives b = eqb k (f b)

  abbrev pub gives_all : List ℕ → Bool
  gives_all [] = true
  gives_all (b ∷ bs) = gives b && gives_all bs

  -- An arm that lists numbers.
  pub at_key : (ks : List ℕ) (b : ℕ) → OneOf ks b → gives_all ks ≡ true → k ≡ f b
  at_key [] b o t = absurd o
  at_key (x ∷ []) b o t = eqb-true k (f x) (and_left (gives x) true t) ∙ ap f (sym o)
  at_key (x ∷ y ∷ ks) b (inl o) t = eqb-true k (f x) (and_left (gives x) (gives_all (y ∷ ks)) t) ∙ ap f (sym o)
  at_key (x ∷ y ∷ ks) b (inr o) t = at_key (y ∷ ks) b o (and_right (gives x) (gives_all (y ∷ ks)) t)

  -- An arm that is an interval of numbers that no arm lists.
  pub in-interval
      : (kss : List (List ℕ)) (low w : ℕ) → all (λ b. gives b || listed kss b) low w ≡ true → (b : ℕ) → NoneOf kss b → low ≤ b
      → b < low + w → k ≡ f b
  in-interval kss low w t b n h g = go (or_cases (gives b) (listed kss b) (all_at (λ b. gives b || listed kss b) low w t b h g))
    where
      go : (gives b ≡ true) ⊎ (listed kss b ≡ true) → k ≡ f b
      go (inl x) = eqb-true k (f b) x
      go (inr x) = absurd (not_listed kss b n x)
