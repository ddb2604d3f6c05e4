-- Facts about tests: conjunctions, alternatives, tests of every byte, the equality of byte strings, and the order of numbers.
use mathlib.Core.Path.{◌≡◌, refl, sym, ap₂, ◌∙◌}
use mathlib.Core.Bool.{Bool, true, false, ◌&&◌, ◌||◌, true≢false}
use mathlib.Core.Logic.{◌⊎◌, inl, inr}
use mathlib.Core.List.{[], ◌∷◌}
use Prim.Native.Nat.{ℕ, ◌≤◌, ◌<◌}
use native.Mathlib.Omega.{arith}
use lib.Dec.{ltb, eqb}
use borrow.Author.Tests.{ltb-true, ltb-false, eqb-true, eq-eqb}
use Rattle.grammar.specs.Bytes.{Bytes, every, same}

pub and_left : (a b : Bool) → a && b ≡ true → a ≡ true
and_left true b e = refl
and_left false b e = e

pub and_right : (a b : Bool) → a && b ≡ true → b ≡ true
and_right true b e = e
and_right false b e = absurd (true≢false (sym e))

pub and_intro : {a b : Bool} → a ≡ true → b ≡ true → a && b ≡ true
and_intro e f = rw (e, f)

pub or_cases : (a b : Bool) → a || b ≡ true → (a ≡ true) ⊎ (b ≡ true)
or_cases true b e = inl refl
or_cases false b e = inr e

pub either : (b : Bool) → (b ≡ true) ⊎ (b ≡ false)
either true = inl refl
either false = inr refl

-- A test is not both.
pub clash : {b : Bool} → b ≡ true → b ≡ false → ⊥
clash p q = true≢false (sym p ∙ q)

-- A contradiction between constructors, which `cc` finds.
pub impossible {ℓ} : {X : Type ℓ} → ◌≡◌ {A = ℕ} 0 1 → X
impossible e = absurd (omega arith)

pub every-cons : (p : ℕ → Bool) (b : ℕ) (s : Bytes) → every p (b ∷ s) ≡ p b && every p s
unfolding every
every-cons p b s = go (p b) refl
  where
    go : (h : Bool) → p b ≡ h → every p (b ∷ s) ≡ p b && every p s
    go true e = rw (e, every)
    go false e = rw (e, every)

pub same_eq : (x y : Bytes) → same x y ≡ true → x ≡ y
unfolding same
same_eq [] [] e = refl
same_eq [] (b ∷ y) e = absurd (true≢false (sym e))
same_eq (a ∷ x) [] e = absurd (true≢false (sym e))
same_eq (a ∷ x) (b ∷ y) e = ap₂ ◌∷◌ (eqb-true a b (and_left (eqb a b) (same x y) e)) (same_eq x y (and_right (eqb a b) (same x y) e))

pub same_refl : (x : Bytes) → same x x ≡ true
unfolding same
same_refl [] = refl
same_refl (a ∷ x) = and_intro (eq-eqb a a refl) (same_refl x)

-- One number is below another, or not.
pub below : {A : Type 0} (k m : ℕ) → (k < m → A) → (m ≤ k → A) → A
below {A} k m f g = go (ltb k m) refl
  where
    go : (b : Bool) → ltb k m ≡ b → A
    go true e = f (ltb-true k m e)
    go false e = g (ltb-false k m e)
