-- The parts that tokens leave, token by token, and how long they are with spaces.
use mathlib.Core.Path.{◌≡◌, refl, ap, ap₂, ◌∙◌}
use mathlib.Core.List.{List, [], ◌∷◌, ◌++◌}
use Prim.Native.Nat.{ℕ, zero, suc, ◌+◌, ◌-◌, ◌≤◌, ◌<◌}
use native.Mathlib.Omega.{arith}
use lib.ListN.{length, length-append}
use Rattle.grammar.specs.Canonical.{spaced_pieces, join_pieces}
use Rattle.grammar.specs.Bytes.{Bytes}
use Rattle.canonical_text.specs.Pieces.{before, parts}

-- A part that is empty, and one that is not.
pub before_none : (p : Bytes) (ps : List Bytes) → length p ≡ 0 → before p ps ≡ ps
unfolding before
before_none [] ps e = refl
before_none (b ∷ p) ps e = absurd (omega arith)

pub before_some : (p : Bytes) (ps : List Bytes) → (length p ≡ 0 → ⊥) → before p ps ≡ p ∷ ps
unfolding before
before_some [] ps d = absurd (d refl)
before_some (b ∷ p) ps d = refl

before-append : (p : Bytes) (ps qs : List Bytes) → before p (ps ++ qs) ≡ before p ps ++ qs
unfolding before
before-append [] ps qs = refl
before-append (b ∷ p) ps qs = refl

module _ (f : ℕ → Bytes) where
  pub parts_end : (to i : ℕ) → to ≤ i → parts f i (to - i) ≡ []
  unfolding parts
  parts_end to i h = let e : to - i ≡ 0 = omega arith in rw (e, parts)

  pub parts_next : (to i : ℕ) → i < to → parts f i (to - i) ≡ before (f i) (parts f (suc i) (to - suc i))
  unfolding parts
  parts_next to i h = let e : to - i ≡ suc (to - suc i) = omega arith in rw (e, parts)

  -- Two runs of tokens.
  pub parts_join : (i a b : ℕ) → parts f i (a + b) ≡ parts f i a ++ parts f (i + a) b
  unfolding parts
  parts_join i zero b = let e : i + 0 ≡ i = omega arith in let d : 0 + b ≡ b = omega arith in rw (e, d)
  parts_join i (suc a) b =
      let e : i + suc a ≡ suc i + a = omega arith in
      let d : suc a + b ≡ suc (a + b) = omega arith in
      rw (e, d) (ap (before (f i)) (parts_join (suc i) a b) ∙ before-append (f i) (parts f (suc i) a) (parts f (suc i + a) b))

  pub parts_same : (g : ℕ → Bytes) (i n : ℕ) → ((j : ℕ) → i ≤ j → j < i + n → f j ≡ g j) → parts f i n ≡ parts g i n
  unfolding parts
  parts_same g i zero h = refl
  parts_same g i (suc n) h =
      ap₂ before (h i (omega arith) (omega arith)) (parts_same g (suc i) n (λ j l m. h j (omega arith) (omega arith)))

-- With a space before each part, and with one between.
pub spaced_next : (p : Bytes) (ps : List Bytes) → (length p ≡ 0 → ⊥) → length (spaced_pieces (before p ps)) ≡ length p + 1 + length (spaced_pieces ps)
unfolding spaced_pieces
spaced_next p ps d = ap (λ qs. length (spaced_pieces qs)) (before_some p ps d) ∙ omega (arith, length-append p (spaced_pieces ps))

pub joined_length : (ps : List Bytes) → length (join_pieces ps) ≡ length (spaced_pieces ps) - 1
unfolding join_pieces spaced_pieces
joined_length [] = refl
joined_length (p ∷ ps) = omega arith
