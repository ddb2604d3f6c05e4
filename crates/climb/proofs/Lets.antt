-- In a paired range a `let` has its `in` behind it, and only tokens of declarations between.
-- By the place of the token among the items of the range.
use mathlib.Core.Path.{◌≡◌, refl, ap}
use Prim.Native.Nat.{ℕ, ◌≤◌, ◌<◌}
use native.Mathlib.Omega.{arith}
use lib.Dec.{eqb}
use denote.Enum.Bare.{sameb}
use Rattle.grammar.proofs.Logic.{below}
use Rattle.rows.specs.contracts.token.Kind.{the_type}
use Rattle.rows.specs.declared.token.Kind.{Kind}
use Rattle.rows.specs.declared.token.Kind.TheVariants.{Let}
use Rattle.rows.specs.Kinds.{kind_code}
use Rattle.rows.specs.Fields.{TokenRow, kind, closer}
use Rattle.rows.specs.Tokens.{IsQuietKind, Paired, done, single, bracket, block}

-- The test of a kind is that of its number.
pub let_test : (k : Kind) → sameb the_type k Let ≡ eqb (kind_code k) 7
let_test Let = refl
let_test k = refl

pub record LetAt (K : TokenRow) (j to : ℕ) : Type 0 where
  pub before : j < closer K j
  pub within : closer K j < to
  pub quiet : (m : ℕ) → j < m → m < closer K j → IsQuietKind (kind K m)

-- A token before, at or behind another; one of a kind that is no `let` is not the same.
around : {X : Type 0} (K : TokenRow) (j c n : ℕ) → kind K j ≡ 7 → kind K c ≡ n → (n ≡ 7 → ⊥) → (j < c → X) → (c < j → X) → X
around K j c n k e d f g =
    below j c f (λ l. below c j g (λ m. let same : c ≡ j = omega arith in absurd (d (omega (arith, ap (kind K) same)))))

further : {K : TokenRow} {j c to : ℕ} → LetAt K j c → c ≤ to → LetAt K j to
further x l = record { before = x.before; within = omega (arith, x.within); quiet = x.quiet }

pub let_at : {K : TokenRow} {i to : ℕ} → Paired K i to → (j : ℕ) → i ≤ j → j < to → kind K j ≡ 7 → LetAt K j to
let_at done j a b k = absurd (omega arith)
let_at {K} (single {i = i} l t p) j a b k =
    around K j i (kind K i) k (cc) (λ e. omega (arith, t.1)) (λ h. absurd (omega arith)) (λ h. let_at p j h b k)
let_at {K} (bracket {i = i} c d w l m y p q) j a b k =
    around K j i 4 k d (λ e. omega arith) (λ h. absurd (omega arith))
    (λ h. around K j c 5 k y (λ e. omega arith) (λ u. further (let_at p j h u k) (omega arith)) (λ u. let_at q j u b k))
let_at {K} (block {i = i} c e d w v l m n y z f p q) j a b k =
    below i j
    (λ h.
    around K j c 8 k y (λ s. omega arith) (λ u. absurd (omega (arith, (f j h u).1)))
    (λ u. around K j e 9 k z (λ s. omega arith) (λ t. further (let_at p j u t k) (omega arith)) (λ t. let_at q j t b k)))
    (λ h.
    let same : j ≡ i = omega arith in
    rw same (record { before = rw w l; within = omega arith; quiet = λ x g u. f x g (omega arith) }))
