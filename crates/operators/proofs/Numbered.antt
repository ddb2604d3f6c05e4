-- Operators by number: what declarations do to the list of `n` operators from number `i` on, in terms of the operator at each number.
-- Each law is by induction on `n`, with a split on whether operator `i` has the name.
use mathlib.Core.Path.{◌≡◌, refl, sym, ap, ap₂, ◌∙◌, fun_ext}
use mathlib.Core.Bool.{Bool, true, false}
use mathlib.Core.List.{[], ◌∷◌}
use mathlib.Core.Option.{none}
use Prim.Native.Nat.{ℕ, zero, suc, ◌+◌, ◌≤◌, ◌<◌}
use native.Mathlib.Omega.{arith}
use Rattle.std.specs.Prelude.{Option, Some, None}
use Rattle.grammar.specs.Bytes.{Bytes, same}
use Rattle.grammar.specs.Operator.{
  Fixity,
  Prefix,
  Infix,
  Postfix,
  Role,
  Roles,
  Operator,
  Table,
  replaced,
  declare_role,
  remove_roles,
  listed,
  Distinct,
}
use Rattle.grammar.proofs.Logic.{below, clash, impossible, same_eq}

-- Roles are equal where those of each fixity are.
pub roles_equal : (a b : Roles) → a Prefix ≡ b Prefix → a Infix ≡ b Infix → a Postfix ≡ b Postfix → a ≡ b
roles_equal a b p i q = fun_ext go
  where
    go : (f : Fixity) → a f ≡ b f
    go Prefix = p
    go Infix = i
    go Postfix = q

pub operators_equal : {o u : Operator} → o.name ≡ u.name → o.roles ≡ u.roles → o ≡ u
operators_equal n r = λ i. record { name = n i; roles = r i }

-- The operators, and the first number of a name.
unfoldable pub from : (ℕ → Operator) → ℕ → ℕ → Table
from f i zero = []
from f i (suc n) = f i ∷ from f (suc i) n

unfoldable pub place : Bytes → (ℕ → Operator) → ℕ → ℕ → Option ℕ
place m f i zero = None
place m f i (suc n) = elim (same m (f i).name) [ true ↦ Some i | false ↦ place m f (suc i) n ]

pub from_equal : (f g : ℕ → Operator) (i n : ℕ) → ((j : ℕ) → i ≤ j → j < i + n → f j ≡ g j) → from f i n ≡ from g i n
unfolding from
from_equal f g i zero h = refl
from_equal f g i (suc n) h = ap₂ ◌∷◌ (h i (omega arith) (omega arith)) (from_equal f g (suc i) n (λ j a b. h j (omega arith) (omega arith)))

pub from_suc : (f : ℕ → Operator) (i n : ℕ) → from f (suc i) n ≡ from (λ j. f (suc j)) i n
unfolding from
from_suc f i zero = refl
from_suc f i (suc n) = ap (λ T. f (suc i) ∷ T) (from_suc f (suc i) n)

-- The number found is one of them.
pub place_within : (m : Bytes) (f : ℕ → Operator) (i n k : ℕ) → place m f i n ≡ Some k → (i ≤ k) × (k < i + n)
unfolding place
place_within m f i zero k h = impossible cc
place_within m f i (suc n) k h = go (same m (f i).name) refl (place_within m f (suc i) n k)
  where
    go : (b : Bool) → same m (f i).name ≡ b → (place m f (suc i) n ≡ Some k → (suc i ≤ k) × (k < suc i + n)) → (i ≤ k) × (k < i + suc n)
    go true e r = let l : Some i ≡ Some k = rw (e, place) at h in let l : i ≡ k = cc in omega arith
    go false e r = let l = r (rw (e, place) at h) in omega arith

-- Where none of them has the name, none is found ..
pub place_none : (m : Bytes) (f : ℕ → Operator) (i n : ℕ) → ((j : ℕ) → j < i + n → same m (f j).name ≡ false) → place m f i n ≡ None
unfolding place
place_none m f i zero h = refl
place_none m f i (suc n) h = rw (h i (omega arith), place) (place_none m f (suc i) n (λ j l. h j (omega arith)))

-- .. and where names are distinct, the one that has it.
behind : (m : Bytes) (f : ℕ → Operator) (i k : ℕ) → i ≤ k → same m (f k).name ≡ true → same m (f i).name ≡ false → i < k
behind m f i k h e d = below i k (λ a. a) (λ a. let z : k ≡ i = omega arith in absurd (clash (rw z at e) d))

listed_at :
    (m : Bytes) (f : ℕ → Operator) (i n k : ℕ) → i ≤ k → k < i + n → same m (f k).name ≡ true → listed m (from f i n) ≡ true
unfolding from listed
listed_at m f i zero k h l e = absurd (omega arith)
listed_at m f i (suc n) k h l e = go (same m (f i).name) refl (λ a. listed_at m f (suc i) n k a (omega arith) e)
  where
    go :
        (b : Bool) → same m (f i).name ≡ b → (i < k → listed m (from f (suc i) n) ≡ true) → listed m (f i ∷ from f (suc i) n) ≡ true
    go true d u = rw (d, listed)
    go false d u = rw (d, listed) (u (behind m f i k h e d))

pub place_at :
    (m : Bytes) (f : ℕ → Operator) (i n k : ℕ) → Distinct (from f i n) → i ≤ k → k < i + n → same m (f k).name ≡ true
    → place m f i n ≡ Some k
unfolding from place
place_at m f i zero k p h l e = absurd (omega arith)
place_at m f i (suc n) k (p, ps) h l e = go (same m (f i).name) refl (λ a. place_at m f (suc i) n k ps a (omega arith) e)
  where
    first : same m (f i).name ≡ true → i ≡ k
    first d =
        below i k
        (λ a.
        absurd (clash (listed_at m f (suc i) n k a (omega arith) e) (rw (same_eq m (f i).name d) p)))
        (λ a. omega arith)

    go : (b : Bool) → same m (f i).name ≡ b → (i < k → place m f (suc i) n ≡ Some k) → place m f i (suc n) ≡ Some k
    go true d u = rw (d, place) (ap Some (first d))
    go false d u = rw (d, place) (u (behind m f i k h e d))

module _ (m : Bytes) (x : Fixity) (r : Role) where
  -- A role declared for the operator at number `k` changes that one.
  pub declared_found :
      (f g : ℕ → Operator) (i n k : ℕ) → place m f i n ≡ Some k → g k ≡ record { name = (f k).name; roles = replaced x r (f k).roles }
      → ((j : ℕ) → (j ≡ k → ⊥) → f j ≡ g j) → declare_role m x r (from f i n) ≡ from g i n
  unfolding from place declare_role
  declared_found f g i zero k h c d = let z : None ≡ Some k = h in cc
  declared_found f g i (suc n) k h c d = go (same m (f i).name) refl (λ e. declared_found f g (suc i) n k e c d)
    where
      go :
          (b : Bool) → same m (f i).name ≡ b → (place m f (suc i) n ≡ Some k → declare_role m x r (from f (suc i) n) ≡ from g (suc i) n)
          → declare_role m x r (f i ∷ from f (suc i) n) ≡ g i ∷ from g (suc i) n
      go true e u =
          let l : Some i ≡ Some k = rw (e, place) at h in
          let l : i ≡ k = cc in
          rw (e, declare_role) (ap₂ ◌∷◌ (rw l (sym c)) (from_equal f g (suc i) n (λ j a b. d j (λ q. omega arith))))
      go false e u =
          let l : place m f (suc i) n ≡ Some k = rw (e, place) at h in
          let w = place_within m f (suc i) n k l in
          rw (e, declare_role) (ap₂ ◌∷◌ (d i (λ q. omega arith)) (u l))

  -- A role declared for another name adds an operator behind the others.
  pub declared_new :
      (f g : ℕ → Operator) (i n : ℕ) → place m f i n ≡ None → g (i + n) ≡ record { name = m; roles = replaced x r (λ y. none) }
      → ((j : ℕ) → j < i + n → f j ≡ g j) → declare_role m x r (from f i n) ≡ from g i (suc n)
  unfolding from place declare_role
  declared_new f g i zero h c d = let l : i + 0 ≡ i = omega arith in ap (λ o. o ∷ []) (sym (rw l at c))
  declared_new f g i (suc n) h c d =
      let l : i + suc n ≡ suc i + n = omega arith in
      go (same m (f i).name) refl (λ e. declared_new f g (suc i) n e (rw l at c) (λ j a. d j (omega arith)))
    where
      go :
          (b : Bool) → same m (f i).name ≡ b
          → (place m f (suc i) n ≡ None → declare_role m x r (from f (suc i) n) ≡ from g (suc i) (suc n))
          → declare_role m x r (f i ∷ from f (suc i) n) ≡ g i ∷ from g (suc i) (suc n)
      go true e u = let l : Some i ≡ None = rw (e, place) at h in cc
      go false e u = rw (e, declare_role) (ap₂ ◌∷◌ (d i (omega arith)) (u (rw (e, place) at h)))

-- Removing a name that is not listed changes nothing.
removed_unlisted : (m : Bytes) (T : Table) → listed m T ≡ false → remove_roles m T ≡ T
unfolding listed remove_roles
removed_unlisted m [] h = refl
removed_unlisted m (o ∷ T) h = go (same m o.name) refl (removed_unlisted m T)
  where
    go : (b : Bool) → same m o.name ≡ b → (listed m T ≡ false → remove_roles m T ≡ T) → remove_roles m (o ∷ T) ≡ o ∷ T
    go true e u = absurd (clash refl (rw (e, listed) at h))
    go false e u = rw (e, remove_roles) (ap (λ T. o ∷ T) (u (rw (e, listed) at h)))

place_unlisted : (m : Bytes) (f : ℕ → Operator) (i n : ℕ) → place m f i n ≡ None → listed m (from f i n) ≡ false
unfolding from place listed
place_unlisted m f i zero h = refl
place_unlisted m f i (suc n) h = go (same m (f i).name) refl (place_unlisted m f (suc i) n)
  where
    go :
        (b : Bool) → same m (f i).name ≡ b → (place m f (suc i) n ≡ None → listed m (from f (suc i) n) ≡ false)
        → listed m (f i ∷ from f (suc i) n) ≡ false
    go true e u = let l : Some i ≡ None = rw (e, place) at h in cc
    go false e u = rw (e, listed) (u (rw (e, place) at h))

pub removed_nothing : (m : Bytes) (f : ℕ → Operator) (i n : ℕ) → place m f i n ≡ None → remove_roles m (from f i n) ≡ from f i n
removed_nothing m f i n h = removed_unlisted m (from f i n) (place_unlisted m f i n h)

-- Removing the name of the operator at number `k`, where no other has it: those behind it are one number down.
module _ (m : Bytes) (f g : ℕ → Operator) (k : ℕ) (front : (j : ℕ) → j < k → f j ≡ g j) where
  removed_first :
      (i n : ℕ) → i ≡ k → same m (f i).name ≡ true → listed (f i).name (from f (suc i) n) ≡ false
      → ((j : ℕ) → k ≤ j → j < i + n → f (suc j) ≡ g j) → remove_roles m (from f i (suc n)) ≡ from g i n
  unfolding from remove_roles
  removed_first i n l e p back =
      rw (e, remove_roles)
      (removed_unlisted m (from f (suc i) n) (rw (same_eq m (f i).name e) p)
      ∙ from_suc f i n
      ∙ from_equal (λ j. f (suc j)) g i n (λ j a b. back j (omega arith) b))

  pub removed_found :
      (i n : ℕ) → Distinct (from f i (suc n)) → place m f i (suc n) ≡ Some k → ((j : ℕ) → k ≤ j → j < i + n → f (suc j) ≡ g j)
      → remove_roles m (from f i (suc n)) ≡ from g i n
  unfolding from place remove_roles
  removed_found i zero (p, _) h back = go (same m (f i).name) refl
    where
      go : (b : Bool) → same m (f i).name ≡ b → remove_roles m (from f i 1) ≡ from g i 0
      go true e = let l : Some i ≡ Some k = rw (e, place) at h in removed_first i 0 (cc) e p back
      go false e = let l : None ≡ Some k = rw (e, place) at h in cc
  removed_found i (suc n) (p, ps) h back =
      go (same m (f i).name) refl (λ l. removed_found (suc i) n ps l (λ j a b. back j a (omega arith)))
    where
      go :
          (b : Bool) → same m (f i).name ≡ b
          → (place m f (suc i) (suc n) ≡ Some k → remove_roles m (from f (suc i) (suc n)) ≡ from g (suc i) n)
          → remove_roles m (from f i (suc (suc n))) ≡ from g i (suc n)
      go true e u = let l : Some i ≡ Some k = rw (e, place) at h in removed_first i (suc n) (cc) e p back
      go false e u =
          let l : place m f (suc i) (suc n) ≡ Some k = rw (e, place) at h in
          let w = place_within m f (suc i) (suc n) k l in
          rw (e, remove_roles) (ap₂ ◌∷◌ (front i (omega arith)) (u l))
