-- Roles by their numbers: what the tests of the overloading rule come to as tests of numbers.
-- Each law is by cases on where the number lies, or on whether there is a role.
use mathlib.Core.Path.{sym, ◌∙◌, ◌≡◌, refl}
use mathlib.Core.Bool.{Bool, true, false, not, and-true, and-false}
use mathlib.Core.Option.{Option, none, some}
use Prim.Native.Nat.{ℕ, ◌≤◌, ◌<◌}
use native.Mathlib.Omega.{arith}
use lib.Dec.{eqb, ltb, leb}
use borrow.Author.Tests.{lt-ltb, le-ltb, le-leb, lt-leb, eqb-true, eqb-false}
use Rattle.grammar.specs.Operator.{Associativity, left, right, non, Role, same_associativity, one_precedence_test, only, absent_role, beside_infix, lawful_associativities, lawful, is_some, is_apart}
use Rattle.grammar.specs.SpanTree.{root_precedence}
use Rattle.rows.specs.Codes.{role_of, roles_of}
use Rattle.rows.proofs.Codes.{no_role, left-role, non_role, right-role, number_cases, some_role}

-- A test whether there is a role that was made, and of its associativity.
pub is_zero : {b : Bool} {c : ℕ} → b ≡ eqb c 0 → b ≡ true → c ≡ 0
is_zero e d = eqb-true _ _ (sym e ∙ d)

pub not_zero : {b : Bool} {c : ℕ} → b ≡ eqb c 0 → b ≡ false → c ≡ 0 → ⊥
not_zero e d = eqb-false _ _ (sym e ∙ d)

-- Whether a role, where there is one, has an associativity.
module _ (c : ℕ) where
  pub only-left : only left (role_of c) ≡ ltb c 4096
  unfolding only same_associativity
  only-left =
      number_cases
      c
      (λ e. rw (no_role c e, lt-ltb c 4096 (omega arith)))
      (λ h k. rw (left-role c h k, lt-ltb c 4096 k))
      (λ h k. rw (non_role c h k, le-ltb c 4096 h))
      (λ h. rw (right-role c h, le-ltb c 4096 (omega arith)))

  pub only_none : (a : Associativity) → c ≡ 0 → only a (role_of c) ≡ true
  unfolding only
  only_none a e = rw (no_role c e)

  pub only_non_left : (c ≡ 0 → ⊥) → c < 4096 → only non (role_of c) ≡ false
  unfolding only same_associativity
  only_non_left h k = rw (left-role c h k)

  pub only_non_lem : 4096 ≤ c → only non (role_of c) ≡ not (leb 6144 c)
  unfolding only same_associativity
  only_non_lem l =
      number_cases
      c
      (λ e. absurd (omega arith))
      (λ h k. absurd (omega arith))
      (λ h k. rw (non_role c h k, lt-leb 6144 c k))
      (λ h. rw (right-role c h, le-leb 6144 c h))

  pub only-right : (c ≡ 0 → ⊥) → only right (role_of c) ≡ leb 6144 c
  unfolding only same_associativity
  only-right d =
      number_cases
      c
      (λ e. absurd (d e))
      (λ h k. rw (left-role c h k, lt-leb 6144 c (omega arith)))
      (λ h k. rw (non_role c h k, lt-leb 6144 c k))
      (λ h. rw (right-role c h, le-leb 6144 c h))

  -- A role is absent where its number is 0.
  pub is_absent : c ≡ 0 → absent_role (role_of c) ≡ true
  unfolding absent_role
  is_absent e = rw (no_role c e)

  pub is_present : (c ≡ 0 → ⊥) → absent_role (role_of c) ≡ false
  unfolding absent_role
  is_present d = some_role c d (λ q e. rw e)

-- Where there are not two roles, there are no two precedences.
pub one_precedence_first : (r : Option Role) → one_precedence_test none r ≡ true
unfolding one_precedence_test
one_precedence_first none = refl
one_precedence_first (some r) = refl

pub one_precedence_second : (r : Option Role) → one_precedence_test r none ≡ true
unfolding one_precedence_test
one_precedence_second none = refl
one_precedence_second (some r) = refl

pub one_precedence_both :
    (a b : ℕ) → (a ≡ 0 → ⊥) → (b ≡ 0 → ⊥)
    → one_precedence_test (role_of a) (role_of b) ≡ eqb (root_precedence (role_of a)) (root_precedence (role_of b))
unfolding one_precedence_test root_precedence
one_precedence_both a b h k = some_role a h (λ p d. some_role b k (λ q e. rw (d, e)))

-- What an infix role asks of the others, by its associativity: a right-associative one no postfix role ..
module _ (i : ℕ) (p : Option Role) where
  pub right_absent : (q : ℕ) → 6144 ≤ i → (q ≡ 0 → ⊥) → lawful_associativities p (role_of i) (role_of q) ≡ false
  unfolding lawful_associativities beside_infix
  right_absent q h d = rw (right-role i h, is_present q d, and-false)

  pub right_beside : (q : ℕ) → 6144 ≤ i → q ≡ 0 → lawful_associativities p (role_of i) (role_of q) ≡ only right p
  unfolding lawful_associativities beside_infix
  right_beside q h e = rw (right-role i h, is_absent q e, and-true)

  -- .. any other a non-associative prefix role, ..
  pub not_beside : (q : Option Role) → (i ≡ 0 → ⊥) → i < 6144 → only non p ≡ false → lawful_associativities p (role_of i) q ≡ false
  unfolding lawful_associativities beside_infix
  not_beside q d l e =
      number_cases
      i
      (λ z. absurd (d z))
      (λ h k. rw (left-role i h k, e))
      (λ h k. rw (non_role i h k, e))
      (λ h. absurd (omega arith))

  -- .. and a postfix role of its own associativity.
  pub left_beside :
      (q : Option Role) → (i ≡ 0 → ⊥) → i < 4096 → only non p ≡ true → lawful_associativities p (role_of i) q ≡ only left q
  unfolding lawful_associativities beside_infix
  left_beside q h k e = rw (left-role i h k, e)

  pub non_beside :
      (q : Option Role) → 4096 ≤ i → i < 6144 → only non p ≡ true → lawful_associativities p (role_of i) q ≡ only non q
  unfolding lawful_associativities beside_infix
  non_beside q h k e = rw (non_role i h k, e)

  -- No infix role asks nothing.
  pub beside_none : (q : Option Role) → i ≡ 0 → lawful_associativities p (role_of i) q ≡ true
  unfolding lawful_associativities
  beside_none q e = rw (no_role i e)

-- An operator with an infix role alone is lawful.
pub beside_nothing : (a : Associativity) → beside_infix a none none ≡ true
unfolding beside_infix only absent_role
beside_nothing left = refl
beside_nothing right = refl
beside_nothing non = refl

alone : (r : Option Role) → lawful_associativities none r none ≡ true
unfolding lawful_associativities
alone none = refl
alone (some r) = beside_nothing r.associativity

module _ (p i q : ℕ) where
  pub infix_alone : p ≡ 0 → q ≡ 0 → lawful (roles_of p i q) ≡ true
  unfolding lawful roles_of one_precedence_test
  infix_alone d e =
      rw (no_role p d, no_role q e, one_precedence_first (role_of i), one_precedence_second (role_of i)) (alone (role_of i))

  -- Roles of one precedence are lawful by their associativities.
  pub one_precedences :
      one_precedence_test (role_of p) (role_of i) ≡ true → one_precedence_test (role_of i) (role_of q) ≡ true
      → one_precedence_test (role_of p) (role_of q) ≡ true
      → lawful (roles_of p i q) ≡ lawful_associativities (role_of p) (role_of i) (role_of q)
  unfolding lawful roles_of
  one_precedences d e f = rw (d, e, f)

-- There are not both an infix and a postfix role where there is no infix role, or no postfix role.
module _ (p i q : ℕ) where
  pub apart_without : i ≡ 0 → is_apart (roles_of p i q) ≡ true
  unfolding is_apart is_some roles_of
  apart_without e = rw (no_role i e)

  pub apart_beside : (i ≡ 0 → ⊥) → is_apart (roles_of p i q) ≡ eqb q 0
  unfolding is_apart is_some roles_of
  apart_beside d = some_role i d (λ r e. go r e (eqb q 0) refl)
    where
      go : (r : Role) → role_of i ≡ some r → (b : Bool) → eqb q 0 ≡ b → is_apart (roles_of p i q) ≡ b
      go r e true z = rw (e, no_role q (eqb-true q 0 z))
      go r e false z = some_role q (eqb-false q 0 z) (λ s f. rw (e, f))
