-- The starting operators by number: each law is by induction on a table, of which the number of a name is that of the first operator that has it.
-- What is particular to the starting operators is a test of every operator of the table, which is computed.
use mathlib.Core.Path.{◌≡◌, refl, ap, ◌∙◌}
use mathlib.Core.Bool.{Bool, true, false, ◌&&◌}
use mathlib.Core.Logic.{◌⊎◌, inl, inr, ⊎_elim}
use mathlib.Core.List.{[], ◌∷◌}
use mathlib.Core.Option.{none}
use Prim.Native.Nat.{ℕ, zero, suc, ◌≤◌, ◌<◌}
use native.Mathlib.Omega.{arith}
use lib.Dec.{eqb}
use lib.ListN.{length}
use borrow.Author.Tests.{eqb-true, eqb-false, lt-ltb, le-ltb}
use Rattle.grammar.specs.Bytes.{Bytes, same}
use Rattle.grammar.specs.Operator.{Fixity, Operator, Table, role, replaced, same_fixity, declare_role, listed, Distinct}
use Rattle.grammar.specs.Declaration.{most_operators, value, value_from, declare, declare_all, start_declarations, start_table}
use Rattle.grammar.proofs.Logic.{and_left, and_right, clash, impossible, same_eq, same_refl}
use Rattle.grammar.proofs.Operators.{other_sym, distinct_start}
use Rattle.std.specs.Prelude.{Some, None}
use Rattle.starting_operators.specs.Starting.{
  number_in,
  name_of,
  roles_at,
  start_number,
  start_name,
  start_roles,
  start_count,
  Unnumbered,
  found_number,
}

-- The number of a name, or how many operators there are.
abbrev pub IsNumber : Table → Bytes → ℕ → Type 0
IsNumber T name n = (n ≡ length T) ⊎ ((n < length T) × (name ≡ name_of T n))

module _ (name : Bytes) where
  -- The operator with the number of a name has the name ..
  number_name : (T : Table) → IsNumber T name (number_in T name)
  unfolding number_in name_of
  number_name [] = inl refl
  number_name (o ∷ T) = go (same name o.name) refl (number_name T)
    where
      go : (b : Bool) → same name o.name ≡ b → IsNumber T name (number_in T name) → IsNumber (o ∷ T) name (number_in (o ∷ T) name)
      go true e n = rw (e, number_in) (inr (omega arith, same_eq name o.name e))
      go false e (inl n) = rw (e, number_in) (inl (ap suc n))
      go false e (inr n) = rw (e, number_in) (inr (omega (arith, n.0), n.1))

  -- .. and the roles in force of it.
  number_roles : (T : Table) (f : Fixity) → roles_at T (number_in T name) f ≡ role T name f
  unfolding number_in roles_at role
  number_roles [] f = refl
  number_roles (o ∷ T) f = go (same name o.name) refl (number_roles T f)
    where
      go :
          (b : Bool) → same name o.name ≡ b → roles_at T (number_in T name) f ≡ role T name f
          → roles_at (o ∷ T) (number_in (o ∷ T) name) f ≡ role (o ∷ T) name f
      go true e h = rw (e, number_in, role)
      go false e h = rw (e, number_in, role) h

-- Where no two operators have one name, the name of operator `k` has the number `k`.
unlisted_name : (m : Bytes) (T : Table) → listed m T ≡ false → (k : ℕ) → k < length T → same (name_of T k) m ≡ false
unfolding listed name_of
unlisted_name m [] e k h = absurd (omega arith)
unlisted_name m (o ∷ T) e k h = go (same m o.name) refl (unlisted_name m T) k h
  where
    go :
        (b : Bool) → same m o.name ≡ b → (listed m T ≡ false → (k : ℕ) → k < length T → same (name_of T k) m ≡ false)
        → (k : ℕ) → k < length (o ∷ T) → same (name_of (o ∷ T) k) m ≡ false
    go true d u k h = absurd (clash refl (rw (d, listed) at e))
    go false d u zero h = other_sym m o.name d
    go false d u (suc k) h = u (rw (d, listed) at e) k (omega arith)

name_number : (T : Table) → Distinct T → (k : ℕ) → k < length T → number_in T (name_of T k) ≡ k
unfolding number_in name_of
name_number [] d k h = absurd (omega arith)
name_number (o ∷ T) (d, ds) zero h = rw (same_refl o.name, number_in)
name_number (o ∷ T) (d, ds) (suc k) h =
    rw (unlisted_name o.name T d k (omega arith), number_in) (ap suc (name_number T ds k (omega arith)))

-- A number that no operator has.
names_behind : (T : Table) (n : ℕ) → length T ≤ n → name_of T n ≡ []
unfolding name_of
names_behind [] n h = refl
names_behind (o ∷ T) zero h = absurd (omega arith)
names_behind (o ∷ T) (suc n) h = names_behind T n (omega arith)

roles_behind : (T : Table) (n : ℕ) → length T ≤ n → roles_at T n ≡ (λ f. none)
unfolding roles_at
roles_behind [] n h = refl
roles_behind (o ∷ T) zero h = absurd (omega arith)
roles_behind (o ∷ T) (suc n) h = roles_behind T n (omega arith)

-- A test of every operator, with its number; where it is passed, each operator passes it.
unfoldable pub every_number : (ℕ → Operator → Bool) → Table → Bool
every_number q [] = true
every_number q (o ∷ T) = q 0 o && every_number (λ k. q (suc k)) T

each_number :
    (q : ℕ → Operator → Bool) (T : Table) → every_number q T ≡ true
    → (k : ℕ) → k < length T → q k (record { name = name_of T k; roles = roles_at T k }) ≡ true
unfolding every_number name_of roles_at
each_number q [] e k h = absurd (omega arith)
each_number q (o ∷ T) e zero h = and_left _ _ e
each_number q (o ∷ T) e (suc k) h = each_number (λ k. q (suc k)) T (and_right (q 0 o) _ e) k (omega arith)

-- Of the starting operators. To unfold this is to unfold what computes their table.
unfoldable pub computed_count : ℕ
unfolding start_count start_table start_declarations declare_all declare declare_role same replaced same_fixity value value_from
computed_count = start_count

pub each_start :
    (q : ℕ → Operator → Bool) → every_number q start_table ≡ true
    → (k : ℕ) → k < start_count → q k (record { name = start_name k; roles = start_roles k }) ≡ true
unfolding start_name start_roles start_count
each_start q e k h = each_number q start_table e k h

pub start_few : start_count ≤ most_operators
unfolding computed_count
start_few = omega arith

pub beyond_name : (n : ℕ) → start_count ≤ n → start_name n ≡ []
unfolding start_name start_count
beyond_name n h = names_behind start_table n h

pub beyond_roles : (n : ℕ) → start_count ≤ n → start_roles n ≡ (λ f. none)
unfolding start_roles start_count
beyond_roles n h = roles_behind start_table n h

pub start_number_lem : (k : ℕ) → k < start_count → start_number (start_name k) ≡ k
unfolding start_number start_name start_count
start_number_lem k h = name_number start_table distinct_start k h

module _ (name : Bytes) where
  pub start_name_lem : Unnumbered name ⊎ ((start_number name < start_count) × (name ≡ start_name (start_number name)))
  unfolding start_number start_name start_count
  start_name_lem = number_name name start_table

  pub beyond_unnumbered : start_count ≤ start_number name → Unnumbered name
  beyond_unnumbered h = ⊎_elim (λ e. e) (λ n. absurd (omega arith)) start_name_lem

  pub start_roles_lem : (f : Fixity) → start_roles (start_number name) f ≡ role start_table name f
  unfolding start_number start_roles
  start_roles_lem f = number_roles name start_table f

  -- It has a number where it is the name with that number.
  pub named_start : (k : ℕ) → k < start_count → eqb (start_number name) k ≡ same name (start_name k)
  named_start k h = go (same name (start_name k)) refl (eqb (start_number name) k) refl
    where
      go : (b : Bool) → same name (start_name k) ≡ b → (d : Bool) → eqb (start_number name) k ≡ d → d ≡ b
      go true e true d = refl
      go true e false d = absurd (eqb-false _ _ d (ap start_number (same_eq name (start_name k) e) ∙ start_number_lem k h))
      go false e true d =
          let p = eqb-true (start_number name) k d in
          ⊎_elim (λ n. absurd (omega arith)) (λ n. absurd (clash (rw (n.1, p) (same_refl (start_name k))) e)) start_name_lem
      go false e false d = refl

-- The number of a name, or that it has none.
module _ (name : Bytes) where
  pub found_some : start_number name < start_count → found_number name ≡ Some (start_number name)
  unfolding found_number
  found_some h = rw (lt-ltb _ _ h, found_number)

  pub found_none : Unnumbered name → found_number name ≡ None
  unfolding found_number
  found_none u = rw (le-ltb (start_number name) start_count (omega arith), found_number)

  pub some_number : (k : ℕ) → found_number name ≡ Some k → (k < start_count) × (k ≡ start_number name)
  some_number k e =
      ⊎_elim (λ u. let f = found_none u in impossible cc) (λ n. let f = found_some n.0 in is (cc) n.0) (start_name_lem name)
    where
      is : k ≡ start_number name → start_number name < start_count → (k < start_count) × (k ≡ start_number name)
      is q h = (omega arith, q)

  pub none_number_is : found_number name ≡ None → Unnumbered name
  none_number_is e = ⊎_elim (λ u. u) (λ n. let f = found_some n.0 in impossible cc) (start_name_lem name)
