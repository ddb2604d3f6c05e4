-- For callers: what the search of a name says of the operators in force, and what a declaration does to their number and to the overloading rule.
-- The search and the operators in force both take the first entry of the name: by induction on the number of entries.
use mathlib.Core.Path.{◌≡◌, refl, sym, ap, fun_ext, ◌∙◌}
use mathlib.Core.Bool.{Bool, true, false, or-true}
use mathlib.Core.Logic.{⊎_elim}
use mathlib.Core.List.{List, [], ◌∷◌}
use mathlib.Core.Option.{none}
use Prim.Native.Nat.{ℕ, zero, suc, ◌+◌, ◌<◌}
use native.Mathlib.Omega.{arith}
use Rattle.std.specs.Prelude.{Option, Some, None}
use lib.ListN.{length}
use Rattle.grammar.specs.Bytes.{Bytes, same}
use Rattle.grammar.specs.Operator.{
  Fixity,
  Prefix,
  Infix,
  Postfix,
  Role,
  Roles,
  role,
  same_fixity,
  replaced,
  declare_role,
  remove_roles,
  one_precedence_test,
  lawful_associativities,
  is_some,
  lawful,
  is_apart,
  every_operator,
  permitted,
}
use Rattle.grammar.specs.Operator as G
use Rattle.grammar.proofs.Logic.{impossible, or_cases, same_eq}
use Rattle.grammar.proofs.Operators.{both}
use Rattle.rows.specs.declared.roles.Roles as Coded
use Rattle.rows.specs.Codes.{role_code, roles_of, Fit, Bounded}
use Rattle.rows.specs.InUse.{roles_by}
use Rattle.rows.proofs.Codes.{role_valid}
use Rattle.operators.specs.Entries.{entry, name_at, coded_find, operators_from, table_of}
use Rattle.operators.specs.declared.table.Entry.{Entry}
use Rattle.operators.specs.declared.table.Table.{Table}
use Rattle.operators.proofs.Roles.{beside_nothing}
use Rattle.operators.proofs.Numbered.{removed_nothing}
use Rattle.operators.proofs.Searches.{operator_at, found_within, table_entries, Finds, placed}

-- The roles at the entry that is found, or none; and how many operators a declaration adds.
module _ (E : List Entry) where
  unfoldable roles_at : Option ℕ → Roles
  roles_at (Some k) f = roles_by (entry E k).roles f
  roles_at None f = none

unfoldable more : Option ℕ → ℕ
more (Some k) = 0
more None = 1

module _ (text name : Bytes) (E : List Entry) where
  roles_at_lem : (i n : ℕ) (f : Fixity) → role (operators_from text E i n) name f ≡ roles_at E (coded_find text E name i n) f
  unfolding coded_find operators_from role roles_at
  roles_at_lem i zero f = refl
  roles_at_lem i (suc n) f = go (same name (name_at text E i)) refl (roles_at_lem (suc i) n f)
    where
      go :
          (b : Bool) → same name (name_at text E i) ≡ b
          → role (operators_from text E (suc i) n) name f ≡ roles_at E (coded_find text E name (suc i) n) f
          → role (operators_from text E i (suc n)) name f ≡ roles_at E (coded_find text E name i (suc n)) f
      go true e u = rw (operators_from, coded_find, e, role)
      go false e u = rw (operators_from, coded_find, e, role) u

  name_at_lem : (i n k : ℕ) → coded_find text E name i n ≡ Some k → same name (name_at text E k) ≡ true
  unfolding coded_find
  name_at_lem i zero k h = impossible cc
  name_at_lem i (suc n) k h = go (same name (name_at text E i)) refl (name_at_lem (suc i) n k)
    where
      go :
          (b : Bool) → same name (name_at text E i) ≡ b → (coded_find text E name (suc i) n ≡ Some k → same name (name_at text E k) ≡ true)
          → same name (name_at text E k) ≡ true
      go true e u = let l : Some i ≡ Some k = rw (e, coded_find) at h in let z : i ≡ k = cc in rw z at e
      go false e u = u (rw (e, coded_find) at h)

  count_from : (i n : ℕ) → length (operators_from text E i n) ≡ n
  unfolding operators_from
  count_from i zero = refl
  count_from i (suc n) = ap suc (count_from (suc i) n)

  declared_from :
      (x : Fixity) (q : Role) (i n : ℕ) → length (declare_role name x q (operators_from text E i n)) ≡ more (coded_find text E name i n) + n
  unfolding operators_from declare_role coded_find more
  declared_from x q i zero = refl
  declared_from x q i (suc n) = go (same name (name_at text E i)) refl (declared_from x q (suc i) n)
    where
      go :
          (b : Bool) → same name (name_at text E i) ≡ b
          → length (declare_role name x q (operators_from text E (suc i) n)) ≡ more (coded_find text E name (suc i) n) + n
          → length (declare_role name x q (operators_from text E i (suc n))) ≡ more (coded_find text E name i (suc n)) + suc n
      go true e h = rw (e, declare_role, coded_find) (omega (arith, count_from (suc i) n))
      go false e h = rw (e, declare_role, coded_find) (omega arith)

fit_roles : (r : Coded.Roles) (f : Fixity) → Fit (roles_by r f)
unfolding roles_of
fit_roles r Prefix = (role_valid r.prefix).1
fit_roles r Infix = (role_valid r.«infix»).1
fit_roles r Postfix = (role_valid r.postfix).1

module _ (text : Bytes) (t : Table) where
  -- The entries of a table are its operators.
  pub table-count : length (table_of text t) ≡ t.count
  unfolding table_of
  table-count = count_from text text t.entries 0 t.count

  module _ (name : Bytes) where
    table_roles : (a : Option ℕ) → Finds text t name a → (f : Fixity) → role (table_of text t) name f ≡ roles_at t.entries a f
    unfolding table_of
    table_roles a e f = roles_at_lem text name t.entries 0 t.count f ∙ ap (λ a. roles_at t.entries a f) e

    -- An entry that is found is one of them, has the name, and has the numbers of the name's roles.
    module _ {k : ℕ} (e : Finds text t name (Some k)) where
      pub found_below : k < t.count
      found_below = found_within text t.entries name t.count k e

      pub found_name : name_at text t.entries k ≡ name
      found_name = sym (same_eq name (name_at text t.entries k) (name_at_lem text name t.entries 0 t.count k e))

      pub found_role :
          (f : Fixity) → role (table_of text t) name f ≡ roles_by (entry t.entries k).roles f
      unfolding roles_at
      found_role f = table_roles (Some k) e f

      pub found_roles : role (table_of text t) name ≡ roles_by (entry t.entries k).roles
      found_roles = fun_ext found_role

      pub found_codes :
          ((entry t.entries k).roles.prefix.code ≡ role_code (role (table_of text t) name Prefix))
          × ((entry t.entries k).roles.«infix».code ≡ role_code (role (table_of text t) name Infix))
          × ((entry t.entries k).roles.postfix.code ≡ role_code (role (table_of text t) name Postfix))
      unfolding roles_of
      found_codes =
          let r = (entry t.entries k).roles in (
            sym (ap role_code (found_role Prefix) ∙ (role_valid r.prefix).0),
            sym (ap role_code (found_role Infix) ∙ (role_valid r.«infix»).0),
            sym (ap role_code (found_role Postfix) ∙ (role_valid r.postfix).0),
          )

      -- A role declared for it changes its operator.
      pub found_count : (f : Fixity) (r : Role) → length (declare_role name f r (table_of text t)) ≡ t.count
      unfolding table_of more
      found_count f r = declared_from text name t.entries f r 0 t.count ∙ rw e (omega arith)

    -- A name that is not found has no role, a role declared for it comes with one more operator, and to clear it changes nothing.
    module _ (e : Finds text t name None) where
      pub unfound_role : (f : Fixity) → role (table_of text t) name f ≡ none
      unfolding roles_at
      unfound_role f = table_roles None e f

      pub unfound_roles : role (table_of text t) name ≡ (λ f. none)
      unfound_roles = fun_ext unfound_role

      pub unfound_count : (f : Fixity) (r : Role) → length (declare_role name f r (table_of text t)) ≡ suc t.count
      unfolding table_of more
      unfound_count f r = declared_from text name t.entries f r 0 t.count ∙ rw e (omega arith)

      pub cleared_none : remove_roles name (table_of text t) ≡ table_of text t
      cleared_none =
          rw table_entries (removed_nothing name (operator_at text t.entries) 0 t.count (placed text t name e))

  -- Every role in force has a precedence of 1 to 1,200.
  pub table_bounded : Bounded (table_of text t)
  table_bounded m f = go (coded_find text t.entries m 0 t.count) refl
    where
      go : (a : Option ℕ) → Finds text t m a → Fit (role (table_of text t) m f)
      go (Some k) e = rw (found_role m e f) (fit_roles (entry t.entries k).roles f)
      go None e = rw (unfound_role m e f) tt

-- One role alone meets the conditions, and is not both.
alone_lawful : (f : Fixity) (r : Role) (old : Roles) → ((g : Fixity) → old g ≡ none) → lawful (replaced f r old) ≡ true
unfolding lawful replaced same_fixity one_precedence_test lawful_associativities
alone_lawful Prefix r old h = rw (h Infix, h Postfix)
alone_lawful Infix r old h = rw (h Prefix, h Postfix) (beside_nothing r.associativity)
alone_lawful Postfix r old h = rw (h Prefix, h Infix)

alone_apart : (f : Fixity) (r : Role) (old : Roles) → ((g : Fixity) → old g ≡ none) → is_apart (replaced f r old) ≡ true
unfolding is_apart is_some replaced same_fixity
alone_apart Prefix r old h = rw (h Infix)
alone_apart Infix r old h = rw (h Postfix)
alone_apart Postfix r old h = rw (h Infix)

-- A test that one role alone passes is passed still where a new operator with one role comes ..
module _ (q : Roles → Bool) where
  declared-every :
      ((f : Fixity) (r : Role) (old : Roles) → ((g : Fixity) → old g ≡ none) → q (replaced f r old) ≡ true)
      → (m : Bytes) (f : Fixity) (r : Role) (T : G.Table) → every_operator q T ≡ true → ((g : Fixity) → role T m g ≡ none)
      → every_operator q (declare_role m f r T) ≡ true
  unfolding declare_role every_operator role
  declared-every alone m f r [] e h = rw (alone f r (λ g. none) (λ g. refl), every_operator)
  declared-every alone m f r (o ∷ T) e h =
      let (p, s) = both (q o.roles) (every_operator q T) e in
      go (same m o.name) refl p s (declared-every alone m f r T s)
    where
      go :
          (b : Bool) → same m o.name ≡ b → q o.roles ≡ true → every_operator q T ≡ true
          → (((g : Fixity) → role T m g ≡ none) → every_operator q (declare_role m f r T) ≡ true)
          → every_operator q (declare_role m f r (o ∷ T)) ≡ true
      go true d p s u = rw (d, declare_role, alone f r o.roles (λ g. rw (d, role) at (h g)), every_operator) s
      go false d p s u = rw (d, declare_role, p, every_operator) (u (λ g. rw (d, role) at (h g)))

  -- .. and where one is cleared.
  cleared_every : (m : Bytes) (T : G.Table) → every_operator q T ≡ true → every_operator q (remove_roles m T) ≡ true
  unfolding remove_roles every_operator
  cleared_every m [] e = refl
  cleared_every m (o ∷ T) e =
      let (p, s) = both (q o.roles) (every_operator q T) e in
      go (same m o.name) refl p (cleared_every m T s)
    where
      go :
          (b : Bool) → same m o.name ≡ b → q o.roles ≡ true → every_operator q (remove_roles m T) ≡ true
          → every_operator q (remove_roles m (o ∷ T)) ≡ true
      go true d p u = rw (d, remove_roles) u
      go false d p u = rw (d, remove_roles, p, every_operator) u

-- So the overloading rule is kept, whichever of its two tests was passed.
kept :
    (T U : G.Table) → permitted T ≡ true → (every_operator is_apart T ≡ true → every_operator is_apart U ≡ true)
    → (every_operator lawful T ≡ true → every_operator lawful U ≡ true) → permitted U ≡ true
unfolding permitted
kept T U e f g =
    ⊎_elim (λ h. rw (f h)) (λ h. rw (g h) (or-true (every_operator is_apart U))) (or_cases (every_operator is_apart T) (every_operator lawful T) e)

pub declared-permitted :
    (m : Bytes) (f : Fixity) (r : Role) (T : G.Table) → permitted T ≡ true → ((g : Fixity) → role T m g ≡ none)
    → permitted (declare_role m f r T) ≡ true
declared-permitted m f r T e h =
    kept T (declare_role m f r T) e (λ d. declared-every is_apart alone_apart m f r T d h) (λ d. declared-every lawful alone_lawful m f r T d h)

pub cleared_permitted : (m : Bytes) (T : G.Table) → permitted T ≡ true → permitted (remove_roles m T) ≡ true
cleared_permitted m T e = kept T (remove_roles m T) e (cleared_every is_apart m T) (cleared_every lawful m T)
