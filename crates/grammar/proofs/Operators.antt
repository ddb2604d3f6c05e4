-- What a declaration does to the operators in force: it gives one role of one name, or takes every role of one name; nothing else changes.
-- Each law is by induction on the list of operators, with a split on whether the first one has the name that is declared or looked up.
-- From these: precedences stay at least 1, no name stands twice in the list, and the names in the list are the operators in force.
use mathlib.Core.Path.{◌≡◌, refl, sym, ap, ◌∙◌}
use mathlib.Core.Bool.{Bool, true, false, ◌||◌}
use mathlib.Core.Logic.{◌⊎◌, inl, inr}
use mathlib.Core.List.{List, [], ◌∷◌}
use mathlib.Core.Option.{none, some}
use Prim.Native.Nat.{◌≤◌}
use lib.Dec.{leb}
use borrow.Author.Tests.{leb-true}
use Rattle.grammar.specs.Bytes.{Bytes, same}
use Rattle.grammar.specs.Operator.{
  listed,
  Each,
  Distinct,
  Alive,
  Fixity,
  Prefix,
  Infix,
  Postfix,
  Role,
  Roles,
  same_fixity,
  allowed,
  Operator,
  Table,
  role,
  is_some,
  has_role,
  in_force,
  replaced,
  declare_role,
  remove_roles,
}
use Rattle.grammar.specs.Declaration.{
  Declaration,
  declares,
  clears,
  value,
  value_from,
  declare,
  declare_all,
  start_declarations,
  start_table,
  is_precedence,
  is_declaration,
  are_declarations,
}
use Rattle.grammar.proofs.Logic.{and_left, and_right, clash, impossible, same_eq, same_refl}
use Rattle.grammar.proofs.Positive.{Positive}

-- To be another name is symmetric.
pub other_sym : (m n : Bytes) → same m n ≡ false → same n m ≡ false
other_sym m n e = go (same n m) refl
  where
    go : (b : Bool) → same n m ≡ b → b ≡ false
    go true h = absurd (clash (ap (same m) (same_eq n m h) ∙ same_refl m) e)
    go false h = refl

-- A name other than `m` is another name than one that is the same as `m`.
other-same : (m n o : Bytes) → same m o ≡ true → same n m ≡ false → same n o ≡ false
other-same m n o d e = ap (same n) (sym (same_eq m o d)) ∙ e

-- What two lists give alike, they give alike behind one operator.
role-behind :
    (o : Operator) (T U : Table) (n : Bytes) (g : Fixity) → role T n g ≡ role U n g → role (o ∷ T) n g ≡ role (o ∷ U) n g
unfolding role
role-behind o T U n g e = ap (λ x. elim (same n o.name) [ true ↦ o.roles g | false ↦ x ]) e

-- The roles of the declared name: the new one in the place of the former one of its fixity.
role-replaced :
    (m : Bytes) (f : Fixity) (r : Role) (T : Table) (g : Fixity) → role (declare_role m f r T) m g ≡ replaced f r (role T m) g
unfolding role declare_role replaced
role-replaced m f r [] g = rw (same_refl m, role)
role-replaced m f r (o ∷ T) g = go (same m o.name) refl (role-replaced m f r T g)
  where
    go :
        (b : Bool) → same m o.name ≡ b → role (declare_role m f r T) m g ≡ replaced f r (role T m) g
        → role (declare_role m f r (o ∷ T)) m g ≡ replaced f r (role (o ∷ T) m) g
    go true e h = rw (e, declare_role, e, role)
    go false e h = rw (e, declare_role, e, role) h

fixity_refl : (f : Fixity) → same_fixity f f ≡ true
unfolding same_fixity
fixity_refl Prefix = refl
fixity_refl Infix = refl
fixity_refl Postfix = refl

-- A declared role is in force ..
pub role-declared : (m : Bytes) (f : Fixity) (r : Role) (T : Table) → role (declare_role m f r T) m f ≡ some r
unfolding replaced
role-declared m f r T = role-replaced m f r T f ∙ rw (fixity_refl f, replaced)

-- .. the roles of the other fixities stay ..
pub role-declared-fixity :
    (m : Bytes) (f g : Fixity) (r : Role) (T : Table) → same_fixity f g ≡ false → role (declare_role m f r T) m g ≡ role T m g
unfolding replaced
role-declared-fixity m f g r T e = role-replaced m f r T g ∙ rw (e, replaced)

-- .. and so do those of the other names.
pub role-declared-other :
    (m n : Bytes) (f g : Fixity) (r : Role) (T : Table) → same n m ≡ false → role (declare_role m f r T) n g ≡ role T n g
unfolding role declare_role
role-declared-other m n f g r [] e = rw (e, role)
role-declared-other m n f g r (o ∷ T) e = go (same m o.name) refl (role-declared-other m n f g r T e)
  where
    go :
        (b : Bool) → same m o.name ≡ b → role (declare_role m f r T) n g ≡ role T n g
        → role (declare_role m f r (o ∷ T)) n g ≡ role (o ∷ T) n g
    go true d h = rw (d, declare_role, other-same m n o.name d e, role)
    go false d h = rw (d, declare_role) (role-behind o (declare_role m f r T) T n g h)

-- A name is cleared of every role ..
pub role_removed : (m : Bytes) (T : Table) (g : Fixity) → role (remove_roles m T) m g ≡ none
unfolding role remove_roles
role_removed m [] g = refl
role_removed m (o ∷ T) g = go (same m o.name) refl (role_removed m T g)
  where
    go : (b : Bool) → same m o.name ≡ b → role (remove_roles m T) m g ≡ none → role (remove_roles m (o ∷ T)) m g ≡ none
    go true e h = rw (e, remove_roles) h
    go false e h = rw (e, remove_roles, e, role) h

-- .. and no other name.
pub role_removed_other : (m n : Bytes) (T : Table) (g : Fixity) → same n m ≡ false → role (remove_roles m T) n g ≡ role T n g
unfolding role remove_roles
role_removed_other m n [] g e = refl
role_removed_other m n (o ∷ T) g e = go (same m o.name) refl (role_removed_other m n T g e)
  where
    go :
        (b : Bool) → same m o.name ≡ b → role (remove_roles m T) n g ≡ role T n g
        → role (remove_roles m (o ∷ T)) n g ≡ role (o ∷ T) n g
    go true d h = rw (d, remove_roles, other-same m n o.name d e, role) h
    go false d h = rw (d, remove_roles) (role-behind o (remove_roles m T) T n g h)

-- A role in force behind a declaration is the declared one, or was in force before it.
pub role-after-declared :
    (m n : Bytes) (f g : Fixity) (r b : Role) (T : Table) → role (declare_role m f r T) n g ≡ some b
    → (r ≡ b) ⊎ (role T n g ≡ some b)
unfolding replaced
role-after-declared m n f g r b T e = go (same n m) refl
  where
    within : (c : Bool) → same_fixity f g ≡ c → replaced f r (role T m) g ≡ some b → (r ≡ b) ⊎ (role T m g ≡ some b)
    within true d h = inl (let k : some r ≡ some b = rw (d, replaced) at h in cc)
    within false d h = inr (rw (d, replaced) at h)

    go : (c : Bool) → same n m ≡ c → (r ≡ b) ⊎ (role T n g ≡ some b)
    go true d =
        let h : n ≡ m = same_eq n m d in
        rw h (within (same_fixity f g) refl (sym (role-replaced m f r T g) ∙ (rw h at e)))
    go false d = inr (sym (role-declared-other m n f g r T d) ∙ e)

pub role_after_removed : (m n : Bytes) (g : Fixity) (b : Role) (T : Table) → role (remove_roles m T) n g ≡ some b → role T n g ≡ some b
role_after_removed m n g b T e = go (same n m) refl
  where
    go : (c : Bool) → same n m ≡ c → role T n g ≡ some b
    go true d = let h : n ≡ m = same_eq n m d in let k : none ≡ some b = sym (role_removed m T g) ∙ (rw h at e) in cc
    go false d = sym (role_removed_other m n T g d) ∙ e

-- A test that goes on only if the first part holds has both parts.
pub both : (a b : Bool) → elim a as (λ _. Bool) [ true ↦ b | false ↦ false ] ≡ true → (a ≡ true) × (b ≡ true)
both true b e = (refl, e)
both false b e = (e, absurd (clash e refl))

-- A declaration as the document allows it keeps every precedence at least 1.
positive_declare : (T : Table) (d : Declaration) → Positive T → is_declaration d ≡ true → Positive (declare T d)
unfolding declare is_declaration is_precedence
positive_declare T (declares f a d m) p e n g b h =
    go (role-after-declared m n f g (record { precedence = value d; associativity = a }) b T h)
  where
    go : (record { precedence = value d; associativity = a } ≡ b) ⊎ (role T n g ≡ some b) → 1 ≤ b.precedence
    go (inl k) = rw (← k) (leb-true 1 (value d) (and_left (leb 1 (value d)) _ (and_right (allowed f a) _ e)))
    go (inr k) = p n g b k
positive_declare T (clears m) p e n g b h = p n g b (role_after_removed m n g b T h)

pub positive_declared : (T : Table) (ds : List Declaration) → Positive T → are_declarations ds ≡ true → Positive (declare_all T ds)
unfolding declare_all are_declarations
positive_declared T [] p e = p
positive_declared T (d ∷ ds) p e =
    let (h, k) = both (is_declaration d) (are_declarations ds) e in
    positive_declared (declare T d) ds (positive_declare T d p h) k

-- The precedences at the start are at least 1.
pub positive_start : Positive start_table
unfolding role start_table start_declarations are_declarations is_declaration allowed is_precedence value value_from
positive_start = positive_declared [] start_declarations (λ m f r e. impossible cc) refl

-- A relation that declarations keep: it holds of a new operator, of a changed one, and where another name changes behind it.
record Kept (Q : Operator → Table → Type 0) : Type 0 where
  new : (m : Bytes) (f : Fixity) (r : Role) → Q (record { name = m; roles = replaced f r (λ g. none) }) []
  changed :
      (o : Operator) (T : Table) (f : Fixity) (r : Role) → Q o T → Q (record { name = o.name; roles = replaced f r o.roles }) T
  declared_behind :
      (o : Operator) (T : Table) (m : Bytes) (f : Fixity) (r : Role) → same o.name m ≡ false → Q o T → Q o (declare_role m f r T)
  removed_behind : (o : Operator) (T : Table) (m : Bytes) → same o.name m ≡ false → Q o T → Q o (remove_roles m T)

module _ (Q : Operator → Table → Type 0) (kept : Kept Q) where
  each_role : (m : Bytes) (f : Fixity) (r : Role) (T : Table) → Each Q T → Each Q (declare_role m f r T)
  unfolding declare_role
  each_role m f r [] p = (kept.new m f r, tt)
  each_role m f r (o ∷ T) (u, p) = go (same m o.name) refl (each_role m f r T p)
    where
      go : (b : Bool) → same m o.name ≡ b → Each Q (declare_role m f r T) → Each Q (declare_role m f r (o ∷ T))
      go true e q = rw (e, declare_role) (kept.changed o T f r u, p)
      go false e q = rw (e, declare_role) (kept.declared_behind o T m f r (other_sym m o.name e) u, q)

  each_removed : (m : Bytes) (T : Table) → Each Q T → Each Q (remove_roles m T)
  unfolding remove_roles
  each_removed m [] p = tt
  each_removed m (o ∷ T) (u, p) = go (same m o.name) refl (each_removed m T p)
    where
      go : (b : Bool) → same m o.name ≡ b → Each Q (remove_roles m T) → Each Q (remove_roles m (o ∷ T))
      go true e q = rw (e, remove_roles) q
      go false e q = rw (e, remove_roles) (kept.removed_behind o T m (other_sym m o.name e) u, q)

  each_declare : (T : Table) (d : Declaration) → Each Q T → Each Q (declare T d)
  unfolding declare
  each_declare T (declares f a d m) p = each_role m f _ T p
  each_declare T (clears m) p = each_removed m T p

  each_declared : (T : Table) (ds : List Declaration) → Each Q T → Each Q (declare_all T ds)
  unfolding declare_all
  each_declared T [] p = p
  each_declared T (d ∷ ds) p = each_declared (declare T d) ds (each_declare T d p)

-- Other names are listed as before.
listed-declared-other :
    (m n : Bytes) (f : Fixity) (r : Role) (T : Table) → same n m ≡ false → listed n (declare_role m f r T) ≡ listed n T
unfolding listed declare_role
listed-declared-other m n f r [] e = rw (e, listed)
listed-declared-other m n f r (o ∷ T) e = go (same m o.name) refl (listed-declared-other m n f r T e)
  where
    go :
        (b : Bool) → same m o.name ≡ b → listed n (declare_role m f r T) ≡ listed n T
        → listed n (declare_role m f r (o ∷ T)) ≡ listed n (o ∷ T)
    go true d h = rw (d, declare_role)
    go false d h = rw (d, declare_role) (ap (λ x. elim (same n o.name) [ true ↦ true | false ↦ x ]) h)

listed_removed_other : (m n : Bytes) (T : Table) → same n m ≡ false → listed n (remove_roles m T) ≡ listed n T
unfolding listed remove_roles
listed_removed_other m n [] e = refl
listed_removed_other m n (o ∷ T) e = go (same m o.name) refl (listed_removed_other m n T e)
  where
    go :
        (b : Bool) → same m o.name ≡ b → listed n (remove_roles m T) ≡ listed n T
        → listed n (remove_roles m (o ∷ T)) ≡ listed n (o ∷ T)
    go true d h = rw (d, remove_roles, other-same m n o.name d e, listed) h
    go false d h = rw (d, remove_roles) (ap (λ x. elim (same n o.name) [ true ↦ true | false ↦ x ]) h)

pub distinct_declared : (T : Table) (ds : List Declaration) → Distinct T → Distinct (declare_all T ds)
unfolding listed
distinct_declared =
    each_declared
    _
    (record {
      new = λ m f r. refl;
      changed = λ o T f r u. u;
      declared_behind = λ o T m f r e u. listed-declared-other m o.name f r T e ∙ u;
      removed_behind = λ o T m e u. listed_removed_other m o.name T e ∙ u;
    })

pub distinct_start : Distinct start_table
unfolding start_table
distinct_start = distinct_declared [] start_declarations tt

or_true : (a : Bool) → a || true ≡ true
or_true true = refl
or_true false = refl

-- An operator with a role of some fixity has a role, ..
pub has_role_lem : (r : Roles) (f : Fixity) (q : Role) → r f ≡ some q → has_role r ≡ true
unfolding has_role is_some
has_role_lem r Prefix q e = rw e
has_role_lem r Infix q e = rw (e, or_true (is_some (r Prefix)))
has_role_lem r Postfix q e = rw e (or_true (is_some (r Prefix) || is_some (r Infix)))

-- .. so one has the role that was declared.
replaced_has_role : (f : Fixity) (r : Role) (old : Roles) → has_role (replaced f r old) ≡ true
unfolding replaced
replaced_has_role f r old = has_role_lem (replaced f r old) f r (rw (fixity_refl f, replaced))

pub alive_declared : (T : Table) (ds : List Declaration) → Alive T → Alive (declare_all T ds)
alive_declared =
    each_declared
    _
    (record {
      new = λ m f r. replaced_has_role f r (λ g. none);
      changed = λ o T f r u. replaced_has_role f r o.roles;
      declared_behind = λ o T m f r e u. u;
      removed_behind = λ o T m e u. u;
    })

pub alive_start : Alive start_table
unfolding start_table
alive_start = alive_declared [] start_declarations tt

-- A name is listed exactly when it is in force.
pub listed_in_force : (T : Table) → Alive T → (m : Bytes) → listed m T ≡ in_force T m
unfolding listed in_force has_role is_some role
listed_in_force [] p m = refl
listed_in_force (o ∷ T) (u, p) m = go (same m o.name) refl (listed_in_force T p m)
  where
    go : (b : Bool) → same m o.name ≡ b → listed m T ≡ in_force T m → listed m (o ∷ T) ≡ in_force (o ∷ T) m
    go true e h = rw (e, listed, role) (sym u)
    go false e h = rw (e, listed, role) h
