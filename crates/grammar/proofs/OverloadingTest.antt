-- The test at `in` is the overloading rule. It goes by the list of operators, the rule by lookups: a lookup gives the roles of an operator in
-- the list, or none; where no two operators have the same name, each one is looked up.
use mathlib.Core.Path.{◌≡◌, refl, sym, ap, fun_ext, ◌∙◌}
use mathlib.Core.Bool.{Bool, true, false, ◌&&◌, ◌||◌, not}
use mathlib.Core.List.{[], ◌∷◌}
use mathlib.Core.Option.{Option, none, some}
use Rattle.grammar.specs.Bytes.{Bytes, same}
use Rattle.grammar.specs.Operator.{
  Fixity,
  Infix,
  Postfix,
  Role,
  Roles,
  Operator,
  Table,
  role,
  is_some,
  replaced,
  same_fixity,
  declare_role,
  listed,
  Distinct,
  Conditions,
  Apart,
  Permitted,
  apart,
  conditions,
  one_precedence_test,
  lawful_associativities,
  lawful,
  is_apart,
  every_operator,
  permitted,
}
use Rattle.grammar.specs.Declaration.{value, value_from, declare, declare_all, start_declarations, start_table}
use Rattle.grammar.proofs.Logic.{clash, same_eq, same_refl}
use Rattle.grammar.proofs.Operators.{both}
use Rattle.grammar.proofs.ConditionsTest.{lawful_sound, lawful_complete}

-- A lookup gives the roles of the first operator if it has the name, and of the rest otherwise.
role_first : (o : Operator) (T : Table) (m : Bytes) → same m o.name ≡ true → role (o ∷ T) m ≡ o.roles
unfolding role
role_first o T m e = fun_ext (λ f. rw (e, role) refl)

role_rest : (o : Operator) (T : Table) (m : Bytes) → same m o.name ≡ false → role (o ∷ T) m ≡ role T m
unfolding role
role_rest o T m e = fun_ext (λ f. rw (e, role) refl)

-- A name that is not listed has no role.
unlisted_role : (T : Table) (m : Bytes) (f : Fixity) → listed m T ≡ false → role T m f ≡ none
unfolding listed role
unlisted_role [] m f e = refl
unlisted_role (o ∷ T) m f e = go (same m o.name) refl (unlisted_role T m f)
  where
    go : (b : Bool) → same m o.name ≡ b → (listed m T ≡ false → role T m f ≡ none) → role (o ∷ T) m f ≡ none
    go true d h = absurd (clash refl (rw (d, listed) at e))
    go false d h = rw (d, role) (h (rw (d, listed) at e))

-- A test of every operator is a test of every lookup, if to have no role passes.
module _ (q : Roles → Bool) (vacant : q (λ f. none) ≡ true) where
  every_found : (T : Table) (m : Bytes) → every_operator q T ≡ true → q (role T m) ≡ true
  unfolding every_operator role
  every_found [] m e = vacant
  every_found (o ∷ T) m e =
      let (h, k) = both (q o.roles) (every_operator q T) e in
      go (same m o.name) refl h (every_found T m k)
    where
      go : (b : Bool) → same m o.name ≡ b → q o.roles ≡ true → q (role T m) ≡ true → q (role (o ∷ T) m) ≡ true
      go true d h k = ap q (role_first o T m d) ∙ h
      go false d h k = ap q (role_rest o T m d) ∙ k

  found_every : (T : Table) → Distinct T → ((m : Bytes) → q (role T m) ≡ true) → every_operator q T ≡ true
  unfolding every_operator
  found_every [] p c = refl
  found_every (o ∷ T) (u, p) c = rw (first, every_operator) (found_every T p (λ m. rest m (same m o.name) refl))
    where
      first : q o.roles ≡ true
      first = sym (ap q (role_first o T o.name (same_refl o.name))) ∙ c o.name

      rest : (m : Bytes) (b : Bool) → same m o.name ≡ b → q (role T m) ≡ true
      rest m true d = ap q (fun_ext (λ f. unlisted_role T m f (rw (same_eq m o.name d) u))) ∙ vacant
      rest m false d = sym (ap q (role_rest o T m d)) ∙ c m

vacant_lawful : lawful (λ f. none) ≡ true
unfolding lawful one_precedence_test lawful_associativities
vacant_lawful = refl

vacant_apart : is_apart (λ f. none) ≡ true
unfolding is_apart is_some
vacant_apart = refl

-- The two sorts of tables.
conditions_sound : (T : Table) → every_operator lawful T ≡ true → Conditions T
conditions_sound T e m = lawful_sound (role T m) (every_found lawful vacant_lawful T m e)

conditions_complete : (T : Table) → Distinct T → Conditions T → every_operator lawful T ≡ true
conditions_complete T p c = found_every lawful vacant_lawful T p (λ m. lawful_complete (role T m) (c m))

apart_roles_sound : (r : Roles) → is_apart r ≡ true → (a b : Role) → r Infix ≡ some a → r Postfix ≡ some b → ⊥
unfolding is_apart is_some
apart_roles_sound r e a b f g = clash (rw (f, g) at e) refl

apart_roles_complete : (r : Roles) → ((a b : Role) → r Infix ≡ some a → r Postfix ≡ some b → ⊥) → is_apart r ≡ true
unfolding is_apart is_some
apart_roles_complete r h = go (r Infix) refl (r Postfix) refl
  where
    go : (x : Option Role) → r Infix ≡ x → (y : Option Role) → r Postfix ≡ y → not (is_some x && is_some y) ≡ true
    go none f y g = refl
    go (some a) f none g = refl
    go (some a) f (some b) g = absurd (h a b f g)

apart_sound : (T : Table) → every_operator is_apart T ≡ true → Apart T
apart_sound T e m = apart_roles_sound (role T m) (every_found is_apart vacant_apart T m e)

apart_complete : (T : Table) → Distinct T → Apart T → every_operator is_apart T ≡ true
apart_complete T p c = found_every is_apart vacant_apart T p (λ m. apart_roles_complete (role T m) (c m))

-- What passes the test at `in` keeps the rule ..
pub permitted_sound : (T : Table) → permitted T ≡ true → Permitted T
unfolding permitted
permitted_sound T e = go (every_operator is_apart T) refl
  where
    go : (b : Bool) → every_operator is_apart T ≡ b → Permitted T
    go true h = apart (apart_sound T h)
    go false h = conditions (conditions_sound T (rw h at e))

-- .. and what keeps it passes.
pub permitted_complete : (T : Table) → Distinct T → Permitted T → permitted T ≡ true
unfolding permitted
permitted_complete T p (apart h) = rw (apart_complete T p h) refl
permitted_complete T p (conditions h) = go (every_operator is_apart T)
  where
    go : (b : Bool) → b || every_operator lawful T ≡ true
    go true = refl
    go false = conditions_complete T p h

-- The eight operators at the start keep it.
pub permitted-start : Permitted start_table
unfolding start_table start_declarations declare_all declare declare_role same value value_from replaced same_fixity
    permitted every_operator is_apart is_some
permitted-start = permitted_sound start_table refl
