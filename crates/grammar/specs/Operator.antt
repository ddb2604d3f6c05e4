-- Document 01, "Marks and blocks": operators, their roles, the operators in force, and the overloading rule, which document 02, §2, widens.
use Rattle.std.specs.Prelude.{◌≡◌, Bool, true, false, ◌&&◌, ◌||◌, not, List, [], ◌∷◌, ℕ, eqb}
use Rattle.std.proofs.Math.Option.{Option, none, some}
use Rattle.grammar.specs.Bytes.{Bytes, same}

-- "one to three roles: prefix, infix, postfix" (01: role; here the kind of a role is a fixity)
pub data Fixity : Type 0 where
  Prefix Infix Postfix : Fixity

-- "and a side": left, right or non (01: side)
pub data Associativity : Type 0 where
  left right non : Associativity

-- "Each role has a level, 1 to 1200 (larger means wider scope), and a side." (01: level; here precedence)
pub record Role : Type 0 where
  pub precedence : ℕ
  pub associativity : Associativity

unfoldable pub same_fixity : Fixity → Fixity → Bool
same_fixity Prefix Prefix = true
same_fixity Prefix Infix = false
same_fixity Prefix Postfix = false
same_fixity Infix Prefix = false
same_fixity Infix Infix = true
same_fixity Infix Postfix = false
same_fixity Postfix Prefix = false
same_fixity Postfix Infix = false
same_fixity Postfix Postfix = true

unfoldable pub same_associativity : Associativity → Associativity → Bool
same_associativity left left = true
same_associativity left right = false
same_associativity left non = false
same_associativity right left = false
same_associativity right right = true
same_associativity right non = false
same_associativity non left = false
same_associativity non right = false
same_associativity non non = true

-- "Infix: left, right or non. Prefix: right or non. Postfix: left or non."
unfoldable pub allowed : Fixity → Associativity → Bool
allowed Infix left = true
allowed Infix right = true
allowed Infix non = true
allowed Prefix left = false
allowed Prefix right = true
allowed Prefix non = true
allowed Postfix left = true
allowed Postfix right = false
allowed Postfix non = true

abbrev pub Roles : Type 0
Roles = Fixity → Option Role

-- "A mark is a word or sign with one to three roles" (01: mark; here operator)
pub record Operator : Type 0 where
  pub name : Bytes
  pub roles : Roles

-- The operators in force (01: table).
abbrev pub Table : Type 0
Table = List Operator

-- The role of the word or sign `m` of the fixity `f` in force.
unfoldable pub role : Table → Bytes → Roles
role [] m f = none
role (o ∷ T) m f = elim (same m o.name) [ true ↦ o.roles f | false ↦ role T m f ]

unfoldable pub is_some : Option Role → Bool
is_some none = false
is_some (some r) = true

unfoldable pub has_role : Roles → Bool
has_role r = is_some (r Prefix) || is_some (r Infix) || is_some (r Postfix)

-- The word or sign `m` is an operator in force.
unfoldable pub in_force : Table → Bytes → Bool
in_force T m = has_role (role T m)

-- "A declared role replaces the mark's former role of that kind."
unfoldable pub replaced : Fixity → Role → Roles → Roles
replaced f r old g = elim (same_fixity f g) [ true ↦ some r | false ↦ old g ]

unfoldable pub declare_role : Bytes → Fixity → Role → Table → Table
declare_role m f r [] = record { name = m; roles = replaced f r (λ g. none) } ∷ []
declare_role m f r (o ∷ T) =
    elim (same m o.name) [
      | true ↦ record { name = o.name; roles = replaced f r o.roles } ∷ T
      | false ↦ o ∷ declare_role m f r T
    ]

-- "`plain` removes all roles and does nothing to a word or sign that has none."
unfoldable pub remove_roles : Bytes → Table → Table
remove_roles m [] = []
remove_roles m (o ∷ T) = elim (same m o.name) [ true ↦ remove_roles m T | false ↦ o ∷ remove_roles m T ]

-- "At `in`, every mark in force must satisfy":
pub record Lawful (r : Roles) : Type 0 where
  -- "1. all its roles have the same level"
  pub one_precedence : (f g : Fixity) (a b : Role) → r f ≡ some a → r g ≡ some b → a.precedence ≡ b.precedence
  -- "2. infix non: its other roles are non"
  pub infix_non : (a : Role) → r Infix ≡ some a → a.associativity ≡ non → (f : Fixity) (b : Role) → r f ≡ some b → b.associativity ≡ non
  -- "3. infix left: prefix is non, postfix is left"
  pub infix_left :
      (a : Role) → r Infix ≡ some a → a.associativity ≡ left
      → ((b : Role) → r Prefix ≡ some b → b.associativity ≡ non) × ((b : Role) → r Postfix ≡ some b → b.associativity ≡ left)
  -- "4. infix right: prefix is right, and there is no postfix role"
  pub infix_right :
      (a : Role) → r Infix ≡ some a → a.associativity ≡ right
      → ((b : Role) → r Prefix ≡ some b → b.associativity ≡ right) × (r Postfix ≡ none)

-- The four conditions, of every word or sign.
abbrev pub Conditions : Table → Type 0
Conditions T = (m : Bytes) → Lawful (role T m)

-- 02, §2: "a table where no mark in force has both an infix and a postfix role"
abbrev pub Apart : Table → Type 0
Apart T = (m : Bytes) (a b : Role) → role T m Infix ≡ some a → role T m Postfix ≡ some b → ⊥

-- The overloading rule: in such a table "roles of one mark may differ in level and side without condition. .. In every other table the four
-- conditions hold as they did."
pub data Permitted (T : Table) : Type 0 where
  apart : Apart T → Permitted T
  conditions : Conditions T → Permitted T

-- The four conditions as a test.
unfoldable pub one_precedence_test : Option Role → Option Role → Bool
one_precedence_test none none = true
one_precedence_test none (some b) = true
one_precedence_test (some a) none = true
one_precedence_test (some a) (some b) = eqb a.precedence b.precedence

-- A role, where there is one, has that associativity.
unfoldable pub only : Associativity → Option Role → Bool
only a none = true
only a (some r) = same_associativity a r.associativity

unfoldable pub absent_role : Option Role → Bool
absent_role none = true
absent_role (some r) = false

-- Conditions 2 to 4: what an infix role of the associativity asks of the prefix and the postfix role.
unfoldable pub beside_infix : Associativity → Option Role → Option Role → Bool
beside_infix non p q = only non p && only non q
beside_infix left p q = only non p && only left q
beside_infix right p q = only right p && absent_role q

unfoldable pub lawful_associativities : Option Role → Option Role → Option Role → Bool
lawful_associativities p none q = true
lawful_associativities p (some a) q = beside_infix a.associativity p q

unfoldable pub lawful : Roles → Bool
lawful r =
    one_precedence_test (r Prefix) (r Infix) && one_precedence_test (r Infix) (r Postfix) && one_precedence_test (r Prefix) (r Postfix)
    && lawful_associativities (r Prefix) (r Infix) (r Postfix)

-- Not both an infix and a postfix role.
unfoldable pub is_apart : Roles → Bool
is_apart r = not (is_some (r Infix) && is_some (r Postfix))

-- A test that the roles of every operator pass.
unfoldable pub every_operator : (Roles → Bool) → Table → Bool
every_operator q [] = true
every_operator q (o ∷ T) = elim (q o.roles) [ true ↦ every_operator q T | false ↦ false ]

-- The overloading rule as a test.
unfoldable pub permitted : Table → Bool
permitted T = every_operator is_apart T || every_operator lawful T

-- An operator of that name is listed.
unfoldable pub listed : Bytes → Table → Bool
listed m [] = false
listed m (o ∷ T) = elim (same m o.name) [ true ↦ true | false ↦ listed m T ]

-- What holds of each operator and those behind it.
abbrev pub Each : (Operator → Table → Type 0) → Table → Type 0
Each Q [] = Unit {0}
Each Q (o ∷ T) = Q o T × Each Q T

-- No two operators have one name, and each has a role: so the operators in force are as many as the list is long.
abbrev pub Distinct : Table → Type 0
Distinct = Each (λ o T. listed o.name T ≡ false)

abbrev pub Alive : Table → Type 0
Alive = Each (λ o T. has_role o.roles ≡ true)
