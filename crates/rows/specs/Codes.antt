-- Roles as numbers: 0 for none, else a multiple of 2,048 for the associativity plus the precedence.
use Rattle.std.specs.Prelude.{◌≡◌, Bool, true, false, ◌&&◌, ◌||◌, not, ℕ, suc, ◌+◌, ◌-◌, ◌≤◌, ltb, leb, eqb}
use Rattle.std.proofs.Math.Option.{Option, none, some}
use Rattle.grammar.specs.Bytes.{Bytes}
use Rattle.grammar.specs.Operator.{Fixity, Prefix, Infix, Postfix, Associativity, left, right, non, Role, Roles, Table, role}
use Rattle.grammar.specs.Declaration.{widest_precedence}
use Rattle.grammar.specs.SpanTree.{is_right, Position, on_left, on_right}
use Rattle.grammar.specs.Climb.{first_role}
use Rattle.rows.specs.declared.fixity.Fixity as F
use Rattle.rows.specs.declared.fixity.Fixity.TheVariants as Fixities
use Rattle.rows.specs.declared.fixity.Associativity as A
use Rattle.rows.specs.declared.fixity.Associativity.TheVariants as Sides
use Rattle.rows.specs.declared.fixity.Position as P
use Rattle.rows.specs.declared.fixity.Position.TheVariants as Positions

-- Fixities, associativities and positions as the code has them.
abbrev pub fixity_in : F.Fixity → Fixity
fixity_in Fixities.Infix = Infix
fixity_in Fixities.Prefix = Prefix
fixity_in Fixities.Postfix = Postfix

abbrev pub associativity_in : A.Associativity → Associativity
associativity_in Sides.Left = left
associativity_in Sides.Non = non
associativity_in Sides.Right = right

abbrev pub position_in : P.Position → Position
position_in Positions.OnLeft = on_left
position_in Positions.OnRight = on_right

unfoldable pub side_code : Associativity → ℕ
side_code left = 2048
side_code non = 4096
side_code right = 6144

unfoldable pub role_code : Option Role → ℕ
role_code none = 0
role_code (some r) = side_code r.associativity + r.precedence

unfoldable pub role_of : ℕ → Option Role
role_of c =
    elim (eqb c 0) [
      | true ↦ none
      | false ↦
          elim (ltb c 4096) [
            | true ↦ some (record { precedence = c - 2048; associativity = left })
            | false ↦
                elim (ltb c 6144) [
                  | true ↦ some (record { precedence = c - 4096; associativity = non })
                  | false ↦ some (record { precedence = c - 6144; associativity = right })
                ]
          ]
    ]

-- "a level, 1 to 1200"
abbrev pub Fit : Option Role → Type 0
Fit none = Unit {0}
Fit (some r) = (1 ≤ r.precedence) × (r.precedence ≤ widest_precedence)

-- The number of a role, or of none.
abbrev pub IsRole : ℕ → Type 0
IsRole c = (role_code (role_of c) ≡ c) × Fit (role_of c)

-- The same as a test: 0, or a multiple of 2,048 up to 6,144 with 1 to 1,200 more.
abbrev pub between : ℕ → ℕ → ℕ → Bool
between low high c = leb low c && leb c high

abbrev pub is_role : ℕ → Bool
is_role c = eqb c 0 || (between 2049 3248 c || (between 4097 5296 c || between 6145 7344 c))

-- Every role in force is one.
abbrev pub Bounded : Table → Type 0
Bounded T = (m : Bytes) (f : Fixity) → Fit (role T m f)

-- The roles of an operator by their numbers: prefix, infix, postfix.
unfoldable pub roles_of : ℕ → ℕ → ℕ → Roles
roles_of p i q Prefix = role_of p
roles_of p i q Infix = role_of i
roles_of p i q Postfix = role_of q

-- What an operator with these roles is to those that wait when it comes: one more than the precedence of its role with something on its
-- left, 1 if it has none such; 0 for what is no operator.
unfoldable pub arrival_of : Roles → ℕ
arrival_of r =
    elim (first_role (r Infix) (r Postfix)) [
      | some q ↦ suc q.precedence
      | none ↦
          elim (r Prefix) [ some q ↦ 1 | none ↦ 0 ]
    ]

-- A waiting operator in a role gives way to what comes.
unfoldable pub gives_way_to : Option Role → ℕ → Bool
gives_way_to none a = false
gives_way_to (some q) a = ltb (suc q.precedence) a || (eqb (suc q.precedence) a && not (is_right q.associativity))
