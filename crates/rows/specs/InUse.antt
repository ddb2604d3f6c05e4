-- The role in which an operator stands, by the operands that the row of roots has.
use Rattle.std.specs.Prelude.{true, false, List, ℕ, eqb}
use Rattle.grammar.specs.Operator as G
use Rattle.rows.specs.declared.operands.Operands.{Operands}
use Rattle.rows.specs.declared.roles.Roles.{Roles}
use Rattle.rows.specs.declared.roles.Note.{Note}
use Rattle.rows.specs.Codes.{roles_of}
use Rattle.rows.specs.Fields.{note, arrival, left, right}

-- The roles of an operator as the code has them.
abbrev pub roles_by : Roles → G.Roles
roles_by r = roles_of r.prefix.code r.«infix».code r.postfix.code

-- The number of the role that an operator has by its operands: `l` and `r` are 0 where there is none on that side.
unfoldable pub role_between : Roles → ℕ → ℕ → ℕ
role_between s l r =
    elim (eqb l 0) [
      | true ↦ elim (eqb r 0) [ true ↦ 0 | false ↦ s.prefix.code ]
      | false ↦ elim (eqb r 0) [ true ↦ s.postfix.code | false ↦ s.«infix».code ]
    ]

-- That of token `i`.
abbrev pub role_beside : List Note → ℕ → ℕ → ℕ → ℕ
role_beside R i l r = role_between (note R i).roles l r

-- That of the role in use: by the operands that the row of roots has; 0 for what is no operator.
unfoldable pub role_in_use : List Note → List Operands → ℕ → ℕ
role_in_use R O i = elim (eqb (arrival R i) 0) [ true ↦ 0 | false ↦ role_beside R i (left O i) (right O i) ]
