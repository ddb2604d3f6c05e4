-- The starting operators by number, and what a row of notes holds of a text in which no block declares others.
use Rattle.std.specs.Prelude.{◌≡◌, true, false, List, [], ◌∷◌, ◌⊎◌, ℕ, zero, suc, ◌≤◌, ◌<◌, ltb, length, Option, Some, None}
use Rattle.std.proofs.Math.Option.{none}
use Rattle.grammar.specs.Bytes.{Bytes, same}
use Rattle.grammar.specs.Operator.{Prefix, Infix, Postfix, Roles, Table}
use Rattle.grammar.specs.Scan.{Placed}
use Rattle.grammar.specs.Declaration.{start_table}
use Rattle.rows.specs.Fields.{TokenRow, NoteRow, kind, start, size, closer, arrival, Holds}
use Rattle.rows.specs.Tokens.{written_of, atom_in, IsAtomKind, Stored}
use Rattle.rows.specs.Codes.{role_code}
use Rattle.rows.specs.Agreeing.{Noted, KeptOutside}
use Rattle.rows.specs.declared.token.Token.{Token}
use Rattle.rows.specs.declared.roles.Roles as Coded
use Rattle.rows.specs.declared.class.Class.{Class}
use Rattle.rows.specs.declared.class.Class.TheVariants.{Name, Number, Operator, Bracket, Block}
use Rattle.starting_operators.specs.declared.number.StartingOperator.{StartingOperator}

-- The number of the operator that has the name, as many as there are if none has it; the name and the roles of the operator with a number.
unfoldable pub number_in : Table → Bytes → ℕ
number_in [] name = 0
number_in (o ∷ T) name = elim (same name o.name) [ true ↦ 0 | false ↦ suc (number_in T name) ]

unfoldable pub name_of : Table → ℕ → Bytes
name_of [] n = []
name_of (o ∷ T) zero = o.name
name_of (o ∷ T) (suc n) = name_of T n

unfoldable pub roles_at : Table → ℕ → Roles
roles_at [] n f = none
roles_at (o ∷ T) zero f = o.roles f
roles_at (o ∷ T) (suc n) f = roles_at T n f

-- Those of the starting operators, and how many there are.
unfoldable pub start_number : Bytes → ℕ
start_number name = number_in start_table name

unfoldable pub start_name : ℕ → Bytes
start_name n = name_of start_table n

unfoldable pub start_roles : ℕ → Roles
start_roles n = roles_at start_table n

unfoldable pub start_count : ℕ
start_count = length start_table

-- A name that none of them has.
abbrev pub Unnumbered : Bytes → Type 0
Unnumbered name = start_number name ≡ start_count

-- The number of the operator that has the name, or that none has it.
unfoldable pub found_number : Bytes → Option ℕ
found_number name = elim (ltb (start_number name) start_count) [ true ↦ Some (start_number name) | false ↦ None ]

-- The roles of the operator with number `n` as they stand in the code. From `start_count` on there are none.
pub record HasRoles (n : ℕ) (r : Coded.Roles) : Type 0 where
  pub prefixed : r.prefix.code ≡ role_code (start_roles n Prefix)
  pub between : r.«infix».code ≡ role_code (start_roles n Infix)
  pub postfixed : r.postfix.code ≡ role_code (start_roles n Postfix)

-- The operator with number `n` as it stands in the code. From `start_count` on there is none.
pub record IsOperator (n : ℕ) (o : StartingOperator) : Type 0 where
  pub named : o.name.now ≡ start_name n
  pub roled : HasRoles n o.roles

-- `n` tokens of the text, atoms and brackets, with a row for their notes.
pub record Notable (text : Bytes) (K : TokenRow) (R : NoteRow) (n : ℕ) : Type 0 where
  pub placed : List Placed
  pub stored : Stored text placed K
  pub within : n ≤ length placed
  pub flat : (j : ℕ) → j < n → kind K j ≤ 5
  pub tokens : Holds K n
  pub roles : Holds R n

-- The class of token `i`, which is no closing bracket.
abbrev pub IsClass : Bytes → List Token → ℕ → Class → Type 0
IsClass text K i (Operator k) = (kind K i ≡ 1) × (k ≡ start_number (written_of text K i))
IsClass text K i (Name s n) =
    (s ≡ start K i) × (n ≡ size K i) × (((kind K i ≡ 1) × Unnumbered (written_of text K i)) ⊎ (kind K i ≡ 3))
IsClass text K i Number = kind K i ≡ 2
IsClass text K i (Bracket c) = (kind K i ≡ 4) × (closer K i ≡ c)
IsClass text K i (Block c) = ⊥

-- Token `i` has the roles of an atom under the starting operators, or is no operator if it opens a bracket pair.
pub record NotedToken (text : Bytes) (K : TokenRow) (R : NoteRow) (i : ℕ) : Type 0 where
  pub atoms : IsAtomKind (kind K i) → Noted start_table R i (atom_in text K i)
  pub opens : kind K i ≡ 4 → arrival R i ≡ 0

-- So it is noted of one token, and of `n`; the rest of the row is as it was.
pub record NotesToken (text : Bytes) (K : TokenRow) (R : NoteRow) (i : ℕ) (R' : NoteRow) : Type 0 where
  pub noted : NotedToken text K R' i
  pub kept : KeptOutside R i (suc i) R'

pub record NotesAll (text : Bytes) (K : TokenRow) (n : ℕ) (R R' : NoteRow) : Type 0 where
  pub noted : (j : ℕ) → j < n → NotedToken text K R' j
  pub kept : KeptOutside R 0 n R'
