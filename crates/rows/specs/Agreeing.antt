-- What a row of roles holds: of each item its roles under the operators in force there.
use Rattle.std.specs.Prelude.{◌≡◌, Bool, true, false, List, ◌⊎◌, ℕ, suc, ◌≤◌, ◌<◌, length}
use Rattle.std.proofs.Math.Option.{none}
use Rattle.grammar.specs.Bytes.{Bytes}
use Rattle.grammar.specs.Token.{Atom, symbol, number, quoted, doubled}
use Rattle.grammar.specs.Operator.{Prefix, Infix, Postfix, Roles, Table, role}
use Rattle.grammar.specs.Declaration.{declarations, all_tokens}
use Rattle.grammar.specs.Blocks.{body_table}
use Rattle.rows.specs.declared.roles.Note.{Note}
use Rattle.rows.specs.Fields.{TokenRow, NoteRow, note, kind, closer, prefix, infixed, postfix, arrival}
use Rattle.rows.specs.Codes.{role_code, arrival_of, Bounded}
use Rattle.rows.specs.Tokens.{atom_in, range, IsAtomKind, IsQuietKind}

-- The roles in force of a symbol, or of a quoted name's bytes as written: those are a symbol only where they are its characters.
unfoldable pub roles_for : Table → Atom → Roles
roles_for T (symbol w) f = role T w f
roles_for T (number d) f = none
roles_for T (quoted c) f = role T (doubled c) f

-- What an atom is to the operators that wait when it comes: only a symbol can be an operator.
unfoldable pub arrival_for : Table → Atom → ℕ
arrival_for T (symbol w) = arrival_of (role T w)
arrival_for T (number d) = 0
arrival_for T (quoted c) = 0

-- That stands in the row.
pub record Noted (T : Table) (R : NoteRow) (i : ℕ) (a : Atom) : Type 0 where
  pub prefixed : prefix R i ≡ role_code (roles_for T a Prefix)
  pub between : infixed R i ≡ role_code (roles_for T a Infix)
  pub postfixed : postfix R i ≡ role_code (roles_for T a Postfix)
  pub arrives : arrival R i ≡ arrival_for T a

-- The entries of the row outside `from` to `to` are as they were.
pub record KeptOutside (R : NoteRow) (from to : ℕ) (R' : NoteRow) : Type 0 where
  pub long : length R' ≡ length R
  pub same : (j : ℕ) → (j < from) ⊎ (to ≤ j) → note R' j ≡ note R j

-- The row has what is noted of an atom at token `i`, and is otherwise as it was.
pub record NotedAt (T : Table) (R : NoteRow) (i : ℕ) (a : Atom) (R' : NoteRow) : Type 0 where
  pub noted : Noted T R' i a
  pub kept : KeptOutside R i (suc i) R'

-- So of the bytes of a name: of a quoted one, or of one that is no operator.
abbrev pub NameNoted : Bool → (Bytes → Type 0) → Table → Bytes → List Note → ℕ → List Note → Type 0
NameNoted true NoOperator T name R i R' = (c : Bytes) → name ≡ doubled c → NotedAt T R i (quoted c) R'
NameNoted false NoOperator T name R i R' = NoOperator name → NotedAt T R i (symbol name) R'

-- The tokens from number `i` to number `to` are paired, and the row has the roles of each item under the operators in force: within bracket
-- pairs too, and within blocks under the operators of their bodies. A bracket pair or block is no operator.
pub data Agrees (text : Bytes) (K : TokenRow) (R : NoteRow) : Table → ℕ → ℕ → Type 0 where
  ends : {T : Table} {to : ℕ} → Agrees text K R T to to
  atoms : {T : Table} {i to : ℕ} → i < to → IsAtomKind (kind K i) → Noted T R i (atom_in text K i)
      → Agrees text K R T (suc i) to → Agrees text K R T i to
  brackets :
      {T : Table} {i to : ℕ} (c : ℕ) → kind K i ≡ 4 → closer K i ≡ c → i < c → c < to → kind K c ≡ 5 → arrival R i ≡ 0
      → Agrees text K R T (suc i) c → Agrees text K R T (suc c) to → Agrees text K R T i to
  blocks :
      {T : Table} {i to : ℕ} (c e : ℕ) → kind K i ≡ 7 → closer K i ≡ c → closer K c ≡ e → i < c → c < e → e < to
      → kind K c ≡ 8 → kind K e ≡ 9 → ((j : ℕ) → i < j → j < c → IsQuietKind (kind K j)) → arrival R i ≡ 0
      → all_tokens (declarations (range text K (suc i) c)) ≡ range text K (suc i) c → Bounded (body_table T (range text K (suc i) c))
      → Agrees text K R (body_table T (range text K (suc i) c)) (suc c) e → Agrees text K R T (suc e) to → Agrees text K R T i to
