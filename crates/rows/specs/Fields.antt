-- Rows: entry `i` of a row is that of token number `i`.
use Rattle.std.specs.Prelude.{List, ℕ, ◌≤◌, ◌<◌, length, get_or}
use Rattle.std.proofs.Common.{refl}
use Rattle.grammar.specs.Fault.{most_tokens}
use Rattle.rows.specs.declared.token.Kind.TheVariants.{Symbol}
use Rattle.rows.specs.declared.token.Token.{Token}
use Rattle.rows.specs.declared.operands.Operands.{Operands}
use Rattle.rows.specs.declared.role.Role.{Role}
use Rattle.rows.specs.declared.roles.Roles.{Roles}
use Rattle.rows.specs.declared.roles.Note.{Note}
use Rattle.rows.specs.Kinds.{kind_code, first_byte_of}

module _ {A : Type 0} where
  -- Entry `i` stands in the row.
  abbrev pub Within : List A → ℕ → Type 0
  Within R i = (i < most_tokens) × (i < length R)

  -- The row has `n` entries.
  abbrev pub Holds : List A → ℕ → Type 0
  Holds R n = (n ≤ most_tokens) × (n ≤ length R)

-- The rows of a text.
abbrev pub TokenRow : Type 0
TokenRow = List Token

abbrev pub NoteRow : Type 0
NoteRow = List Note

abbrev pub RootRow : Type 0
RootRow = List Operands

-- A token of a row of tokens, and its fields.
abbrev pub blank : Token
blank = record { kind = Symbol; start = 0; size = 0; closer = 0 }

abbrev pub token : TokenRow → ℕ → Token
token K i = get_or K i blank

abbrev pub kind : TokenRow → ℕ → ℕ
kind K i = kind_code (token K i).kind

abbrev pub start : TokenRow → ℕ → ℕ
start K i = (token K i).start

abbrev pub size : TokenRow → ℕ → ℕ
size K i = (token K i).size

abbrev pub closer : TokenRow → ℕ → ℕ
closer K i = (token K i).closer

-- Where the first byte of a token stands: of a quoted name its quote.
abbrev pub first_byte : TokenRow → ℕ → ℕ
first_byte K i = first_byte_of (token K i)

-- A note of a row of notes, and the numbers of its roles.
abbrev pub no_role : Role
no_role = record { code = 0; valid = refl }

abbrev pub no_roles : Roles
no_roles = record { prefix = no_role; «infix» = no_role; postfix = no_role }

abbrev pub no_note : Note
no_note = record { roles = no_roles; arrival = 0 }

abbrev pub note : NoteRow → ℕ → Note
note R i = get_or R i no_note

abbrev pub prefix : NoteRow → ℕ → ℕ
prefix R i = (note R i).roles.prefix.code

abbrev pub infixed : NoteRow → ℕ → ℕ
infixed R i = (note R i).roles.«infix».code

abbrev pub postfix : NoteRow → ℕ → ℕ
postfix R i = (note R i).roles.postfix.code

abbrev pub arrival : NoteRow → ℕ → ℕ
arrival R i = (note R i).arrival

-- The operands of a row of roots.
abbrev pub no_operands : Operands
no_operands = record { left = 0; right = 0 }

abbrev pub operands : RootRow → ℕ → Operands
operands O i = get_or O i no_operands

abbrev pub left : RootRow → ℕ → ℕ
left O i = (operands O i).left

abbrev pub right : RootRow → ℕ → ℕ
right O i = (operands O i).right
