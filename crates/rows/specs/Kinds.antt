-- A token as the code has it: its kind by number, and where its first byte stands.
use Rattle.std.specs.Prelude.{true, false, ℕ, ◌-◌, eqb}
use Rattle.rows.specs.declared.token.Kind.{Kind}
use Rattle.rows.specs.declared.token.Kind.TheVariants.{Symbol, Number, Quoted, Opening, Closing, Semicolon, Let, In, End}
use Rattle.rows.specs.declared.token.Token.{Token}

-- The number of a kind, as of the tokens that have it.
abbrev pub kind_code : Kind → ℕ
kind_code Symbol = 1
kind_code Number = 2
kind_code Quoted = 3
kind_code Opening = 4
kind_code Closing = 5
kind_code Semicolon = 6
kind_code Let = 7
kind_code In = 8
kind_code End = 9

-- Where the first byte of a token stands: of a quoted name its quote.
unfoldable pub first_byte_of : Token → ℕ
first_byte_of t = elim (eqb (kind_code t.kind) 3) [ true ↦ t.start - 1 | false ↦ t.start ]
