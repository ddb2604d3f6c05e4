-- Document 01, "Tidy text": "Numbers lose leading zeros (0 remains `0`)"; "A name is bare if it is one word or sign, no structure word and
-- no mark in force there; else quoted." Of the tokens of a row.
use Rattle.std.specs.Prelude.{◌≡◌, Bool, true, false, ◌&&◌, ◌||◌, not, [], ◌∷◌, ◌++◌, ℕ, ◌+◌, ◌-◌, ◌≤◌, ◌<◌, eqb, length, take, drop}
use Rattle.grammar.specs.Bytes.{Bytes}
use Rattle.grammar.specs.Fault.{longest_text}
use Rattle.grammar.specs.Token.{quote_byte, is_word, is_sign, is_symbol, longest_name}
use Rattle.grammar.specs.Canonical.{strip, join_pieces}
use Rattle.rows.specs.declared.token.Token.{Token}
use Rattle.rows.specs.declared.roles.Roles.{Roles}
use Rattle.rows.specs.Kinds.{kind_code}
use Rattle.rows.specs.Fields.{TokenRow, NoteRow, token, note}
use Rattle.rows.specs.Tokens.{written_of}
use Rattle.canonical_text.specs.Pieces.{parts, InText}

-- A name with these roles has one.
unfoldable pub has_roles : Roles → Bool
has_roles s = not (eqb s.prefix.code 0) || not (eqb s.«infix».code 0) || not (eqb s.postfix.code 0)

unfoldable pub stays_quoted : Roles → Bytes → Bool
stays_quoted s w = has_roles s || not (is_symbol w)

-- What a token with these roles leaves, by its kind and its bytes as written: the pairs of quotes in a name stay pairs.
unfoldable pub leaves : Roles → ℕ → Bytes → Bytes
leaves s k w =
    elim (eqb k 2) [
      | true ↦ strip w
      | false ↦ elim (eqb k 3 && stays_quoted s w) [ true ↦ quote_byte ∷ w ++ quote_byte ∷ [] | false ↦ w ]
    ]

-- Of a token, and of token `i` of a row.
abbrev pub bytes_of : Bytes → Token → Bytes
bytes_of text t = take t.size (drop t.start text)

abbrev pub token_part : Bytes → Roles → Token → Bytes
token_part text s t = leaves s (kind_code t.kind) (bytes_of text t)

abbrev pub part_of : Bytes → NoteRow → TokenRow → ℕ → Bytes
part_of text R K i = token_part text (note R i).roles (token K i)

-- The bytes of a name: one at least, and not too many where they are a word or sign.
abbrev pub IsName : Bytes → Type 0
IsName w = (1 ≤ length w) × (is_word w || is_sign w ≡ true → length w ≤ longest_name)

-- A token: its bytes lie in the text, a number has a digit, and a quoted name stands between its quotes.
pub record Trimmable (text : Bytes) (t : Token) : Type 0 where
  pub short : length text ≤ longest_text
  pub within : t.start + t.size ≤ length text
  pub number : kind_code t.kind ≡ 2 → 1 ≤ t.size
  pub name : kind_code t.kind ≡ 3 → IsName (bytes_of text t)
  pub quoted :
      kind_code t.kind ≡ 3 → (1 ≤ t.start) × (t.start + t.size < length text)
      × (take (t.size + 2) (drop (t.start - 1) text) ≡ quote_byte ∷ bytes_of text t ++ quote_byte ∷ [])

-- The token with what it leaves, under these roles, for its bytes.
pub record Trimmed (text : Bytes) (s : Roles) (t t' : Token) : Type 0 where
  pub part : bytes_of text t' ≡ token_part text s t
  pub within : t'.start + t'.size ≤ length text

-- The row with what each of `n` tokens leaves, and how long that is with one space between.
pub record TrimmedRow (text : Bytes) (R : NoteRow) (K : TokenRow) (n : ℕ) (K' : TokenRow) (total : ℕ) : Type 0 where
  pub in_text : InText text K' n
  pub left : (j : ℕ) → j < n → written_of text K' j ≡ part_of text R K j
  pub counted : total ≡ length (join_pieces (parts (part_of text R K) 0 n))
