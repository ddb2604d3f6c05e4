-- A line as a call of a service: a name, a space and a text in hexadecimal, with one more character.
use Rattle.std.specs.Prelude.{Bool, true, false, not, List, [], ◌∷◌, ℕ, ◌+◌, ◌≤◌, eqb, ltb, length, take, set, None, Some}
use Rattle.std.specs.declared.option.Option.{Option}
use Rattle.grammar.specs.Bytes.{Bytes, bytes, same}
use Rattle.hex_lines.specs.Hexadecimal as hex
use Rattle.calls.specs.declared.Service.{Service}
use Rattle.calls.specs.declared.Service.TheVariants.{Listing, Locate}
use Rattle.calls.specs.declared.Format.{Format}
use Rattle.calls.specs.declared.Format.TheVariants.{Texts, Calls}
use Rattle.calls.specs.declared.Call.{Call}
use Rattle.calls.specs.declared.Call.TheVariants.{Name, Start, Dash, Digits, Bad}
use Rattle.calls.specs.declared.Request.{Request}

-- A line with no character.
abbrev pub fresh : Format → Call
fresh Texts = Digits Listing hex.fresh
fresh Calls = Name 0

-- Whether a line has a character.
abbrev pub begun_by : Call → Bool
begun_by (Name n) = not (eqb n 0)
begun_by (Start s) = true
begun_by (Dash s) = true
begun_by (Digits s l) = l.begun
begun_by Bad = true

-- The service of a name, and the longest name.
unfoldable pub service_of : Bytes → Option Service
service_of name = elim (same name (bytes "locate")) [ true ↦ Some Locate | false ↦ None ]

abbrev pub longest_name : ℕ
longest_name = 6

-- The line behind a name and a space.
abbrev pub start : Option Service → Call
start None = Bad
start (Some s) = Start s

abbrev pub named : Bytes → Call
named name = start (service_of name)

-- A name of `n` characters, which stand at the front of the text, and one more character.
unfoldable pub name_after : List ℕ → ℕ → ℕ → Call
name_after text n b =
    elim (eqb b 32) [ true ↦ named (take n text) | false ↦ elim (ltb n (length text)) [ true ↦ Name (n + 1) | false ↦ Bad ] ]

unfoldable pub name_text_after : List ℕ → ℕ → ℕ → List ℕ
name_text_after text n b = elim (eqb b 32) [ true ↦ text | false ↦ set text n b ]

-- A line with one more character.
abbrev pub after : List ℕ → Call → ℕ → Call
after text (Name n) b = name_after text n b
after text (Start s) b = elim (eqb b 45) [ true ↦ Dash s | false ↦ Digits s (hex.after (length text) hex.fresh b) ]
after text (Dash s) b = Bad
after text (Digits s l) b = Digits s (hex.after (length text) l b)
after text Bad b = Bad

-- The bytes of its text.
abbrev pub text_after : List ℕ → Call → ℕ → List ℕ
text_after text (Name n) b = name_text_after text n b
text_after text (Start s) b = elim (eqb b 45) [ true ↦ text | false ↦ hex.text_after text hex.fresh b ]
text_after text (Dash s) b = text
text_after text (Digits s l) b = hex.text_after text l b
text_after text Bad b = text

-- The line of the last character, behind the characters of lines. A line end begins the next line.
unfoldable pub taken : Format → List ℕ → Call → ℕ → Call
taken f text c b = elim (eqb b 10) [ true ↦ fresh f | false ↦ after text c b ]

unfoldable pub text_taken : List ℕ → Call → ℕ → List ℕ
text_taken text c b = elim (eqb b 10) [ true ↦ text | false ↦ text_after text c b ]

unfoldable pub taken_all : Format → List ℕ → Call → Bytes → Call
taken_all f text c [] = c
taken_all f text c (b ∷ s) = taken_all f (text_taken text c b) (taken f text c b) s

unfoldable pub text_taken_all : Format → List ℕ → Call → Bytes → List ℕ
text_taken_all f text c [] = text
text_taken_all f text c (b ∷ s) = text_taken_all f (text_taken text c b) (taken f text c b) s

-- What a whole line asks for: a service of the first bytes of its text, or nothing.
abbrev pub requested : Call → Option Request
requested (Name n) = None
requested (Start s) = None
requested (Dash s) = Some (record { service = s; kept = 0 })
requested (Digits s l) = elim (hex.is_text l) [ true ↦ Some (record { service = s; kept = l.kept }) | false ↦ None ]
requested Bad = None

-- What holds of every line, with the bytes of its text.
abbrev pub Sound : Call → List ℕ → Type 0
Sound (Name n) text = n ≤ length text
Sound (Start s) text = Unit {0}
Sound (Dash s) text = Unit {0}
Sound (Digits s l) text = hex.Sound l text
Sound Bad text = Unit {0}
