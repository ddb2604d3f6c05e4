-- What the services print for their input: a line at a time, what the line asks for.
use Rattle.std.specs.Prelude.{true, false, [], ◌∷◌, ◌++◌, ℕ, eqb, None, Some}
use Rattle.grammar.specs.Bytes.{Bytes, bytes}
use Rattle.grammar.specs.Answer as G
use Rattle.grammar.specs.Listing.{newline, printed}
use Rattle.reader.specs.declared.Answer.{Answer}
use Rattle.listing.specs.Lines.{outcome_text}
use Rattle.calls.specs.declared.Service.{Service}
use Rattle.calls.specs.declared.Service.TheVariants.{Listing, Locate}
use Rattle.calls.specs.declared.Format.{Format}
use Rattle.calls.specs.Asked.{Asked, line_asks, first_bytes}

-- As many bytes of a text as the services look at: every longer text is answered alike, refusal 1 at 16384.
abbrev pub kept_bytes : ℕ
kept_bytes = 16385

-- The answer of locating, as it is handed out.
unfoldable pub located : Bytes → Answer
located t =
    record { number = (G.locate t).answer.number; offset = (G.locate t).answer.offset; count = (G.locate t).answer.count }

-- What a service prints for a text.
abbrev pub given_by : Service → Bytes → Bytes
given_by Listing t = printed t
given_by Locate t = outcome_text (bytes "read") (located t) ++ newline

-- What is printed for what a line asks for.
abbrev pub given : Asked → Bytes
given None = bytes "bad line" ++ newline
given (Some a) = given_by a.0 a.1

-- What is printed for a line with these characters.
unfoldable pub given_for : Format → Bytes → Bytes
given_for f line = given (first_bytes kept_bytes (line_asks f line))

-- What is printed for the characters of a last line without a line end: nothing if there are none.
abbrev pub last_given : Format → Bytes → Bytes
last_given f [] = []
last_given f (b ∷ line) = given_for f (b ∷ line)

-- The first text at a line end, the second at any other character.
unfoldable pub at_line_end : ℕ → Bytes → Bytes → Bytes
at_line_end b ended other = elim (eqb b 10) [ true ↦ ended | false ↦ other ]

-- What is printed for the characters of a line so far and the rest of the input.
unfoldable pub printed_lines : Format → Bytes → Bytes → Bytes
printed_lines f line [] = last_given f line
printed_lines f line (b ∷ s) = at_line_end b (given_for f line ++ printed_lines f [] s) (printed_lines f (line ++ b ∷ []) s)

-- What is printed for the whole input.
abbrev pub answered : Format → Bytes → Bytes
answered f input = printed_lines f [] input
