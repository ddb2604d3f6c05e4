-- What a whole line asks for: as the line is taken character by character, and by what its characters are.
use Rattle.std.specs.Prelude.{true, false, List, [], ◌∷◌, ◌++◌, ℕ, eqb, take, None, Some}
use Rattle.std.specs.declared.option.Option.{Option}
use Rattle.grammar.specs.Bytes.{Bytes}
use Rattle.hex_lines.specs.Hexadecimal as hex
use Rattle.calls.specs.declared.Service.{Service}
use Rattle.calls.specs.declared.Service.TheVariants.{Listing}
use Rattle.calls.specs.declared.Format.{Format}
use Rattle.calls.specs.declared.Format.TheVariants.{Texts, Calls}
use Rattle.calls.specs.declared.Call.{Call}
use Rattle.calls.specs.declared.Request.{Request}
use Rattle.calls.specs.Calls.{service_of, after, text_after, requested}

-- A service and the text that it is asked of.
abbrev pub Asked : Type 0
Asked = Option (Service × Bytes)

-- The same of a request, whose service is asked of the first bytes of `text`.
abbrev pub asked : List ℕ → Option Request → Asked
asked text None = None
asked text (Some r) = Some (r.service, take r.kept text)

-- What the line `c` asks for if the characters `s` come and then its end.
unfoldable pub asked_behind : List ℕ → Call → Bytes → Asked
asked_behind text c [] = asked text (requested c)
asked_behind text c (b ∷ s) = asked_behind (text_after text c b) (after text c b) s

-- The text of a call: `-` is the empty one.
unfoldable pub dashed : Bytes → Option Bytes
dashed [] = Some []
dashed (b ∷ s) = None

unfoldable pub argument : Bytes → Option Bytes
argument [] = None
argument (b ∷ s) = elim (eqb b 45) [ true ↦ dashed s | false ↦ hex.text_of (b ∷ s) ]

abbrev pub of_text : Service → Option Bytes → Asked
of_text s None = None
of_text s (Some t) = Some (s, t)

abbrev pub of_name : Option Service → Option Bytes → Asked
of_name None t = None
of_name (Some s) t = of_text s t

-- A call whose name begins with the characters `name`: the name ends at the first space, and the text stands behind it.
unfoldable pub at_space : ℕ → Asked → Asked → Asked
at_space b space other = elim (eqb b 32) [ true ↦ space | false ↦ other ]

unfoldable pub call_behind : Bytes → Bytes → Asked
call_behind name [] = None
call_behind name (b ∷ s) = at_space b (of_name (service_of name) (argument s)) (call_behind (name ++ b ∷ []) s)

-- What the characters of a line ask for.
abbrev pub line_asks : Format → Bytes → Asked
line_asks Texts s = of_text Listing (hex.text_of s)
line_asks Calls s = call_behind [] s

-- The same with as many bytes of the text as there is room for.
abbrev pub first_bytes : ℕ → Asked → Asked
first_bytes room None = None
first_bytes room (Some a) = Some (a.0, take room a.1)
