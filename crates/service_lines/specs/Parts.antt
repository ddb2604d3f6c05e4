-- What is printed for a part of the input, by the line and its text so far.
use Rattle.std.specs.Prelude.{◌≡◌, true, false, List, [], ◌∷◌, ◌++◌, ℕ}
use Rattle.std.specs.declared.option.Option.{Option}
use Rattle.std.specs.Io.KnownBytes.{Appends, Consumes, IsAtEnd}
use Rattle.grammar.specs.Bytes.{Bytes}
use Rattle.calls.specs.declared.Format.{Format}
use Rattle.calls.specs.declared.Call.{Call}
use Rattle.calls.specs.Calls.{begun_by, requested, taken, text_taken, taken_all, text_taken_all}
use Rattle.calls.specs.Asked.{asked}
use Rattle.service_lines.specs.Printed.{given, at_line_end}

-- What is printed if the line ends here.
abbrev pub line_gives : List ℕ → Call → Bytes
line_gives text call = given (asked text (requested call))

-- What is printed for one character.
abbrev pub character_gives : List ℕ → Call → ℕ → Bytes
character_gives text call b = at_line_end b (line_gives text call) []

-- What is printed for the characters of a part.
unfoldable pub part_gives : Format → List ℕ → Call → Bytes → Bytes
part_gives f text call [] = []
part_gives f text call (b ∷ s) = character_gives text call b ++ part_gives f (text_taken text call b) (taken f text call b) s

-- What is printed if the input ends here: nothing where the line has no character.
unfoldable pub end_gives : List ℕ → Call → Bytes
end_gives text call = elim (begun_by call) [ true ↦ line_gives text call | false ↦ [] ]

-- What is printed for the rest of the input.
unfoldable pub rest_gives : Format → List ℕ → Call → Bytes → Bytes
rest_gives f text call [] = end_gives text call
rest_gives f text call (b ∷ s) = character_gives text call b ++ rest_gives f (text_taken text call b) (taken f text call b) s

-- A read that takes some bytes: the text and the line, what the reader has left and what the writer holds, before and after.
abbrev pub TakesSome
    : Format → List ℕ → List ℕ → Call → Call → Option (List ℕ) → Option (List ℕ) → Option (List ℕ) → Option (List ℕ) → Type 0
TakesSome f text text' call call' left left' held held' =
    (part : List ℕ) × (part ≡ [] → ⊥) × Consumes left left' part × Appends held held' (part_gives f text call part)
    × (call' ≡ taken_all f text call part) × (text' ≡ text_taken_all f text call part)

-- A read at the end of the input.
abbrev pub TakesNone : List ℕ → Call → Option (List ℕ) → Option (List ℕ) → Option (List ℕ) → Option (List ℕ) → Type 0
TakesNone text call left left' held held' = Consumes left left' [] × IsAtEnd left' × Appends held held' (end_gives text call)
