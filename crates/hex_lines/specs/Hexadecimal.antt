-- Hexadecimal digits, and a line of them with one more character.
use Rattle.std.specs.Prelude.{Bool, true, false, ◌&&◌, List, [], ◌∷◌, ◌++◌, ℕ, ◌+◌, ◌-◌, ◌*◌, ◌≤◌, ◌<◌, min, leb, length, take, set, None, Some, IfSome}
use Rattle.std.specs.declared.option.Option.{Option}
use Rattle.hex_lines.specs.declared.lines.Line.{Line}

abbrev pub between : ℕ → ℕ → ℕ → Bool
between low high b = leb low b && leb b high

-- The value of `0` to `9`, `A` to `F` and `a` to `f`, and none of any other byte.
unfoldable pub digit_value : ℕ → Option ℕ
digit_value b =
    elim (between 48 57 b) [
      | true ↦ Some (b - 48)
      | false ↦ elim (between 65 70 b) [
        | true ↦ Some (b - 55)
        | false ↦ elim (between 97 102 b) [ true ↦ Some (b - 87) | false ↦ None ]
      ]
    ]

-- A line with no character.
abbrev pub fresh : Line
fresh = record { begun = false; bad = false; kept = 0; high = None }

-- A line with one more character. The second digit of a byte makes it one more byte of the text, if there is room.
unfoldable pub after : ℕ → Line → ℕ → Line
after room l b =
    elim (digit_value b) [
      | None ↦ record { begun = true; bad = true; kept = l.kept; high = l.high }
      | Some low ↦ elim l.high [
        | None ↦ record { begun = true; bad = l.bad; kept = l.kept; high = Some low }
        | Some high ↦ record { begun = true; bad = l.bad; kept = min room (l.kept + 1); high = None }
      ]
    ]

-- The bytes of its text.
unfoldable pub text_after : List ℕ → Line → ℕ → List ℕ
text_after text l b =
    elim (digit_value b) [
      | None ↦ text
      | Some low ↦ elim l.high [ None ↦ text | Some high ↦ set text l.kept (high * 16 + low) ]
    ]

-- A whole line gives a text if it has digits alone, two to each byte.
unfoldable pub is_text : Line → Bool
is_text l = elim l.bad [ true ↦ false | false ↦ elim l.high [ None ↦ true | Some d ↦ false ] ]

-- What holds of every line, with the bytes of its text.
pub record Sound (l : Line) (text : List ℕ) : Type 0 where
  pub room : l.kept ≤ length text
  pub digit : IfSome l.high (λ d. d < 16)

-- The text that a line gives if it ends here: the first bytes of `text`.
unfoldable pub given : List ℕ → Line → Option (List ℕ)
given text l = elim (is_text l) [ true ↦ Some (take l.kept text) | false ↦ None ]

-- The same if the characters `s` come first.
unfoldable pub given_behind : List ℕ → Line → List ℕ → Option (List ℕ)
given_behind text l [] = given text l
given_behind text l (b ∷ s) = given_behind (text_after text l b) (after (length text) l b) s

-- A byte before a text.
abbrev pub cons : ℕ → Option (List ℕ) → Option (List ℕ)
cons b None = None
cons b (Some s) = Some (b ∷ s)

-- Two characters before a text: a byte if both are digits.
unfoldable pub with_byte : ℕ → ℕ → Option (List ℕ) → Option (List ℕ)
with_byte a b s =
    elim (digit_value a) [
      | None ↦ None
      | Some high ↦ elim (digit_value b) [ None ↦ None | Some low ↦ cons (high * 16 + low) s ]
    ]

-- The text that characters stand for, two digits to each byte: none if one is no digit, or the number of them is odd.
unfoldable pub text_of : List ℕ → Option (List ℕ)
text_of [] = Some []
text_of (a ∷ []) = None
text_of (a ∷ b ∷ s) = with_byte a b (text_of s)

-- A text behind the bytes `front`, as far as there is room.
abbrev pub behind : ℕ → List ℕ → Option (List ℕ) → Option (List ℕ)
behind room front None = None
behind room front (Some s) = Some (take room (front ++ s))
