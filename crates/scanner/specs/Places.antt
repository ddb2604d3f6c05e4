-- Where tokens of a text begin and end, told from the bytes alone.
use Rattle.std.specs.Prelude.{true, false, [], ◌∷◌, ℕ, ◌+◌, eqb, drop}
use Rattle.grammar.specs.Bytes.{Bytes}
use Rattle.grammar.specs.Token.{class, letter, digit, sign, is_blank_byte, in_word, in_sign, in_number}
use Rattle.grammar.specs.Scan.{run}

-- How many bytes the token has that begins with the bytes `s`, whose first byte is of class `c`: a word, a sign and a number go as far as
-- their bytes do, and any other has one. (It is asked of no quoted name.)
unfoldable pub token_size_of : ℕ → Bytes → ℕ
token_size_of c s =
    elim (eqb c letter) [
      | true ↦ run in_word s
      | false ↦
          elim (eqb c sign) [ true ↦ run in_sign s | false ↦ elim (eqb c digit) [ true ↦ run in_number s | false ↦ 1 ] ]
    ]

-- The same for all bytes; none behind the last byte.
unfoldable pub token_size : Bytes → ℕ
token_size [] = 0
token_size (b ∷ s) = token_size_of (class b) (b ∷ s)

-- Where the token ends that begins at `at`.
abbrev pub token_end : Bytes → ℕ → ℕ
token_end text at = at + token_size (drop at text)

-- Where the blanks end that stand from `at` on: there the next token begins.
abbrev pub blanks_end : Bytes → ℕ → ℕ
blanks_end text at = at + run is_blank_byte (drop at text)
