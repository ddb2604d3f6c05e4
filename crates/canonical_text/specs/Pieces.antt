-- Document 01, "Tidy text": "Write the tokens with one space between." Over the parts of the text that the tokens of a row leave.
use Rattle.std.specs.Prelude.{◌≡◌, List, [], ◌∷◌, ℕ, zero, suc, ◌+◌, ◌≤◌, ◌<◌, length}
use Rattle.grammar.specs.Bytes.{Bytes}
use Rattle.grammar.specs.Canonical.{join_pieces}
use Rattle.grammar.specs.Answer.{Reading, reading_text}
use Rattle.rows.specs.Fields.{TokenRow, start, size, Holds}
use Rattle.rows.specs.Tokens.{written_of}

-- A part before others, if it is not empty.
unfoldable pub before : Bytes → List Bytes → List Bytes
before [] ps = ps
before (b ∷ p) ps = (b ∷ p) ∷ ps

-- The parts of `n` tokens from number `i` on that are not empty; `part` gives that of each token.
unfoldable pub parts : (ℕ → Bytes) → ℕ → ℕ → List Bytes
parts part i zero = []
parts part i (suc n) = before (part i) (parts part (suc i) n)

-- The part that a token leaves is its bytes in the row: nothing where their number is 0.
abbrev pub pieces : Bytes → TokenRow → ℕ → ℕ → List Bytes
pieces text K i n = parts (written_of text K) i n

-- A part as it is written at place `n`: with a space before it if it is not the first.
unfoldable pub behind : ℕ → Bytes → Bytes
behind zero p = p
behind (suc n) p = 32 ∷ p

-- A row of `n` tokens whose bytes lie in the text.
pub record InText (text : Bytes) (K : TokenRow) (n : ℕ) : Type 0 where
  pub rows : Holds K n
  pub within : (j : ℕ) → j < n → start K j + size K j ≤ length text

-- A row whose parts joined are the canonical text of what was read, and how long that is.
pub record Prepared (text : Bytes) (K : TokenRow) (n : ℕ) (r : Reading) (total : ℕ) : Type 0 where
  pub in_text : InText text K n
  pub joined : join_pieces (pieces text K 0 n) ≡ reading_text r
  pub counted : total ≡ length (reading_text r)
