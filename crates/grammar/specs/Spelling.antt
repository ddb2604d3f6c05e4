-- Document 01, "Tokens": which tokens a text has. Nothing here says how they are found.
use Rattle.std.specs.Prelude.{◌≡◌, Bool, true, false, List, [], ◌∷◌, ◌++◌, ℕ, ◌+◌, length, take}
use Rattle.grammar.specs.Bytes.{Bytes, every}
use Rattle.grammar.specs.Token.{is_blank_byte, in_word, in_sign, in_number, is_quote, symbol, number, quoted}
use Rattle.grammar.specs.Token.{opening, closing, semicolon, keyword_let, keyword_in, keyword_end}
use Rattle.grammar.specs.Token.{Token, atom, structure, spelling, is_word, is_token}

-- The bytes with which a token would go on, if they stood behind it: a quoted name with a quote, which makes a pair of the one that
-- would close it.
unfoldable pub continues : Token → ℕ → Bool
continues (atom (symbol w)) = elim (is_word w) [ true ↦ in_word | false ↦ in_sign ]
continues (atom (number d)) = in_number
continues (atom (quoted c)) = is_quote
continues (structure opening) = λ b. false
continues (structure closing) = λ b. false
continues (structure semicolon) = λ b. false
continues (structure keyword_let) = in_word
continues (structure keyword_in) = in_word
continues (structure keyword_end) = in_word

-- The text is empty or its first byte fails the test.
abbrev pub Stops : (ℕ → Bool) → Bytes → Type 0
Stops p [] = Unit {0}
Stops p (b ∷ s) = p b ≡ false

-- Complete tokens at the front of a text, and what follows them: blanks, then a token that the text does not go on with ("The longest
-- token is taken."), and so on.
pub data Splits : Bytes → List Token → Bytes → Type 0 where
  no_more : {s : Bytes} → Splits s [] s
  one_more :
      {s : Bytes} (blanks : Bytes) (t : Token) (rest : Bytes) {ts : List Token} {behind : Bytes} → s ≡ blanks ++ (spelling t ++ rest)
      → every is_blank_byte blanks ≡ true → is_token t ≡ true → Stops (continues t) rest → Splits rest ts behind → Splits s (t ∷ ts) behind

-- What a text spells: tokens, and at the end blanks alone.
pub record Spells (text : Bytes) (ts : List Token) : Type 0 where
  pub rest : Bytes
  pub split : Splits text ts rest
  pub blank : every is_blank_byte rest ≡ true

-- Behind the tokens `ts` and blanks a text goes on with the bytes `s`, at offset `p`; where nothing is left `p` is the text's length.
pub record GoesOn (text : Bytes) (ts : List Token) (p : ℕ) (s : Bytes) : Type 0 where
  pub blanks : Bytes
  pub split : Splits text ts (blanks ++ s)
  pub blank : every is_blank_byte blanks ≡ true
  pub begun : Stops is_blank_byte s
  pub offset : p + length s ≡ length text

-- Token number `i` of the tokens `ts` of a text begins at offset `p`; behind the last token `p` is the text's length.
abbrev pub TokenAt : Bytes → List Token → ℕ → ℕ → Type 0
TokenAt text ts i p = (s : Bytes) × GoesOn text (take i ts) p s
