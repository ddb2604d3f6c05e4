-- Document 01, refusals 2 to 5: a text as tokens, each with the offset of its first byte.
-- Places here are byte offsets.
use Rattle.std.specs.Prelude.{Bool, true, false, ◌&&◌, List, [], ◌∷◌, ℕ, zero, suc, ◌+◌, leb, eqb, length, take, drop, get_or}
use Rattle.grammar.specs.Bytes.{Bytes, bytes, same}
use Rattle.grammar.specs.Token.{class, is_blank_byte, letter, digit, sign, quote, opens, closes, separates}
use Rattle.grammar.specs.Token.{in_word, in_sign, in_number, in_quotes, is_quote, doubled, longest_name, longest_number}
use Rattle.grammar.specs.Token.{symbol, number, quoted, opening, closing, semicolon, keyword_let, keyword_in, keyword_end}
use Rattle.grammar.specs.Token.{Token, atom, structure}
use Rattle.grammar.specs.Outcome.{Outcome, refused, passed}

pub record Placed : Type 0 where
  pub token : Token
  pub start : ℕ

-- How many bytes at the front pass the test: "The longest token is taken."
unfoldable pub run : (ℕ → Bool) → Bytes → ℕ
run p [] = 0
run p (b ∷ s) = elim (p b) [ true ↦ suc (run p s) | false ↦ 0 ]

-- What stands at the front of a text: nothing, a token with its length, or the number of a refusal.
pub data Front : Type 0 where
  nothing : Front
  wrong : ℕ → Front
  taken : Token → ℕ → Front

unfoldable pub keyword_or_symbol : Bytes → Token
keyword_or_symbol w =
    elim (same w (bytes "let")) [
      | true ↦ structure keyword_let
      | false ↦
          elim (same w (bytes "in")) [
            | true ↦ structure keyword_in
            | false ↦
                elim (same w (bytes "end")) [ true ↦ structure keyword_end | false ↦ atom (symbol w) ]
          ]
    ]

-- "4: word, sign or number too long"
unfoldable pub at_most : ℕ → ℕ → Token → Front
at_most most n t = elim (leb n most) [ true ↦ taken t n | false ↦ wrong 4 ]

-- The characters of a quoted name at the front, up to a quote that is none of a pair or a byte that cannot stand there. The test says
-- that the byte before was the first quote of a pair.
unfoldable pub characters_behind : Bool → Bytes → Bytes
characters_behind paired [] = []
characters_behind true (b ∷ s) = elim (is_quote b) [ true ↦ b ∷ characters_behind false s | false ↦ [] ]
characters_behind false (b ∷ s) =
    elim (is_quote b) [
      | true ↦ characters_behind true s
      | false ↦
          elim (in_quotes b) [ true ↦ b ∷ characters_behind false s | false ↦ [] ]
    ]

unfoldable pub characters_at : Bytes → Bytes
characters_at s = characters_behind false s

-- `s` begins behind the opening quote, with the characters `c`: there are 1 to 63, and a quote closes them.
abbrev pub is_closed : Bytes → Bytes → Bool
is_closed c s = leb 1 (length c) && leb (length c) longest_name && is_quote (get_or s (length (doubled c)) 0)

-- "3: quoted name malformed or unclosed"
unfoldable pub quoted_with : Bytes → Bytes → Front
quoted_with c s = elim (is_closed c s) [ true ↦ taken (atom (quoted c)) (length (doubled c) + 2) | false ↦ wrong 3 ]

unfoldable pub quoted_name : Bytes → Front
quoted_name s = quoted_with (characters_at s) s

-- The token that begins with the bytes `s`, whose first byte is of class `c`. "2: byte begins no token"
unfoldable pub front_of : ℕ → Bytes → Front
front_of c s =
    elim (eqb c letter) [
      | true ↦ at_most longest_name (run in_word s) (keyword_or_symbol (take (run in_word s) s))
      | false ↦
          elim (eqb c sign) [
            | true ↦ at_most longest_name (run in_sign s) (atom (symbol (take (run in_sign s) s)))
            | false ↦
                elim (eqb c digit) [
                  | true ↦ at_most longest_number (run in_number s) (atom (number (take (run in_number s) s)))
                  | false ↦
                      elim (eqb c quote) [
                        | true ↦ quoted_name (drop 1 s)
                        | false ↦
                            elim (eqb c opens) [
                              | true ↦ taken (structure opening) 1
                              | false ↦
                                  elim (eqb c closes) [
                                    | true ↦ taken (structure closing) 1
                                    | false ↦
                                        elim (eqb c separates) [ true ↦ taken (structure semicolon) 1 | false ↦ wrong 2 ]
                                  ]
                            ]
                      ]
                ]
          ]
    ]

unfoldable pub front : Bytes → Front
front [] = nothing
front (b ∷ s) = front_of (class b) (b ∷ s)

unfoldable pub before : Placed → Outcome (List Placed) → Outcome (List Placed)
before p (refused n at) = refused n at
before p (passed ps) = passed (p ∷ ps)

-- The tokens of `s`, which begins at offset `at`, if there are at most `room`.
-- "2 to 5 token by token, a token judged for 2, 3, 4 before it is counted"
unfoldable pub scan : ℕ → ℕ → Bytes → Outcome (List Placed)
scan zero at s =
    let n = run is_blank_byte s in
    elim (front (drop n s)) [ nothing ↦ passed [] | wrong k ↦ refused k (at + n) | taken t m ↦ refused 5 (at + n) ]
scan (suc room) at s =
    let n = run is_blank_byte s in
    elim (front (drop n s)) [
      | nothing ↦ passed []
      | wrong k ↦ refused k (at + n)
      | taken t m ↦ before (record { token = t; start = at + n }) (scan room (at + n + m) (drop (n + m) s))
    ]
