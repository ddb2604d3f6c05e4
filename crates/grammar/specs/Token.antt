-- Document 01, "Tokens": which bytes are what, and what a token is.
use Rattle.std.specs.Prelude.{Bool, true, false, ◌&&◌, ◌||◌, not, List, [], ◌∷◌, ◌++◌, ℕ, leb, eqb, length}
use Rattle.grammar.specs.Bytes.{Bytes, bytes, same, member, every}

-- The classes of bytes.
abbrev pub blank : ℕ
blank = 0

abbrev pub letter : ℕ
letter = 1

abbrev pub digit : ℕ
digit = 2

abbrev pub underscore : ℕ
underscore = 3

abbrev pub sign : ℕ
sign = 4

abbrev pub quote : ℕ
quote = 5

abbrev pub opens : ℕ
opens = 6

abbrev pub closes : ℕ
closes = 7

abbrev pub separates : ℕ
separates = 8

abbrev pub other : ℕ
other = 9

abbrev pub between : ℕ → ℕ → ℕ → Bool
between low high b = leb low b && leb b high

-- "Blank bytes are 9, 10, 13 and 32".
abbrev pub is_blank : ℕ → Bool
is_blank b = between 9 10 b || eqb b 13 || eqb b 32

-- "a letter (`A` to `Z`, `a` to `z`)"
abbrev pub is_letter : ℕ → Bool
is_letter b = between 65 90 b || between 97 122 b

-- "`+ - * / < > = ! & | ^ ~ : ? @ # $ %`"
abbrev pub signs : Bytes
signs = bytes "+-*/<>=!&|^~:?@#$%"

-- The class of a byte. "Solo: `(`, `)`, `;`."
unfoldable pub class : ℕ → ℕ
class b =
    elim (is_blank b) [
      | true ↦ blank
      | false ↦
          elim (is_letter b) [
            | true ↦ letter
            | false ↦
                elim (between 48 57 b) [
                  | true ↦ digit
                  | false ↦
                      elim (eqb b 95) [
                        | true ↦ underscore
                        | false ↦
                            elim (member b signs) [
                              | true ↦ sign
                              | false ↦
                                  elim (eqb b 39) [
                                    | true ↦ quote
                                    | false ↦
                                        elim (eqb b 40) [
                                          | true ↦ opens
                                          | false ↦
                                              elim (eqb b 41) [
                                                | true ↦ closes
                                                | false ↦
                                                    elim (eqb b 59) [ true ↦ separates | false ↦ other ]
                                              ]
                                        ]
                                  ]
                            ]
                      ]
                ]
          ]
    ]

-- "they separate and mean nothing else"
unfoldable pub is_blank_byte : ℕ → Bool
is_blank_byte b = eqb (class b) blank

-- "Word: a letter, then letters, digits or `_`."
unfoldable pub begins_word : ℕ → Bool
begins_word b = eqb (class b) letter

unfoldable pub in_word : ℕ → Bool
in_word b = eqb (class b) letter || eqb (class b) digit || eqb (class b) underscore

-- "Sign: a run of .." and "Number: a run of digits."
unfoldable pub in_sign : ℕ → Bool
in_sign b = eqb (class b) sign

unfoldable pub in_number : ℕ → Bool
in_number b = eqb (class b) digit

-- A character of a quoted name: "bytes from 32 to 126". Since 02, §5, the quote is one too.
unfoldable pub in_quotes : ℕ → Bool
in_quotes b = between 32 126 b

abbrev pub quote_byte : ℕ
quote_byte = 39

unfoldable pub is_quote : ℕ → Bool
is_quote b = eqb b quote_byte

-- A token with characters: a word or sign that is no structure word (`symbol`), a number, or a quoted name.
pub data Atom : Type 0 where
  symbol : Bytes → Atom
  number : Bytes → Atom
  quoted : Bytes → Atom

-- A token of structure: a solo or a structure word.
pub data Structure : Type 0 where
  opening closing semicolon keyword_let keyword_in keyword_end : Structure

pub data Token : Type 0 where
  atom : Atom → Token
  structure : Structure → Token

-- Its characters; of a number, its digits.
unfoldable pub characters : Atom → Bytes
characters (symbol w) = w
characters (number d) = d
characters (quoted c) = c

-- 02, §5: "Inside a quoted name, two quotes in a row now stand for one quote character."
unfoldable pub doubled : Bytes → Bytes
doubled [] = []
doubled (b ∷ c) = elim (is_quote b) [ true ↦ quote_byte ∷ quote_byte ∷ doubled c | false ↦ b ∷ doubled c ]

-- Back: of a quote and the byte behind it the quote alone. The test says that the byte before was such a quote.
unfoldable pub undoubled_behind : Bool → Bytes → Bytes
undoubled_behind paired [] = []
undoubled_behind true (b ∷ w) = undoubled_behind false w
undoubled_behind false (b ∷ w) = b ∷ undoubled_behind (is_quote b) w

unfoldable pub undoubled : Bytes → Bytes
undoubled w = undoubled_behind false w

-- "the bytes as written between the outer quotes" (02, §5); where there are no quotes, the bytes of the token.
unfoldable pub as_written : Atom → Bytes
as_written (symbol w) = w
as_written (number d) = d
as_written (quoted c) = doubled c

-- The bytes of a token as they stand in a text.
unfoldable pub spelling : Token → Bytes
spelling (atom (symbol w)) = w
spelling (atom (number d)) = d
spelling (atom (quoted c)) = quote_byte ∷ doubled c ++ quote_byte ∷ []
spelling (structure opening) = bytes "("
spelling (structure closing) = bytes ")"
spelling (structure semicolon) = bytes ";"
spelling (structure keyword_let) = bytes "let"
spelling (structure keyword_in) = bytes "in"
spelling (structure keyword_end) = bytes "end"

-- The tokens of structure by number.
unfoldable pub structure_number : Structure → ℕ
structure_number opening = 4
structure_number closing = 5
structure_number semicolon = 6
structure_number keyword_let = 7
structure_number keyword_in = 8
structure_number keyword_end = 9

-- The token is that one of structure.
unfoldable pub is_structure : Structure → Token → Bool
is_structure s (atom a) = false
is_structure s (structure u) = eqb (structure_number s) (structure_number u)

-- "`let`, `in` and `end` are structure words." (here: keywords)
unfoldable pub is_keyword : Bytes → Bool
is_keyword w = same w (bytes "let") || same w (bytes "in") || same w (bytes "end")

unfoldable pub is_word : Bytes → Bool
is_word [] = false
is_word (b ∷ s) = begins_word b && every in_word s

unfoldable pub is_sign : Bytes → Bool
is_sign [] = false
is_sign (b ∷ s) = in_sign b && every in_sign s

unfoldable pub is_number : Bytes → Bool
is_number [] = false
is_number (b ∷ s) = in_number b && every in_number s

-- "A word or sign has at most 63 bytes, a number at most 9 digits." 02, §5: "The limit of 63 counts characters, not bytes"
abbrev pub longest_name : ℕ
longest_name = 63

abbrev pub longest_number : ℕ
longest_number = 9

-- A word or sign, no structure word, short enough: what can stand bare as a name or operator.
unfoldable pub is_symbol : Bytes → Bool
is_symbol w = (is_word w || is_sign w) && not (is_keyword w) && leb (length w) longest_name

-- What a token is.
unfoldable pub is_token : Token → Bool
is_token (atom (symbol w)) = is_symbol w
is_token (atom (number d)) = is_number d && leb (length d) longest_number
is_token (atom (quoted c)) = leb 1 (length c) && leb (length c) longest_name && every in_quotes c
is_token (structure s) = true

unfoldable pub are_tokens : List Token → Bool
are_tokens [] = true
are_tokens (t ∷ ts) = is_token t && are_tokens ts
