-- The classes of bytes as the code has them: the number of each, and the word that is printed for it, its name in the scanner's table.
use Rattle.std.specs.Prelude.{List, ℕ, codes}
use Rattle.grammar.specs.Token.{blank, letter, digit, underscore, sign, quote, opens, closes, separates, other}
use Rattle.byte_classes.specs.declared.classes.Class.{Class}
use Rattle.byte_classes.specs.declared.classes.Class.TheVariants.{
  Blank,
  Letter,
  Digit,
  Underscore,
  Sign,
  Quote,
  Opening,
  Closing,
  Semicolon,
  Other,
}

-- The number of a class, as the grammar has it.
abbrev pub class_code : Class → ℕ
class_code Blank = blank
class_code Letter = letter
class_code Digit = digit
class_code Underscore = underscore
class_code Sign = sign
class_code Quote = quote
class_code Opening = opens
class_code Closing = closes
class_code Semicolon = separates
class_code Other = other

-- The word for a class.
abbrev pub class_word : Class → List ℕ
class_word Blank = codes "BLANK"
class_word Letter = codes "LETTER"
class_word Digit = codes "DIGIT"
class_word Underscore = codes "UNDERSCORE"
class_word Sign = codes "SIGN"
class_word Quote = codes "QUOTE"
class_word Opening = codes "OPENING"
class_word Closing = codes "CLOSING"
class_word Semicolon = codes "SEMICOLON"
class_word Other = codes "OTHER"
