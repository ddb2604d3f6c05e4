-- Document 01, "Marks and blocks": declarations, what they do to the operators in force, and refusals 8, 9 and 10. Document 02, §9:
-- refusal 17.
use Rattle.std.specs.Prelude.{◌≡◌, Bool, true, false, ◌&&◌, ◌||◌, List, [], ◌∷◌, ◌++◌, ℕ, zero, suc, ◌+◌, ◌*◌, ◌-◌, leb, length}
use Rattle.std.proofs.Math.Option.{Option, none, some}
use Rattle.grammar.specs.Bytes.{Bytes, bytes, same}
use Rattle.grammar.specs.Token.{Token, atom, structure, symbol, number, quoted, semicolon, is_structure}
use Rattle.grammar.specs.Operator.{
  Fixity,
  Prefix,
  Infix,
  Postfix,
  Associativity,
  left,
  right,
  non,
  allowed,
  Table,
  declare_role,
  remove_roles,
  permitted,
}
use Rattle.grammar.specs.Outcome.{Outcome, refused, passed}

-- "`infix SIDE LEVEL MARK ;`, `prefix SIDE LEVEL MARK ;`, `postfix SIDE LEVEL MARK ;`, `plain MARK ;`"
-- `declares`: fixity, associativity, digits of the precedence, operator. `clears`: a `plain` declaration.
pub data Declaration : Type 0 where
  declares : Fixity → Associativity → Bytes → Bytes → Declaration
  clears : Bytes → Declaration

unfoldable pub value_from : ℕ → Bytes → ℕ
value_from v [] = v
value_from v (b ∷ d) = value_from (v * 10 + (b - 48)) d

-- The value of a string of digits.
unfoldable pub value : Bytes → ℕ
value d = value_from 0 d

unfoldable pub declare : Table → Declaration → Table
declare T (declares f a d m) = declare_role m f (record { precedence = value d; associativity = a }) T
declare T (clears m) = remove_roles m T

-- "The body is read under the outer table with these changes"
unfoldable pub declare_all : Table → List Declaration → Table
declare_all T [] = T
declare_all T (d ∷ ds) = declare_all (declare T d) ds

-- "Every text starts with eight marks: .."
unfoldable pub start_declarations : List Declaration
start_declarations =
    declares Infix left (bytes "800") (bytes "or")
    ∷ declares Infix left (bytes "700") (bytes "and")
    ∷ declares Prefix right (bytes "600") (bytes "not")
    ∷ declares Infix non (bytes "500") (bytes "=")
    ∷ declares Infix non (bytes "500") (bytes "<")
    ∷ declares Infix left (bytes "400") (bytes "+")
    ∷ declares Infix left (bytes "400") (bytes "-")
    ∷ declares Prefix non (bytes "400") (bytes "-")
    ∷ declares Infix left (bytes "300") (bytes "*")
    ∷ []

unfoldable pub start_table : Table
start_table = declare_all [] start_declarations

-- The words of declarations.
unfoldable pub fixity_word : Fixity → Bytes
fixity_word Prefix = bytes "prefix"
fixity_word Infix = bytes "infix"
fixity_word Postfix = bytes "postfix"

unfoldable pub associativity_word : Associativity → Bytes
associativity_word left = bytes "left"
associativity_word right = bytes "right"
associativity_word non = bytes "non"

abbrev pub plain_word : Bytes
plain_word = bytes "plain"

-- The tokens of declarations.
unfoldable pub declaration_tokens : Declaration → List Token
declaration_tokens (declares f a d m) =
    atom (symbol (fixity_word f))
    ∷ atom (symbol (associativity_word a))
    ∷ atom (number d)
    ∷ atom (symbol m)
    ∷ structure semicolon
    ∷ []
declaration_tokens (clears m) = atom (symbol plain_word) ∷ atom (symbol m) ∷ structure semicolon ∷ []

unfoldable pub all_tokens : List Declaration → List Token
all_tokens [] = []
all_tokens (d ∷ ds) = declaration_tokens d ++ all_tokens ds

-- "a level, 1 to 1200"
abbrev pub widest_precedence : ℕ
widest_precedence = 1200

unfoldable pub is_precedence : Bytes → Bool
is_precedence d = leb 1 (value d) && leb (value d) widest_precedence

-- A declaration as 01 allows it.
unfoldable pub is_declaration : Declaration → Bool
is_declaration (declares f a d m) = allowed f a && is_precedence d
is_declaration (clears m) = true

unfoldable pub are_declarations : List Declaration → Bool
are_declarations [] = true
are_declarations (d ∷ ds) = elim (is_declaration d) [ true ↦ are_declarations ds | false ↦ false ]

-- Reading one declaration at the front of tokens: it and what follows, or the number of the first token that does not fit.
-- Where the tokens end, it is the `in` behind them that does not fit.
pub data Parsed : Type 0 where
  unfit : ℕ → Parsed
  parsed : Declaration → List Token → Parsed

unfoldable pub symbol_of : Token → Option Bytes
symbol_of (atom (symbol w)) = some w
symbol_of (atom (number d)) = none
symbol_of (atom (quoted c)) = none
symbol_of (structure s) = none

unfoldable pub precedence_of : Token → Option Bytes
precedence_of (atom (symbol w)) = none
precedence_of (atom (number d)) = elim (is_precedence d) [ true ↦ some d | false ↦ none ]
precedence_of (atom (quoted c)) = none
precedence_of (structure s) = none

unfoldable pub is_semicolon : Token → Bool
is_semicolon t = is_structure semicolon t

unfoldable pub fixity_named : Bytes → Option Fixity
fixity_named w =
    elim (same w (fixity_word Infix)) [
      | true ↦ some Infix
      | false ↦
          elim (same w (fixity_word Prefix)) [
            | true ↦ some Prefix
            | false ↦
                elim (same w (fixity_word Postfix)) [ true ↦ some Postfix | false ↦ none ]
          ]
    ]

unfoldable pub associativity_named : Bytes → Option Associativity
associativity_named w =
    elim (same w (associativity_word left)) [
      | true ↦ some left
      | false ↦
          elim (same w (associativity_word right)) [
            | true ↦ some right
            | false ↦
                elim (same w (associativity_word non)) [ true ↦ some non | false ↦ none ]
          ]
    ]

-- The closing `;`, token number `k` of the declaration.
unfoldable pub closed : ℕ → Declaration → List Token → Parsed
closed k d [] = unfit k
closed k d (t ∷ ts) = elim (is_semicolon t) [ true ↦ parsed d ts | false ↦ unfit k ]

-- The operator, token number `k`. "MARK is a word or sign, no structure word."
unfoldable pub operator_part : ℕ → (Bytes → Declaration) → List Token → Parsed
operator_part k make [] = unfit k
operator_part k make (t ∷ ts) = elim (symbol_of t) [ none ↦ unfit k | some m ↦ closed (suc k) (make m) ts ]

unfoldable pub precedence_part : Fixity → Associativity → List Token → Parsed
precedence_part f a [] = unfit 2
precedence_part f a (t ∷ ts) = elim (precedence_of t) [ none ↦ unfit 2 | some d ↦ operator_part 3 (declares f a d) ts ]

unfoldable pub associativity_for : Fixity → Token → Option Associativity
associativity_for f t =
    elim (symbol_of t) [
      | none ↦ none
      | some w ↦
          elim (associativity_named w) [ none ↦ none | some a ↦ elim (allowed f a) [ true ↦ some a | false ↦ none ] ]
    ]

unfoldable pub associativity_part : Fixity → List Token → Parsed
associativity_part f [] = unfit 1
associativity_part f (t ∷ ts) = elim (associativity_for f t) [ none ↦ unfit 1 | some a ↦ precedence_part f a ts ]

unfoldable pub first_word : Bytes → List Token → Parsed
first_word w ts =
    elim (same w plain_word) [
      | true ↦ operator_part 1 clears ts
      | false ↦
          elim (fixity_named w) [ none ↦ unfit 0 | some f ↦ associativity_part f ts ]
    ]

unfoldable pub declaration : List Token → Parsed
declaration [] = unfit 0
declaration (t ∷ ts) = elim (symbol_of t) [ none ↦ unfit 0 | some w ↦ first_word w ts ]

-- The number of the operator among the tokens of a declaration.
unfoldable pub operator_place : Declaration → ℕ
operator_place (declares f a d m) = 3
operator_place (clears m) = 1

-- The operator that a declaration names.
unfoldable pub operator_of : Declaration → Bytes
operator_of (declares f a d m) = m
operator_of (clears m) = m

-- 02, §9: "a declaration of any kind, `plain` included, whose mark is `and`, `or` or `not` is refused" (here: a reserved operator)
unfoldable pub is_reserved : Bytes → Bool
is_reserved m = same m (bytes "and") || same m (bytes "or") || same m (bytes "not")

-- A declaration of another operator.
abbrev pub Free : Declaration → Type 0
Free d = is_reserved (operator_of d) ≡ false

-- "64 marks .. pass; one more is refused."
abbrev pub most_operators : ℕ
most_operators = 64

-- A declaration behind which no more than 64 operators are in force.
unfoldable pub has_room : Table → Declaration → Bool
has_room T d = leb (length (declare T d)) most_operators

-- Check 10, at the `in` with token number `i`.
unfoldable pub checked_at : ℕ → Table → Outcome Table
checked_at i T = elim (permitted T) [ true ↦ passed T | false ↦ refused 10 i ]

-- A check of the operators in force at a token, by its number.
abbrev pub Check : Type 0
Check = ℕ → Table → Outcome Table

-- The operators in force behind the declarations `ts`, the first of which is token number `i`, as a check at the token behind them answers.
-- "each declaration complete through its `;` before it takes effect (8, then 9), then 10", and "17 .. for each complete declaration after 8
-- and before 9"; the first number is fuel: no fewer than the tokens.
unfoldable pub enter_with : Check → ℕ → Table → ℕ → List Token → Outcome Table
enter_with check zero T i [] = check i T
enter_with check zero T i (t ∷ ts) = refused 8 i
enter_with check (suc k) T i [] = check i T
enter_with check (suc k) T i (t ∷ ts) =
    elim (declaration (t ∷ ts)) [
      | unfit n ↦ refused 8 (i + n)
      | parsed d rest ↦
          elim (is_reserved (operator_of d)) [
            | true ↦ refused 17 (i + operator_place d)
            | false ↦
                elim (has_room T d) [
                  | true ↦ enter_with check k (declare T d) (i + length (declaration_tokens d)) rest
                  | false ↦ refused 9 (i + operator_place d)
                ]
          ]
    ]

-- Those of a block, with check 10 at its `in`.
abbrev pub enter : ℕ → Table → ℕ → List Token → Outcome Table
enter = enter_with checked_at

-- Those of a declaration part alone, with no check at its end: checks 8, 17 and 9.
abbrev pub unchecked : Check
unchecked i T = passed T

abbrev pub enter_part : ℕ → Table → ℕ → List Token → Outcome Table
enter_part = enter_with unchecked

-- The declarations that the tokens of a declaration part spell, as far as they do.
unfoldable pub declarations_of : ℕ → List Token → List Declaration
declarations_of zero ts = []
declarations_of (suc k) [] = []
declarations_of (suc k) (t ∷ ts) = elim (declaration (t ∷ ts)) [ unfit n ↦ [] | parsed d rest ↦ d ∷ declarations_of k rest ]

unfoldable pub declarations : List Token → List Declaration
declarations ts = declarations_of (length ts) ts
