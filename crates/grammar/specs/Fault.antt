-- Document 01, "Thirteen ways to say no", rows 1 to 10, and row 17 of document 02, §9: which row holds of a text, and at which place. "A
-- refusal comes exactly when its row holds and none earlier in the order does." Nothing here says how a text is checked.
-- What §2 and §9 changed is a parameter, `Rules`, so that what was before can be said too. `Fault` goes by the rules as they are now.
use Rattle.std.specs.Prelude.{◌≡◌, Bool, true, false, ◌||◌, ◌⊎◌, List, [], ◌∷◌, ◌++◌, ℕ, suc, ◌+◌, ◌≤◌, ◌<◌, length, take}
use Rattle.grammar.specs.Bytes.{Bytes}
use Rattle.grammar.specs.Token.{in_number, quote_byte, longest_name, longest_number, symbol, quoted, keyword_in, Token, atom, structure}
use Rattle.grammar.specs.Token.{spelling, is_word, is_sign, is_number, is_token}
use Rattle.grammar.specs.Spelling.{continues, Stops, Splits, Spells, GoesOn, TokenAt}
use Rattle.grammar.specs.Open.{Open, Fits, deepest, OpenAfter}
use Rattle.grammar.specs.Operator.{Table, Conditions, Permitted}
use Rattle.grammar.specs.Declaration.{
  Declaration,
  declare,
  declaration_tokens,
  all_tokens,
  is_declaration,
  are_declarations,
  operator_place,
  operator_of,
  is_reserved,
  Free,
  most_operators,
}
use Rattle.grammar.specs.Spans.{BlockOf}

-- Which operators are reserved (02, §9), and which operators may be in force at `in` (02, §2).
pub record Rules : Type 1 where
  pub reserved : Bytes → Bool
  pub overloading : Table → Type 0

-- "16,384 bytes, 1,024 tokens .. pass; one more is refused."
abbrev pub longest_text : ℕ
longest_text = 16384

abbrev pub most_tokens : ℕ
most_tokens = 1024

-- Bytes at which a token is due and none stands, with the number of the row.
pub data NoToken : Bytes → ℕ → Type 0 where
  -- "2: byte begins no token"
  begins_none : {b : ℕ} {s : Bytes} → ((t : Token) (r : Bytes) → is_token t ≡ true → spelling t ≡ b ∷ r → ⊥) → NoToken (b ∷ s) 2
  -- "3: quoted name malformed or unclosed": the longest token, so no quote stands behind the one that closes it (02, §5).
  no_quoted_name :
      {s : Bytes}
      → ((c r : Bytes) → is_token (atom (quoted c)) ≡ true → quote_byte ∷ s ≡ spelling (atom (quoted c)) ++ r → Stops (continues (atom (quoted c))) r → ⊥)
      → NoToken (quote_byte ∷ s) 3
  -- "4: word, sign or number too long"
  long_name :
      {s : Bytes} (w r : Bytes) → s ≡ w ++ r → is_word w || is_sign w ≡ true → Stops (continues (atom (symbol w))) r → longest_name < length w
      → NoToken s 4
  long_number : {s : Bytes} (d r : Bytes) → s ≡ d ++ r → is_number d ≡ true → Stops in_number r → longest_number < length d → NoToken s 4

-- "2 to 5 token by token, a token judged for 2, 3, 4 before it is counted"
pub data TokenFault (text : Bytes) : ℕ → ℕ → Type 0 where
  judged :
      {ts : List Token} {n p : ℕ} {s : Bytes} → length ts ≤ most_tokens → GoesOn text ts p s → NoToken s n → TokenFault text n p
  -- "5: 1,025th token"
  counted :
      {ts : List Token} {p : ℕ} {s : Bytes} {t : Token} {r : Bytes} → length ts ≡ most_tokens → GoesOn text ts p s → Splits s (t ∷ []) r
      → TokenFault text 5 p

-- "6 and 7 token by token, 6 first": of tokens, with the number of one of them.
pub data NestingFault (ts : List Token) : ℕ → ℕ → Type 0 where
  -- "6: structure broken: token, or text length if something is open at the end"
  broken :
      (xs : List Token) (t : Token) (ys : List Token) {os : List Open} → ts ≡ xs ++ t ∷ ys → OpenAfter xs os → ((ps : List Open) → Fits os t ps → ⊥)
      → NestingFault ts 6 (length xs)
  unclosed : {o : Open} {os : List Open} → OpenAfter ts (o ∷ os) → NestingFault ts 6 (length ts)
  -- "7: brackets and blocks over 32 deep: the opener"
  too_deep :
      (xs : List Token) (t : Token) (ys : List Token) {os ps : List Open} → ts ≡ xs ++ t ∷ ys → OpenAfter xs os → Fits os t ps → deepest < length ps
      → NestingFault ts 7 (length xs)

-- Declarations that take effect one after the other: none names a reserved operator, and at no time more than 64 operators are in force.
pub data TakeEffect (reserved : Bytes → Bool) : Table → List Declaration → Table → Type 0 where
  unchanged : {T : Table} → TakeEffect reserved T [] T
  changed :
      {T U : Table} {d : Declaration} {ds : List Declaration} → is_declaration d ≡ true → reserved (operator_of d) ≡ false
      → length (declare T d) ≤ most_operators → TakeEffect reserved (declare T d) ds U → TakeEffect reserved T (d ∷ ds) U

-- "first unfit token": `k` tokens begin a declaration that is not complete with them, and with one more they begin none.
pub record FirstUnfit (ts : List Token) (k : ℕ) : Type 0 where
  pub begun :
      (d : Declaration) × (t : Token) × (rest : List Token) × (is_declaration d ≡ true) × (declaration_tokens d ≡ take k ts ++ t ∷ rest)
  pub unfit : (d : Declaration) (rest : List Token) → is_declaration d ≡ true → declaration_tokens d ≡ take (suc k) ts ++ rest → ⊥

-- A fault of a declaration part `ts` under the operators `T`, with the number of a token of it. "each declaration complete through its
-- `;` before it takes effect (8, then 9), then 10"
pub data DeclarationFault (rules : Rules) (T : Table) (ts : List Token) : ℕ → ℕ → Type 0 where
  -- "8: declaration malformed, level outside 1 to 1200: first unfit token". Behind the last token stands the `in`.
  malformed :
      (ds : List Declaration) (t : Token) (rest : List Token) {U : Table} {k : ℕ} → ts ≡ all_tokens ds ++ t ∷ rest → TakeEffect rules.reserved T ds U
      → FirstUnfit (t ∷ rest ++ structure keyword_in ∷ []) k → DeclarationFault rules T ts 8 (length (all_tokens ds) + k)
  -- 02, §9: "17, place the mark; for each complete declaration after 8 and before 9"
  names_reserved :
      (ds : List Declaration) (d : Declaration) (rest : List Token) {U : Table} → ts ≡ all_tokens ds ++ (declaration_tokens d ++ rest)
      → TakeEffect rules.reserved T ds U → is_declaration d ≡ true → rules.reserved (operator_of d) ≡ true
      → DeclarationFault rules T ts 17 (length (all_tokens ds) + operator_place d)
  -- "9: 65th mark in force: the mark"
  overfull :
      (ds : List Declaration) (d : Declaration) (rest : List Token) {U : Table} → ts ≡ all_tokens ds ++ (declaration_tokens d ++ rest)
      → TakeEffect rules.reserved T ds U → is_declaration d ≡ true → rules.reserved (operator_of d) ≡ false → most_operators < length (declare U d)
      → DeclarationFault rules T ts 9 (length (all_tokens ds) + operator_place d)
  -- "10: overloading rule broken: `in`"
  unlawful :
      (ds : List Declaration) {U : Table} → ts ≡ all_tokens ds → TakeEffect rules.reserved T ds U → (rules.overloading U → ⊥)
      → DeclarationFault rules T ts 10 (length ts)

-- "then blocks by their `let`": the fault of the first block that has one, with the number of a token of the text.
pub record BlockFault (rules : Rules) (ts : List Token) (n i : ℕ) : Type 0 where
  pub table : Table
  pub number : ℕ
  pub part : List Token
  pub at : ℕ
  pub block : BlockOf ts table number part
  pub fault : DeclarationFault rules table part n at
  pub place : i ≡ suc (number + at)
  pub first :
      (T : Table) (j : ℕ) (ds : List Token) (m k : ℕ) → BlockOf ts T j ds → DeclarationFault rules T ds m k → number ≤ j

-- Of a text nothing of rows 1 to 5 holds, and its tokens are `ts`.
pub record HasTokens (text : Bytes) (ts : List Token) : Type 0 where
  pub short : length text ≤ longest_text
  pub spelled : Spells text ts
  pub few : length ts ≤ most_tokens

-- Row number `n` holds of the text at the place `p`, and none earlier in the order does.
pub data FaultUnder (rules : Rules) (text : Bytes) : ℕ → ℕ → Type 0 where
  -- "1: text over 16,384 bytes: 16384"
  too_long : longest_text < length text → FaultUnder rules text 1 longest_text
  in_tokens : {n p : ℕ} → length text ≤ longest_text → TokenFault text n p → FaultUnder rules text n p
  in_nesting :
      {ts : List Token} {n i p : ℕ} → HasTokens text ts → NestingFault ts n i → TokenAt text ts i p → FaultUnder rules text n p
  in_blocks :
      {ts : List Token} {n i p : ℕ} → HasTokens text ts → OpenAfter ts [] → BlockFault rules ts n i → TokenAt text ts i p
      → FaultUnder rules text n p

-- The rows above: those in front of 11 in the order of refusals.
abbrev pub BeforeEleven : ℕ → Type 0
BeforeEleven n = ((1 ≤ n) × (n ≤ 10)) ⊎ (n ≡ 17)

-- "a text is past checks 1 to 10 when nothing that comes before 11 in the order of refusals holds of it", so 17 is among
-- them: the text and its tokens.
pub record PastUnder (rules : Rules) (text : Bytes) (ts : List Token) : Type 0 where
  pub spelled : Spells text ts
  pub faultless : (n p : ℕ) → FaultUnder rules text n p → ⊥

-- The rules as they are now, and as they would be without §9 and without §2: no operator reserved; the four conditions for every table.
abbrev pub current : Rules
current = record { reserved = is_reserved; overloading = Permitted }

abbrev pub without_reserving : Rules
without_reserving = record { reserved = λ m. false; overloading = Permitted }

abbrev pub with_four_conditions : Rules
with_four_conditions = record { reserved = is_reserved; overloading = Conditions }

abbrev pub Fault : Bytes → ℕ → ℕ → Type 0
Fault = FaultUnder current

abbrev pub Past : Bytes → List Token → Type 0
Past = PastUnder current

-- A declaration of the text: it stands complete in the declaration part of a block, behind nothing but declarations.
pub record Declares (text : Bytes) (d : Declaration) : Type 0 where
  pub tokens : List Token
  pub spelled : Spells text tokens
  pub table : Table
  pub number : ℕ
  pub part : List Token
  pub block : BlockOf tokens table number part
  pub before : List Declaration
  pub after : List Token
  pub cut : part ≡ all_tokens before ++ (declaration_tokens d ++ after)
  pub complete : (are_declarations before ≡ true) × (is_declaration d ≡ true)

-- No declaration of the text names a reserved operator.
abbrev pub Unreserved : Bytes → Type 0
Unreserved text = (d : Declaration) → Declares text d → Free d

-- With the four conditions asked of every table, row 10 does not hold of the text.
abbrev pub Conditioned : Bytes → Type 0
Conditioned text = (p : ℕ) → FaultUnder with_four_conditions text 10 p → ⊥
