-- Declarations as the code answers them.
use Rattle.std.specs.Prelude.{◌≡◌, List, ℕ, ◌+◌, ◌≤◌, ◌<◌, length, IsOkAnd, Result, Err}
use Rattle.grammar.specs.Fault.{longest_text}
use Rattle.grammar.specs.Bytes.{Bytes}
use Rattle.grammar.specs.Scan.{Placed}
use Rattle.grammar.specs.Answer.{offset_of}
use Rattle.grammar.specs.Declaration.{declares, clears, value}
use Rattle.grammar.specs.Declaration as D
use Rattle.rows.specs.Fields.{TokenRow, start, size, Holds}
use Rattle.rows.specs.Codes.{side_code, fixity_in}
use Rattle.rows.specs.Tokens.{Stored}
use Rattle.declaration_part.specs.Walking.{second_begin}
use Rattle.declaration_part.specs.declared.walk.Span.{Span}
use Rattle.declaration_part.specs.declared.parse.Declaration.{Declaration}
use Rattle.declaration_part.specs.declared.parse.Declaration.TheVariants.{Role, Clears}

-- The place of token number `at`.
abbrev pub IsPlace : TokenRow → ℕ → Span → Type 0
IsPlace K at place = (place.start ≡ start K at) × (place.end ≡ start K at + size K at)

-- A declaration at token `from` as the code has it: the fixity, the number of the role and the operator's place.
abbrev pub Denotes : TokenRow → ℕ → D.Declaration → Declaration → Type 0
Denotes K from (declares f a d m) (Role fixity role operator) =
    (fixity_in fixity ≡ f) × (role.code ≡ side_code a + value d) × IsPlace K (from + 3) operator
Denotes K from (declares f a d m) (Clears operator) = ⊥
Denotes K from (clears m) (Role fixity role operator) = ⊥
Denotes K from (clears m) (Clears operator) = IsPlace K (from + 1) operator

-- What the code answers of the tokens from number `from` on: the first token that does not fit, or the declaration.
abbrev pub Parses : TokenRow → ℕ → D.Parsed → Result Declaration ℕ → Type 0
Parses K from (D.unfit n) r = r ≡ Err (from + n)
Parses K from (D.parsed d rest) r = IsOkAnd r (Denotes K from d)

-- What is asked: tokens of the text from `from` to `to`, behind which a token stands; the first is the second one from `before` on.
pub record Parsable (text : Bytes) (K : TokenRow) (from to before : ℕ) : Type 0 where
  pub placed : List Placed
  pub stored : Stored text placed K
  pub short : length text ≤ longest_text
  pub room : Holds K (length placed)
  pub ordered : from < to
  pub within : to < length placed
  pub begins : second_begin text before ≡ offset_of text placed from
