-- What an answer says, and how a refusal prints.
use Rattle.std.specs.Prelude.{true, false, ◌++◌, codes, eqb, ℕ, Result, Ok, Err}
use Rattle.std.specs.Fmt.{decimal}
use Rattle.grammar.specs.Bytes.{Bytes}
use Rattle.reader.specs.declared.Answer.{Answer}
use Rattle.listing.specs.declared.error.NumberedError.{NumberedError}

-- The count of an answer whose number is 0, or the number and the place of a refusal.
abbrev pub outcome_of : Answer → Result ℕ NumberedError
outcome_of a = elim (eqb a.number 0) [ true ↦ Ok a.count | false ↦ Err (record { number = a.number; offset = a.offset }) ]

-- "`refused N at P`", with the digits that std writes of a number.
abbrev pub error_output : NumberedError → Bytes
error_output r = codes "refused " ++ (decimal r.number ++ (codes " at " ++ decimal r.offset))
