-- The text of an answer, and how many nodes a table has.
use Rattle.std.specs.Prelude.{true, false, ◌++◌, ℕ, eqb}
use Rattle.grammar.specs.Bytes.{Bytes, bytes}
use Rattle.grammar.specs.Listing.{decimal_in}
use Rattle.reader.specs.declared.Answer.{Answer}

-- The nodes of a table: no text has more tokens, and no tree more nodes than tokens.
abbrev pub most_nodes : ℕ
most_nodes = 1024

-- A number below 2 ^ 64 in decimal.
unfoldable pub spelled : ℕ → Bytes
spelled n = decimal_in 20 n

-- "`refused N at P`".
unfoldable pub refusal_text : Answer → Bytes
refusal_text a = bytes "refused " ++ spelled a.number ++ bytes " at " ++ spelled a.offset

-- "prints the answer, .. then tidy length and text, or `refused N at P`": the word is `read` or `tidy`.
unfoldable pub answer_text : Bytes → Answer → Bytes
answer_text word a = elim (eqb a.number 0) [ true ↦ word ++ bytes " " ++ spelled a.count | false ↦ refusal_text a ]

-- The answer of a service that counts nothing.
unfoldable pub outcome_text : Bytes → Answer → Bytes
outcome_text word a = elim (eqb a.number 0) [ true ↦ word | false ↦ refusal_text a ]
