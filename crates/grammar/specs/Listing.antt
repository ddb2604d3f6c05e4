-- Document 01: "A program reads standard input and prints the answer, the nodes (index, kind, first, second, offset, length),
-- then tidy length and text, or `refused N at P`; where only tidying is refused, that line follows the nodes." 02, §6, of the sixth word of
-- a node: "The listing prints it as the last field."
use Rattle.std.specs.Prelude.{true, false, List, [], ◌∷◌, ◌++◌, ℕ, zero, suc, ◌+◌, ◌*◌, ◌/◌, ◌%◌, ltb, eqb, take, drop, get_or, replicate}
use Rattle.grammar.specs.Fault.{longest_text, most_tokens}
use Rattle.grammar.specs.Bytes.{Bytes, bytes}
use Rattle.grammar.specs.Answer.{Answer, Result, read, canonicalize}
use Rattle.grammar.specs.Nodes.{words_per_node}

-- A number in decimal. The first number is fuel.
unfoldable pub decimal_in : ℕ → ℕ → Bytes
decimal_in zero n = []
decimal_in (suc k) n = elim (ltb n 10) [ true ↦ (48 + n) ∷ [] | false ↦ decimal_in k (n / 10) ++ (48 + n % 10) ∷ [] ]

unfoldable pub decimal : ℕ → Bytes
decimal n = decimal_in 10 n

unfoldable pub kind_names : List Bytes
kind_names =
    bytes "" ∷ bytes "name" ∷ bytes "number" ∷ bytes "prefix" ∷ bytes "infix" ∷ bytes "postfix" ∷ bytes "bracket" ∷ bytes "block" ∷ []

abbrev pub newline : Bytes
newline = 10 ∷ []

unfoldable pub field : ℕ → Bytes
field n = 32 ∷ decimal n

-- The lines of `k` nodes, the first of which has the number `i`.
unfoldable pub node_lines : ℕ → ℕ → List ℕ → Bytes
node_lines zero i ws = []
node_lines (suc k) i ws =
    decimal i ++ 32 ∷ get_or kind_names (get_or ws 0 0) [] ++ field (get_or ws 1 0) ++ field (get_or ws 2 0) ++ field (get_or ws 3 0)
    ++ field (get_or ws 4 0) ++ field (get_or ws 5 0) ++ newline ++ node_lines k (suc i) (drop words_per_node ws)

unfoldable pub refusal_line : Answer → Bytes
refusal_line a = bytes "refused " ++ decimal a.number ++ bytes " at " ++ decimal a.offset ++ newline

unfoldable pub canonical_lines : Result → Bytes
canonical_lines r =
    elim (eqb r.answer.number 0) [
      | true ↦ bytes "tidy " ++ decimal r.answer.count ++ newline ++ take r.answer.count r.buffer ++ newline
      | false ↦ refusal_line r.answer
    ]

unfoldable pub reading_lines : Result → Bytes
reading_lines r = bytes "read " ++ decimal r.answer.count ++ newline ++ node_lines r.answer.count 0 r.buffer

-- What the program prints for the results of both services.
unfoldable pub listing_of : Result → Result → Bytes
listing_of r c =
    elim (eqb r.answer.number 0) [ true ↦ reading_lines r ++ canonical_lines c | false ↦ refusal_line r.answer ]

-- The listing of a text, with buffers of `w` words and `b` bytes.
unfoldable pub listing : ℕ → ℕ → Bytes → Bytes
listing w b text = listing_of (read text (replicate w 0)) (canonicalize text (replicate b 0))

-- What the program prints for a text: its buffers hold the nodes and the canonical text of any text.
unfoldable pub printed : Bytes → Bytes
printed text = listing (words_per_node * most_tokens) longest_text text
