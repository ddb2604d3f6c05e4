-- What the services hand out and leave in the lent buffer, by document 01's answer and the definitions of the services.
use Rattle.std.specs.Prelude.{◌≡◌, true, false, List, [], ℕ, ◌+◌, ◌*◌, leb, length, Ok, Err}
use Rattle.grammar.specs.Bytes.{Bytes}
use Rattle.grammar.specs.Nodes.{words_per_node}
use Rattle.grammar.specs.Decoding.{part_of}
use Rattle.grammar.specs.Answer as G
use Rattle.std.specs.declared.result.Result.{Result}
use Rattle.refusals.specs.declared.Refused.{Refused}
use Rattle.refusals.specs.Numbers.{number_of}
use Rattle.reader.specs.declared.Answer.{Answer}

-- What is handed out of what a service answers.
unfoldable pub answer_from : Result ℕ Refused → Answer
answer_from (Ok c) = record { number = 0; offset = 0; count = c }
answer_from (Err e) = record { number = number_of e.refusal; offset = e.at; count = 0 }

-- "The answer is (number, place, count)." With the contents of the lent buffer afterwards.
unfoldable pub result_of : Answer → List ℕ → G.Result
result_of a buffer = record { answer = record { number = a.number; offset = a.offset; count = a.count }; buffer = buffer }

-- "Refused: count 0".
abbrev pub refused_with : ℕ → ℕ → Answer
refused_with n p = record { number = n; offset = p; count = 0 }

-- "Read: 0, 0, nodes or bytes written."
abbrev pub written : ℕ → Answer
written c = record { number = 0; offset = 0; count = c }

-- Reading: the text, the node table before and after, the answer.
abbrev pub Reads : Bytes → List ℕ → List ℕ → Answer → Type 0
Reads text table table' a = result_of a table' ≡ G.read text table

-- Canonicalizing: the text, the buffer before and after, the answer.
abbrev pub Canonicalizes : Bytes → List ℕ → List ℕ → Answer → Type 0
Canonicalizes text buffer buffer' a = result_of a buffer' ≡ G.canonicalize text buffer

-- Locating: the text, the answer. No buffer is lent.
abbrev pub Locates : Bytes → Answer → Type 0
Locates text a = result_of a [] ≡ G.locate text

-- The part of the text that node number `i` gives, as written: "Offset and length cover the bytes as written between the outer quotes, and these
-- are handed out" (02, §5). "words past the last whole node are no part of it": a node that is not whole gives nothing.
unfoldable pub node_written : Bytes → List ℕ → ℕ → Bytes
node_written text table i = elim (leb (i * words_per_node + words_per_node) (length table)) [ true ↦ part_of text table i | false ↦ [] ]

-- Writing the characters of the name at node number `i`: the text, the node table, the buffer before and after, the answer.
abbrev pub WritesName : Bytes → List ℕ → ℕ → List ℕ → List ℕ → Answer → Type 0
WritesName text table i buffer buffer' a = result_of a buffer' ≡ G.write_name (node_written text table i) buffer
