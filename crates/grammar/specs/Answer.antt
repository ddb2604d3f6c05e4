-- Document 01, "Thirteen ways to say no": what the services answer, and what the lent buffer holds afterwards.
use Rattle.std.specs.Prelude.{◌≡◌, Bool, true, false, ◌&&◌, List, [], ◌∷◌, ◌++◌, ℕ, suc, ◌*◌, ◌≤◌, leb, eqb, length, drop, get_or}
use Rattle.std.proofs.Math.Option.{Option, none, some}
use Rattle.grammar.specs.Spans.{Span}
use Rattle.grammar.specs.Bytes.{Bytes}
use Rattle.grammar.specs.Token.{Token, undoubled}
use Rattle.grammar.specs.Outcome.{Outcome, refused, passed, and_then, placed}
use Rattle.grammar.specs.Scan.{Placed, scan}
use Rattle.grammar.specs.Nesting.{nesting}
use Rattle.grammar.specs.Declaration.{start_table}
use Rattle.grammar.specs.Fault.{longest_text, most_tokens}
use Rattle.grammar.specs.Tree.{Tree}
use Rattle.grammar.specs.Blank.{blank_rule}
use Rattle.grammar.specs.Blocks.{check_blocks, spans, treeless_opener, lost_token, tree_of}
use Rattle.grammar.specs.Nodes.{count, words, words_per_node}
use Rattle.grammar.specs.Canonical.{canonical, canonical_text}

-- A text that can be read: its tokens and what it is read as.
pub record Reading : Type 0 where
  pub tokens : List Placed
  pub tree : Tree

unfoldable pub tokens_of : List Placed → List Token
tokens_of [] = []
tokens_of (p ∷ ps) = p.token ∷ tokens_of ps

unfoldable pub starts_of : List Placed → List ℕ
starts_of [] = []
starts_of (p ∷ ps) = p.start ∷ starts_of ps

-- The offset of token number `i`; behind the last token stands the end of the text.
unfoldable pub offset_of : Bytes → List Placed → ℕ → ℕ
offset_of text ps i = get_or (starts_of ps ++ length text ∷ []) i 0

-- "0, the `(`, or the `in`"
unfoldable pub span_offset : Bytes → List Placed → Option ℕ → ℕ
span_offset text ps none = 0
span_offset text ps (some i) = offset_of text ps i

-- The spans of a text.
abbrev pub spans_of : List Placed → List Span
spans_of ps = spans (suc (length ps)) start_table none 0 (tokens_of ps)

-- What tokens are read as, if anything: their tree. 02, §7: "A text that is empty or all blanks .. is now read".
unfoldable pub reading_tree : List Token → Option Tree
reading_tree [] = some blank_rule
reading_tree (t ∷ ts) = tree_of start_table (t ∷ ts)

-- Check 11: what the text is read as, or the place of its first span without a tree.
unfoldable pub read_spans : Bytes → List Placed → Option Tree → Outcome Reading
read_spans text ps (some t) = passed (record { tokens = ps; tree = t })
read_spans text ps none = refused 11 (span_offset text ps (treeless_opener (spans_of ps)))

-- Checks 6 to 11 and 17.
unfoldable pub read_tokens : Bytes → List Placed → Outcome Reading
read_tokens text ps =
    and_then (placed (offset_of text ps) (nesting [] 0 (tokens_of ps))) (λ u.
    and_then (placed (offset_of text ps) (check_blocks (suc (length ps)) start_table 0 (tokens_of ps))) (λ v.
    read_spans text ps (reading_tree (tokens_of ps))))

-- "Order: 1; 2 to 5 ..; 6 and 7 ..; then blocks ..; then 11 ..": checks 1 to 11 and 17. Places are byte offsets.
unfoldable pub read_text : Bytes → Outcome Reading
read_text text =
    elim (leb (length text) longest_text) [
      | true ↦ and_then (scan most_tokens 0 text) (read_tokens text)
      | false ↦ refused 1 longest_text
    ]

-- A text and its tokens that checks 1 to 10 and 17 let pass.
pub record PastChecks (text : Bytes) (ps : List Placed) : Type 0 where
  pub short : length text ≤ longest_text
  pub scanned : scan most_tokens 0 text ≡ passed ps
  pub nested : nesting [] 0 (tokens_of ps) ≡ passed tt
  pub declared : check_blocks (suc (length ps)) start_table 0 (tokens_of ps) ≡ passed tt

-- "The answer is (number, place, count). Read: 0, 0, nodes or bytes written. Refused: count 0"
pub record Answer : Type 0 where
  pub number : ℕ
  pub offset : ℕ
  pub count : ℕ

unfoldable pub rejection : ℕ → ℕ → Answer
rejection n p = record { number = n; offset = p; count = 0 }

unfoldable pub success : ℕ → Answer
success c = record { number = 0; offset = 0; count = c }

-- What a service leaves: its answer and the contents of the lent buffer.
pub record Result : Type 0 where
  pub answer : Answer
  pub buffer : List ℕ

-- "Words beyond the nodes keep their contents." "Bytes of the buffer past the tidy text keep their contents."
unfoldable pub over : List ℕ → List ℕ → List ℕ
over w b = w ++ drop (length w) b

-- What a service that does not refuse counts, and what it writes over the front of the lent buffer.
pub record Written : Type 0 where
  pub counted : ℕ
  pub contents : List ℕ

-- What every service leaves. "Refused: count 0, buffers unchanged."
unfoldable pub answered : List ℕ → Outcome Written → Result
answered buffer (refused n p) = record { answer = rejection n p; buffer = buffer }
answered buffer (passed w) = record { answer = success w.counted; buffer = over w.contents buffer }

unfoldable pub reading_words : Bytes → Reading → List ℕ
reading_words text r = words (offset_of text r.tokens) start_table r.tree 0 0

-- "12: reading: node table too short: 0"
unfoldable pub nodes_into : Bytes → List ℕ → Reading → Outcome Written
nodes_into text buffer r =
    elim (leb (words_per_node * count r.tree) (length buffer)) [
      | true ↦ passed (record { counted = count r.tree; contents = reading_words text r })
      | false ↦ refused 12 0
    ]

-- Reading: the text, the lent node table, and what is left in it.
unfoldable pub read : Bytes → List ℕ → Result
read text buffer = answered buffer (and_then (read_text text) (nodes_into text buffer))

-- Bytes that fit; 13 for those that do not.
unfoldable pub bytes_that : Bool → Bytes → Outcome Written
bytes_that fit w = elim fit [ true ↦ passed (record { counted = length w; contents = w }) | false ↦ refused 13 0 ]

unfoldable pub reading_text : Reading → Bytes
reading_text r = canonical_text (canonical start_table r.tree)

-- "13: tidying: tidy text over the buffer or 16,384: 0"
unfoldable pub text_into : List ℕ → Reading → Outcome Written
text_into buffer r =
    let text = reading_text r in bytes_that (leb (length text) (length buffer) && leb (length text) longest_text) text

-- Tidying (here: canonicalizing): the text, the lent buffer, and what is left in it.
unfoldable pub canonicalize : Bytes → List ℕ → Result
canonicalize text buffer = answered buffer (and_then (read_text text) (text_into buffer))

-- 02, §5: the characters of a name, from its bytes `w` as written, for those who need more than a part of the text. 13 where the buffer is too
-- short.
unfoldable pub write_name : Bytes → List ℕ → Result
write_name w buffer = answered buffer (bytes_that (leb (length (undoubled w)) (length buffer)) (undoubled w))

-- Where a text without a tree is lost, from its tokens. (A text that has none, because they are refused, is lost at the refusal.)
unfoldable pub lost_offset : Bytes → Outcome (List Placed) → ℕ
lost_offset text (refused n p) = p
lost_offset text (passed ps) = offset_of text ps (lost_token (spans_of ps))

-- Checks 1 to 11 and 17, in the place of 11's own place that at which the text is lost.
unfoldable pub lost_at : Bytes → Outcome Reading → Outcome Reading
lost_at text (refused n p) = elim (eqb n 11) [ true ↦ refused n (lost_offset text (scan most_tokens 0 text)) | false ↦ refused n p ]
lost_at text (passed r) = passed r

abbrev pub located_text : Bytes → Outcome Reading
located_text text = lost_at text (read_text text)

-- Locating: nothing is lent, counted or written.
unfoldable pub nothing_written : Reading → Outcome Written
nothing_written r = passed (record { counted = 0; contents = [] })

unfoldable pub locate : Bytes → Result
locate text = answered [] (and_then (located_text text) nothing_written)
