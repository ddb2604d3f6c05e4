-- The answers of the services by the definitions: their numbers, and what a refusal leaves in the lent buffer.
use mathlib.Core.Path.{◌≡◌, refl}
use mathlib.Core.Logic.{◌⊎◌, inl, inr, ⊎_elim}
use mathlib.Core.Bool.{Bool, true, false, ◌&&◌}
use mathlib.Core.List.{List, []}
use mathlib.Core.Option.{Option, none, some}
use Prim.Native.Nat.{ℕ, suc, ◌*◌, ◌≤◌}
use native.Mathlib.Omega.{arith}
use lib.Dec.{leb}
use lib.ListN.{length, length-append, length-drop}
use borrow.Author.Tests.{leb-true}
use Rattle.grammar.specs.Fault.{longest_text, most_tokens}
use Rattle.grammar.specs.Bytes.{Bytes}
use Rattle.grammar.specs.Outcome.{Outcome, refused, passed, and_then, placed}
use Rattle.grammar.specs.Scan.{Placed, scan}
use Rattle.grammar.specs.Nesting.{nesting}
use Rattle.grammar.specs.Declaration.{start_table}
use Rattle.grammar.specs.Tree.{Tree, nothing, leaf, bracket, block, node, flat}
use Rattle.grammar.specs.Blocks.{check_blocks}
use Rattle.grammar.specs.Nodes.{count, words_per_node}
use Rattle.grammar.specs.Answer.{
  Reading,
  rejection,
  success,
  over,
  tokens_of,
  offset_of,
  reading_tree,
  read_spans,
  read_tokens,
  read_text,
  reading_words,
  nodes_into,
  read,
  reading_text,
  bytes_that,
  text_into,
  canonicalize,
  Result,
  Written,
  answered,
}
use Rattle.grammar.proofs.Operands.{Operated, words-length}
use Rattle.grammar.proofs.ReadingTrees.{reading_operated}
use Rattle.grammar.proofs.Readings.{reading_of_tokens}
use Rattle.grammar.proofs.Logic.{and_left}
use Rattle.grammar.proofs.RefusalNumbers.{
  Numbered,
  FromTo,
  OfBlocks,
  OfChecks,
  numbered_and_then,
  numbered_placed,
  numbered_wider,
  scan-between,
  nesting-between,
  blocks_numbered,
}

-- The result of a service over the buffer `b`: its number is at most `most`, or 17; a refusal has count 0 and changes nothing in the
-- buffer; the buffer keeps its length.
pub record Proper (b : List ℕ) (most : ℕ) (r : Result) : Type 0 where
  pub known : (r.answer.number ≤ most) ⊎ (r.answer.number ≡ 17)
  pub unchanged : (r.answer.number ≡ 0 → ⊥) → r.buffer ≡ b
  pub nothing_counted : (r.answer.number ≡ 0 → ⊥) → r.answer.count ≡ 0
  pub same_length : length r.buffer ≡ length b

spans_numbered : (text : Bytes) (ps : List Placed) (o : Option Tree) → Numbered OfChecks (read_spans text ps o)
unfolding read_spans
spans_numbered text ps none = inl (omega arith)
spans_numbered text ps (some t) = tt

tokens_numbered : (text : Bytes) (ps : List Placed) → Numbered OfChecks (read_tokens text ps)
unfolding read_tokens
tokens_numbered text ps =
    let f = offset_of text ps in
    let n = nesting [] 0 (tokens_of ps) in
    let c = check_blocks (suc (length ps)) start_table 0 (tokens_of ps) in
    numbered_and_then OfChecks (placed f n) _
    (numbered_placed OfChecks f n (numbered_wider (FromTo 6 7) OfChecks (λ k b. inl (omega arith)) n (nesting-between [] 0 (tokens_of ps)))) (λ u.
    numbered_and_then OfChecks (placed f c) _
    (numbered_placed OfChecks f c
    (numbered_wider OfBlocks OfChecks (λ k. ⊎_elim (λ b. inl (omega arith)) inr) c (blocks_numbered (suc (length ps)) start_table 0 (tokens_of ps)))) (λ v.
    spans_numbered text ps (reading_tree (tokens_of ps))))

-- Checks 1 to 11 and 17 give these numbers.
pub read_numbered : (text : Bytes) → Numbered OfChecks (read_text text)
unfolding read_text
read_numbered text = go (leb (length text) longest_text)
  where
    go : (b : Bool) → Numbered {A = Reading} OfChecks (elim b [ true ↦ and_then (scan most_tokens 0 text) (read_tokens text) | false ↦ refused 1 longest_text ])
    go true =
        numbered_and_then OfChecks (scan most_tokens 0 text) (read_tokens text)
        (numbered_wider (FromTo 2 5) OfChecks (λ k b. inl (omega arith)) (scan most_tokens 0 text) (scan-between most_tokens 0 text)) (tokens_numbered text)
    go false = inl (omega arith)

-- A tree has no more nodes than tokens.
pub count_tokens : (t : Tree) → count t ≤ length (flat t)
unfolding count flat
count_tokens nothing = omega arith
count_tokens (leaf t) = omega arith
count_tokens (bracket t) = simp length-append (omega (arith, count_tokens t))
count_tokens (block ds t) = simp length-append (omega (arith, count_tokens t))
count_tokens (node l m r) = simp length-append (omega (arith, count_tokens l, count_tokens r))

-- What is written over the front of a buffer that is long enough leaves its length.
over-length : (w b : List ℕ) → length w ≤ length b → length (over w b) ≡ length b
unfolding over
over-length w b h = simp (length-append, length-drop) (omega arith)

-- So it is of every service that gives numbers up to `most`, or 17, and writes no more than the buffer holds.
module _ (b : List ℕ) (most : ℕ) where
  abbrev UpTo : ℕ → Type 0
  UpTo n = (n ≤ most) ⊎ (n ≡ 17)

  abbrev Fitting : Outcome Written → Type 0
  Fitting (refused n p) = Unit {0}
  Fitting (passed w) = length w.contents ≤ length b

  abbrev Given : Outcome Written → Type 0
  Given o = Numbered UpTo o × Fitting o

  answered_proper : (o : Outcome Written) → Numbered UpTo o → Fitting o → Proper b most (answered b o)
  unfolding answered rejection success
  answered_proper (refused n p) h f = record { known = h; unchanged = λ z. refl; nothing_counted = λ z. refl; same_length = refl }
  answered_proper (passed w) h f =
      record {
        known = inl (omega arith);
        unchanged = λ z. absurd (z refl);
        nothing_counted = λ z. absurd (z refl);
        same_length = over-length w.contents b f;
      }

  -- Behind checks 1 to 11 and 17.
  checked_proper :
      (give : Reading → Outcome Written) (o : Outcome Reading) → Numbered OfChecks o → 11 ≤ most
      → ((r : Reading) → o ≡ passed r → Given (give r)) → Proper b most (answered b (and_then o give))
  unfolding and_then
  checked_proper give (refused n p) h l f = answered_proper (refused n p) (⊎_elim (λ k. inl (omega arith)) inr h) tt
  checked_proper give (passed r) h l f = answered_proper (give r) (f r refl).0 (f r refl).1

words_fit :
    (text : Bytes) (r : Reading) (b : List ℕ) → Operated r.tree → words_per_node * count r.tree ≤ length b
    → length (reading_words text r) ≤ length b
unfolding reading_words
words_fit text r b q h = rw (words-length (offset_of text r.tokens) start_table r.tree 0 0 q) h

nodes_given : (text : Bytes) (b : List ℕ) (r : Reading) → Operated r.tree → Given b 12 (nodes_into text b r)
unfolding nodes_into
nodes_given text b r q = go (leb (words_per_node * count r.tree) (length b)) refl
  where
    go : (t : Bool) → leb (words_per_node * count r.tree) (length b) ≡ t → Given b 12 (nodes_into text b r)
    go true e = rw (e, nodes_into) (tt, words_fit text r b q (leb-true _ _ e))
    go false e = rw (e, nodes_into) (inl (omega arith), tt)

bytes-given : (b : List ℕ) (t : Bool) (w : Bytes) → (t ≡ true → length w ≤ length b) → Given b 13 (bytes_that t w)
unfolding bytes_that
bytes-given b true w f = (tt, f refl)
bytes-given b false w f = (inl (omega arith), tt)

-- Reading: numbers 0 to 12 and 17; a refusal leaves every word of the lent table.
pub read_proper : (text : Bytes) (b : List ℕ) → Proper b 12 (read text b)
unfolding read
read_proper text b =
    checked_proper b 12 (nodes_into text b) (read_text text) (read_numbered text) (omega arith)
    (λ r e. nodes_given text b r (reading_operated (reading_of_tokens text r e).1))

-- Canonicalizing: numbers 0 to 13 and 17; a refusal leaves every byte of the lent buffer.
pub canonicalize_proper : (text : Bytes) (b : List ℕ) → Proper b 13 (canonicalize text b)
unfolding canonicalize text_into
canonicalize_proper text b =
    checked_proper b 13 (text_into b) (read_text text) (read_numbered text) (omega arith)
    (λ r e.
    let w = reading_text r in
    bytes-given b (leb (length w) (length b) && leb (length w) longest_text) w (λ t. leb-true (length w) (length b) (and_left _ _ t)))
