-- What the nodes of a table that `read` leaves give of the text.
use mathlib.Core.Path.{◌≡◌, sym, ap, subst, ◌∙◌}
use mathlib.Core.List.{List, ◌++◌}
use mathlib.Core.Option.{none, some}
use Prim.Native.Nat.{ℕ, ◌+◌, ◌*◌, ◌≤◌, ◌<◌}
use native.Mathlib.Omega.{arith}
use lib.ListN.{length, drop, get_or, length-append}
use borrow.Author.Tests.{le-leb}
use Rattle.grammar.specs.Bytes.{Bytes}
use Rattle.grammar.specs.Token.{Atom, as_written}
use Rattle.grammar.specs.Declaration.{Declaration, start_table}
use Rattle.grammar.specs.Nodes.{count, words_per_node}
use Rattle.grammar.specs.Decoding.{part_of}
use Rattle.grammar.specs.Claim.{node_atoms, node_blocks, FromLetToIn}
use Rattle.grammar.specs.Answer.{Reading, PastChecks, tokens_of, offset_of, reading_words, over}
use Rattle.grammar.proofs.Operands.{words-length}
use Rattle.grammar.proofs.ReadingTrees.{IsReading, reading_operated}
use Rattle.grammar.proofs.NodeCharacters as G
use Rattle.reader.specs.Answered.{node_written}

-- A whole node gives the part of the text by its offset and length.
pub whole_written :
    (text : Bytes) (table : List ℕ) (i : ℕ) → i * words_per_node + words_per_node ≤ length table → node_written text table i ≡ part_of text table i
unfolding node_written
whole_written text table i l = rw (le-leb (i * words_per_node + words_per_node) (length table) l, node_written)

module _
    (text : Bytes) (r : Reading) (h : PastChecks text r.tokens) (is : IsReading (tokens_of r.tokens) r.tree) (N N' : List ℕ)
    (w : N' ≡ over (reading_words text r) N) where
  -- Every node of the tree is whole.
  gives : (k : ℕ) → k < count r.tree → node_written text N' k ≡ part_of text (reading_words text r ++ drop (length (reading_words text r)) N) k
  unfolding over reading_words
  gives k l =
      let v = drop (length (reading_words text r)) N in
      let size = words-length (offset_of text r.tokens) start_table r.tree 0 0 (reading_operated is) in
      ap (λ W. node_written text W k) w
      ∙ whole_written text (reading_words text r ++ v) k (omega (arith, length-append (reading_words text r) v))

  -- The bytes of a name, number or operator as written; ..
  pub node-written : (k : ℕ) (a : Atom) → get_or (node_atoms r.tree) k none ≡ some a → node_written text N' k ≡ as_written a
  unfolding reading_words
  node-written k a f =
      gives k (G.atom_node r.tree k a f) ∙ G.node-written text r.tokens h r.tree is (drop (length (reading_words text r)) N) k a f

  -- .. of a block the text from `let` to `in`.
  pub node_blocks_lem :
      (k : ℕ) (ds : List Declaration) → get_or (node_blocks r.tree) k none ≡ some ds → FromLetToIn ds (node_written text N' k)
  unfolding reading_words
  node_blocks_lem k ds f =
      subst (FromLetToIn ds) (sym (gives k (G.block_of_lem r.tree k ds f)))
      (G.node_blocks_lem text r.tokens h r.tree is (drop (length (reading_words text r)) N) k ds f)
