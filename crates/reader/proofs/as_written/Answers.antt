-- A node whose words are not all there gives nothing; another the part of the text by its offset and length.
use mathlib.Core.Path.{◌≡◌, sym, ◌∙◌}
use mathlib.Core.List.{List, []}
use Prim.Native.Nat.{ℕ, ◌+◌, ◌*◌, ◌<◌}
use native.Mathlib.Omega.{arith}
use lib.ListN.{length}
use borrow.Author.Tests.{lt-leb}
use Rattle.grammar.specs.Bytes.{Bytes}
use Rattle.grammar.specs.Nodes.{words_per_node}
use Rattle.reader.specs.Answered.{node_written}
use Rattle.reader.proofs.NodeCharacters.{whole_written}
use Rattle.reader.proofs.as_written.Goals as goal

no_node :
    (text : Bytes) (table : List ℕ) (i : ℕ) → length table < i * words_per_node + words_per_node → [] ≡ node_written text table i
unfolding node_written
no_node text table i l = rw (lt-leb (i * words_per_node + words_per_node) (length table) l, node_written)

pub returns-then-nodes-i : goal.returns-then-nodes-i
returns-then-nodes-i c = no_node _ _ _ (omega arith)

pub returns-then-nodes-w : goal.returns-then-nodes-w
returns-then-nodes-w c = no_node _ _ _ (omega (arith, c.if-nodes-w.true))

pub returns : goal.returns
returns c =
    c.cut.ensures ∙ sym (whole_written _ _ _ (omega arith))
