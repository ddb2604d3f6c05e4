-- The lines of the nodes so far are written, and the iterator gives the words of those that are left.
use Rattle.std.proofs.Common.{◌≡◌, ◌+◌, ◌*◌, drop}
use Rattle.std.specs.Iterator.Adapters.{enumerate_source, enumerate_count, take_source, take_count}
use Rattle.std.specs.Slice.Iter.{chunks_exact_rest, chunks_exact_size}
use Rattle.std.specs.Io.KnownBytes.{Appends}
use Rattle.grammar.specs.Nodes.{words_per_node}
use Rattle.grammar.specs.Listing.{node_lines}
use Rattle.listing.proofs.print_nodes.Given as goal

abbrev pub invariant-loop-i : goal.invariant-loop-i
invariant-loop-i g l = record {
  rest :
      chunks_exact_rest (take_source (enumerate_source l.i-iterator)) ≡ drop (enumerate_count l.i-iterator * words_per_node) l.nodes;
  size : chunks_exact_size (take_source (enumerate_source l.i-iterator)) ≡ words_per_node;
  left : enumerate_count l.i-iterator + take_count (enumerate_source l.i-iterator) ≡ l.count;
  lines :
      Appends (g.W.Write.contents l.initial.out) (g.W.Write.contents l.out) (node_lines (enumerate_count l.i-iterator) 0 l.nodes);
}
