-- Each turn writes the line of one node more, from the words in front of those that are left.
use mathlib.Core.Path.{◌≡◌, sym, ap, ap₂, ◌∙◌}
use mathlib.Core.List.{List, ◌++◌}
use Prim.Native.Nat.{ℕ, ◌+◌, ◌*◌, ◌-◌, ◌^◌, ◌≤◌, ◌<◌}
use mathlib.Core.Logic.{dite}
use native.Mathlib.Decide.{dec_le}
use native.Mathlib.Omega.{arith}
use lib.ListN.{length, drop, length-drop}
use lib.Seq.{drop-drop, drop-append_seam}
use Rattle.std.proofs.Common.{rules}
use Rattle.std.specs.Iterator.Adapters.{enumerate_source, enumerate_count, take_source}
use Rattle.std.specs.Slice.Iter.{chunks_exact_rest}
use Rattle.std.proofs.KnownBytes.{Appends-nil, Appends-trans}
use Rattle.grammar.specs.Nodes.{words_per_node}
use Rattle.grammar.specs.Bytes.{Bytes}
use Rattle.grammar.specs.Listing.{node_lines}
use Rattle.listing.specs.Lines.{most_nodes}
use Rattle.listing.specs.Node.{node_text}
use Rattle.listing.proofs.Appended.{appended_same}
use Rattle.listing.proofs.NodeLines.{next_line, no_lines}
use Rattle.listing.proofs.NodeText.{node_line}
use Rattle.listing.proofs.print_nodes.Goals as goal

-- The words behind those of node number `k`.
behind
    : (k k' : ℕ) (table words rest : List ℕ) → k' ≡ k + 1 → drop (k * words_per_node) table ≡ words ++ rest → length words ≡ words_per_node
    → rest ≡ drop (k' * words_per_node) table
behind k k' table words rest more e size =
    sym (drop-append_seam words rest) ∙ ap (λ (l : List ℕ). drop (length words) l) (sym e)
    ∙ ap (λ (m : ℕ). drop m (drop (k * words_per_node) table)) size
    ∙ drop-drop words_per_node (k * words_per_node) table
    ∙ ap (λ (m : ℕ). drop m table) (omega arith)

-- The lines of `k` nodes and the line of the next.
next
    : (k k' i : ℕ) (table words rest : List ℕ) (line : Bytes) → i ≡ k → k' ≡ k + 1 → drop (k * words_per_node) table ≡ words ++ rest
    → line ≡ node_lines 1 i (words ++ rest) → node_lines k 0 table ++ line ≡ node_lines k' 0 table
next k k' i table words rest line same more e is =
    ap (λ (x : Bytes). node_lines k 0 table ++ x) (is ∙ ap₂ (λ (j : ℕ) (l : List ℕ). node_lines 1 j l) same (sym e))
    ∙ next_line k table ∙ ap (λ (m : ℕ). node_lines m 0 table) (sym more)

-- The iterator ends at the count, since the table has the words of as many nodes.
ended
    : (k left count : ℕ) (table rest : List ℕ) → k + left ≡ count → count ≤ most_nodes → length table ≡ most_nodes * words_per_node
    → rest ≡ drop (k * words_per_node) table → (0 < left → length rest < words_per_node) → k ≡ count
ended k left count table rest sum few size e short =
    let n : length rest ≡ length table - k * words_per_node = ap length e ∙ length-drop (k * words_per_node) table in
    dite (dec_le 1 left) (λ more. absurd (omega (arith, short more))) (λ none. omega arith)

pub loop-i-init : goal.loop-i-init
loop-i-init g c = rw (c.into_iter-i-iterator.ensures.into_iter_gives, c.enumerate-i-items.ensures.source, c.enumerate-i-items.ensures.count) record {
  rest = search rules;
  size = search rules;
  left = search rules;
  lines = appended_same _ _ (no_lines c.args.nodes.now) (Appends-nil _);
}

pub loop-i-preserved : goal.loop-i-preserved
loop-i-preserved g c =
    let s = c.in-Some.ensures.steps in
    let n = c.from_words-node.result in
    let words = c.in-Some.words.now in
    let rest = chunks_exact_rest (take_source (enumerate_source c.next.new.self)) in
    let k = enumerate_count c.loop-i.i-iterator in
    let e : drop (k * words_per_node) c.args.nodes.now ≡ words ++ rest = sym c.loop-i.invariant.rest ∙ s.0.0.1.0 in
    let size : length words ≡ words_per_node = s.0.0.1.1 ∙ c.loop-i.invariant.size in
    let small : c.in-Some.i < 10 ^ 10 = search rules in
    record {
      rest = behind k _ c.args.nodes.now words rest s.2 e size;
      size = s.0.0.0 ∙ c.loop-i.invariant.size;
      left = omega (arith, s.0.1, s.2, c.loop-i.invariant.left);
      lines =
          appended_same _ _
          (next k _ c.in-Some.i c.args.nodes.now words rest _ s.1 s.2 e
          (c.as_slice.ensures ∙ c.add_node.ensures.added ∙ ap (λ (l : Bytes). l ++ node_text c.in-Some.i n) c.empty-line.ensures
          ∙ node_line c.in-Some.i words rest n c.from_words-node.ensures size small))
          (Appends-trans _ _ _ _ _ c.loop-i.invariant.lines c.in_ok-write_all.ensures.bytes);
    }

pub returns : goal.returns
returns g c =
    let s = c.in-None.ensures.steps in
    let k = enumerate_count c.loop-i.i-iterator in
    appended_same _ _
    (ap (λ (m : ℕ). node_lines m 0 c.args.nodes.now)
    (ended k _ c.args.count c.args.nodes.now _ c.loop-i.invariant.left c.requires (search rules) c.loop-i.invariant.rest
    (λ more. omega (arith, (s.0 more).1.0, c.loop-i.invariant.size))))
    c.loop-i.invariant.lines
