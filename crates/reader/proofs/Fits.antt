-- What a service counts fits into the lent buffer: six words to a node, one byte to a byte of canonical text.
use mathlib.Core.Path.{◌≡◌, refl, ap}
use mathlib.Core.Bool.{Bool, true, false, ◌&&◌}
use mathlib.Core.List.{List}
use Prim.Native.Nat.{ℕ, ◌*◌, ◌≤◌}
use native.Mathlib.Omega.{arith}
use lib.Dec.{leb}
use lib.ListN.{length}
use borrow.Author.Tests.{leb-true}
use Rattle.grammar.specs.Fault.{longest_text}
use Rattle.grammar.specs.Bytes.{Bytes}
use Rattle.grammar.specs.Outcome.{Outcome, refused, passed, and_then}
use Rattle.grammar.specs.Nodes.{count, words_per_node}
use Rattle.grammar.specs.Answer as G
use Rattle.grammar.specs.Answer.{Reading, Written, answered, read_text, nodes_into, reading_text, bytes_that, text_into, rejection, success}
use Rattle.grammar.proofs.Logic.{and_left}
use Rattle.reader.specs.declared.Answer.{Answer}
use Rattle.reader.specs.Answered.{result_of, Reads, Canonicalizes}

-- A service that gives no more than fits, `k` entries of the buffer to each that is counted.
module _ (k : ℕ) (B : List ℕ) where
  abbrev Small : Outcome Written → Type 0
  Small (refused n p) = Unit {0}
  Small (passed w) = k * w.counted ≤ length B

  small_counts : (o : Outcome Written) → Small o → k * (answered B o).answer.count ≤ length B
  unfolding answered rejection success
  small_counts (refused n p) f = omega arith
  small_counts (passed w) f = f

  small_behind : (give : Reading → Outcome Written) (o : Outcome Reading) → ((r : Reading) → Small (give r)) → Small (and_then o give)
  unfolding and_then
  small_behind give (refused n p) f = tt
  small_behind give (passed r) f = f r

  answer_fits : (a : Answer) (B' : List ℕ) (o : Outcome Written) → result_of a B' ≡ answered B o → Small o → k * a.count ≤ length B
  unfolding result_of
  answer_fits a B' o e f = rw (ap (λ r. r.answer.count) e) (small_counts o f)

nodes_small : (text : Bytes) (N : List ℕ) (r : Reading) → Small words_per_node N (nodes_into text N r)
unfolding nodes_into
nodes_small text N r = go (leb (words_per_node * count r.tree) (length N)) refl
  where
    go : (b : Bool) → leb (words_per_node * count r.tree) (length N) ≡ b → Small words_per_node N (nodes_into text N r)
    go true e = rw (e, nodes_into) (leb-true _ _ e)
    go false e = rw (e, nodes_into) tt

bytes_small : (B : List ℕ) (b : Bool) (w : Bytes) → (b ≡ true → length w ≤ length B) → Small 1 B (bytes_that b w)
unfolding bytes_that
bytes_small B true w f = omega (arith, f refl)
bytes_small B false w f = tt

text_small : (B : List ℕ) (r : Reading) → Small 1 B (text_into B r)
unfolding text_into
text_small B r =
    let c = reading_text r in
    bytes_small B (leb (length c) (length B) && leb (length c) longest_text) c (λ e. leb-true (length c) (length B) (and_left _ _ e))

-- The nodes that reading counts stand in the table.
pub count_fits : (text : Bytes) (N N' : List ℕ) (a : Answer) → Reads text N N' a → words_per_node * a.count ≤ length N
unfolding G.read
count_fits text N N' a e =
    answer_fits words_per_node N a N' _ e (small_behind words_per_node N (nodes_into text N) (read_text text) (nodes_small text N))

-- The bytes that canonicalizing counts stand in the buffer.
pub canonical_count_fits : (text : Bytes) (B B' : List ℕ) (a : Answer) → Canonicalizes text B B' a → a.count ≤ length B
unfolding G.canonicalize
canonical_count_fits text B B' a e = omega (arith, answer_fits 1 B a B' _ e (small_behind 1 B (text_into B) (read_text text) (text_small B)))
