-- The words of a tree are the same under any two functions that give the same offsets to its own tokens. By induction on the tree: an
-- operand's tokens, and those inside a bracket pair or a block, are among the tree's own.
use mathlib.Core.Path.{◌≡◌, refl, ap, ap₂}
use mathlib.Core.List.{List, ◌++◌}
use Prim.Native.Nat.{ℕ, suc, pred, ◌+◌, ◌≤◌, ◌<◌}
use native.Mathlib.Omega.{arith}
use lib.ListN.{length, length-append}
use Rattle.grammar.specs.Bytes.{Bytes}
use Rattle.grammar.specs.Token.{Atom, as_written}
use Rattle.grammar.specs.Operator.{Table}
use Rattle.grammar.specs.Declaration.{declare_all, Declaration, all_tokens}
use Rattle.grammar.specs.SpanTree.{fixity}
use Rattle.grammar.specs.Tree.{Tree, nothing, leaf, bracket, block, node, flat, span_tree}
use Rattle.grammar.specs.Nodes.{leaf_kind, operator_words, precedence_over, written_offset, count, node_words, words}

-- How many tokens a tree has.
leaf_size : (a : Atom) → length (flat (leaf a)) ≡ 1
unfolding flat
leaf_size a = refl

pub bracket_size : (t : Tree) → length (flat (bracket t)) ≡ length (flat t) + 2
unfolding flat
bracket_size t = simp length-append (omega arith)

pub block_size : (ds : List Declaration) (t : Tree) → length (flat (block ds t)) ≡ length (all_tokens ds) + length (flat t) + 3
unfolding flat
block_size ds t = simp length-append (omega arith)

pub node-size : (l : Tree) (m : Bytes) (r : Tree) → length (flat (node l m r)) ≡ length (flat l) + length (flat r) + 1
unfolding flat
node-size l m r = simp length-append (omega arith)

-- The same words behind equal ones.
behind : {u v : List ℕ} → u ≡ v → (w : List ℕ) → u ++ w ≡ v ++ w
behind e w = ap (λ x. x ++ w) e

-- The words of a tree depend only on the offsets of its own tokens.
pub words_offsets :
    (f g : ℕ → ℕ) (T : Table) (t : Tree) (i n : ℕ) → ((j : ℕ) → i ≤ j → j < i + length (flat t) → f j ≡ g j)
    → words f T t i n ≡ words g T t i n
unfolding words
words_offsets f g T nothing i n h = refl
words_offsets f g T (leaf t) i n h =
    ap (λ a. node_words (leaf_kind t) 0 0 (written_offset t a) (length (as_written t)) 0) (h i (omega arith) (omega (arith, leaf_size t)))
words_offsets f g T (bracket t) i n h =
    behind (words_offsets f g T t (suc i) n (λ j p q. h j (omega arith) (omega (arith, bracket_size t)))) _
words_offsets f g T (block ds t) i n h =
    let e = block_size ds t in
    let k = i + length (all_tokens ds) in
    rw (h i (omega arith) (omega arith), h (suc k) (omega arith) (omega arith))
    (behind (words_offsets f g (declare_all T ds) t (suc (suc k)) n (λ j p q. h j (omega arith) (omega arith))) _)
words_offsets f g T (node l m r) i n h =
    let e = node-size l m r in
    let k = i + length (flat l) in
    rw (h k (omega arith) (omega arith))
    (ap₂ (λ v w. v ++ (w ++ own)) (words_offsets f g T l i n (λ j p q. h j (omega arith) (omega arith)))
    (words_offsets f g T r (suc k) (n + count l) (λ j p q. h j (omega arith) (omega arith))))
  where
    own : List ℕ
    own =
        operator_words (fixity (span_tree l) (span_tree r)) (pred (n + count l)) (pred (n + count l + count r)) (g (i + length (flat l))) (length m)
        (precedence_over T l m r)
