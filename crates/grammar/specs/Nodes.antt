-- Document 01, "Node table": the words of a tree.
use Rattle.std.specs.Prelude.{List, [], ◌∷◌, ◌++◌, ℕ, suc, pred, ◌+◌, ◌-◌, length}
use Rattle.std.proofs.Math.Option.{Option, none, some}
use Rattle.grammar.specs.Token.{Atom, symbol, number, quoted, as_written}
use Rattle.grammar.specs.Bytes.{Bytes}
use Rattle.grammar.specs.Operator.{Fixity, Prefix, Infix, Postfix, Table}
use Rattle.grammar.specs.Declaration.{declare_all, all_tokens}
use Rattle.grammar.specs.SpanTree.{fixity, role_over, root_precedence}
use Rattle.grammar.specs.Tree.{Tree, nothing, leaf, bracket, block, node, flat, span_tree}

-- "Kinds: 1 name, 2 number, 3 prefix, 4 infix, 5 postfix, 6 bracket, 7 block."
abbrev pub name_kind : ℕ
name_kind = 1

abbrev pub number_kind : ℕ
number_kind = 2

abbrev pub prefix_kind : ℕ
prefix_kind = 3

abbrev pub infix_kind : ℕ
infix_kind = 4

abbrev pub postfix_kind : ℕ
postfix_kind = 5

abbrev pub bracket_kind : ℕ
bracket_kind = 6

abbrev pub block_kind : ℕ
block_kind = 7

unfoldable pub leaf_kind : Atom → ℕ
leaf_kind (symbol w) = name_kind
leaf_kind (number d) = number_kind
leaf_kind (quoted c) = name_kind

-- 02, §5: "Offset and length cover the bytes as written between the outer quotes": their offset in an atom that starts at `at`.
unfoldable pub written_offset : Atom → ℕ → ℕ
written_offset (symbol w) at = at
written_offset (number d) at = at
written_offset (quoted c) at = at + 1

-- How many nodes a tree has.
unfoldable pub count : Tree → ℕ
count nothing = 0
count (leaf a) = 1
count (bracket t) = count t + 1
count (block ds t) = count t + 1
count (node l m r) = count l + count r + 1

-- "kind, first child, second child, offset, length"; 02, §6: "A node grows to six words; the sixth is the level at which it was read".
unfoldable pub node_words : ℕ → ℕ → ℕ → ℕ → ℕ → ℕ → List ℕ
node_words kind first second offset size precedence = kind ∷ first ∷ second ∷ offset ∷ size ∷ precedence ∷ []

abbrev pub words_per_node : ℕ
words_per_node = 6

-- "It must equal the level of the mark's role in the table in force there.": the precedence of the role in which an operator stands over
-- its operands.
abbrev pub precedence_over : Table → Tree → Bytes → Tree → ℕ
precedence_over T l m r = root_precedence (role_over T (span_tree l) m (span_tree r))

-- "children by node number from 0, a lone child as the first; unused words 0": the node of an operator whose operands' roots are
-- the nodes `l` and `r`.
unfoldable pub operator_words : Option Fixity → ℕ → ℕ → ℕ → ℕ → ℕ → List ℕ
operator_words none l r offset size precedence = []
operator_words (some Prefix) l r offset size precedence = node_words prefix_kind r 0 offset size precedence
operator_words (some Infix) l r offset size precedence = node_words infix_kind l r offset size precedence
operator_words (some Postfix) l r offset size precedence = node_words postfix_kind l 0 offset size precedence

-- The words of the tree whose first token is number `i` and first node number `n`; `start` gives each token's offset, `T` has the operators
-- in force. "Children come before parents, left before right, the root last". 02, §6: "0 for names, numbers, brackets and blocks".
unfoldable pub words : (ℕ → ℕ) → Table → Tree → ℕ → ℕ → List ℕ
words start T nothing i n = []
words start T (leaf a) i n = node_words (leaf_kind a) 0 0 (written_offset a (start i)) (length (as_written a)) 0
words start T (bracket t) i n = words start T t (suc i) n ++ node_words bracket_kind (pred (n + count t)) 0 0 0 0
words start T (block ds t) i n =
    words start (declare_all T ds) t (suc (suc (i + length (all_tokens ds)))) n
    ++ node_words block_kind (pred (n + count t)) 0 (start i) (start (suc (i + length (all_tokens ds))) + 2 - start i) 0
words start T (node l m r) i n =
    words start T l i n
    ++ (words start T r (suc (i + length (flat l))) (n + count l)
    ++ operator_words (fixity (span_tree l) (span_tree r)) (pred (n + count l)) (pred (n + count l + count r)) (start (i + length (flat l))) (length m)
    (precedence_over T l m r))
