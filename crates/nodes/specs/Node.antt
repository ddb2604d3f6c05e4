-- What writing one node asks and leaves, and the words of an atom's node.
use Rattle.std.specs.Prelude.{◌≡◌, true, false, List, ℕ, ◌+◌, ◌-◌, ◌*◌, ◌≤◌, eqb, length}
use Rattle.std.proofs.lemmas.List.Edits.{sets}
use Rattle.grammar.specs.SpanTree.{root_precedence}
use Rattle.grammar.specs.Nodes.{node_words, name_kind, number_kind, prefix_kind, infix_kind, block_kind, words_per_node}
use Rattle.rows.specs.declared.token.Token.{Token}
use Rattle.rows.specs.Kinds.{kind_code}
use Rattle.rows.specs.Codes.{role_of}

-- The precedence of the role with the number `c`.
abbrev pub precedence_of : ℕ → ℕ
precedence_of c = root_precedence (role_of c)

-- The words of a node with the bytes of a token, as written; of an atom's node, whose kind goes by that of its token; and of the node of a block
-- with the tokens `t`, its `let`, and `c`, its `in`.
abbrev pub token_words : ℕ → ℕ → ℕ → Token → ℕ → List ℕ
token_words k first second t precedence = node_words k first second t.start t.size precedence

unfoldable pub atom_kind : ℕ → ℕ
atom_kind k = elim (eqb k 2) [ true ↦ number_kind | false ↦ name_kind ]

abbrev pub atom_words : Token → List ℕ
atom_words t = token_words (atom_kind (kind_code t.kind)) 0 0 t 0

abbrev pub block_words : ℕ → Token → Token → List ℕ
block_words first t c = node_words block_kind first 0 t.start (c.start + 2 - t.start) 0

-- The words of the node of an operator with an operand on its right, `n` nodes from number `base` on before it, `l` of them those of an
-- operand on its left: a prefix operator where there are none.
unfoldable pub prefix_or_infix_words : ℕ → ℕ → ℕ → Token → ℕ → List ℕ
prefix_or_infix_words base l n t precedence =
    elim (eqb l 0) [
      | true ↦ token_words prefix_kind (base + n - 1) 0 t precedence
      | false ↦ token_words infix_kind (base + l - 1) (base + n - 1) t precedence
    ]

-- Node number `n` stands in the table.
abbrev pub HasNode : List ℕ → ℕ → Type 0
HasNode N n = n * words_per_node + words_per_node ≤ length N

-- There are `n` nodes, and few enough; the last one is a child.
abbrev pub EndsInChild : ℕ → Type 0
EndsInChild n = (1 ≤ n) × (n ≤ 4096)

-- A node with the words `w` is written behind `n` nodes; the answer is how many they are then.
pub record Appended (w N : List ℕ) (n : ℕ) (N' : List ℕ) (r : ℕ) : Type 0 where
  pub answer : r ≡ n + 1
  pub written : N' ≡ sets N (n * words_per_node) w
