-- Document 01, "Node table": the tree of a node table, read off the text and the table's words alone; and what 01 says of the order
-- of its nodes.
use Rattle.std.specs.Prelude.{◌≡◌, true, false, ◌⊎◌, List, ◌∷◌, ℕ, zero, suc, ◌+◌, ◌-◌, ◌*◌, ◌≤◌, ◌<◌, eqb, length, take, drop, get_or}
use Rattle.std.proofs.Math.Option.{Option, none, some}
use Rattle.grammar.specs.Bytes.{Bytes}
use Rattle.grammar.specs.Token.{Atom, symbol, number, quoted, is_quote, undoubled, Token}
use Rattle.grammar.specs.Outcome.{Outcome, refused, passed}
use Rattle.grammar.specs.Scan.{Placed, scan}
use Rattle.grammar.specs.Operator.{Table}
use Rattle.grammar.specs.Declaration.{Declaration, declarations}
use Rattle.grammar.specs.Fault.{most_tokens}
use Rattle.grammar.specs.Tree.{Tree, nothing, leaf}
use Rattle.grammar.specs.Blank.{blank_rule}
use Rattle.grammar.specs.Blocks.{under_bracket, under_block, under_operator}
use Rattle.grammar.specs.Nodes.{
  words_per_node,
  name_kind,
  number_kind,
  prefix_kind,
  infix_kind,
  postfix_kind,
  bracket_kind,
  block_kind,
  count,
  words,
}
use Rattle.grammar.specs.Answer.{tokens_of}

-- "kind, first child, second child, offset, length", and the precedence (02, §6): word number `j` of node number `k`, and the six by name.
abbrev pub word_of : List ℕ → ℕ → ℕ → ℕ
word_of ws k j = get_or ws (k * words_per_node + j) 0

abbrev pub node_kind : List ℕ → ℕ → ℕ
node_kind ws k = word_of ws k 0

abbrev pub first_child : List ℕ → ℕ → ℕ
first_child ws k = word_of ws k 1

abbrev pub second_child : List ℕ → ℕ → ℕ
second_child ws k = word_of ws k 2

abbrev pub node_offset : List ℕ → ℕ → ℕ
node_offset ws k = word_of ws k 3

abbrev pub node_length : List ℕ → ℕ → ℕ
node_length ws k = word_of ws k 4

abbrev pub node_precedence : List ℕ → ℕ → ℕ
node_precedence ws k = word_of ws k 5

-- "Offset and length give .. the number's digits or the operator's mark .. a block has `let` to `in` inclusive"; of a quoted name "the
-- bytes as written between the outer quotes, and these are handed out" (02, §5).
abbrev pub part_of : Bytes → List ℕ → ℕ → Bytes
part_of text ws k = take (node_length ws k) (drop (node_offset ws k) text)

-- The byte before an offset; before the text 0.
abbrev pub byte_before : Bytes → ℕ → ℕ
byte_before text offset = get_or (0 ∷ text) offset 0

-- The name of the bytes `w` behind the byte `b`: a quoted one if that is a quote, and then `w` are "the bytes as written between the outer
-- quotes" (02, §5).
unfoldable pub name_behind : ℕ → Bytes → Atom
name_behind b w = elim (is_quote b) [ true ↦ quoted (undoubled w) | false ↦ symbol w ]

-- The declarations that a text from `let` to `in` spells: those of the tokens between its first and its last. (Of a text that cannot be
-- scanned, none.)
unfoldable pub between_ends : List Token → List Token
between_ends ts = take (length ts - 2) (drop 1 ts)

unfoldable pub declarations_scanned : Outcome (List Placed) → Option (List Declaration)
declarations_scanned (refused n p) = none
declarations_scanned (passed ps) = some (declarations (between_ends (tokens_of ps)))

unfoldable pub declarations_in : Bytes → Option (List Declaration)
declarations_in s = declarations_scanned (scan most_tokens 0 s)

unfoldable pub under_declared : Option (List Declaration) → Option Tree → Option Tree
under_declared none t = none
under_declared (some ds) t = under_block ds t

-- The tree of a node, if it has one: from its kind, the trees of its children ("a lone child as the first"), the part `s` of the text
-- and the byte `b` before it. A prefix operator has no operand on its left, a postfix operator none on its right.
unfoldable pub node_tree : ℕ → Option Tree → Option Tree → ℕ → Bytes → Option Tree
node_tree kind first second b s =
    elim (eqb kind name_kind) [
      | true ↦ some (leaf (name_behind b s))
      | false ↦
          elim (eqb kind number_kind) [
            | true ↦ some (leaf (number s))
            | false ↦
                elim (eqb kind prefix_kind) [
                  | true ↦ under_operator s (some nothing) first
                  | false ↦
                      elim (eqb kind infix_kind) [
                        | true ↦ under_operator s first second
                        | false ↦
                            elim (eqb kind postfix_kind) [
                              | true ↦ under_operator s first (some nothing)
                              | false ↦
                                  elim (eqb kind bracket_kind) [
                                    | true ↦ under_bracket first
                                    | false ↦
                                        elim (eqb kind block_kind) [ true ↦ under_declared (declarations_in s) first | false ↦ none ]
                                  ]
                            ]
                      ]
                ]
          ]
    ]

-- The tree of node number `k`. The first number is fuel: greater than `k`.
unfoldable pub decode_in : ℕ → Bytes → List ℕ → ℕ → Option Tree
decode_in zero text ws k = none
decode_in (suc n) text ws k =
    node_tree (node_kind ws k) (decode_in n text ws (first_child ws k)) (decode_in n text ws (second_child ws k))
    (byte_before text (node_offset ws k)) (part_of text ws k)

-- The tree whose root is node number `k`. "Children come before parents", so `k + 1` is fuel enough.
unfoldable pub decode : Bytes → List ℕ → ℕ → Option Tree
decode text ws k = decode_in (suc k) text ws k

-- What a table of `c` nodes stands for: the tree of its last node, "the root last". Without a node it is a blank rule (02, §7).
unfoldable pub decode_table : Bytes → List ℕ → ℕ → Option Tree
decode_table text ws zero = some blank_rule
decode_table text ws (suc k) = decode text ws k

-- What 01 says of node number `k`, by its kind: "Children come before parents, left before right"; "a lone child as the first; unused
-- words 0"; "a bracket has 0 and 0".
pub data Ordered (ws : List ℕ) (k : ℕ) : Type 0 where
  leaf_node : (node_kind ws k ≡ name_kind) ⊎ (node_kind ws k ≡ number_kind) → first_child ws k ≡ 0 → second_child ws k ≡ 0 → Ordered ws k
  prefix_or_postfix_node :
      (node_kind ws k ≡ prefix_kind) ⊎ (node_kind ws k ≡ postfix_kind) → first_child ws k < k → second_child ws k ≡ 0 → Ordered ws k
  infix_node : node_kind ws k ≡ infix_kind → first_child ws k < second_child ws k → second_child ws k < k → Ordered ws k
  bracket_node :
      node_kind ws k ≡ bracket_kind → first_child ws k < k → second_child ws k ≡ 0 → node_offset ws k ≡ 0 → node_length ws k ≡ 0
      → Ordered ws k
  block_node : node_kind ws k ≡ block_kind → first_child ws k < k → second_child ws k ≡ 0 → Ordered ws k

-- "so the words of a subtree stand together in the node table": the words of the tree that node `k` decodes to are those of the nodes that
-- end with `k`. With which offsets and operators is left open here: `TableHolds` of reader says it of the whole tree.
pub record Together (text : Bytes) (ws : List ℕ) (k : ℕ) : Type 0 where
  pub tree : Tree
  pub decodes : decode text ws k ≡ some tree
  pub fits : count tree ≤ suc k
  pub offsets : ℕ → ℕ
  pub table : Table
  pub token : ℕ
  pub written :
      take (words_per_node * count tree) (drop (words_per_node * (suc k - count tree)) ws) ≡ words offsets table tree token (suc k - count tree)
