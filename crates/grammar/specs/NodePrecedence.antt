-- Document 02, §6: "the sixth is the level at which it was read, and 0 for names, numbers, brackets and blocks. .. It must equal the level of
-- the mark's role in the table in force there." What that says of a node, by the words of the table and the spans of the text alone.
use Rattle.std.specs.Prelude.{◌≡◌, List, ◌∷◌, ◌++◌, ℕ}
use Rattle.std.proofs.Math.Option.{some}
use Rattle.grammar.specs.Bytes.{Bytes}
use Rattle.grammar.specs.Token.{Token, symbol}
use Rattle.grammar.specs.Spelling.{TokenAt}
use Rattle.grammar.specs.Operator.{Fixity, Prefix, Infix, Postfix, Role, role}
use Rattle.grammar.specs.Span.{Item, single}
use Rattle.grammar.specs.Spans.{Span, SpanOf, number_behind}
use Rattle.grammar.specs.Nodes.{prefix_kind, infix_kind, postfix_kind}
use Rattle.grammar.specs.Decoding.{node_kind, node_offset, node_precedence}

-- The kind of the node of an operator.
unfoldable pub operator_kind : Fixity → ℕ
operator_kind Prefix = prefix_kind
operator_kind Infix = infix_kind
operator_kind Postfix = postfix_kind

-- Node number `k` is that of an operator that stands in a span of the tokens `ts`, behind the items `before`; its place is the node's offset.
-- In the operators in force there it has a role of the node's fixity, and the node has the precedence of that role.
pub record OperatorPrecedence (text : Bytes) (ts : List Token) (ws : List ℕ) (k : ℕ) : Type 0 where
  pub fixity : Fixity
  pub kind : node_kind ws k ≡ operator_kind fixity
  pub span : Span
  pub among : SpanOf ts span
  pub before : List Item
  pub operator : Bytes
  pub after : List Item
  pub cut : span.contents ≡ before ++ single (symbol operator) ∷ after
  pub place : TokenAt text ts (number_behind span before) (node_offset ws k)
  pub own : Role
  pub in_force : role span.table operator fixity ≡ some own
  pub precedence : node_precedence ws k ≡ own.precedence

-- Of every node: it is such a node, or that of a name, number, bracket or block.
pub data NodePrecedence (text : Bytes) (ts : List Token) (ws : List ℕ) (k : ℕ) : Type 0 where
  of_operator : OperatorPrecedence text ts ws k → NodePrecedence text ts ws k
  of_operand : ((f : Fixity) → node_kind ws k ≡ operator_kind f → ⊥) → node_precedence ws k ≡ 0 → NodePrecedence text ts ws k
