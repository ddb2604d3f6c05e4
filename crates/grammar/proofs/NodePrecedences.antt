-- Document 02, §6: the precedence of each node of a text's table. The node is the root of a subtree, which stands in a span of the text under
-- the operators in force there; if it is an operator's, it stands over its operands in a role of these.
use mathlib.Core.Path.{◌≡◌, refl, ap, subst, ◌∙◌}
use mathlib.Core.List.{List, ◌++◌}
use mathlib.Core.Option.{some}
use Prim.Native.Nat.{ℕ, suc, ◌+◌, ◌≤◌, ◌<◌}
use native.Mathlib.Omega.{arith}
use lib.ListN.{length}
use Rattle.grammar.specs.Bytes.{Bytes}
use Rattle.grammar.specs.Token.{Token, Atom, symbol, number, quoted}
use Rattle.grammar.specs.Spelling.{TokenAt}
use Rattle.grammar.specs.Scan.{Placed}
use Rattle.grammar.specs.Operator.{Fixity, Prefix, Infix, Postfix, role}
use Rattle.grammar.specs.Declaration.{start_table}
use Rattle.grammar.specs.Spans.{number_behind}
use Rattle.grammar.specs.SpanTree.{yield, root_precedence}
use Rattle.grammar.specs.Tree.{Tree, nothing, leaf, bracket, block, node, flat, span_tree}
use Rattle.grammar.specs.Nodes.{prefix_kind, postfix_kind, leaf_kind, count, precedence_over, words}
use Rattle.grammar.specs.Answer.{PastChecks, tokens_of, offset_of}
use Rattle.grammar.specs.Decoding.{node_kind, node_offset, node_precedence}
use Rattle.grammar.specs.NodePrecedence.{operator_kind, OperatorPrecedence, NodePrecedence, of_operator, of_operand}
use Rattle.grammar.proofs.Scanned.{length_tokens}
use Rattle.grammar.proofs.TokenFaults.{token_at}
use Rattle.grammar.proofs.AdmittingRole.{AdmittingRole, admitting_role, admitting_root}
use Rattle.grammar.proofs.WordsOffsets.{node-size}
use Rattle.grammar.proofs.Present.{counted}
use Rattle.grammar.proofs.ReadingTrees.{IsReading}
use Rattle.grammar.proofs.SpanPlaces.{operator_cut, operator_number}
use Rattle.grammar.proofs.Subtrees.{
  OperatorNode,
  Subtree,
  leaf_node_lem,
  bracket_node_lem,
  block_node_lem,
  form,
  over,
  operator_node,
  text_rooted,
}

-- Names and numbers have kinds below those of operators, brackets and blocks above.
leaf_below : (a : Atom) → leaf_kind a < prefix_kind
unfolding leaf_kind
leaf_below (symbol w) = omega arith
leaf_below (number d) = omega arith
leaf_below (quoted c) = omega arith

kind_from : (f : Fixity) → prefix_kind ≤ operator_kind f
unfolding operator_kind
kind_from Prefix = omega arith
kind_from Infix = omega arith
kind_from Postfix = omega arith

kind_to : (f : Fixity) → operator_kind f ≤ postfix_kind
unfolding operator_kind
kind_to Prefix = omega arith
kind_to Infix = omega arith
kind_to Postfix = omega arith

-- A text, its tokens and their offsets, and a node table.
module _ (text : Bytes) (ts : List Token) (o : ℕ → ℕ) (ws : List ℕ) (at-tokens : (i : ℕ) → i ≤ length ts → TokenAt text ts i (o i)) where
  -- The words of an operator's node, whatever its fixity.
  operator_words_lem :
      (f : Fixity) (k a b offset size precedence : ℕ) → OperatorNode ws k f a b offset size precedence
      → (node_kind ws k ≡ operator_kind f) × (node_offset ws k ≡ offset) × (node_precedence ws k ≡ precedence)
  unfolding operator_kind
  operator_words_lem Prefix k a b offset size precedence h = (h.has_kind, h.has_offset, h.has_precedence)
  operator_words_lem Infix k a b offset size precedence h = (h.has_kind, h.has_offset, h.has_precedence)
  operator_words_lem Postfix k a b offset size precedence h = (h.has_kind, h.has_offset, h.has_precedence)

  operator_precedence :
      (l : Tree) (m : Bytes) (r : Tree) (i n k : ℕ) → Subtree text ts o ws (node l m r) i n → suc k ≡ n + count (node l m r)
      → OperatorPrecedence text ts ws k
  unfolding root_precedence
  operator_precedence l m r i n k s e = record {
    fixity = f;
    kind = w.0;
    span = s.place.span;
    among = s.place.among;
    before = s.place.before ++ yield (span_tree l);
    operator = m;
    after = yield (span_tree r) ++ s.place.after;
    cut = operator_cut s.place;
    place = placed;
    own = c.own;
    in_force = ap (λ T. role T m f) s.place.table ∙ in_role;
    precedence = w.2 ∙ own_precedence;
  }
    where
      f : Fixity
      f = form text ts o ws l m r i n s

      w : (node_kind ws k ≡ operator_kind f) × (node_offset ws k ≡ o (i + length (flat l))) × (node_precedence ws k ≡ precedence_over s.table l m r)
      w = operator_words_lem f k _ _ _ _ _ (operator_node text ts o ws l m r i n s k e)

      c : AdmittingRole s.table (span_tree l) m (span_tree r)
      c = admitting_role s.table (span_tree l) m (span_tree r) (over text ts o ws l m r i n s)

      same : c.form ≡ f
      same = let p = c.formed in let q = s.operated.2.1 in cc

      in_role : role s.table m f ≡ some c.own
      in_role = subst (λ g. role s.table m g ≡ some c.own) same c.known

      own_precedence : precedence_over s.table l m r ≡ c.own.precedence
      own_precedence = ap root_precedence (admitting_root c)

      placed : TokenAt text ts (number_behind s.place.span (s.place.before ++ yield (span_tree l))) (node_offset ws k)
      placed =
          rw (operator_number s.place, w.1) (at-tokens (i + length (flat l)) (omega (arith, s.place.within, node-size l m r)))

  -- The node of a subtree's root.
  root_precedence_lem : (t : Tree) (i n k : ℕ) → Subtree text ts o ws t i n → suc k ≡ n + count t → NodePrecedence text ts ws k
  unfolding count
  root_precedence_lem nothing i n k s e = absurd (omega (arith, counted nothing s.there))
  root_precedence_lem (leaf a) i n k s e =
      let w = leaf_node_lem text ts o ws a i n s k e in
      of_operand (λ f g. omega (arith, w.has_kind, leaf_below a, kind_from f)) w.has_precedence
  root_precedence_lem (bracket t) i n k s e =
      let w = bracket_node_lem text ts o ws t i n s k e in
      of_operand (λ f g. omega (arith, w.has_kind, kind_to f)) w.has_precedence
  root_precedence_lem (block ds t) i n k s e =
      let w = block_node_lem text ts o ws ds t i n s k e in
      of_operand (λ f g. omega (arith, w.has_kind, kind_to f)) w.has_precedence
  root_precedence_lem (node l m r) i n k s e = of_operator (operator_precedence l m r i n k s e)

-- Of a table that begins with the words of a text's tree.
pub node_precedences :
    (text : Bytes) (ps : List Placed) → PastChecks text ps → (t : Tree) → IsReading (tokens_of ps) t → (v : List ℕ) (k : ℕ) → k < count t
    → NodePrecedence text (tokens_of ps) (words (offset_of text ps) start_table t 0 0 ++ v) k
node_precedences text ps h t is v k l =
    let r = text_rooted text ps h t is v k l in
    root_precedence_lem text (tokens_of ps) (offset_of text ps) (words (offset_of text ps) start_table t 0 0 ++ v)
    (λ i b. (token_at text ps h.scanned i (offset_of text ps i) (omega (arith, length_tokens ps))).1 refl)
    r.tree r.token r.first k r.subtree r.last
