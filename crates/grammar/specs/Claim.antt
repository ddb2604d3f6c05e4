-- What the claims speak of, besides the definitions of the other files.
use Rattle.std.specs.Prelude.{◌≡◌, true, false, List, [], ◌∷◌, ◌++◌, ℕ, ◌≤◌, length}
use Rattle.std.proofs.Math.Option.{Option, none, some}
use Rattle.grammar.specs.Bytes.{Bytes, All}
use Rattle.grammar.specs.Token.{keyword_let, keyword_in, structure, Atom, symbol, spelling, Token}
use Rattle.grammar.specs.Spelling.{Spells, TokenAt}
use Rattle.grammar.specs.Declaration.{Declaration, all_tokens, start_table, are_declarations, Free, declare_all}
use Rattle.grammar.specs.Span.{Item}
use Rattle.grammar.specs.SpanTree.{SpanTree, missing, operand, apply, IsSpanTree}
use Rattle.grammar.specs.Climb.{symbol_at}
use Rattle.grammar.specs.Tree.{Tree, nothing, leaf, bracket, block, node, IsTree, flat, depth}
use Rattle.grammar.specs.Blank.{Blank, blank_rule}
use Rattle.grammar.specs.Canonical.{canonical, canonical_text, NoSpare}
use Rattle.grammar.specs.Operator.{Permitted, Table, in_force}
use Rattle.grammar.specs.Spans.{start_of, number_behind, Span, SpanOf}
use Rattle.grammar.specs.Continuation.{LostBehind}
use Rattle.grammar.specs.Fault.{Rules, current, PastUnder, Past}
use Rattle.grammar.specs.Abstract.{Agree}

-- What each node stands for, in the order of the table: a name, a number or an operator; none for a bracket or block.
unfoldable pub node_atoms : Tree → List (Option Atom)
node_atoms nothing = []
node_atoms (leaf a) = some a ∷ []
node_atoms (bracket t) = node_atoms t ++ none ∷ []
node_atoms (block ds t) = node_atoms t ++ none ∷ []
node_atoms (node l m r) = node_atoms l ++ (node_atoms r ++ some (symbol m) ∷ [])

-- The declarations of each block, in the order of the table; none for another node.
unfoldable pub node_blocks : Tree → List (Option (List Declaration))
node_blocks nothing = []
node_blocks (leaf a) = none ∷ []
node_blocks (bracket t) = node_blocks t ++ none ∷ []
node_blocks (block ds t) = node_blocks t ++ some ds ∷ []
node_blocks (node l m r) = node_blocks l ++ (node_blocks r ++ none ∷ [])

-- "a block has `let` to `in` inclusive": text that begins with `let`, ends with `in`, and spells them with the declarations between.
pub record FromLetToIn (ds : List Declaration) (s : Bytes) : Type 0 where
  pub begins : (x : Bytes) × (s ≡ spelling (structure keyword_let) ++ x)
  pub ends : (x : Bytes) × (s ≡ x ++ spelling (structure keyword_in))
  pub spells : Spells s (structure keyword_let ∷ all_tokens ds ++ structure keyword_in ∷ [])

-- Each block of a tree has allowed declarations, none of a reserved operator, and its operators keep the overloading rule. (Not part of what
-- a tree is: of a text past checks 1 to 10 and 17 it holds of every tree.)
abbrev pub BlocksLawful : Table → Tree → Type 0
BlocksLawful T nothing = Unit {0}
BlocksLawful T (leaf a) = Unit {0}
BlocksLawful T (bracket t) = BlocksLawful T t
BlocksLawful T (block ds t) =
    (are_declarations ds ≡ true) × All Free ds × Permitted (declare_all T ds) × BlocksLawful (declare_all T ds) t
BlocksLawful T (node l m r) = BlocksLawful T l × BlocksLawful T r

-- The words and signs with a role in force among items, and the operators of a tree of a span, each in their order.
unfoldable pub in_force_at : Table → Item → List Bytes
in_force_at T i = elim (symbol_at i) [ none ↦ [] | some w ↦ elim (in_force T w) [ true ↦ w ∷ [] | false ↦ [] ] ]

unfoldable pub operators_among : Table → List Item → List Bytes
operators_among T [] = []
operators_among T (i ∷ is) = in_force_at T i ++ operators_among T is

unfoldable pub operators_of : SpanTree → List Bytes
operators_of missing = []
operators_of (operand i) = []
operators_of (apply l m r) = operators_of l ++ m ∷ operators_of r

-- A span without a tree.
abbrev pub HasNoTree : Span → Type 0
HasNoTree s = (t : SpanTree) → IsSpanTree s.table s.contents t → ⊥

-- "0, the `(`, or the `in`": the place of a span by its opener.
abbrev pub SpanPlace : Bytes → List Token → Option ℕ → ℕ → Type 0
SpanPlace text ts none p = p ≡ 0
SpanPlace text ts (some i) p = TokenAt text ts i p

-- `p` is the place of the first span of the text, by its start, that has no tree: "11 for the first span by its start".
pub record FirstWithout (text : Bytes) (ts : List Token) (p : ℕ) : Type 0 where
  pub span : Span
  pub among : SpanOf ts span
  pub treeless : HasNoTree span
  pub first : (s : Span) → SpanOf ts s → HasNoTree s → start_of span.opener ≤ start_of s.opener
  pub place : SpanPlace text ts span.opener p

-- `p` is the place at which that span is lost: the first byte of its first item with which nothing that begins so has a tree; where its items
-- could go on, the place at which it ends, its closer or the text's length.
pub record LostAt (text : Bytes) (ts : List Token) (p : ℕ) : Type 0 where
  pub opener : ℕ
  pub without : FirstWithout text ts opener
  pub before : List Item
  pub lost : LostBehind without.span.table without.span.contents before
  pub place : TokenAt text ts (number_behind without.span before) p

-- "An empty bracket pair or block body" in a text past checks 1 to 10 (02, §7).
pub record EmptyInside (text : Bytes) : Type 0 where
  pub tokens : List Token
  pub past : Past text tokens
  pub span : Span
  pub among : SpanOf tokens span
  pub opener : ℕ
  pub opened : span.opener ≡ some opener
  pub empty : span.contents ≡ []

-- `t` is a tree of the text, which is past checks 1 to 10 and 17.
pub record TreeUnder (rules : Rules) (text : Bytes) (t : Tree) : Type 0 where
  pub tokens : List Token
  pub past : PastUnder rules text tokens
  pub is_tree : IsTree start_table tokens t

abbrev pub TreeOf : Bytes → Tree → Type 0
TreeOf = TreeUnder current

-- What a text reads as: its tree. 02, §7: "A text that is empty or all blanks, past check 1, is now read".
pub data ReadingUnder (rules : Rules) (text : Bytes) : Tree → Type 0 where
  of_tree : {t : Tree} → TreeUnder rules text t → ReadingUnder rules text t
  of_blank : Blank text → ReadingUnder rules text blank_rule

abbrev pub ReadingOf : Bytes → Tree → Type 0
ReadingOf = ReadingUnder current

-- The tree and the bytes of the canonical text of a rule that reads as `t`.
abbrev pub canonical_tree : Tree → Tree
canonical_tree t = canonical start_table t

abbrev pub canonical_bytes : Tree → Bytes
canonical_bytes t = canonical_text (canonical_tree t)

-- The canonical tree agrees with the tree; no bracket of it is spare; it has no more tokens and no greater depth.
pub record Faithful (t : Tree) : Type 0 where
  pub agrees : Agree (canonical_tree t) t
  pub tight : NoSpare start_table false (canonical_tree t)
  pub fewer : length (flat (canonical_tree t)) ≤ length (flat t)
  pub shallower : depth (canonical_tree t) ≤ depth t
