-- Document 01, "Trees": what is a tree of a text. Nothing here says how one is found.
use Rattle.std.specs.Prelude.{◌≡◌, true, List, [], ◌∷◌, ◌++◌, ℕ, suc, max}
use Rattle.grammar.specs.Bytes.{Bytes}
use Rattle.grammar.specs.Token.{Atom, symbol, opening, closing, keyword_let, keyword_in, keyword_end, Token, atom, structure}
use Rattle.grammar.specs.Operator.{Table}
use Rattle.grammar.specs.Declaration.{Declaration, declare_all, all_tokens}
use Rattle.grammar.specs.Span.{single, pair, scope}
use Rattle.grammar.specs.SpanTree.{SpanTree, missing, operand, apply, present, Admitted}

-- A tree of a text: bracket pairs and blocks have the tree of their inside.
pub data Tree : Type 0 where
  nothing : Tree
  leaf : Atom → Tree
  bracket : Tree → Tree
  block : List Declaration → Tree → Tree
  node : Tree → Bytes → Tree → Tree

-- The tokens of a tree, in order.
unfoldable pub flat : Tree → List Token
flat nothing = []
flat (leaf a) = atom a ∷ []
flat (bracket t) = structure opening ∷ flat t ++ structure closing ∷ []
flat (block ds t) = structure keyword_let ∷ all_tokens ds ++ structure keyword_in ∷ flat t ++ structure keyword_end ∷ []
flat (node l m r) = flat l ++ atom (symbol m) ∷ flat r

-- How deep brackets and blocks stand in one another.
unfoldable pub depth : Tree → ℕ
depth nothing = 0
depth (leaf a) = 0
depth (bracket t) = suc (depth t)
depth (block ds t) = suc (depth t)
depth (node l m r) = max (depth l) (depth r)

-- The tree of the outermost span of a tree.
unfoldable pub span_tree : Tree → SpanTree
span_tree nothing = missing
span_tree (leaf a) = operand (single a)
span_tree (bracket t) = operand (pair (flat t))
span_tree (block ds t) = operand (scope (all_tokens ds) (flat t))
span_tree (node l m r) = apply (span_tree l) m (span_tree r)

-- A tree of a span, inner bracket pairs and blocks left aside.
abbrev pub SpanOk : Table → Tree → Type 0
SpanOk T t = Admitted T (span_tree t) × (present (span_tree t) ≡ true)

-- "A tree of a text is a tree of each of its spans, an inner one hung under its bracket or block node." "The body is read under
-- the outer table with these changes; after `end` the outer table is back."
abbrev pub InnerOk : Table → Tree → Type 0
InnerOk T nothing = Unit {0}
InnerOk T (leaf a) = Unit {0}
InnerOk T (bracket t) = SpanOk T t × InnerOk T t
InnerOk T (block ds t) = SpanOk (declare_all T ds) t × InnerOk (declare_all T ds) t
InnerOk T (node l m r) = InnerOk T l × InnerOk T r

-- `t` is a tree of the tokens `ts` under the operators `T`. "Two trees of a text are the same if at every node they have the
-- same kind over the same tokens": two trees of the same tokens are the same where they are equal.
pub record IsTree (T : Table) (ts : List Token) (t : Tree) : Type 0 where
  pub tokens : flat t ≡ ts
  pub outer : SpanOk T t
  pub inner : InnerOk T t
