-- Document 01, "Tidy text": when two trees agree.
use Rattle.std.specs.Prelude.{◌≡◌, List, map, ℕ}
use Rattle.grammar.specs.Bytes.{Bytes}
use Rattle.grammar.specs.Token.{Atom, symbol, number, quoted}
use Rattle.grammar.specs.Operator.{Fixity, Associativity}
use Rattle.grammar.specs.Declaration.{Declaration, declares, clears, value}
use Rattle.grammar.specs.Tree.{Tree, nothing, leaf, bracket, block, node}

-- What a leaf means: "names by characters, numbers by value".
pub data Content : Type 0 where
  name : Bytes → Content
  numeral : ℕ → Content

unfoldable pub content : Atom → Content
content (symbol w) = name w
content (number d) = numeral (value d)
content (quoted c) = name c

-- What a declaration means: "token by token, levels by value".
pub data Change : Type 0 where
  gives : Fixity → Associativity → ℕ → Bytes → Change
  takes : Bytes → Change

unfoldable pub change : Declaration → Change
change (declares f a d m) = gives f a (value d) m
change (clears m) = takes m

-- The abstract tree: no brackets, no positions, no way of writing.
-- "A tree with its brackets removed has each bracket node replaced by its child."
pub data AbstractTree : Type 0 where
  absent : AbstractTree
  one : Content → AbstractTree
  under : List Change → AbstractTree → AbstractTree
  operation : AbstractTree → Bytes → AbstractTree → AbstractTree

unfoldable pub abstract : Tree → AbstractTree
abstract nothing = absent
abstract (leaf a) = one (content a)
abstract (bracket t) = abstract t
abstract (block ds t) = under (map change ds) (abstract t)
abstract (node l m r) = operation (abstract l) m (abstract r)

-- "Trees agree if their kinds and children do, names by characters, numbers by value, marks by bytes; declarations agree token by
-- token, levels by value. .. Each block's declarations are held against those of the block in the same position of the other tree."
-- Of two trees with their brackets removed.
abbrev pub Agree : Tree → Tree → Type 0
Agree t u = abstract t ≡ abstract u
