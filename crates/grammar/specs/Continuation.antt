-- Which items can still become a span with a tree, and where the items of a span without one are lost. Nothing here says how it is found.
use Rattle.std.specs.Prelude.{List, [], ◌∷◌, ◌++◌, ◌≡◌}
use Rattle.grammar.specs.Operator.{Table}
use Rattle.grammar.specs.Span.{Item}
use Rattle.grammar.specs.SpanTree.{SpanTree, IsSpanTree}

abbrev pub HasTree : Table → List Item → Type 0
HasTree T is = (s : SpanTree) × IsSpanTree T is s

-- Items that can be continued: some items that begin with them, perhaps they alone, have a tree.
abbrev pub Continuable : Table → List Item → Type 0
Continuable T is = (more : List Item) × HasTree T (is ++ more)

-- What comes behind the items `before`, and with which they are lost: an item with which nothing that begins so has a tree; or the end, where
-- they have none as they are.
abbrev pub LostWith : Table → List Item → List Item → Type 0
LostWith T before [] = HasTree T before → ⊥
LostWith T before (i ∷ is) = Continuable T (before ++ i ∷ []) → ⊥

-- The items are lost behind `before`, and not earlier.
pub record LostBehind (T : Table) (is before : List Item) : Type 0 where
  pub after : List Item
  pub cut : is ≡ before ++ after
  pub continuable : Continuable T before
  pub lost : LostWith T before after
