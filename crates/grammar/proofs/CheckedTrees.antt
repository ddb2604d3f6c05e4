-- Trees whose blocks have allowed declarations and operators that keep the overloading rule. The trees of a text past checks 1 to 10 are
-- such trees: checks 8 and 10 looked at each block of the text, and a tree of the text has no others.
use mathlib.Core.Path.{◌≡◌}
use mathlib.Core.Bool.{true}
use mathlib.Core.List.{List}
use Rattle.grammar.specs.Token.{Token}
use Rattle.grammar.specs.Operator.{Table, Permitted}
use Rattle.grammar.specs.Declaration.{declare_all, are_declarations}
use Rattle.grammar.specs.Tree.{Tree, nothing, leaf, bracket, block, node, flat, SpanOk, InnerOk, IsTree}

abbrev pub InnerChecked : Table → Tree → Type 0
InnerChecked T nothing = Unit {0}
InnerChecked T (leaf a) = Unit {0}
InnerChecked T (bracket t) = SpanOk T t × InnerChecked T t
InnerChecked T (block ds t) =
    (are_declarations ds ≡ true) × Permitted (declare_all T ds) × SpanOk (declare_all T ds) t × InnerChecked (declare_all T ds) t
InnerChecked T (node l m r) = InnerChecked T l × InnerChecked T r

pub record IsCheckedTree (T : Table) (ts : List Token) (t : Tree) : Type 0 where
  pub tokens : flat t ≡ ts
  pub outer : SpanOk T t
  pub inner : InnerChecked T t

pub inner_ok : (T : Table) (t : Tree) → InnerChecked T t → InnerOk T t
inner_ok T nothing h = tt
inner_ok T (leaf a) h = tt
inner_ok T (bracket t) h = (h.0, inner_ok T t h.1)
inner_ok T (block ds t) h = (h.2, inner_ok (declare_all T ds) t h.3)
inner_ok T (node l m r) h = (inner_ok T l h.0, inner_ok T r h.1)

pub checked_tree : {T : Table} {ts : List Token} {t : Tree} → IsCheckedTree T ts t → IsTree T ts t
checked_tree {T} {ts} {t} h = record { tokens = h.tokens; outer = h.outer; inner = inner_ok T t h.inner }
