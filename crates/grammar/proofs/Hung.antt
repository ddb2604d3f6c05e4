-- What hangs under a bracket, a block or an operator, where a tree is hung together.
use mathlib.Core.Path.{◌≡◌, refl}
use mathlib.Core.List.{List}
use mathlib.Core.Option.{Option, none, some}
use Rattle.grammar.specs.Bytes.{Bytes}
use Rattle.grammar.specs.Declaration.{Declaration}
use Rattle.grammar.specs.Tree.{Tree, bracket, block, node}
use Rattle.grammar.specs.Blocks.{under_bracket, under_block, under_operator}
use Rattle.grammar.proofs.Logic.{impossible}

pub under_bracket_some : (o : Option Tree) (t : Tree) → under_bracket o ≡ some t → (u : Tree) × (o ≡ some u) × (t ≡ bracket u)
unfolding under_bracket
under_bracket_some none t e = impossible cc
under_bracket_some (some u) t e = (u, refl, cc)

pub under_block_some : (ds : List Declaration) (o : Option Tree) (t : Tree) → under_block ds o ≡ some t → (u : Tree) × (o ≡ some u) × (t ≡ block ds u)
unfolding under_block
under_block_some ds none t e = impossible cc
under_block_some ds (some u) t e = (u, refl, cc)

pub under_operator_some :
    (m : Bytes) (o p : Option Tree) (t : Tree) → under_operator m o p ≡ some t
    → (l : Tree) × (r : Tree) × (o ≡ some l) × (p ≡ some r) × (t ≡ node l m r)
unfolding under_operator
under_operator_some m none p t e = impossible cc
under_operator_some m (some l) none t e = impossible cc
under_operator_some m (some l) (some r) t e = (l, r, refl, refl, cc)
