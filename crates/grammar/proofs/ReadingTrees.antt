-- What tokens are read as, said alike of none and of some: a tree of just these tokens in which every operand is admitted. Of none it is the
-- blank rule; of some it is there, and so a tree of them.
use mathlib.Core.Path.{◌≡◌, refl, ap}
use mathlib.Core.List.{List, [], ◌∷◌}
use mathlib.Core.Option.{some}
use Prim.Native.Nat.{◌<◌}
use native.Mathlib.Omega.{arith}
use lib.ListN.{length}
use Rattle.grammar.specs.Token.{Token}
use Rattle.grammar.specs.Declaration.{start_table}
use Rattle.grammar.specs.SpanTree.{Admitted}
use Rattle.grammar.specs.Tree.{Tree, flat, span_tree}
use Rattle.grammar.specs.Blank.{blank_rule}
use Rattle.grammar.specs.Answer.{reading_tree}
use Rattle.grammar.proofs.CheckedTrees.{InnerChecked, IsCheckedTree, inner_ok}
use Rattle.grammar.proofs.OverloadingTest.{permitted-start}
use Rattle.grammar.proofs.Operands.{Operated, operated}
use Rattle.grammar.proofs.Present.{some_token, no_token}
use Rattle.grammar.proofs.TextTree.{tree_of_complete}

pub record IsReading (ts : List Token) (t : Tree) : Type 0 where
  pub tokens : flat t ≡ ts
  pub admitted : Admitted start_table (span_tree t)
  pub inner : InnerChecked start_table t

-- Of some tokens it is their tree, ..
pub of_tree_lem : {ts : List Token} {t : Tree} → IsCheckedTree start_table ts t → IsReading ts t
of_tree_lem h = record { tokens = h.tokens; admitted = h.outer.0; inner = h.inner }

pub is_tree_lem : {ts : List Token} {t : Tree} → 0 < length ts → IsReading ts t → IsCheckedTree start_table ts t
is_tree_lem {t = t} l h =
    record { tokens = h.tokens; outer = (h.admitted, some_token t (omega (arith, ap length h.tokens))); inner = h.inner }

-- .. and of none the blank rule.
pub of_none : IsReading [] blank_rule
unfolding flat span_tree
of_none = record { tokens = refl; admitted = tt; inner = tt }

pub is_blank_lem : {t : Tree} → IsReading [] t → t ≡ blank_rule
is_blank_lem {t} h = no_token t (ap length h.tokens)

-- Every operator in it has an operand.
pub reading_operated : {ts : List Token} {t : Tree} → IsReading ts t → Operated t
reading_operated {t = t} h = operated start_table t h.admitted (inner_ok start_table t h.inner)

-- It is what the definition gives, and so the only one.
pub reading_complete : (ts : List Token) (t : Tree) → IsReading ts t → reading_tree ts ≡ some t
unfolding reading_tree
reading_complete [] t h = rw (is_blank_lem h)
reading_complete (x ∷ ts) t h = tree_of_complete start_table permitted-start (x ∷ ts) t (is_tree_lem (omega arith) h)

pub reading_unique : (ts : List Token) (t u : Tree) → IsReading ts t → IsReading ts u → t ≡ u
reading_unique ts t u h g =
    let p = reading_complete ts t h in
    let q = reading_complete ts u g in
    cc
