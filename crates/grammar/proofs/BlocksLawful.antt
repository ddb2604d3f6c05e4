-- Every block of a tree whose tokens passed checks 8 to 10 and 17 has allowed declarations, none of a reserved operator, and operators that
-- keep the overloading rule: the items of the tokens are those of the tree, so the checks looked at each block of it, under the operators in
-- force there.
use mathlib.Core.Path.{◌≡◌, ap, ◌∙◌}
use mathlib.Core.List.{List, ◌∷◌}
use Prim.Native.Nat.{ℕ, zero, suc, ◌<◌, ◌≤◌}
use native.Mathlib.Omega.{arith}
use lib.ListN.{length}
use Rattle.grammar.specs.Bytes.{All}
use Rattle.grammar.specs.Token.{Token, symbol}
use Rattle.grammar.specs.Outcome.{passed}
use Rattle.grammar.specs.Operator.{Table, Permitted}
use Rattle.grammar.specs.Declaration.{declare_all, declarations, all_tokens}
use Rattle.grammar.specs.Span.{single, items}
use Rattle.grammar.specs.SpanTree.{yield}
use Rattle.grammar.specs.Tree.{Tree, nothing, leaf, bracket, block, node, flat, span_tree, InnerOk, IsTree}
use Rattle.grammar.specs.Blocks.{check_blocks}
use Rattle.grammar.specs.Claim.{BlocksLawful}
use Rattle.grammar.proofs.Lists.{all_left, all_right}
use Rattle.grammar.proofs.Items.{items-flat}
use Rattle.grammar.proofs.ItemLists.{CheckedBy, check_items_passed}
use Rattle.grammar.proofs.Declarations.{enter_sound}
use Rattle.grammar.proofs.DeclarationTokens.{declarations_told}
use Rattle.grammar.proofs.OverloadingTest.{permitted_sound}
use Rattle.grammar.proofs.CheckedTrees.{InnerChecked, IsCheckedTree}
use Rattle.grammar.proofs.TextTree.{bracket_shorter, block_shorter, left_shorter, right_shorter}

module _ (j : ℕ) (below : (T : Table) (i : ℕ) (t : Tree) → length (flat t) < j → check_blocks j T i (flat t) ≡ passed tt → BlocksLawful T t) where
  part_lawful : (T : Table) (t : Tree) → length (flat t) ≤ j → All (CheckedBy (check_blocks j) T) (yield (span_tree t)) → BlocksLawful T t
  unfolding yield span_tree
  part_lawful T nothing n k = tt
  part_lawful T (leaf a) n k = tt
  part_lawful T (bracket t) n k = below T k.0.0 t (bracket_shorter t j n) k.0.1
  part_lawful T (block ds t) n k =
      let c = k.0 in
      let (w, a, u, l, r) = enter_sound T c.0 (all_tokens ds) c.1 c.3 in
      let d : declarations (all_tokens ds) ≡ ds = declarations_told (declarations (all_tokens ds)) ds w in
      let e : c.1 ≡ declare_all T ds = u ∙ ap (declare_all T) d in
      let m : Permitted c.1 = permitted_sound c.1 l in
      (rw d at a, rw d at r, rw e at m, below (declare_all T ds) c.2 t (block_shorter ds t j n) (rw e at c.4))
  part_lawful T (node l m r) n k =
      let P = CheckedBy (check_blocks j) T in
      let xs = yield (span_tree l) in
      let ys = yield (span_tree r) in (
        part_lawful T l (left_shorter l m r j n) (all_left P xs (single (symbol m) ∷ ys) k),
        part_lawful T r (right_shorter l m r j n) (all_right P xs (single (symbol m) ∷ ys) k).1,
      )

pub blocks_lawful : (j : ℕ) (T : Table) (i : ℕ) (t : Tree) → length (flat t) < j → check_blocks j T i (flat t) ≡ passed tt → BlocksLawful T t
unfolding check_blocks
blocks_lawful zero T i t n e = absurd (omega arith)
blocks_lawful (suc j) T i t n e =
    part_lawful j (blocks_lawful j) T t (omega arith) (rw (items-flat t) at (check_items_passed (check_blocks j) T i (items (flat t)) e))

inner_checked : (T : Table) (t : Tree) → InnerOk T t → BlocksLawful T t → InnerChecked T t
inner_checked T nothing h b = tt
inner_checked T (leaf a) h b = tt
inner_checked T (bracket t) h b = (h.0, inner_checked T t h.1 b)
inner_checked T (block ds t) h b = (b.0, b.2, h.0, inner_checked (declare_all T ds) t h.1 b.3)
inner_checked T (node l m r) h b = (inner_checked T l h.0 b.0, inner_checked T r h.1 b.1)

-- So every tree of such tokens is one whose blocks are checked.
pub tree_checked :
    (j : ℕ) (T : Table) (i : ℕ) (ts : List Token) (t : Tree) → length ts < j → check_blocks j T i ts ≡ passed tt → IsTree T ts t → IsCheckedTree T ts t
tree_checked j T i ts t n e h =
    let q = h.tokens in
    record {
      tokens = q;
      outer = h.outer;
      inner = inner_checked T t h.inner (blocks_lawful j T i t (rw q n) (rw q e));
    }
