-- Checks 8 to 10 and 17, seen from a tree: its tokens pass them exactly where the declarations of each of its blocks do.
use mathlib.Core.Path.{◌≡◌, refl, sym, ap, ◌∙◌}
use mathlib.Core.Bool.{Bool, true, false}
use mathlib.Core.List.{List, [], ◌∷◌, map}
use mathlib.Core.Option.{Option, none, some}
use Prim.Native.Nat.{ℕ, zero, suc, ◌+◌, ◌≤◌, ◌<◌}
use native.Mathlib.Omega.{arith}
use lib.ListN.{length}
use Rattle.grammar.specs.Token.{Token, symbol}
use Rattle.grammar.specs.Outcome.{Outcome, passed, and_then}
use Rattle.grammar.specs.Operator.{Role, Table}
use Rattle.grammar.specs.Declaration.{declare_all, all_tokens, enter}
use Rattle.grammar.specs.Span.{Item, single, items, item_tokens}
use Rattle.grammar.specs.SpanTree.{yield, Position, on_left, on_right, admits, root, role_over}
use Rattle.grammar.specs.Tree.{Tree, nothing, leaf, bracket, block, node, flat, span_tree}
use Rattle.grammar.specs.Blocks.{check_item, check_items, check_blocks}
use Rattle.grammar.specs.Canonical.{strip_declaration, fitted, canonical}
use Rattle.grammar.proofs.CheckedTrees.{InnerChecked}
use Rattle.grammar.specs.Bytes.{All}
use Rattle.grammar.proofs.Lists.{all_left, all_right, all_append}
use Rattle.grammar.proofs.Items.{items-flat}
use Rattle.grammar.proofs.ItemLists.{CheckedBy, check_items_passed}
use Rattle.grammar.proofs.Declarations.{declarations_of_lem, enter_sound, enter_anywhere}
use Rattle.grammar.proofs.StripDeclarations.{declare-strip, enter-strip}
use Rattle.grammar.proofs.TextTree.{bracket_shorter, block_shorter, left_shorter, right_shorter}

-- The declarations of each block pass, under the operators in force there.
abbrev pub Enters : Table → Tree → Type 0
Enters T nothing = Unit {0}
Enters T (leaf t) = Unit {0}
Enters T (bracket t) = Enters T t
Enters T (block ds t) =
    (i : ℕ) × (enter (length (all_tokens ds)) T i (all_tokens ds) ≡ passed (declare_all T ds)) × Enters (declare_all T ds) t
Enters T (node l m r) = Enters T l × Enters T r

module _ (j : ℕ)
    (below : (T : Table) (i : ℕ) (t : Tree) → InnerChecked T t → length (flat t) < j → check_blocks j T i (flat t) ≡ passed tt → Enters T t) where
  part_enters :
      (T : Table) (t : Tree) → InnerChecked T t → length (flat t) ≤ j → All (CheckedBy (check_blocks j) T) (yield (span_tree t)) → Enters T t
  unfolding yield span_tree
  part_enters T nothing h n k = tt
  part_enters T (leaf t) h n k = tt
  part_enters T (bracket t) h n k = below T k.0.0 t h.1 (bracket_shorter t j n) k.0.1
  part_enters T (block ds t) h n k =
      let c = k.0 in
      let g = enter_sound T c.0 (all_tokens ds) c.1 c.3 in
      let e : c.1 ≡ declare_all T ds = g.2 ∙ ap (declare_all T) (declarations_of_lem ds h.0) in
      (c.0, c.3 ∙ ap passed e, below (declare_all T ds) c.2 t h.3 (block_shorter ds t j n) (rw e at c.4))
  part_enters T (node l m r) h n k =
      let P = CheckedBy (check_blocks j) T in
      let xs = yield (span_tree l) in
      let ys = yield (span_tree r) in (
        part_enters T l h.0 (left_shorter l m r j n) (all_left P xs (single (symbol m) ∷ ys) k),
        part_enters T r h.1 (right_shorter l m r j n) (all_right P xs (single (symbol m) ∷ ys) k).1,
      )

pub checked_enters :
    (j : ℕ) (T : Table) (i : ℕ) (t : Tree) → InnerChecked T t → length (flat t) < j → check_blocks j T i (flat t) ≡ passed tt
    → Enters T t
unfolding check_blocks
checked_enters zero T i t h n e = absurd (omega arith)
checked_enters (suc j) T i t h n e =
    part_enters j (checked_enters j) T t h (omega arith)
    (rw (items-flat t) at (check_items_passed (check_blocks j) T i (items (flat t)) e))

-- An item that passes wherever it stands.
module _ (inner : Table → ℕ → List Token → Outcome (Unit {0})) where
  abbrev Passes : Table → Item → Type 0
  Passes T x = (i : ℕ) → check_item inner T i x ≡ passed tt

  passes_all : (T : Table) (xs : List Item) → All (Passes T) xs → (i : ℕ) → check_items inner T i xs ≡ passed tt
  unfolding check_items and_then
  passes_all T [] h i = refl
  passes_all T (x ∷ xs) h i =
      ap (λ o. and_then o (λ u. check_items inner T (i + length (item_tokens x)) xs)) (h.0 i) ∙ passes_all T xs h.1 (i + length (item_tokens x))

module _ (j : ℕ)
    (below : (T : Table) (t : Tree) → InnerChecked T t → Enters T t → (i : ℕ) → check_blocks j T i (flat t) ≡ passed tt) where
  part_passes : (T : Table) (t : Tree) → InnerChecked T t → Enters T t → All (Passes (check_blocks j) T) (yield (span_tree t))
  unfolding yield span_tree check_item and_then
  part_passes T nothing h e = tt
  part_passes T (leaf t) h e = ((λ i. refl), tt)
  part_passes T (bracket t) h e = ((λ i. below T t h.1 e (suc i)), tt)
  part_passes T (block ds t) h e = (
    (λ i.
        let g = enter_anywhere T e.0 (suc i) ds (declare_all T ds) h.0 e.1 in
        ap (λ o. and_then o (λ U. check_blocks j U (suc (suc (i + length (all_tokens ds)))) (flat t))) g
        ∙ below (declare_all T ds) t h.3 e.2 (suc (suc (i + length (all_tokens ds))))),
    tt,
  )
  part_passes T (node l m r) h e =
      all_append (Passes (check_blocks j) T) (yield (span_tree l)) (single (symbol m) ∷ yield (span_tree r))
      (part_passes T l h.0 e.0) ((λ i. refl), part_passes T r h.1 e.1)

pub enters_checked :
    (j : ℕ) (T : Table) (t : Tree) → InnerChecked T t → Enters T t → (i : ℕ) → check_blocks j T i (flat t) ≡ passed tt
unfolding check_blocks
enters_checked zero T t h e i = refl
enters_checked (suc j) T t h e i =
    rw (items-flat t)
    (passes_all (check_blocks j) T (yield (span_tree t)) (part_passes j (enters_checked j) T t h e) i)

-- The canonical tree's blocks pass where the tree's own do.
fitted_enters : (T : Table) (s : Position) (r : Option Role) (t : Tree) → Enters T t → Enters T (fitted T s r t)
unfolding fitted
fitted_enters T s none t e = e
fitted_enters T s (some r) t e = go (admits s r (root T (span_tree t))) refl
  where
    go : (b : Bool) → admits s r (root T (span_tree t)) ≡ b → Enters T (fitted T s (some r) t)
    go true q = rw (q, fitted) e
    go false q = rw (q, fitted) e

pub canonical_enters : (T : Table) (t : Tree) → InnerChecked T t → Enters T t → Enters T (canonical T t)
unfolding canonical
canonical_enters T nothing h e = tt
canonical_enters T (leaf t) h e = tt
canonical_enters T (bracket t) h e = canonical_enters T t h.1 e
canonical_enters T (block ds t) h e =
    let d : declare_all T (map strip_declaration ds) ≡ declare_all T ds = declare-strip T ds in (
      e.0,
      enter-strip T e.0 e.0 ds (declare_all T ds) h.0 e.1 ∙ ap passed (sym d),
      rw d (canonical_enters (declare_all T ds) t h.3 e.2),
    )
canonical_enters T (node l m r) h e =
    let q = role_over T (span_tree l) m (span_tree r) in (
      fitted_enters T on_left q (canonical T l) (canonical_enters T l h.0 e.0),
      fitted_enters T on_right q (canonical T r) (canonical_enters T r h.1 e.1),
    )
