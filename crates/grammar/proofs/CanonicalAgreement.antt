-- The canonical tree agrees with the tree, and trees that agree have one canonical tree. For the second, `Writes T a c` says what
-- the canonical tree `c` of an abstract tree `a` is: it is one that the abstract tree writes, and there is only one.
use mathlib.Core.Path.{◌≡◌, refl, sym, ap, ap₂, subst, ◌∙◌}
use mathlib.Core.Bool.{Bool, true, false}
use mathlib.Core.List.{List, [], ◌∷◌, map}
use mathlib.Core.Option.{Option}
use lib.Dec.{leb}
use lib.ListN.{length}
use Rattle.grammar.specs.Bytes.{Bytes}
use Rattle.grammar.specs.Token.{atom, symbol, number, quoted, is_number, longest_number, is_token, are_tokens, Atom}
use Rattle.grammar.specs.Operator.{Role, Table}
use Rattle.grammar.specs.Declaration.{Declaration, declares, clears, value, declare_all, declaration_tokens, all_tokens}
use Rattle.grammar.specs.SpanTree.{present, fixity_by, fixity, Position, on_left, on_right, role_over}
use Rattle.grammar.specs.Tree.{Tree, nothing, leaf, bracket, block, node, flat, span_tree, InnerOk}
use Rattle.grammar.specs.Abstract.{Content, name, numeral, content, change, AbstractTree, absent, one, under, operation, abstract}
use Rattle.grammar.specs.Canonical.{strip, strip_declaration, written_name, written_atom, fitted, canonical}
use Rattle.grammar.proofs.Logic.{and_left}
use Rattle.grammar.proofs.Numbers.{value-strip, strip_equal}
use Rattle.grammar.proofs.StripDeclarations.{NumbersOk, declare-strip, change-strip, strip_by_change}
use Rattle.grammar.proofs.CanonicalTree.{fitted_by, written_by, over}
use Rattle.grammar.proofs.CanonicalTokens.{tokens_split, leaf_token, inside_tokens, block_tokens, node_tokens, declared-parts}

-- A leaf as it is written means the same.
written-content : (T : Table) (a : Atom) → content (written_atom T a) ≡ content a
unfolding content
written-content T =
    written_by (λ x y. content y ≡ content x) T (λ x. refl) (λ c e. refl) (λ c e. refl) (λ d. ap numeral (value-strip d))

fitted_agrees : (T : Table) (s : Position) (o : Option Role) (t : Tree) → abstract (fitted T s o t) ≡ abstract t
unfolding abstract
fitted_agrees T s o t = fitted_by (λ u. abstract u ≡ abstract t) T s o t (λ e. refl) (λ e. refl)

-- The canonical tree agrees with the tree.
pub canonical_agrees : (T : Table) (t : Tree) → abstract (canonical T t) ≡ abstract t
unfolding canonical abstract
canonical_agrees T nothing = refl
canonical_agrees T (leaf t) = ap one (written-content T t)
canonical_agrees T (bracket t) = canonical_agrees T t
canonical_agrees T (block ds t) = ap₂ under (change-strip ds) (canonical_agrees (declare_all T ds) t)
canonical_agrees T (node l m r) =
    ap₂ (λ a b. operation a m b)
    (fitted_agrees T on_left _ (canonical T l) ∙ canonical_agrees T l)
    (fitted_agrees T on_right _ (canonical T r) ∙ canonical_agrees T r)

-- Leaves are names, and numbers written in digits, as in declarations; and no bracket is empty: an empty one, taken out, would
-- leave its operator another fixity.
unfoldable pub is_leaf : Atom → Bool
is_leaf (symbol w) = true
is_leaf (number d) = is_number d
is_leaf (quoted c) = true

abbrev pub LeavesOk : Tree → Type 0
LeavesOk nothing = Unit {0}
LeavesOk (leaf t) = is_leaf t ≡ true
LeavesOk (bracket t) = (present (span_tree t) ≡ true) × LeavesOk t
LeavesOk (block ds t) = NumbersOk ds × LeavesOk t
LeavesOk (node l m r) = LeavesOk l × LeavesOk r

is_number_lem : (d : Bytes) → is_token (atom (number d)) ≡ true → is_number d ≡ true
unfolding is_token
is_number_lem d e = and_left (is_number d) (leb (length d) longest_number) e

leaf_ok : (a : Atom) → is_token (atom a) ≡ true → is_leaf a ≡ true
unfolding is_leaf
leaf_ok (symbol w) e = refl
leaf_ok (number d) e = is_number_lem d e
leaf_ok (quoted w) e = refl

numbers_ok : (ds : List Declaration) → are_tokens (all_tokens ds) ≡ true → NumbersOk ds
unfolding all_tokens
numbers_ok [] e = tt
numbers_ok (declares f a d m ∷ ds) e =
    let parts = tokens_split (declaration_tokens (declares f a d m)) (all_tokens ds) e in
    (is_number_lem d (declared-parts f a m d parts.0).1, numbers_ok ds parts.1)
numbers_ok (clears m ∷ ds) e = numbers_ok ds (tokens_split (declaration_tokens (clears m)) (all_tokens ds) e).1

-- So it is in a tree of tokens.
pub leaves_ok : (T : Table) (t : Tree) → InnerOk T t → are_tokens (flat t) ≡ true → LeavesOk t
leaves_ok T nothing i e = tt
leaves_ok T (leaf a) i e = leaf_ok a (leaf_token a e)
leaves_ok T (bracket t) i e = (i.0.1, leaves_ok T t i.1 (inside_tokens t e))
leaves_ok T (block ds t) i e =
    let parts = block_tokens ds t e in
    (numbers_ok ds parts.0, leaves_ok (declare_all T ds) t i.1 parts.1)
leaves_ok T (node l m r) i e =
    let parts = node_tokens l m r e in
    (leaves_ok T l i.0 parts.0, leaves_ok T r i.1 parts.2)

-- An abstract tree says what is there.
there : AbstractTree → Bool
there absent = false
there (one k) = true
there (under cs a) = true
there (operation a m b) = true

present_there : (t : Tree) → LeavesOk t → present (span_tree t) ≡ there (abstract t)
unfolding present span_tree abstract there
present_there nothing h = refl
present_there (leaf t) h = refl
present_there (bracket t) h = sym h.0 ∙ present_there t h.1
present_there (block ds t) h = refl
present_there (node l m r) h = refl

-- `c` is the canonical tree of the abstract tree under `T`.
abbrev WritesLeaf : Table → Content → Tree → Type 0
WritesLeaf T (name w) c = c ≡ leaf (written_name T w)
WritesLeaf T (numeral n) c = (d : Bytes) × (is_number d ≡ true) × (value d ≡ n) × (c ≡ leaf (number (strip d)))

abbrev Writes : Table → AbstractTree → Tree → Type 0
Writes T absent c = c ≡ nothing
Writes T (one k) c = WritesLeaf T k c
Writes T (under cs a) c =
    (ds : List Declaration) × (b : Tree) × NumbersOk ds × (map change ds ≡ cs) × Writes (declare_all T ds) a b
    × (c ≡ block (map strip_declaration ds) b)
Writes T (operation a m b) c =
    (l : Tree) × (r : Tree) × Writes T a l × Writes T b r × (c ≡ over T m (fixity_by (there a) (there b)) l r)

writes_leaf : (T : Table) (a : Atom) → is_leaf a ≡ true → WritesLeaf T (content a) (leaf (written_atom T a))
unfolding is_leaf content written_atom
writes_leaf T (symbol w) h = refl
writes_leaf T (number d) h = (d, h, refl, refl)
writes_leaf T (quoted c) h = refl

writes : (T : Table) (t : Tree) → LeavesOk t → Writes T (abstract t) (canonical T t)
unfolding canonical abstract role_over fixity
writes T nothing h = refl
writes T (leaf t) h = writes_leaf T t h
writes T (bracket t) h = writes T t h.1
writes T (block ds t) h = (ds, canonical (declare_all T ds) t, h.0, refl, writes (declare_all T ds) t h.1, refl)
writes T (node l m r) h = (
  canonical T l,
  canonical T r,
  writes T l h.0,
  writes T r h.1,
  ap (λ f. over T m f (canonical T l) (canonical T r)) (ap₂ fixity_by (present_there l h.0) (present_there r h.1)),
)

writes_one : (T : Table) (k : Content) (c d : Tree) → WritesLeaf T k c → WritesLeaf T k d → c ≡ d
writes_one T (name w) c d p q = p ∙ sym q
writes_one T (numeral n) c d p q =
    p.3 ∙ ap (λ x. leaf (number x)) (strip_equal p.0 q.0 p.1 q.1 (p.2 ∙ sym q.2)) ∙ sym q.3

only_one : (T : Table) (a : AbstractTree) (c d : Tree) → Writes T a c → Writes T a d → c ≡ d
only_one T absent c d p q = p ∙ sym q
only_one T (one k) c d p q = writes_one T k c d p q
only_one T (under cs a) c d p q =
    let declared = strip_by_change p.0 q.0 p.2 q.2 (p.3 ∙ sym q.3) in
    let table = sym (declare-strip T q.0) ∙ ap (declare_all T) (sym declared) ∙ declare-strip T p.0 in
    let body = only_one (declare_all T p.0) a p.1 q.1 p.4 (subst (λ U. Writes U a q.1) table q.4) in
    p.5 ∙ ap₂ block declared body ∙ sym q.5
only_one T (operation a m b) c d p q =
    let l = only_one T a _ _ p.2 q.2 in
    let r = only_one T b _ _ p.3 q.3 in
    p.4 ∙ ap₂ (over T m (fixity_by (there a) (there b))) l r ∙ sym q.4

-- Trees that agree have one canonical tree.
pub canonical_by_agreement :
    (T : Table) (t u : Tree) → LeavesOk t → LeavesOk u → abstract t ≡ abstract u → canonical T t ≡ canonical T u
canonical_by_agreement T t u p q e =
    only_one T (abstract u) _ _ (subst (λ a. Writes T a (canonical T t)) e (writes T t p)) (writes T u q)
