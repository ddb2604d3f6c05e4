-- The tokens of a tree stand in the row: each subtree has a range of its own there, and what the row has of a token is what the text has of it.
use mathlib.Core.Path.{◌≡◌, refl, sym, ap, ◌∙◌}
use mathlib.Core.Bool.{Bool, true, false, ◌||◌}
use mathlib.Core.List.{List, [], ◌∷◌}
use Prim.Native.Nat.{ℕ, suc, ◌+◌, ◌≤◌, ◌<◌}
use native.Mathlib.Omega.{arith}
use lib.ListN.{length}
use Rattle.grammar.specs.Bytes.{Bytes}
use Rattle.grammar.specs.Token.{Atom, atom, symbol, as_written}
use Rattle.grammar.specs.Operator.{Table}
use Rattle.grammar.specs.Declaration.{declare_all, all_tokens}
use Rattle.grammar.specs.Scan.{Placed}
use Rattle.grammar.specs.Span.{items}
use Rattle.grammar.specs.Span as Span
use Rattle.grammar.specs.SpanTree.{SpanTree, yield, present, fixity, fixity_by, role_over, role_of_fixity, root, admits_both, Admitted}
use Rattle.grammar.specs.Tree.{Tree, nothing, leaf, bracket, block, node, flat, span_tree, InnerOk}
use Rattle.grammar.specs.Coded.{kind_of}
use Rattle.grammar.specs.Answer.{Reading, offset_of}
use Rattle.grammar.proofs.Logic.{impossible}
use Rattle.grammar.proofs.Items.{items-flat}
use Rattle.rows.specs.Fields.{TokenRow, NoteRow, RootRow, kind}
use Rattle.rows.specs.Tokens.{token_in, range, place_of, size_of, Stored}
use Rattle.rows.specs.Agreeing.{Agrees}
use Rattle.rows.specs.Standing.{Tokened}
use Rattle.rows.specs.Reading.{Ready}
use Rattle.rows.proofs.Ranges.{token_atom, length-range}
use Rattle.rows.proofs.TokenBytes.{place_offset}
use Rattle.rows.proofs.Stored.{stored_kind, stored_place, stored_size, stored_offset, stored_tokens}
use Rattle.rows.proofs.Standing.{AtomHere, agrees_split, atom_here, pair_here, block_here, span_tokens}

-- Every bracket pair and block holds something, and every operator has an operand.
abbrev pub Holding : Tree → Type 0
Holding nothing = Unit {0}
Holding (leaf a) = Unit {0}
Holding (bracket t) = (present (span_tree t) ≡ true) × Holding t
Holding (block ds t) = (present (span_tree t) ≡ true) × Holding t
Holding (node l m r) = (present (span_tree l) || present (span_tree r) ≡ true) × Holding l × Holding r

-- An operator that admits its operands has one.
operand_there : (T : Table) (l : SpanTree) (m : Bytes) (r : SpanTree) → Admitted T l
    → admits_both (role_over T l m r) (root T l) (root T r) ≡ true → present l || present r ≡ true
unfolding role_over fixity fixity_by role_of_fixity admits_both
operand_there T l m r a e = go (present l) refl (present r) refl
  where
    go : (x : Bool) → present l ≡ x → (y : Bool) → present r ≡ y → present l || present r ≡ true
    go true f y g = rw f
    go false f true g = rw (f, g)
    go false f false g = let z : false ≡ true = rw (f, g) at e in impossible cc

pub tree_holding : (T : Table) (t : Tree) → Admitted T (span_tree t) → InnerOk T t → Holding t
unfolding span_tree
tree_holding T nothing a i = tt
tree_holding T (leaf x) a i = tt
tree_holding T (bracket t) a i = (i.0.1, tree_holding T t i.0.0 i.1)
tree_holding T (block ds t) a i = (i.0.1, tree_holding (declare_all T ds) t i.0.0 i.1)
tree_holding T (node l m r) a i = (
  operand_there T (span_tree l) m (span_tree r) a.0 a.2,
  tree_holding T l a.0 i.0,
  tree_holding T r a.1 i.1,
)

module _ {text : Bytes} {ps : List Placed} {K : TokenRow} (v : Stored text ps K) (R : NoteRow) where
  -- What the row has of an atom.
  atom_kind_lem :
      {T : Table} {i to : ℕ} {a : Atom} {ys : List Span.Item} → to ≤ length ps
      → AtomHere text K R T i to a ys → kind K i ≡ kind_of (atom a)
  atom_kind_lem {i = i} l h = stored_kind v i (omega (arith, h.within)) ∙ ap kind_of (token_atom text K i h.is_atom ∙ ap atom h.same)

  atom_token : {T : Table} {i to : ℕ} {a : Atom} {ys : List Span.Item} → AtomHere text K R T i to a ys → token_in text K i ≡ atom a
  atom_token {i = i} h = token_atom text K i h.is_atom ∙ ap atom h.same

  tokened :
      (t : Tree) {T : Table} {i to : ℕ} → Holding t → to ≤ length ps → Agrees text K R T i to → items (range text K i to) ≡ yield (span_tree t)
      → Tokened (offset_of text ps) K i t
  unfolding span_tree yield kind_of place_of size_of as_written
  tokened nothing g l p e = tt
  tokened (leaf a) {i = i} g l p e =
      let h = atom_here text K R p a [] e in
      let j : i < length ps = omega (arith, h.within) in (
        atom_kind_lem l h,
        stored_place v i j ∙ ap (λ t. place_of t (offset_of text ps i)) (atom_token h) ∙ place_offset a (offset_of text ps i),
        stored_size v i j ∙ ap size_of (atom_token h),
      )
  tokened (bracket t) {i = i} g l p e =
      let h = pair_here text K R p (flat t) [] e in
      let n : h.at ≡ suc (i + length (flat t)) =
      omega (arith, h.before, length-range text K (suc i) h.at, ap length h.inside) in (
        h.is_opening,
        h.closes ∙ n,
        g.0,
        tokened t g.1 (omega (arith, h.within)) h.inner (ap items h.inside ∙ items-flat t),
      )
  tokened (block ds t) {i = i} g l p e =
      let h = block_here text K R p (all_tokens ds) (flat t) [] e in
      let c : h.body ≡ suc (i + length (all_tokens ds)) =
      omega (arith, h.before, length-range text K (suc i) h.body, ap length h.declared) in
      let n : h.at ≡ suc (h.body + length (flat t)) =
      omega (arith, h.between, length-range text K (suc h.body) h.at, ap length h.inside) in
      let there = tokened t g.1 (omega (arith, h.within)) h.inner (ap items h.inside ∙ items-flat t) in
      rw (← c) (
        h.is_let,
        stored_offset v i (omega (arith, h.before, h.between, h.within)) (λ k. absurd (omega (arith, h.is_let))),
        h.opens,
        stored_offset v h.body (omega (arith, h.between, h.within)) (λ k. absurd (omega (arith, h.is_in))),
        h.closes ∙ n,
        g.0,
        there,
      )
  tokened (node x m y) {T} {i} {to} g l p e =
      let s = agrees_split text K R p (yield (span_tree x)) (Span.single (symbol m) ∷ yield (span_tree y)) e in
      let a = s.0 in
      let c : a ≡ i + length (flat x) = s.1.place ∙ ap (λ ts. i + length ts) (span_tokens x) in
      let h = atom_here text K R s.1.back (symbol m) (yield (span_tree y)) s.1.second in
      let j : a < length ps = omega (arith, h.within) in
      rw (← c) (
        atom_kind_lem l h,
        stored_offset v a j (λ k. absurd (omega (arith, atom_kind_lem l h))),
        stored_size v a j ∙ ap size_of (atom_token h),
        g.0,
        tokened x g.1 (omega (arith, h.within)) s.1.front s.1.first,
        tokened y g.2 l h.rest h.others,
      )

-- So of a text that is read.
pub ready_tokened : {text : Bytes} {K : TokenRow} {R : NoteRow} {O : RootRow} {r : Reading} → Ready text K R O r → Tokened (offset_of text r.tokens) K 0 r.tree
ready_tokened {text} {K} {R} {O} {r} h =
    let t = h.is_tree in
    tokened h.stored R r.tree (tree_holding _ r.tree t.outer.0 t.inner) (omega arith) h.agrees
    (ap items (stored_tokens h.stored ∙ sym t.tokens) ∙ items-flat r.tree)
