-- The tree of a text that is read stands in the rows, and the row of tokens has its tokens. By induction on the tree: the items of a range
-- that agrees with the roles are those of the tree, so each part of the tree has a range of its own.
use mathlib.Core.Path.{◌≡◌, refl, sym, ap, subst, ◌∙◌}
use mathlib.Core.Bool.{Bool, true, false, ◌&&◌}
use mathlib.Core.List.{[], ◌∷◌}
use mathlib.Core.Option.{Option, none, some}
use Prim.Native.Nat.{ℕ, zero, suc, ◌+◌}
use native.Mathlib.Omega.{arith}
use lib.Dec.{leb}
use lib.ListN.{length}
use borrow.Author.Tests.{leb-true}
use Rattle.grammar.specs.Bytes.{Bytes, same}
use Rattle.grammar.specs.Token.{atom, symbol}
use Rattle.grammar.specs.Operator.{Fixity, Prefix, Infix, Postfix, Role, Operator, Table, role, replaced, same_fixity, declare_role}
use Rattle.grammar.specs.Declaration.{
  declare_all,
  declare,
  all_tokens,
  start_table,
  start_declarations,
  declarations,
  value,
  value_from,
  widest_precedence,
}
use Rattle.grammar.specs.Blocks.{body_table}
use Rattle.grammar.specs.Span.{items}
use Rattle.grammar.specs.Span as Span
use Rattle.grammar.specs.SpanTree.{yield}
use Rattle.grammar.specs.Tree.{Tree, nothing, leaf, bracket, block, node, flat, span_tree}
use Rattle.grammar.specs.Answer.{Reading}
use Rattle.grammar.proofs.Logic.{and_left, and_right, impossible}
use Rattle.grammar.proofs.Items.{items-flat}
use Rattle.grammar.proofs.Scanned.{length_tokens}
use Rattle.grammar.proofs.DeclarationTokens.{declarations_told}
use Rattle.rows.specs.Fields.{TokenRow, NoteRow, RootRow, kind}
use Rattle.rows.specs.Codes.{Fit, Bounded}
use Rattle.rows.specs.Tokens.{token_in, atom_of, atom_in, range, IsAtomKind}
use Rattle.rows.specs.Agreeing.{Agrees}
use Rattle.rows.specs.Reading.{Ready}
use Rattle.rows.proofs.Ranges.{token_atom, length-range}
use Rattle.rows.proofs.Stored.{stored_tokens}
use Rattle.rows.proofs.Standing.{agrees_split, atom_here, pair_here, block_here, span_tokens}
use Rattle.canonical_text.specs.Brackets.{Stands, TreeAt}

-- Every role at the start is within its precedences: a test of each operator, which is computed.
fit_test : Option Role → Bool
fit_test none = true
fit_test (some r) = leb 1 r.precedence && leb r.precedence widest_precedence

fits_all : Table → Bool
fits_all [] = true
fits_all (o ∷ T) = (fit_test (o.roles Prefix) && fit_test (o.roles Infix)) && (fit_test (o.roles Postfix) && fits_all T)

test_fit : (o : Option Role) → fit_test o ≡ true → Fit o
unfolding fit_test
test_fit none e = tt
test_fit (some r) e = (
  leb-true 1 r.precedence (and_left (leb 1 r.precedence) _ e),
  leb-true r.precedence widest_precedence (and_right (leb 1 r.precedence) _ e),
)

bounded_next : (o : Operator) (T : Table) → ((f : Fixity) → Fit (o.roles f)) → Bounded T → Bounded (o ∷ T)
unfolding role
bounded_next o T own rest m f = go (same m o.name) refl
  where
    go : (b : Bool) → same m o.name ≡ b → Fit (role (o ∷ T) m f)
    go true h = rw (h, role) (own f)
    go false h = rw (h, role) (rest m f)

bounded_by : (T : Table) → fits_all T ≡ true → Bounded T
unfolding fits_all role
bounded_by [] e = λ m f. tt
bounded_by (o ∷ T) e = bounded_next o T own (bounded_by T (and_right (fit_test (o.roles Postfix)) _ (and_right front _ e)))
  where
    front : Bool
    front = fit_test (o.roles Prefix) && fit_test (o.roles Infix)

    own : (g : Fixity) → Fit (o.roles g)
    own Prefix = test_fit (o.roles Prefix) (and_left _ (fit_test (o.roles Infix)) (and_left front _ e))
    own Infix = test_fit (o.roles Infix) (and_right (fit_test (o.roles Prefix)) _ (and_left front _ e))
    own Postfix = test_fit (o.roles Postfix) (and_left _ (fits_all T) (and_right front _ e))

pub bounded_start : Bounded start_table
unfolding fits_all fit_test start_table start_declarations declare_all declare declare_role same replaced same_fixity value value_from
bounded_start = bounded_by start_table refl

-- The row of tokens has the tokens of a tree.
abbrev pub Spelled : Bytes → TokenRow → ℕ → Tree → Type 0
Spelled text K i nothing = Unit {0}
Spelled text K i (leaf a) = token_in text K i ≡ atom a
Spelled text K i (bracket t) = Spelled text K (suc i) t
Spelled text K i (block ds t) =
    let c = suc (i + length (all_tokens ds)) in (range text K (suc i) c ≡ all_tokens ds) × Spelled text K (suc c) t
Spelled text K i (node l m r) =
    let a = i + length (flat l) in (token_in text K a ≡ atom (symbol m)) × Spelled text K i l × Spelled text K (suc a) r

-- A symbol has its kind.
symbol_kind : (k : ℕ) (c m : Bytes) → IsAtomKind k → atom_of k c ≡ symbol m → k ≡ 1
unfolding atom_of
symbol_kind zero c m h e = absurd (omega (arith, h.0))
symbol_kind (suc zero) c m h e = refl
symbol_kind (suc (suc zero)) c m h e = impossible cc
symbol_kind (suc (suc (suc zero))) c m h e = impossible cc
symbol_kind (suc (suc (suc (suc k)))) c m h e = absurd (omega (arith, h.1))

module _ (text : Bytes) (K : TokenRow) (R : NoteRow) where
  standing :
      (t : Tree) {T : Table} {i to : ℕ} → Agrees text K R T i to → items (range text K i to) ≡ yield (span_tree t)
      → Stands K R T i t × Spelled text K i t
  unfolding span_tree yield body_table atom_in
  standing nothing p e = (tt, tt)
  standing (leaf a) {i = i} p e =
      let h = atom_here text K R p a [] e in
      ((h.is_atom, h.noted), token_atom text K i h.is_atom ∙ ap atom h.same)
  standing (bracket t) {i = i} p e =
      let h = pair_here text K R p (flat t) [] e in
      let n : h.at ≡ suc (i + length (flat t)) = omega (arith, h.before, length-range text K (suc i) h.at, ap length h.inside) in
      let g = standing t h.inner (ap items h.inside ∙ items-flat t) in
      ((h.is_opening, h.closes ∙ n, rw n at h.is_closing, g.0), g.1)
  standing (block ds t) {T} {i} p e =
      let h = block_here text K R p (all_tokens ds) (flat t) [] e in
      let c : h.body ≡ suc (i + length (all_tokens ds)) =
      omega (arith, h.before, length-range text K (suc i) h.body, ap length h.declared) in
      let n : h.at ≡ suc (h.body + length (flat t)) =
      omega (arith, h.between, length-range text K (suc h.body) h.at, ap length h.inside) in
      let u : declare_all T (declarations (range text K (suc i) h.body)) ≡ declare_all T ds =
      ap (declare_all T) (declarations_told _ ds (h.complete ∙ h.declared)) in
      let g = standing t (subst (λ U. Agrees text K R U (suc h.body) h.at) u h.inner) (ap items h.inside ∙ items-flat t) in
      rw (← c) (
        (h.is_let, h.opens, h.is_in, rw n at h.is_end, h.is_operand, rw u at h.bounded, g.0),
        (h.declared, g.1),
      )
  standing (node l m r) {i = i} p e =
      let s = agrees_split text K R p (yield (span_tree l)) (Span.single (symbol m) ∷ yield (span_tree r)) e in
      let a = s.0 in
      let c : a ≡ i + length (flat l) = s.1.place ∙ ap (λ ts. i + length ts) (span_tokens l) in
      let h = atom_here text K R s.1.back (symbol m) (yield (span_tree r)) s.1.second in
      let token : token_in text K a ≡ atom (symbol m) = token_atom text K a h.is_atom ∙ ap atom h.same in
      let x = standing l s.1.front s.1.first in
      let y = standing r h.rest h.others in
      rw (← c) ((symbol_kind (kind K a) _ m h.is_atom h.same, h.noted, x.0, y.0), (token, x.1, y.1))

module _ {text : Bytes} {K : TokenRow} {R : NoteRow} {O : RootRow} {r : Reading} (h : Ready text K R O r) where
  stands : Stands K R start_table 0 r.tree × Spelled text K 0 r.tree
  stands =
      standing text K R r.tree h.agrees (ap items (stored_tokens h.stored ∙ sym h.is_tree.tokens) ∙ items-flat r.tree)

  pub ready_spelled : Spelled text K 0 r.tree
  ready_spelled = stands.1

  pub ready_whole : length r.tokens ≡ length (flat r.tree)
  ready_whole = sym (ap length h.is_tree.tokens ∙ length_tokens r.tokens)

  pub ready_tree : TreeAt K R O (length r.tokens) start_table 0 r.tree
  ready_tree = record {
    rows = (h.tokens, h.roles, h.roots);
    bounded = bounded_start;
    admitted = h.is_tree.outer.0;
    inner = h.is_tree.inner;
    stands = stands.0;
    rooted = h.rooted;
    within = omega (arith, ready_whole);
  }
