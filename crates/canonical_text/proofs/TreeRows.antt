-- A tree that stands in rows: so do its parts, and a row of tokens that differs in sizes alone has it too.
-- The role in use of what an operand's brackets hold is the role of its root.
use mathlib.Core.Path.{◌≡◌, refl, sym, ap, ◌∙◌}
use mathlib.Core.Bool.{true, not}
use mathlib.Core.List.{List, [], ◌∷◌, ◌++◌}
use Prim.Native.Nat.{ℕ, suc, ◌+◌, ◌≤◌, ◌<◌}
use native.Mathlib.Omega.{arith}
use lib.ListN.{length, length-append}
use borrow.Author.Tests.{eqb-true, eqb-false}
use Rattle.grammar.specs.Bytes.{Bytes}
use Rattle.grammar.specs.Token.{Atom, atom, structure, symbol, closing, keyword_in, keyword_end}
use Rattle.grammar.specs.Operator.{Table, role}
use Rattle.grammar.specs.Declaration.{Declaration, declare_all, all_tokens}
use Rattle.grammar.specs.SpanTree.{present, fixity, root, role_over, is_operand, Admitted}
use Rattle.grammar.specs.Tree.{Tree, nothing, leaf, bracket, block, node, flat, span_tree}
use Rattle.grammar.proofs.Logic.{clash}
use Rattle.grammar.proofs.Operators.{has_role_lem}
use Rattle.grammar.proofs.AdmittingRole.{admitting_role}
use Rattle.rows.specs.Fields.{TokenRow, NoteRow, RootRow, kind, closer, arrival, left, right}
use Rattle.rows.specs.Codes.{role_code, arrival_of}
use Rattle.rows.specs.Agreeing.{arrival_for}
use Rattle.rows.specs.Standing.{mark}
use Rattle.rows.specs.InUse.{role_beside, role_in_use}
use Rattle.rows.proofs.Fields.{within}
use Rattle.rows.proofs.AtomRoles.{arrival_has, arrival_operand}
use Rattle.rows.proofs.InUse.{use_none, use_beside, beside_code, mark-present}
use Rattle.rows.specs.Below.{Leads, there, through}
use Rattle.rows.specs.Kinds.{kind_code}
use Rattle.canonical_text.specs.Brackets.{held, Stands, TreeAt, DiffersInSizes}

-- How many tokens a tree has.
pub bracket_length : (t : Tree) → length (flat (bracket t)) ≡ suc (suc (length (flat t)))
unfolding flat
bracket_length t = omega (arith, length-append (flat t) (structure closing ∷ []))

pub block_length : (ds : List Declaration) (t : Tree) → length (flat (block ds t)) ≡ suc (suc (suc (length (all_tokens ds) + length (flat t))))
unfolding flat
block_length ds t =
    omega (
      arith,
      length-append (all_tokens ds ++ structure keyword_in ∷ flat t) (structure keyword_end ∷ []),
      length-append (all_tokens ds) (structure keyword_in ∷ flat t),
    )

pub node-length : (l : Tree) (m : Bytes) (r : Tree) → length (flat (node l m r)) ≡ suc (length (flat l) + length (flat r))
unfolding flat
node-length l m r = omega (arith, length-append (flat l) (atom (symbol m) ∷ flat r))

-- The parts of a tree stand where it stands.
module _ {K : TokenRow} {R : NoteRow} {O : RootRow} {n : ℕ} {T : Table} {i : ℕ} where
  pub inside_at : {t : Tree} → TreeAt K R O n T i (bracket t) → TreeAt K R O n T (suc i) t
  inside_at {t} h = record {
    rows = h.rows;
    bounded = h.bounded;
    admitted = h.inner.0.0;
    inner = h.inner.1;
    stands = h.stands.3;
    rooted = h.rooted.1;
    within = omega (arith, h.within, bracket_length t);
  }

  pub body_at :
      {ds : List Declaration} {t : Tree} → TreeAt K R O n T i (block ds t)
      → TreeAt K R O n (declare_all T ds) (suc (suc (i + length (all_tokens ds)))) t
  body_at {ds} {t} h = record {
    rows = h.rows;
    bounded = h.stands.5;
    admitted = h.inner.0.0;
    inner = h.inner.1;
    stands = h.stands.6;
    rooted = h.rooted.1;
    within = omega (arith, h.within, block_length ds t);
  }

  module _ {l : Tree} {m : Bytes} {r : Tree} (h : TreeAt K R O n T i (node l m r)) where
    over : Admitted T (span_tree (node l m r))
    over = h.admitted

    pub left_at : TreeAt K R O n T i l
    unfolding span_tree
    left_at = record {
      rows = h.rows;
      bounded = h.bounded;
      admitted = over.0;
      inner = h.inner.0;
      stands = h.stands.2;
      rooted = h.rooted.2;
      within = omega (arith, h.within, node-length l m r);
    }

    pub right_at : TreeAt K R O n T (suc (i + length (flat l))) r
    unfolding span_tree
    right_at = record {
      rows = h.rows;
      bounded = h.bounded;
      admitted = over.1;
      inner = h.inner.1;
      stands = h.stands.3;
      rooted = h.rooted.3;
      within = omega (arith, h.within, node-length l m r);
    }

-- A row that differs in sizes alone.
module _ (K K' : TokenRow) (R : NoteRow) (same : DiffersInSizes K K') where
  kinds : (j : ℕ) → kind K' j ≡ kind K j
  kinds j = ap (λ t. kind_code t.kind) (same j)

  closers : (j : ℕ) → closer K' j ≡ closer K j
  closers j = ap (λ t. t.closer) (same j)

  stands_kept : (T : Table) (i : ℕ) (t : Tree) → Stands K R T i t → Stands K' R T i t
  stands_kept T i nothing h = tt
  stands_kept T i (leaf a) h = (rw (kinds i) h.0, h.1)
  stands_kept T i (bracket t) h =
      (kinds i ∙ h.0, closers i ∙ h.1, kinds (suc (i + length (flat t))) ∙ h.2, stands_kept T (suc i) t h.3)
  stands_kept T i (block ds t) h =
      let c = suc (i + length (all_tokens ds)) in (
        kinds i ∙ h.0,
        closers i ∙ h.1,
        kinds c ∙ h.2,
        kinds (suc (c + length (flat t))) ∙ h.3,
        h.4,
        h.5,
        stands_kept (declare_all T ds) (suc c) t h.6,
      )
  stands_kept T i (node l m r) h =
      let a = i + length (flat l) in (kinds a ∙ h.0, h.1, stands_kept T i l h.2, stands_kept T (suc a) r h.3)

  pub tree_kept : {O : RootRow} {n : ℕ} {T : Table} {i : ℕ} {t : Tree} → length K' ≡ length K → TreeAt K R O n T i t → TreeAt K' R O n T i t
  tree_kept {O} {n} {T} {i} {t} e h = record {
    rows = (omega (arith, h.rows.0), h.rows.1, h.rows.2);
    bounded = h.bounded;
    admitted = h.admitted;
    inner = h.inner;
    stands = stands_kept T i t h.stands;
    rooted = h.rooted;
    within = h.within;
  }

-- The token at which the root of what a tree's brackets hold stands.
unfoldable pub held_at : ℕ → Tree → ℕ
held_at i nothing = i
held_at i (leaf a) = i
held_at i (bracket t) = held_at (suc i) t
held_at i (block ds t) = i
held_at i (node l m r) = i + length (flat l)

-- Its root stands among its tokens.
pub record RootOf (i : ℕ) (t : Tree) : Type 0 where
  pub at : ℕ
  pub marked : mark i t ≡ suc at
  pub from : i ≤ at
  pub to : at < i + length (flat t)

pub root_of : (i : ℕ) (t : Tree) → present (span_tree t) ≡ true → RootOf i t
unfolding mark present span_tree flat
root_of i nothing p = absurd (clash p refl)
root_of i (leaf a) p = record { at = i; marked = refl; from = omega arith; to = omega arith }
root_of i (bracket t) p = record { at = i; marked = refl; from = omega arith; to = omega (arith, bracket_length t) }
root_of i (block ds t) p = record { at = i; marked = refl; from = omega arith; to = omega (arith, block_length ds t) }
root_of i (node l m r) p =
    record { at = i + length (flat l); marked = refl; from = omega arith; to = omega (arith, node-length l m r) }

-- What a tree's brackets hold stands in the rows, with the role of its root.
pub record HeldHere (R : NoteRow) (O : RootRow) (n : ℕ) (T : Table) (i : ℕ) (t : Tree) : Type 0 where
  pub before : held_at i t < n
  pub used : role_in_use R O (held_at i t) ≡ role_code (root T (span_tree (held t)))

module _ {K : TokenRow} {R : NoteRow} {O : RootRow} {n : ℕ} where
  -- From its root one comes to what its brackets hold.
  pub held_leads : {T : Table} (i : ℕ) (t : Tree) → TreeAt K R O n T i t → (a : ℕ) → mark i t ≡ suc a → Leads K O a (held_at i t)
  unfolding mark held_at flat
  held_leads i nothing h a e = absurd (omega arith)
  held_leads i (leaf x) h a e =
      let s : a ≡ i = omega arith in
      rw s (there (within n K i h.rows.0 (omega (arith, h.within))) (λ k. omega (arith, h.stands.0)))
  held_leads i (bracket t) h a e =
      let s : a ≡ i = omega arith in
      let l : i < n = omega (arith, h.within, bracket_length t) in
      let r = root_of (suc i) t h.inner.0.1 in
      rw s
      (through r.at (within n K i h.rows.0 l) (within n O i h.rows.2 l) h.stands.0 (h.rooted.0 ∙ r.marked) r.from
      (held_leads (suc i) t (inside_at h) r.at r.marked))
  held_leads i (block ds t) h a e =
      let s : a ≡ i = omega arith in
      rw s (there (within n K i h.rows.0 (omega (arith, h.within, block_length ds t))) (λ k. omega (arith, h.stands.0)))
  held_leads i (node l m r) h a e =
      let s : a ≡ i + length (flat l) = omega arith in
      rw s (there (within n K (i + length (flat l)) h.rows.0 (omega (arith, h.within, node-length l m r))) (λ k. omega (arith, h.stands.0)))

  -- An operator's role by what is noted of its operands.
  pub operator_role : {T : Table} {i : ℕ} {l : Tree} {m : Bytes} {r : Tree} → TreeAt K R O n T i (node l m r)
      → role_beside R (i + length (flat l)) (left O (i + length (flat l))) (right O (i + length (flat l)))
      ≡ role_code (role_over T (span_tree l) m (span_tree r))
  unfolding role_over fixity
  operator_role {T} {i} {l} {m} {r} h =
      let a = i + length (flat l) in
      rw (h.rooted.0, h.rooted.1)
      (beside_code T R a m h.stands.1 (mark i l) (mark (suc a) r) (present (span_tree l)) (present (span_tree r))
      (mark-present i l) (mark-present (suc a) r))

  pub operator_arrives : {T : Table} {i : ℕ} {l : Tree} {m : Bytes} {r : Tree} → TreeAt K R O n T i (node l m r)
      → arrival R (i + length (flat l)) ≡ 0 → ⊥
  unfolding arrival_for span_tree
  operator_arrives {T} {i} {l} {m} {r} h e =
      let c = admitting_role T (span_tree l) m (span_tree r) h.admitted in
      eqb-false (arrival_of (role T m)) 0 (arrival_has (role T m) ∙ ap not (has_role_lem (role T m) c.form c.own c.known))
      (sym h.stands.1.arrives ∙ e)

  pub operand_arrives : {T : Table} {i : ℕ} {a : Atom} → TreeAt K R O n T i (leaf a) → arrival R i ≡ 0
  unfolding span_tree is_operand
  operand_arrives {T} {i} {a} h = h.stands.1.arrives ∙ eqb-true (arrival_for T a) 0 (arrival_operand T a ∙ h.admitted)

  pub held_here : {T : Table} (i : ℕ) (t : Tree) → TreeAt K R O n T i t → present (span_tree t) ≡ true → HeldHere R O n T i t
  unfolding held_at held flat span_tree root role_code present
  held_here i nothing h p = absurd (clash p refl)
  held_here i (leaf a) h p = record { before = omega (arith, h.within); used = use_none R O i (operand_arrives h) }
  held_here i (bracket t) h p =
      let g = held_here (suc i) t (inside_at h) h.inner.0.1 in
      record { before = g.before; used = g.used }
  held_here i (block ds t) h p =
      record { before = omega (arith, h.within, block_length ds t); used = use_none R O i h.stands.4 }
  held_here i (node l m r) h p =
      record {
        before = omega (arith, h.within, node-length l m r);
        used = use_beside R O (i + length (flat l)) (operator_arrives h) ∙ operator_role h;
      }
