-- An operator in the rows: its operands, its role by what is noted of them, and the row in which their bracket pairs that stay are kept.
use mathlib.Core.Path.{◌≡◌, refl, sym, ap, ◌∙◌}
use mathlib.Core.Bool.{Bool, true}
use mathlib.Core.Option.{Option, some}
use Prim.Native.Nat.{ℕ, suc, ◌+◌, ◌-◌, ◌<◌}
use native.Mathlib.Omega.{arith}
use lib.ListN.{length}
use Rattle.grammar.specs.Bytes.{Bytes}
use Rattle.grammar.specs.Operator.{Role, Table}
use Rattle.grammar.specs.SpanTree.{Position, on_left, on_right, role_over}
use Rattle.grammar.specs.Tree.{Tree, nothing, leaf, bracket, block, node, flat, span_tree}
use Rattle.grammar.proofs.Logic.{clash}
use Rattle.grammar.proofs.AdmittingRole.{AdmittingRole, admitting_role, admitting_root}
use Rattle.rows.specs.Fields.{TokenRow, NoteRow, RootRow, left, right, Within}
use Rattle.rows.specs.Codes.{role_code, Fit}
use Rattle.rows.specs.Standing.{mark}
use Rattle.rows.specs.InUse.{role_beside}
use Rattle.rows.proofs.Fields.{within}
use Rattle.rows.proofs.AtomRoles.{fit_over}
use Rattle.canonical_text.specs.Brackets.{stays, TreeAt, OperandAt, PairIn, kept_pair, kept_beside, OperatorAt}
use Rattle.canonical_text.proofs.TreeRows.{bracket_length, node-length, left_at, right_at, tree_kept, operator_role}
use Rattle.canonical_text.proofs.Pairs.{pair_long, pair_fields}

-- An operand that is a pair which stays: where its brackets stand.
module _ (T : Table) (s : Position) (o : Option Role) where
  pair_in : {K : TokenRow} {R : NoteRow} {O : RootRow} {n p : ℕ} (t : Tree) → TreeAt K R O n T p t → stays T s o t ≡ true → (x : ℕ) → x ≡ mark p t → PairIn K x
  unfolding stays mark
  pair_in nothing h e x d = absurd (clash e refl)
  pair_in (leaf a) h e x d = absurd (clash e refl)
  pair_in {K} {n = n} {p = p} (bracket t) h e x d =
      let f : x - 1 ≡ p = omega arith in
      record {
        noted = omega arith;
        opener = rw f (within n K p h.rows.0 (omega (arith, h.within, bracket_length t)));
        closes = rw f (rw h.stands.1 (within n K (suc (p + length (flat t))) h.rows.0 (omega (arith, h.within, bracket_length t))));
      }
  pair_in (block ds t) h e x d = absurd (clash e refl)
  pair_in (node l m r) h e x d = absurd (clash e refl)

  pair_place : (K : TokenRow) (p : ℕ) (t : Tree) (b : Bool) (x : ℕ) → b ≡ stays T s o t → x ≡ mark p t
      → kept_pair b K (x - 1) ≡ kept_pair (stays T s o t) K p
  unfolding stays mark kept_pair
  pair_place K p nothing b x e d = rw e
  pair_place K p (leaf a) b x e d = rw e
  pair_place K p (bracket t) b x e d = let f : x - 1 ≡ p = omega arith in rw (f, e)
  pair_place K p (block ds t) b x e d = rw e
  pair_place K p (node l m r) b x e d = rw e

-- A row with a pair kept has every other pair still.
pair_still : {K : TokenRow} {x : ℕ} (b : Bool) (i : ℕ) → PairIn K x → PairIn (kept_pair b K i) x
pair_still {K} {x} b i h = record {
  noted = h.noted;
  opener = (h.opener.0, omega (arith, pair_long K i b, h.opener.1));
  closes = rw (ap (λ t. t.closer) (pair_fields K i b (x - 1))) (h.closes.0, omega (arith, pair_long K i b, h.closes.1));
}

module _ {K : TokenRow} {R : NoteRow} {O : RootRow} {i : ℕ} {T : Table} {j : ℕ} {l : Tree} {m : Bytes} {r : Tree} (h : OperatorAt K R O i T j l m r) where
  in_rows : i < h.count
  in_rows = omega (arith, h.place, h.tree.within, node-length l m r)

  pub in_roles : Within R i
  in_roles = within h.count R i h.tree.rows.1 in_rows

  pub in_roots : Within O i
  in_roots = within h.count O i h.tree.rows.2 in_rows

  -- Its role.
  own : AdmittingRole T (span_tree l) m (span_tree r)
  unfolding span_tree
  own = admitting_role T (span_tree l) m (span_tree r) h.tree.admitted

  pub own_role : Role
  own_role = own.own

  its_role : role_over T (span_tree l) m (span_tree r) ≡ some own_role
  unfolding own_role
  its_role = admitting_root own

  fits : Fit (some own_role)
  fits = rw its_role at (fit_over T h.tree.bounded (span_tree l) m (span_tree r))

  module _ {x y c : ℕ} (d : x ≡ left O i) (e : y ≡ right O i) (f : c ≡ role_beside R i x y) where
    coded : c ≡ role_code (some own_role)
    coded = f ∙ rw (d, e, h.place) (operator_role h.tree) ∙ ap role_code its_role

    noted_left : x ≡ mark j l
    noted_left = d ∙ ap (left O) h.place ∙ h.tree.rooted.0

    noted_right : y ≡ mark (suc (j + length (flat l))) r
    noted_right = e ∙ ap (right O) h.place ∙ h.tree.rooted.1

    -- Its operands.
    pub left_operand : OperandAt K R O c x T j l own_role
    left_operand = record { count = h.count; tree = left_at h.tree; marked = noted_left; coded = coded; fit = fits }

    pub right_operand : {K₁ : TokenRow} (a : Bool) → K₁ ≡ kept_pair a K (x - 1) → OperandAt K₁ R O c y T (suc (j + length (flat l))) r own_role
    right_operand a k =
        rw k (record {
          count = h.count;
          tree =
              tree_kept K (kept_pair a K (x - 1)) R (pair_fields K (x - 1) a) (pair_long K (x - 1) a) (right_at h.tree);
          marked = noted_right;
          coded = coded;
          fit = fits;
        })

    pub left_pair : {a : Bool} → a ≡ stays T on_left (some own_role) l → a ≡ true → PairIn K x
    left_pair p z = pair_in T on_left (some own_role) l (left_at h.tree) (sym p ∙ z) x noted_left

    module _ {a b : Bool} (p : a ≡ stays T on_left (some own_role) l) (q : b ≡ stays T on_right (some own_role) r) where
      pub right_pair : {K₁ : TokenRow} → K₁ ≡ kept_pair a K (x - 1) → b ≡ true → PairIn K₁ y
      right_pair k z = rw k (pair_still a (x - 1) (pair_in T on_right (some own_role) r (right_at h.tree) (sym q ∙ z) y noted_right))

      pub pairs_kept : {K₁ K₂ : TokenRow} → K₁ ≡ kept_pair a K (x - 1) → K₂ ≡ kept_pair b K₁ (y - 1) → K₂ ≡ kept_beside K T j l m r
      unfolding kept_beside
      pairs_kept k k' =
          rw its_role
          (k' ∙ ap (λ M. kept_pair b M (y - 1)) (k ∙ pair_place T on_left (some own_role) K j l a x p noted_left)
          ∙ pair_place T on_right (some own_role) _ (suc (j + length (flat l))) r b y q noted_right)
