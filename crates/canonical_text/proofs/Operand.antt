-- Whether the bracket pair that an operand is stays, by the kind of the token at its root and the root of what it holds.
use mathlib.Core.Path.{◌≡◌, refl, sym, ap, ◌∙◌}
use mathlib.Core.Bool.{Bool, true, false, not}
use mathlib.Core.Option.{some}
use Prim.Native.Nat.{ℕ, suc, ◌+◌, ◌-◌, ◌<◌}
use native.Mathlib.Omega.{arith}
use lib.ListN.{length}
use Rattle.grammar.specs.Operator.{Associativity, Role, Table}
use Rattle.grammar.specs.Operator as Operator
use Rattle.grammar.specs.SpanTree.{Position, present, root, admits}
use Rattle.grammar.specs.Tree.{Tree, nothing, leaf, bracket, block, node, flat, span_tree}
use Rattle.grammar.specs.Canonical.{refuses}
use Rattle.rows.specs.Fields.{TokenRow, NoteRow, RootRow, kind, Within}
use Rattle.rows.specs.Codes.{side_code, role_code, role_of}
use Rattle.rows.specs.Standing.{mark}
use Rattle.rows.specs.InUse.{role_in_use}
use Rattle.rows.proofs.Fields.{within}
use Rattle.rows.proofs.Codes.{role-code}
use Rattle.rows.proofs.AtomRoles.{fit_root}
use Rattle.rows.specs.Below.{Leads}
use Rattle.canonical_text.specs.Brackets.{held, stays, TreeAt, OperandAt}
use Rattle.canonical_text.proofs.TreeRows.{held_at, held_leads, HeldHere, held_here}

-- No operand, one that is no bracket pair, and one that is a pair.
module _ (T : Table) (s : Position) (q : Role) where
  absent_stays : (j : ℕ) (t : Tree) → mark j t ≡ 0 → false ≡ stays T s (some q) t
  unfolding mark stays
  absent_stays j nothing e = refl
  absent_stays j (leaf a) e = absurd (omega arith)
  absent_stays j (bracket t) e = absurd (omega arith)
  absent_stays j (block ds t) e = absurd (omega arith)
  absent_stays j (node l m r) e = absurd (omega arith)

  module _ {K : TokenRow} {R : NoteRow} {O : RootRow} {n j : ℕ} (a : ℕ) where
    bare_stays : (t : Tree) → TreeAt K R O n T j t → mark j t ≡ suc a → (kind K a ≡ 4 → ⊥) → false ≡ stays T s (some q) t
    unfolding mark stays
    bare_stays nothing h e d = refl
    bare_stays (leaf x) h e d = refl
    bare_stays (bracket t) h e d = let i : a ≡ j = omega arith in absurd (d (ap (kind K) i ∙ h.stands.0))
    bare_stays (block ds t) h e d = refl
    bare_stays (node l m r) h e d = refl

    pair_stays :
        (t : Tree) → TreeAt K R O n T j t → mark j t ≡ suc a → kind K a ≡ 4 → not (admits s q (root T (span_tree (held t)))) ≡ stays T s (some q) t
    unfolding mark held stays refuses
    pair_stays nothing h e k = absurd (omega arith)
    pair_stays (leaf x) h e k = let i : a ≡ j = omega arith in absurd (omega (arith, ap (kind K) i, h.stands.0))
    pair_stays (bracket t) h e k = refl
    pair_stays (block ds t) h e k = let i : a ≡ j = omega arith in absurd (omega (arith, ap (kind K) i, h.stands.0))
    pair_stays (node l m r) h e k = let i : a ≡ j + length (flat l) = omega arith in absurd (omega (arith, ap (kind K) i, h.stands.0))

marked_present : (j : ℕ) (t : Tree) (a : ℕ) → mark j t ≡ suc a → present (span_tree t) ≡ true
unfolding mark present span_tree
marked_present j nothing a e = absurd (omega arith)
marked_present j (leaf x) a e = refl
marked_present j (bracket t) a e = refl
marked_present j (block ds t) a e = refl
marked_present j (node l m r) a e = refl

-- A role's number is not 0.
side_some : (a : Associativity) → 0 < side_code a
unfolding side_code
side_some Operator.left = omega arith
side_some Operator.right = omega arith
side_some Operator.non = omega arith

pub code_some : (q : Role) → 0 < role_code (some q)
unfolding role_code
code_some q = omega (arith, side_some q.associativity)

module _ {K : TokenRow} {R : NoteRow} {O : RootRow} {role operand : ℕ} {T : Table} {j : ℕ} {t : Tree} {q : Role} (h : OperandAt K R O role operand T j t q) where
  pub operand_none : (s : Position) → operand ≡ 0 → false ≡ stays T s (some q) t
  operand_none s e = absent_stays T s q j t (sym h.marked ∙ e)

  pub has_role_lem : 0 < role
  has_role_lem = omega (arith, h.coded, code_some q)

  module _ (d : operand ≡ 0 → ⊥) where
    root_noted : mark j t ≡ suc (operand - 1)
    root_noted = sym h.marked ∙ omega arith

    pub operand_leads : Leads K O (operand - 1) (held_at j t)
    operand_leads = held_leads j t h.tree (operand - 1) root_noted

    here : HeldHere R O h.count T j t
    here = held_here j t h.tree (marked_present j t (operand - 1) root_noted)

    pub operand_bare : (s : Position) → (kind K (operand - 1) ≡ 4 → ⊥) → false ≡ stays T s (some q) t
    operand_bare s d = bare_stays T s q (operand - 1) t h.tree root_noted d

    module _ (a : ℕ) (e : a ≡ held_at j t) where
      pub held_in_roles : Within R a
      held_in_roles = within h.count R a h.tree.rows.1 (omega (arith, here.before))

      pub held_in_roots : Within O a
      held_in_roots = within h.count O a h.tree.rows.2 (omega (arith, here.before))

      module _ (x : ℕ) (u : x ≡ role_in_use R O a) where
        coded : x ≡ role_code (root T (span_tree (held t)))
        coded = u ∙ ap (role_in_use R O) e ∙ here.used

        -- What the test of the role answers.
        pub operand_held :
            (s : Position) (b : Bool) → kind K (operand - 1) ≡ 4 → ((p : Role) → role_of role ≡ some p → b ≡ admits s p (role_of x))
            → not b ≡ stays T s (some q) t
        operand_held s b f g =
            let c : role_of role ≡ some q = ap role_of h.coded ∙ role-code (some q) h.fit in
            let o : role_of x ≡ root T (span_tree (held t)) =
            ap role_of coded ∙ role-code (root T (span_tree (held t))) (fit_root T h.tree.bounded (span_tree (held t))) in
            ap not (g q c ∙ ap (admits s q) o) ∙ pair_stays T s q (operand - 1) t h.tree root_noted f
