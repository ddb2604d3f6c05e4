-- A tree cut behind any of its items: what stands before the cut has a tree, or has one with one operand behind it.
use mathlib.Core.Path.{◌≡◌, refl, sym, ◌∙◌}
use mathlib.Core.Bool.{Bool, true, false}
use mathlib.Core.Logic.{◌⊎◌, inl, inr}
use mathlib.Core.List.{List, [], ◌∷◌, ◌++◌, append_assoc}
use mathlib.Core.Option.{Option, some}
use Prim.Native.Nat.{ℕ, ◌≤◌}
use native.Mathlib.Omega.{arith}
use lib.Dec.{ltb}
use borrow.Author.Tests.{ltb-false, eq-eqb}
use Rattle.grammar.specs.Bytes.{Bytes}
use Rattle.grammar.specs.Token.{symbol}
use Rattle.grammar.specs.Operator.{Role, Table}
use Rattle.grammar.specs.Span.{Item, single}
use Rattle.grammar.specs.SpanTree.{
  SpanTree,
  missing,
  operand,
  apply,
  yield,
  present,
  fixity,
  role_over,
  root,
  root_precedence,
  on_left,
  on_right,
  admits_equal,
  admits,
  admits_both,
  is_operand,
  Admitted,
  IsSpanTree,
}
use Rattle.grammar.specs.Continuation.{HasTree}
use Rattle.grammar.proofs.Logic.{impossible, and_intro}
use Rattle.grammar.proofs.StackItems.{absent_missing}
use Rattle.grammar.proofs.AdmittingRole.{AdmittingRole, admitting_role, admitting_root, admits-cases}

-- Two ways to divide a list: the first part of the one lies within that of the other.
pub record Within {A : Type 0} (xs p rest ys : List A) : Type 0 where
  pub left : List A
  pub begins : xs ≡ p ++ left
  pub goes_on : rest ≡ left ++ ys

pub record Beyond {A : Type 0} (xs p rest ys : List A) : Type 0 where
  pub first : A
  pub others : List A
  pub begins : p ≡ xs ++ first ∷ others
  pub goes_on : ys ≡ first ∷ (others ++ rest)

pub divided : {A : Type 0} (xs ys p rest : List A) → xs ++ ys ≡ p ++ rest → Within xs p rest ys ⊎ Beyond xs p rest ys
divided [] ys [] rest e = inl (record { left = []; begins = refl; goes_on = sym e })
divided [] ys (c ∷ p) rest e = inr (record { first = c; others = p; begins = refl; goes_on = e })
divided (x ∷ xs) ys [] rest e = inl (record { left = x ∷ xs; begins = refl; goes_on = sym e })
divided {A} (x ∷ xs) ys (c ∷ p) rest e = go (divided xs ys p rest (cc))
  where
    same : x ≡ c
    same = cc

    go : Within xs p rest ys ⊎ Beyond xs p rest ys → Within (x ∷ xs) (c ∷ p) rest ys ⊎ Beyond (x ∷ xs) (c ∷ p) rest ys
    go (inl w) = inl (record { left = w.left; begins = cc (same, w.begins); goes_on = w.goes_on })
    go (inr b) = inr (record { first = b.first; others = b.others; begins = cc (same, b.begins); goes_on = b.goes_on })

-- A role that admits an operand on its right admits each of no wider precedence.
pub admits_narrower :
    (q : Role) (o n : Option Role) → admits on_right q o ≡ true → root_precedence n ≤ root_precedence o → admits on_right q n ≡ true
unfolding admits admits_equal
admits_narrower q o n h le = go (ltb (root_precedence n) q.precedence) refl
  where
    f : (root_precedence o ≤ q.precedence) × (root_precedence o ≡ q.precedence → admits_equal on_right q o ≡ true)
    f = admits-cases on_right q o h

    go : (b : Bool) → ltb (root_precedence n) q.precedence ≡ b → admits on_right q n ≡ true
    go true e = rw e
    go false e =
        let g = ltb-false (root_precedence n) q.precedence e in
        let k = f in
        rw (e, eq-eqb (root_precedence n) q.precedence (omega arith)) (k.1 (omega arith))

-- A tree of those items, or of them with `x` behind, of no wider precedence than `bound`.
pub record CutTree (T : Table) (x : Item) (p : List Item) (bound : ℕ) : Type 0 where
  pub tree : SpanTree
  pub admitted : Admitted T tree
  pub there : present tree ≡ true
  pub yields : (yield tree ≡ p) ⊎ (yield tree ≡ p ++ x ∷ [])
  pub narrow : root_precedence (root T tree) ≤ bound

module _ (T : Table) (x : Item) (free : is_operand T x ≡ true) where
  -- An operator's right operand may be changed for one of no wider precedence.
  module _ (l : SpanTree) (m : Bytes) (r n : SpanTree) (a : Admitted T l) (b : Admitted T n) (c : AdmittingRole T l m r)
      (same : present n ≡ present r) (narrow : root_precedence (root T n) ≤ root_precedence (root T r)) where
    changed_role : role_over T l m n ≡ some c.own
    unfolding role_over fixity
    changed_role = rw same (admitting_root c)

    changed_admitted : Admitted T (apply l m n)
    unfolding admits_both
    changed_admitted = (a, b, rw (changed_role, admits_both) (and_intro c.left_fits (admits_narrower c.own (root T r) (root T n) c.right_fits narrow)))

    changed_precedence : root_precedence (root T (apply l m n)) ≡ root_precedence (root T (apply l m r))
    unfolding root root_precedence
    changed_precedence = rw (changed_role, admitting_root c)

  -- What can be cut from a tree, at each of its items.
  abbrev Cuts : SpanTree → Type 0
  Cuts s = (c : Item) (p rest : List Item) → yield s ≡ (c ∷ p) ++ rest → CutTree T x (c ∷ p) (root_precedence (root T s))

  empty_front : (p rest : List Item) → [] ≡ p ++ rest → p ≡ []
  empty_front [] rest e = refl
  empty_front (c ∷ p) rest e = cc

  module _ (l : SpanTree) (m : Bytes) (r : SpanTree) (a : Admitted T (apply l m r)) (cut_left : Cuts l) (cut_right : Cuts r) where
    c : AdmittingRole T l m r
    c = admitting_role T l m r a

    whole : root_precedence (root T (apply l m r)) ≡ c.own.precedence
    unfolding root root_precedence
    whole = rw (admitting_root c)

    -- The cut is in the left operand, ..
    within : (i : Item) (p rest : List Item) → yield l ≡ (i ∷ p) ++ rest → CutTree T x (i ∷ p) (root_precedence (root T (apply l m r)))
    within i p rest e =
        let t = cut_left i p rest e in
        let n = (admits-cases on_left c.own (root T l) c.left_fits).0 in
        record { tree = t.tree; admitted = t.admitted; there = t.there; yields = t.yields; narrow = omega (arith, whole, t.narrow) }

    -- .. or behind the operator, ..
    behind : (p : List Item) → p ≡ yield l ++ single (symbol m) ∷ [] → CutTree T x p (root_precedence (root T (apply l m r)))
    unfolding yield root root_precedence present
    behind p e = go (present r) refl
      where
        go : (b : Bool) → present r ≡ b → CutTree T x p (root_precedence (root T (apply l m r)))
        go false f =
            record { tree = apply l m r; admitted = a; there = refl; yields = inl (rw (absent_missing r f, e)); narrow = omega arith }
        go true f =
            let same : present (operand x) ≡ present r = sym f in
            let narrow : root_precedence (root T (operand x)) ≤ root_precedence (root T r) = omega arith in
            let b = changed_admitted l m r (operand x) a.0 free c same narrow in
            let q = changed_precedence l m r (operand x) a.0 free c same narrow in
            record {
              tree = apply l m (operand x);
              admitted = b;
              there = refl;
              yields = inr (rw (e, append_assoc (yield l) (single (symbol m) ∷ []) (x ∷ [])));
              narrow = omega arith;
            }

    -- .. or in the right operand.
    yields_present : (s : SpanTree) (i : Item) (is : List Item) → yield s ≡ i ∷ is → present s ≡ true
    unfolding yield present
    yields_present missing i is e = cc
    yields_present (operand k) i is e = refl
    yields_present (apply k t n) i is e = refl

    beyond :
        (i : Item) (p rest : List Item) → yield r ≡ (i ∷ p) ++ rest
        → CutTree T x (yield l ++ single (symbol m) ∷ (i ∷ p)) (root_precedence (root T (apply l m r)))
    unfolding yield present
    beyond i p rest e =
        record {
          tree = apply l m t.tree;
          admitted = changed_admitted l m r t.tree a.0 t.admitted c same t.narrow;
          there = refl;
          yields = go t.yields;
          narrow = omega (arith, changed_precedence l m r t.tree a.0 t.admitted c same t.narrow);
        }
      where
        t : CutTree T x (i ∷ p) (root_precedence (root T r))
        t = cut_right i p rest e

        same : present t.tree ≡ present r
        same = t.there ∙ sym (yields_present r i (p ++ rest) e)

        go :
            (yield t.tree ≡ i ∷ p) ⊎ (yield t.tree ≡ (i ∷ p) ++ x ∷ [])
            → (yield (apply l m t.tree) ≡ yield l ++ single (symbol m) ∷ (i ∷ p))
            ⊎ (yield (apply l m t.tree) ≡ (yield l ++ single (symbol m) ∷ (i ∷ p)) ++ x ∷ [])
        go (inl f) = inl (rw f)
        go (inr f) = inr (rw (f, append_assoc (yield l) (single (symbol m) ∷ (i ∷ p)) (x ∷ [])))

    cut_apply : Cuts (apply l m r)
    unfolding yield
    cut_apply i p rest e = go (divided (yield l) (single (symbol m) ∷ yield r) (i ∷ p) rest e)
      where
        Goal : Type 0
        Goal = CutTree T x (i ∷ p) (root_precedence (root T (apply l m r)))

        further :
            (j : Item) (js : List Item) → i ∷ p ≡ yield l ++ j ∷ js → single (symbol m) ∷ yield r ≡ j ∷ (js ++ rest) → Goal
        further j [] f g = behind (i ∷ p) (cc)
        further j (k ∷ js) f g =
            let h : i ∷ p ≡ yield l ++ single (symbol m) ∷ (k ∷ js) = cc in
            rw h (beyond k js rest (cc))

        go : Within (yield l) (i ∷ p) rest (single (symbol m) ∷ yield r) ⊎ Beyond (yield l) (i ∷ p) rest (single (symbol m) ∷ yield r) → Goal
        go (inl w) = within i p w.left w.begins
        go (inr b) = further b.first b.others b.begins b.goes_on

  pub cut : (s : SpanTree) → Admitted T s → Cuts s
  unfolding yield present root root_precedence
  cut missing a c p rest e = impossible cc
  cut (operand i) a c p rest e =
      let f = empty_front p rest (cc) in
      record { tree = operand i; admitted = a; there = refl; yields = inl (cc); narrow = omega arith }
  cut (apply l m r) a c p rest e = cut_apply l m r a (cut l a.0) (cut r a.1) c p rest e

-- Items at the front of a tree's items have a tree, or have one with the operand `x` behind them.
pub tree_cut :
    (T : Table) (x : Item) → is_operand T x ≡ true → (p more : List Item) (s : SpanTree) → IsSpanTree T (p ++ more) s
    → HasTree T p ⊎ HasTree T (p ++ x ∷ [])
unfolding yield present
tree_cut T x free [] more s t = inr (operand x, record { yields = refl; admitted = free; there = refl })
tree_cut T x free (i ∷ p) more s t = go c.yields
  where
    c : CutTree T x (i ∷ p) (root_precedence (root T s))
    c = cut T x free s t.admitted i p more t.yields

    go : (yield c.tree ≡ i ∷ p) ⊎ (yield c.tree ≡ (i ∷ p) ++ x ∷ []) → HasTree T (i ∷ p) ⊎ HasTree T ((i ∷ p) ++ x ∷ [])
    go (inl e) = inl (c.tree, record { yields = e; admitted = c.admitted; there = c.there })
    go (inr e) = inr (c.tree, record { yields = e; admitted = c.admitted; there = c.there })
