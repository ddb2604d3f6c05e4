-- What the pass does over the items of an admitted tree: it leaves the tree's right spine waiting, and at the end finds the tree.
use mathlib.Core.Path.{◌≡◌, refl, sym, ap, ◌∙◌}
use mathlib.Core.Bool.{Bool, true, false, not}
use mathlib.Core.List.{List, [], ◌∷◌, ◌++◌}
use mathlib.Core.Option.{some}
use Prim.Native.Nat.{ℕ, ◌+◌}
use native.Mathlib.Omega.{arith}
use lib.ListN.{length, length-append}
use Rattle.grammar.specs.Bytes.{Bytes}
use Rattle.grammar.specs.Token.{symbol}
use Rattle.grammar.specs.Operator.{Fixity, Prefix, Role, Table, role, in_force, is_some}
use Rattle.grammar.specs.Span.{Item, single, item_tokens, all_item_tokens}
use Rattle.grammar.specs.SpanTree.{
  SpanTree,
  missing,
  operand,
  apply,
  yield,
  present,
  fixity_by,
  role_of_fixity,
  role_over,
  root,
  root_precedence,
  is_operand_atom,
  is_operand,
  Admitted,
}
use Rattle.grammar.specs.Climb.{
  symbol_at,
  Stack,
  empty,
  waiting,
  closed,
  Progress,
  taking,
  takes,
  admits_prefix,
  bears,
  fits_left,
  fits_below,
  arrives,
  arrived,
  operand_step,
  operator_step,
  advance,
  postfix_last,
  finish,
  climb_from,
}
use Rattle.grammar.proofs.Logic.{impossible}
use Rattle.grammar.proofs.Operators.{has_role_lem}
use Rattle.grammar.proofs.AdmittingRole.{AdmittingRole, admitting_role, admitting_root}
use Rattle.grammar.proofs.Unambiguous.{Unambiguous}
use Rattle.grammar.proofs.StackItems.{absent_missing}
use Rattle.grammar.proofs.RightSpine.{Bears, bears_lower, left_gives, keeps_right, role_by, left-role, push, spine, spine_end}
use Rattle.grammar.proofs.Arriving.{OneSide, coming, admits_alike, comes_alike}
use Rattle.grammar.proofs.ClimbInvariant.{keeps_admits}

-- The pass goes from one state to another over some items.
pub data Reaches (T : Table) : Progress → List Item → Progress → Type 0 where
  stay : {u : Progress} → Reaches T u [] u
  next : {u v x : Progress} {i : Item} {p : List Item} → advance T u i ≡ some v → Reaches T v p x → Reaches T u (i ∷ p) x

pub reaches_append : {T : Table} {u v x : Progress} {p q : List Item} → Reaches T u p v → Reaches T v q x → Reaches T u (p ++ q) x
reaches_append stay b = b
reaches_append (next e a) b = next e (reaches_append a b)

abbrev pub at : Stack → SpanTree → Progress
at w o = record { stack = w; last = o }

module _ (T : Table) (clear : Unambiguous T) (side : OneSide T) where
  -- What waits takes an operand, ..
  bears-takes : (w : Stack) (p : ℕ) → Bears T w p → takes T w ≡ true
  unfolding takes taking is_some
  bears-takes empty p b = refl
  bears-takes (waiting l t w) p b = rw b.1

  -- .. and a prefix operator that it keeps.
  bears-prefix : (w : Stack) (c : Role) → Bears T w c.precedence → bears T w c ≡ true
  unfolding bears taking admits_prefix root_precedence
  bears-prefix empty c b = refl
  bears-prefix (waiting l t w) c b = rw b.1 (keeps_admits b.0 (some c) b.2)

  -- An operator of the tree passes the test.
  tree_arrives : (l : SpanTree) (m : Bytes) (r : SpanTree) (c : AdmittingRole T l m r) (w : Stack) → Bears T w c.own.precedence → arrives T l m w ≡ true
  unfolding arrives fits_left fits_below coming fixity_by role_of_fixity
  tree_arrives l m r c w b = go (present l) refl
    where
      prefix : (y : Bool) → role_of_fixity T m (fixity_by false y) ≡ some c.own → role T m Prefix ≡ some c.own
      prefix true e = e
      prefix false e = cc

      go : (x : Bool) → present l ≡ x → arrives T l m w ≡ true
      go true e =
          let h = rw e at (role_by c) in
          let d = left-role T clear m (present r) c.own h in
          let alike = comes_alike T clear side m true (present r) c.own d.0 h d.1 in
          rw (e, arrives, d.1) (sym (admits_alike c.own d.0 (root T l) alike) ∙ c.left_fits)
      go false e = rw (e, arrives, prefix (present r) (rw e at (role_by c))) (bears-prefix w c.own b)

  operator_item : (m : Bytes) (f : Fixity) (q : Role) → role T m f ≡ some q → is_operand T (single (symbol m)) ≡ false
  unfolding is_operand is_operand_atom in_force
  operator_item m f q e = ap not (has_role_lem (role T m) f q e)

  operator_step_lem :
      (l : SpanTree) (m : Bytes) (r : SpanTree) → Admitted T l → (c : AdmittingRole T l m r) (w : Stack) → Bears T w c.own.precedence
      → advance T (at (spine l w) (spine_end l)) (single (symbol m)) ≡ some (at (waiting l m w) missing)
  unfolding advance operator_step symbol_at arrived
  operator_step_lem l m r a c w b =
      rw (advance, operator_item m c.form c.own c.known, push T clear l m r a c w b, arrived, tree_arrives l m r c w b)

  operand_step_lem : (i : Item) (w : Stack) (p : ℕ) → is_operand T i ≡ true → Bears T w p → advance T (at w missing) i ≡ some (at w (operand i))
  unfolding advance operand_step present
  operand_step_lem i w p e b = rw (advance, e, operand_step, bears-takes w p b)

  -- The pass over the items of an admitted tree leaves its right spine.
  pub reaches_tree :
      (s : SpanTree) → Admitted T s → (w : Stack) → (present s ≡ true → Bears T w (root_precedence (root T s)))
      → Reaches T (at w missing) (yield s) (at (spine s w) (spine_end s))
  unfolding yield present spine spine_end root root_precedence
  reaches_tree missing a w b = stay
  reaches_tree (operand i) a w b = next (operand_step_lem i w 0 a (b refl)) stay
  reaches_tree (apply l m r) a w b =
      reaches_append
      (reaches_tree l a.0 w (λ e. bears_lower T w c.own.precedence (root_precedence (root T l)) (left_gives c).0 here))
      (next (operator_step_lem l m r a.0 c w here) (reaches_tree r a.1 (waiting l m w) (λ e. (c.own, rw e at (role_by c), keeps_right c))))
    where
      c : AdmittingRole T l m r
      c = admitting_role T l m r a

      here : Bears T w c.own.precedence
      here = rw (admitting_root c) at (b refl)

  final_postfix : (l : SpanTree) (m : Bytes) (w : Stack) (q : Role) → role_over T l m missing ≡ some q → finish T (at (waiting l m w) missing) ≡ some (closed w (apply l m missing))
  unfolding finish present postfix_last is_some
  final_postfix l m w q e = rw (postfix_last, e)

  -- At the end the spine closes to the tree.
  pub final_tree : (s : SpanTree) → Admitted T s → present s ≡ true → (w : Stack) → finish T (at (spine s w) (spine_end s)) ≡ some (closed w s)
  unfolding finish spine spine_end present closed postfix_last is_some
  final_tree missing a h w = impossible cc
  final_tree (operand i) a h w = refl
  final_tree (apply l m r) a h w = go (present r) refl (final_tree r a.1)
    where
      c : AdmittingRole T l m r
      c = admitting_role T l m r a

      go :
          (b : Bool) → present r ≡ b
          → (present r ≡ true → (v : Stack) → finish T (at (spine r v) (spine_end r)) ≡ some (closed v r))
          → finish T (at (spine r (waiting l m w)) (spine_end r)) ≡ some (closed w (apply l m r))
      go true e ih = ih e (waiting l m w)
      go false e ih =
          let n = absent_missing r e in
          let q : role_over T l m missing ≡ some c.own = ap (role_over T l m) (sym n) ∙ admitting_root c in
          rw n (final_postfix l m w c.own q)

-- Over the items by which one state reaches another the pass does not stop.
pub pass_reaches :
    (T : Table) (n : ℕ) {u v : Progress} {p : List Item} (rest : List Item) → Reaches T u p v
    → climb_from T n u (p ++ rest) ≡ climb_from T (n + length (all_item_tokens p)) v rest
unfolding climb_from all_item_tokens
pass_reaches T n rest (stay {u = u}) = ap (λ k. climb_from T k u rest) (omega arith)
pass_reaches T n rest (next {x = x} {i = i} {p = p} e a) =
    rw (e, climb_from)
    (pass_reaches T (n + length (item_tokens i)) rest a
    ∙ ap (λ k. climb_from T k x rest) (omega (arith, length-append (item_tokens i) (all_item_tokens p))))
