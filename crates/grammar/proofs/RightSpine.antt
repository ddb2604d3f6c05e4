-- What waits when all items of an admitted tree have come: its right spine. An operator that comes closes its left operand, which gives way
-- to it, and no more, since what waits below keeps it.
use mathlib.Core.Path.{◌≡◌, refl, sym, subst, ◌∙◌}
use mathlib.Core.Bool.{Bool, true, false, not}
use mathlib.Core.Option.{Option, none, some}
use Prim.Native.Nat.{ℕ, ◌≤◌}
use native.Mathlib.Omega.{arith}
use lib.Dec.{ltb, eqb}
use borrow.Author.Tests.{le-ltb, ltb-false, eqb-true, eq-eqb, not-true}
use Rattle.grammar.specs.Bytes.{Bytes}
use Rattle.grammar.specs.Operator.{Prefix, Infix, Postfix, Role, Table, role}
use Rattle.grammar.specs.SpanTree.{
  SpanTree,
  missing,
  operand,
  apply,
  present,
  fixity_by,
  fixity,
  role_of_fixity,
  role_over,
  root,
  root_precedence,
  is_left,
  right_root,
  on_left,
  on_right,
  admits_equal,
  Admitted,
}
use Rattle.grammar.specs.Climb.{
  first_role,
  Stack,
  empty,
  waiting,
  left_role,
  gives_way,
  pushed,
}
use Rattle.grammar.proofs.Logic.{and_right, clash}
use Rattle.grammar.proofs.AdmittingRole.{AdmittingRole, admitting_role, admitting_root, admits-cases}
use Rattle.grammar.proofs.Unambiguous.{Keeps, Unambiguous}
use Rattle.grammar.proofs.StackItems.{absent_missing}

-- A tree with the root `o` may stand on the left of an operator of the precedence `p`, as far as it says itself.
abbrev pub GivesWay : Option Role → ℕ → Type 0
GivesWay o p = (root_precedence o ≤ p) × (root_precedence o ≡ p → right_root o ≡ false)

-- An admitted operator's left operand gives way to it, and it keeps its right one.
pub left_gives : {T : Table} {l : SpanTree} {m : Bytes} {r : SpanTree} (c : AdmittingRole T l m r) → GivesWay (root T l) c.own.precedence
unfolding admits_equal
left_gives {T} {l} c =
    let f = admits-cases on_left c.own (root T l) c.left_fits in
    let not_right = and_right (is_left c.own.associativity) (not (right_root (root T l))) in
    (f.0, λ x. not-true (right_root (root T l)) (not_right (f.1 x)))

pub keeps_right : {T : Table} {l : SpanTree} {m : Bytes} {r : SpanTree} (c : AdmittingRole T l m r) → Keeps c.own (root_precedence (root T r))
unfolding admits_equal
keeps_right {T} {l} {m} {r} c = admits-cases on_right c.own (root T r) c.right_fits

-- The right spine of a tree: the operators that still wait when all its items have come, and what stands at its end.
unfoldable pub spine : SpanTree → Stack → Stack
spine missing w = w
spine (operand i) w = w
spine (apply l m r) w = spine r (waiting l m w)

unfoldable pub spine_end : SpanTree → SpanTree
spine_end missing = missing
spine_end (operand i) = operand i
spine_end (apply l m r) = spine_end r

-- The test whether an operator gives way.
pub gives_way_lem : (q d : Role) → GivesWay (some q) d.precedence → gives_way (some q) (some d) ≡ true
unfolding gives_way right_root root_precedence
gives_way_lem q d h = go (ltb q.precedence d.precedence) refl
  where
    go : (b : Bool) → ltb q.precedence d.precedence ≡ b → gives_way (some q) (some d) ≡ true
    go true e = rw e
    go false e =
        let f = ltb-false q.precedence d.precedence e in
        rw (e, eq-eqb q.precedence d.precedence (omega arith), h.1 (omega arith))

pub keeps_way : (q d : Role) → Keeps q d.precedence → gives_way (some q) (some d) ≡ false
unfolding gives_way
keeps_way q d k = go (eqb q.precedence d.precedence) refl
  where
    go : (b : Bool) → eqb q.precedence d.precedence ≡ b → gives_way (some q) (some d) ≡ false
    go true e =
        let f = eqb-true q.precedence d.precedence e in
        rw (le-ltb q.precedence d.precedence k.0, e, k.1 (sym f))
    go false e = rw (le-ltb q.precedence d.precedence k.0, e)

-- The right operand gives way where its operator does.
gives_right : (q : Role) (o : Option Role) (p : ℕ) → Keeps q (root_precedence o) → GivesWay (some q) p → GivesWay o p
unfolding root_precedence right_root
gives_right q o p k g = (omega arith, λ e. absurd (clash (k.1 (omega arith)) (g.1 (omega arith))))

-- The operator to which a tree gives way closes it.
module _ (T : Table) (m : Bytes) (d : Role) (comes : left_role T m ≡ some d) where
  collapse : (s : SpanTree) → Admitted T s → GivesWay (root T s) d.precedence → (w : Stack) → pushed T m (spine s w) (spine_end s) ≡ pushed T m w s
  unfolding spine spine_end root pushed
  collapse missing a g w = refl
  collapse (operand i) a g w = refl
  collapse (apply l t r) a g w = collapse r a.1 (gives_right c.own (root T r) d.precedence (keeps_right c) here) (waiting l t w) ∙ closes
    where
      c : AdmittingRole T l t r
      c = admitting_role T l t r a

      here : GivesWay (some c.own) d.precedence
      here = subst (λ o. GivesWay o d.precedence) (admitting_root c) g

      closes : pushed T m (waiting l t w) r ≡ pushed T m w (apply l t r)
      closes = rw (pushed, comes, admitting_root c, gives_way_lem c.own d here)

-- A waiting operator that does not give way stays.
push_stays :
    (T : Table) (m : Bytes) (k : SpanTree) (t : Bytes) (w : Stack) (o : SpanTree)
    → gives_way (role_of_fixity T t (fixity_by (present k) (present o))) (left_role T m) ≡ false
    → pushed T m (waiting k t w) o ≡ waiting o m (waiting k t w)
unfolding pushed fixity role_over
push_stays T m k t w o e = rw (pushed, e)

-- The innermost waiting operator keeps an operand of the precedence `p`.
abbrev pub Bears : Table → Stack → ℕ → Type 0
Bears T empty p = Unit {0}
Bears T (waiting l t w) p = (q : Role) × (role_of_fixity T t (fixity_by (present l) true) ≡ some q) × Keeps q p

pub bears_lower : (T : Table) (w : Stack) (p r : ℕ) → r ≤ p → Bears T w p → Bears T w r
bears_lower T empty p r h b = tt
bears_lower T (waiting l t w) p r h b = (b.0, b.1, (omega arith, λ e. b.2.1 (omega arith)))

-- The role of an operator over two parts, by their presence.
pub role_by : {T : Table} {l : SpanTree} {m : Bytes} {r : SpanTree} (c : AdmittingRole T l m r)
    → role_of_fixity T m (fixity_by (present l) (present r)) ≡ some c.own
unfolding role_over fixity
role_by c = admitting_root c

module _ (T : Table) (clear : Unambiguous T) where
  -- An operator with something on its left comes by the precedence of the role that it turns out to have.
  pub left-role :
      (m : Bytes) (b : Bool) (q : Role) → role_of_fixity T m (fixity_by true b) ≡ some q
      → (d : Role) × (left_role T m ≡ some d) × (q.precedence ≡ d.precedence)
  unfolding fixity_by role_of_fixity left_role first_role
  left-role m true q e = (q, rw e, refl)
  left-role m false q e = go (role T m Infix) refl
    where
      go : (o : Option Role) → role T m Infix ≡ o → (d : Role) × (left_role T m ≡ some d) × (q.precedence ≡ d.precedence)
      go none f = (q, rw (f, e), refl)
      go (some a) f = (a, rw f, sym (clear.one_precedence m a q f e))

  -- It leaves what waits below.
  push_behind :
      (m : Bytes) (d : Role) → left_role T m ≡ some d → (l : SpanTree) → present l ≡ true → (w : Stack) → Bears T w d.precedence
      → pushed T m w l ≡ waiting l m w
  unfolding pushed
  push_behind m d e l h empty b = refl
  push_behind m d e l h (waiting k t w) b = push_stays T m k t w l (rw (h, b.1, e) (keeps_way b.0 d b.2))

  -- So does a prefix operator, although what waits below might be a postfix one.
  push_prefix :
      (m : Bytes) (c : Role) → role T m Prefix ≡ some c → (w : Stack) → Bears T w c.precedence
      → pushed T m w missing ≡ waiting missing m w
  unfolding pushed present fixity_by role_of_fixity gives_way
  push_prefix m c e empty b = refl
  push_prefix m c e (waiting k t w) b = push_stays T m k t w missing (go (present k) refl)
    where
      postfix :
          (o : Option Role) → role T t Postfix ≡ o → (d : Option Role) → left_role T m ≡ d → role T t Infix ≡ some b.0 → gives_way o d ≡ false
      postfix none f d g h = refl
      postfix (some a) f none g h = refl
      postfix (some a) f (some d) g h = keeps_way a d (clear.settled t m b.0 a c d h f e g b.2)

      go : (x : Bool) → present k ≡ x → gives_way (role_of_fixity T t (fixity_by (present k) false)) (left_role T m) ≡ false
      go false f = rw f
      go true f = rw f (postfix (role T t Postfix) refl (left_role T m) refl (rw f at b.1))

  -- So an operator closes its left operand and no more.
  pub push :
      (l : SpanTree) (m : Bytes) (r : SpanTree) → Admitted T l → (c : AdmittingRole T l m r) (w : Stack) → Bears T w c.own.precedence
      → pushed T m (spine l w) (spine_end l) ≡ waiting l m w
  unfolding spine spine_end fixity_by role_of_fixity
  push l m r a c w b = go (present l) refl
    where
      prefix : (y : Bool) → role_of_fixity T m (fixity_by false y) ≡ some c.own → role T m Prefix ≡ some c.own
      prefix true e = e
      prefix false e = cc

      go : (x : Bool) → present l ≡ x → pushed T m (spine l w) (spine_end l) ≡ waiting l m w
      go false e = rw (absent_missing l e) (push_prefix m c.own (prefix (present r) (rw e at (role_by c))) w b)
      go true e =
          let d = left-role m (present r) c.own (rw e at (role_by c)) in
          let closes = collapse T m d.0 d.1 l a (subst (GivesWay (root T l)) d.2 (left_gives c)) w in
          closes ∙ push_behind m d.0 d.1 l e w (subst (Bears T w) d.2 b)
