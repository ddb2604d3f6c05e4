-- The pass over a span's items, step by step as the search takes it.
use mathlib.Core.Path.{◌≡◌, refl, sym, ap, ◌∙◌}
use mathlib.Core.Bool.{Bool, true, false}
use mathlib.Core.List.{List, [], ◌∷◌}
use mathlib.Core.Option.{Option, none, some}
use Prim.Native.Nat.{ℕ, suc, ◌≤◌, ◌+◌}
use native.Mathlib.Omega.{arith}
use lib.ListN.{length}
use Rattle.grammar.specs.Bytes.{Bytes}
use Rattle.grammar.specs.Token.{symbol}
use Rattle.grammar.specs.Operator.{Role, Table, role, is_some, Prefix}
use Rattle.grammar.specs.Span.{Item, single, item_tokens}
use Rattle.grammar.specs.SpanTree.{SpanTree, missing, operand, apply, present, fixity, fixity_by, role_of_fixity, role_over, is_operand}
use Rattle.grammar.specs.Climb.{
  symbol_at,
  Stack,
  empty,
  waiting,
  left_role,
  gives_way,
  pushed,
  closed,
  Progress,
  taking,
  takes,
  admits_prefix,
  bears,
  fits_below,
  arrives,
  arrived,
  operand_step,
  operator_step,
  advance,
  postfix_last,
  finish,
  stops,
  ending,
  climb_from,
}
use Rattle.grammar.proofs.Logic.{clash}
use Rattle.grammar.proofs.StackItems.{absent_missing}
use Rattle.grammar.proofs.ClimbReached.{at}
use Rattle.rows.specs.Codes.{Bounded, arrival_of, gives_way_to}
use Rattle.climb.proofs.Roles.{fit_over, gives_same, arrival_bound}

-- What comes next, by its number: an operator, or nothing more.
pub data Next (T : Table) (is : List Item) (v : ℕ) : Type 0 where
  last : is ≡ [] → v ≡ 2047 → Next T is v
  comes :
      (m : Bytes) (rest : List Item) → is ≡ single (symbol m) ∷ rest → v ≡ arrival_of (role T m) → is_operand T (single (symbol m)) ≡ false
      → Next T is v

pub next_bound : (T : Table) → Bounded T → (is : List Item) (v : ℕ) → Next T is v → v ≤ 2047
next_bound T b is v (last e d) = omega arith
next_bound T b is v (comes m rest e d f) = rw d (arrival_bound T b m)

module _ (T : Table) where
  pass_step :
      (n j : ℕ) (u v : Progress) (x : Item) (is : List Item) → j ≡ n + length (item_tokens x) → advance T u x ≡ some v
      → climb_from T n u (x ∷ is) ≡ climb_from T j v is
  unfolding climb_from
  pass_step n j u v x is p e = rw (climb_from, e, p)

  pass_stop : (n : ℕ) (u : Progress) (x : Item) (is : List Item) → advance T u x ≡ none → climb_from T n u (x ∷ is) ≡ stops n
  unfolding climb_from
  pass_stop n u x is e = rw (climb_from, e)

  -- An operand comes behind nothing, where it is taken or not, or behind another one.
  pub pass_operand :
      (n j : ℕ) (w : Stack) (x : Item) (is : List Item) → j ≡ n + length (item_tokens x) → is_operand T x ≡ true → takes T w ≡ true
      → climb_from T n (at w missing) (x ∷ is) ≡ climb_from T j (at w (operand x)) is
  unfolding advance operand_step present
  pass_operand n j w x is p e t = pass_step n j (at w missing) (at w (operand x)) x is p (rw (advance, e, operand_step, t))

  pub pass_untaken :
      (n : ℕ) (w : Stack) (x : Item) (is : List Item) → is_operand T x ≡ true → takes T w ≡ false
      → climb_from T n (at w missing) (x ∷ is) ≡ stops n
  unfolding advance operand_step present
  pass_untaken n w x is e t = pass_stop n (at w missing) x is (rw (advance, e, operand_step, t))

  pub pass_two :
      (n : ℕ) (w : Stack) (o : SpanTree) (x : Item) (is : List Item) → is_operand T x ≡ true → present o ≡ true
      → climb_from T n (at w o) (x ∷ is) ≡ stops n
  unfolding advance operand_step
  pass_two n w o x is e f = pass_stop n (at w o) x is (rw (advance, e, operand_step, f))

  -- An operator comes: the innermost that waits closes, or it waits itself, if it may.
  step_operator :
      (w : Stack) (o : SpanTree) (m : Bytes) → is_operand T (single (symbol m)) ≡ false
      → advance T (at w o) (single (symbol m)) ≡ arrived T (pushed T m w o)
  unfolding advance operator_step symbol_at
  step_operator w o m e = rw (advance, e)

  arrived_by : (w : Stack) (o : SpanTree) (m : Bytes) → arrives T o m w ≡ true → arrived T (waiting o m w) ≡ some (at (waiting o m w) missing)
  unfolding arrived
  arrived_by w o m a = rw (arrived, a)

  not_arrived : (w : Stack) (o : SpanTree) (m : Bytes) → arrives T o m w ≡ false → arrived T (waiting o m w) ≡ none
  unfolding arrived
  not_arrived w o m a = rw (arrived, a)

  module _
      (n : ℕ) (w : Stack) (o : SpanTree) (m : Bytes) (is : List Item) (e : is_operand T (single (symbol m)) ≡ false)
      (p : pushed T m w o ≡ waiting o m w) where
    pub pass_waits : arrives T o m w ≡ true → climb_from T n (at w o) (single (symbol m) ∷ is) ≡ climb_from T (suc n) (at (waiting o m w) missing) is
    unfolding item_tokens
    pass_waits a =
        pass_step n (suc n) (at w o) (at (waiting o m w) missing) (single (symbol m)) is (omega arith)
        (step_operator w o m e ∙ ap (arrived T) p ∙ arrived_by w o m a)

    pub pass_refuses : arrives T o m w ≡ false → climb_from T n (at w o) (single (symbol m) ∷ is) ≡ stops n
    pass_refuses a = pass_stop n (at w o) (single (symbol m)) is (step_operator w o m e ∙ ap (arrived T) p ∙ not_arrived w o m a)

  -- States that an operator finds alike.
  pass_alike :
      (n : ℕ) (u v : Progress) (x : Item) (is : List Item) → advance T u x ≡ advance T v x → climb_from T n u (x ∷ is) ≡ climb_from T n v (x ∷ is)
  unfolding climb_from
  pass_alike n u v x is e = go (advance T v x) refl
    where
      go : (o : Option Progress) → advance T v x ≡ o → climb_from T n u (x ∷ is) ≡ climb_from T n v (x ∷ is)
      go none f = pass_stop n u x is (e ∙ f) ∙ sym (pass_stop n v x is f)
      go (some y) f = pass_step n _ u y x is refl (e ∙ f) ∙ sym (pass_step n _ v y x is refl f)

  closes-postfix :
      (l : SpanTree) (t : Bytes) (w : Stack) (q : Role) → role_over T l t missing ≡ some q
      → finish T (at (waiting l t w) missing) ≡ finish T (at w (apply l t missing))
  unfolding finish present postfix_last is_some
  closes-postfix l t w q e = rw (postfix_last, e)

  module _ (l : SpanTree) (t : Bytes) (w : Stack) (o : SpanTree) where
    pushed-closes : (m : Bytes) → gives_way (role_over T l t o) (left_role T m) ≡ true → pushed T m (waiting l t w) o ≡ pushed T m w (apply l t o)
    unfolding pushed
    pushed-closes m e = rw (e, pushed)

    pub pushed_waits :
        (m : Bytes) → gives_way (role_over T l t o) (left_role T m) ≡ false → pushed T m (waiting l t w) o ≡ waiting o m (waiting l t w)
    unfolding pushed
    pushed_waits m e = rw (e, pushed)

    final_closes : (q : Role) → role_over T l t o ≡ some q → finish T (at (waiting l t w) o) ≡ finish T (at w (apply l t o))
    unfolding finish present closed postfix_last is_some
    final_closes q e = go (present o) refl
      where
        go : (b : Bool) → present o ≡ b → finish T (at (waiting l t w) o) ≡ finish T (at w (apply l t o))
        go true h = rw (finish, h)
        go false h =
            let d = absent_missing o h in
            let f : role_over T l t missing ≡ some q = ap (role_over T l t) (sym d) ∙ e in
            rw d (closes-postfix l t w q f)

    pub pass_closes :
        Bounded T → (n : ℕ) (is : List Item) (v : ℕ) → Next T is v → gives_way_to (role_over T l t o) v ≡ true
        → climb_from T n (at (waiting l t w) o) is ≡ climb_from T n (at w (apply l t o)) is
    unfolding climb_from gives_way_to
    pass_closes b n is v (last e d) g = rw e (go (role_over T l t o) refl g)
      where
        go :
            (x : Option Role) → role_over T l t o ≡ x → gives_way_to x v ≡ true
            → ending n (finish T (at (waiting l t w) o)) ≡ ending n (finish T (at w (apply l t o)))
        go none f h = absurd (clash h refl)
        go (some q) f h = ap (ending n) (final_closes q f)
    pass_closes b n is v (comes m rest e d f) g =
        let h : gives_way (role_over T l t o) (left_role T m) ≡ true = sym (gives_same T m (role_over T l t o) (fit_over T b l t o)) ∙ rw d at g in
        rw e
        (pass_alike n (at (waiting l t w) o) (at w (apply l t o)) (single (symbol m)) rest
        (step_operator (waiting l t w) o m f ∙ ap (arrived T) (pushed-closes m h) ∙ sym (step_operator w (apply l t o) m f)))

  -- What stands above an operator that waits is taken by it.
  abbrev pub AllTake : Stack → Type 0
  AllTake empty = Unit {0}
  AllTake (waiting l t w) = (takes T w ≡ true) × AllTake w

  -- A prefix operator that may come is taken.
  bears-takes : (w : Stack) (c : Role) → bears T w c ≡ true → takes T w ≡ true
  unfolding bears takes taking admits_prefix is_some
  bears-takes empty c e = refl
  bears-takes (waiting l t w) c e = go (role_of_fixity T t (fixity_by (present l) true)) e
    where
      go : (o : Option Role) → admits_prefix o c ≡ true → is_some o ≡ true
      go none h = h
      go (some q) h = refl

  pub arrives-takes : (o : SpanTree) (m : Bytes) (w : Stack) → (present o ≡ true → takes T w ≡ true) → arrives T o m w ≡ true → takes T w ≡ true
  unfolding arrives fits_below
  arrives-takes o m w f a = go (present o) refl
    where
      first : (x : Option Role) → fits_below T x w ≡ true → takes T w ≡ true
      first none h = absurd (clash h refl)
      first (some c) h = bears-takes w c h

      go : (b : Bool) → present o ≡ b → takes T w ≡ true
      go true h = f h
      go false h = first (role T m Prefix) (rw (h, arrives) at a)

  left-postfix : (l : SpanTree) (t : Bytes) (w : Stack) → role_over T l t missing ≡ none → finish T (at (waiting l t w) missing) ≡ none
  unfolding finish present postfix_last is_some
  left-postfix l t w e = rw (postfix_last, e)

  -- At the end an operator is left over that has no role: none came behind it.
  pub final_left :
      (l : SpanTree) (t : Bytes) (w : Stack) (o : SpanTree) → (present o ≡ true → takes T (waiting l t w) ≡ true) → role_over T l t o ≡ none
      → finish T (at (waiting l t w) o) ≡ none
  unfolding finish postfix_last is_some takes taking role_over fixity
  final_left l t w o f e = go (present o) refl
    where
      go : (b : Bool) → present o ≡ b → finish T (at (waiting l t w) o) ≡ none
      go true h =
          let z : role_of_fixity T t (fixity_by (present l) true) ≡ none = rw h at e in
          absurd (clash (f h) (rw z))
      go false h =
          let d = absent_missing o h in
          let z : role_over T l t missing ≡ none = ap (role_over T l t) (sym d) ∙ e in
          rw d (left-postfix l t w z)
