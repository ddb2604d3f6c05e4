-- What holds of what waits: each operator that has come fits, so that closing needs no test, and what has come can be continued.
use mathlib.Core.Path.{◌≡◌, refl, sym, subst, ◌∙◌}
use mathlib.Core.Bool.{Bool, true, false}
use mathlib.Core.List.{List, [], ◌∷◌, ◌++◌, append-nil}
use mathlib.Core.Option.{Option, none, some}
use native.Mathlib.Omega.{arith}
use lib.Dec.{ltb, eqb}
use borrow.Author.Tests.{lt-ltb, ltb-false, eq-eqb}
use Rattle.grammar.specs.Bytes.{Bytes}
use Rattle.grammar.specs.Token.{symbol, number}
use Rattle.grammar.specs.Operator.{Fixity, Prefix, Role, Table, role, is_some}
use Rattle.grammar.specs.Span.{Item, single}
use Rattle.grammar.specs.SpanTree.{
  SpanTree,
  missing,
  operand,
  apply,
  yield,
  present,
  fixity_by,
  fixity,
  role_of_fixity,
  role_over,
  root,
  root_precedence,
  is_right,
  on_left,
  on_right,
  admits_equal,
  admits,
  admits_both,
  is_operand_atom,
  is_operand,
  Admitted,
  IsSpanTree,
}
use Rattle.grammar.specs.Climb.{
  symbol_at,
  Stack,
  empty,
  waiting,
  left_role,
  gives_way,
  pushed,
  closed,
  Progress,
  taking,
  takes,
  admits_prefix,
  bears,
  fits_left,
  fits_below,
  arrives,
  arrived,
  operand_step,
  operator_step,
  advance,
  postfix_last,
  finish,
}
use Rattle.grammar.proofs.Logic.{and_intro, clash, impossible}
use Rattle.grammar.proofs.AdmittingRole.{admits-cases}
use Rattle.grammar.proofs.Unambiguous.{Keeps, Unambiguous}
use Rattle.grammar.proofs.Positive.{Positive}
use Rattle.grammar.proofs.StackItems.{absent_missing}
use Rattle.grammar.proofs.RightSpine.{Bears}
use Rattle.grammar.specs.Continuation.{HasTree, Continuable}
use Rattle.grammar.proofs.StackItems.{symbol_is, stack_items, closed-yield, pushed-yield, stack_append}
use Rattle.grammar.proofs.Arriving.{OneSide, coming, Alike, admits_alike, comes_alike, comes_some}

-- An operand under every table.
abbrev pub some_operand : Item
some_operand = single (number [])

-- A role admits on its right what it keeps, and keeps what it admits there.
pub keeps_admits : (q : Role) (o : Option Role) → Keeps q (root_precedence o) → admits on_right q o ≡ true
unfolding admits admits_equal
keeps_admits q o k = go (ltb (root_precedence o) q.precedence) refl
  where
    go : (b : Bool) → ltb (root_precedence o) q.precedence ≡ b → admits on_right q o ≡ true
    go true e = rw e
    go false e =
        let f = ltb-false (root_precedence o) q.precedence e in
        rw (e, eq-eqb (root_precedence o) q.precedence (omega arith)) (k.1 (omega arith))

pub admits_keeps : (q : Role) (o : Option Role) → admits on_right q o ≡ true → Keeps q (root_precedence o)
unfolding admits_equal
admits_keeps q o h = admits-cases on_right q o h

-- An operator that does not give way keeps the one that comes.
pub stays_keeps : (q d : Role) → gives_way (some q) (some d) ≡ false → Keeps q d.precedence
unfolding gives_way
stays_keeps q d h = go (ltb q.precedence d.precedence) refl (eqb q.precedence d.precedence) refl (is_right q.associativity) refl
  where
    go :
        (a : Bool) → ltb q.precedence d.precedence ≡ a → (b : Bool) → eqb q.precedence d.precedence ≡ b
        → (c : Bool) → is_right q.associativity ≡ c → Keeps q d.precedence
    go true e b f c g = let z : true ≡ false = rw e at h in absurd (clash refl z)
    go false e b f true g = let l = ltb-false q.precedence d.precedence e in (omega arith, λ x. g)
    go false e true f false g = let z : true ≡ false = rw (e, f, g) at h in absurd (clash refl z)
    go false e false f false g =
        let l = ltb-false q.precedence d.precedence e in
        (omega arith, λ x. absurd (clash (eq-eqb q.precedence d.precedence (sym x)) f))

-- An operator waits, with what stands on its left, above `w`.
pub record Came (T : Table) (l : SpanTree) (m : Bytes) (w : Stack) : Type 0 where
  pub own : Role
  pub known : coming T (present l) m ≡ some own
  pub admitted : Admitted T l
  pub fits : admits on_left own (root T l) ≡ true
  pub below : Bears T w own.precedence

abbrev pub Waits : Table → Stack → Type 0
Waits T empty = Unit {0}
Waits T (waiting l m w) = Came T l m w × Waits T w

-- An operand stands above what waits.
pub record Stands (T : Table) (w : Stack) (o : SpanTree) : Type 0 where
  pub admitted : Admitted T o
  pub borne : present o ≡ true → Bears T w (root_precedence (root T o))

pub record Good (T : Table) (u : Progress) : Type 0 where
  pub waits : Waits T u.stack
  pub stands : Stands T u.stack u.last

pub present_missing : present missing ≡ false
unfolding present
present_missing = refl

pub good_start : (T : Table) → Good T (record { stack = empty; last = missing })
good_start T = record { waits = tt; stands = record { admitted = tt; borne = λ e. tt } }

-- A step, by what has come.
pub data Stepped (T : Table) (u : Progress) (i : Item) (v : Progress) : Type 0 where
  as_operand : is_operand T i ≡ true → present u.last ≡ false → takes T u.stack ≡ true → v ≡ record { stack = u.stack; last = operand i } → Stepped T u i v
  as_operator : (m : Bytes) → i ≡ single (symbol m) → arrived T (pushed T m u.stack u.last) ≡ some v → Stepped T u i v

pub stepped : (T : Table) (u : Progress) (i : Item) (v : Progress) → advance T u i ≡ some v → Stepped T u i v
unfolding advance operand_step operator_step
stepped T u i v e = go (is_operand T i) refl
  where
    named : (x : Option Bytes) → symbol_at i ≡ x → operator_step T u x ≡ some v → Stepped T u i v
    named none f h = impossible cc
    named (some m) f h = as_operator m (symbol_is i m f) h

    taken : is_operand T i ≡ true → (b c : Bool) → present u.last ≡ b → takes T u.stack ≡ c → operand_step T u i ≡ some v → Stepped T u i v
    taken a true c f g h = let z : none ≡ some v = rw (f, operand_step) at h in impossible cc
    taken a false true f g h =
        let z : some (record { stack = u.stack; last = operand i }) ≡ some v = rw (f, operand_step, g) at h in
        as_operand a f g (cc)
    taken a false false f g h = let z : none ≡ some v = rw (f, operand_step, g) at h in impossible cc

    go : (b : Bool) → is_operand T i ≡ b → Stepped T u i v
    go true f = taken f (present u.last) (takes T u.stack) refl refl (rw (f, advance) at e)
    go false f = named (symbol_at i) refl (rw (f, advance) at e)

-- The items that have come.
unfoldable pub items : Progress → List Item
items u = stack_items u.stack (yield u.last)

arrived_is : (T : Table) (w : Stack) (v : Progress) → arrived T w ≡ some v → v ≡ record { stack = w; last = missing }
unfolding arrived
arrived_is T empty v e = impossible cc
arrived_is T (waiting o m w) v e = go (arrives T o m w) refl
  where
    go : (b : Bool) → arrives T o m w ≡ b → v ≡ record { stack = waiting o m w; last = missing }
    go true f =
        let z : some (record { stack = waiting o m w; last = missing }) ≡ some v = rw (f, arrived) at e in
        cc
    go false f = let z : none ≡ some v = rw (f, arrived) at e in impossible cc

pub step_items : (T : Table) (u : Progress) (i : Item) (v : Progress) → advance T u i ≡ some v → items v ≡ items u ++ i ∷ []
unfolding items yield
step_items T u i v e = go (stepped T u i v e)
  where
    go : Stepped T u i v → items v ≡ items u ++ i ∷ []
    go (as_operand a h t n) = rw (n, absent_missing u.last h) (sym (stack_append u.stack [] (i ∷ [])))
    go (as_operator m a n) =
        rw (arrived_is T (pushed T m u.stack u.last) v n, a)
        (pushed-yield T m u.stack u.last [] ∙ sym (stack_append u.stack (yield u.last) (single (symbol m) ∷ [])))

module _ (T : Table) (clear : Unambiguous T) (side : OneSide T) (positive : Positive T) where
  -- A role in force has room for an operand.
  keeps_operand : (m : Bytes) (f : Option Fixity) (q : Role) → role_of_fixity T m f ≡ some q → Keeps q 0
  unfolding role_of_fixity
  keeps_operand m none q e = impossible cc
  keeps_operand m (some f) q e = let p = positive m f q e in (omega arith, λ x. absurd (omega arith))

  -- What waits closes over what it admits on its right.
  close :
      (l : SpanTree) (m : Bytes) (w : Stack) (o : SpanTree) (q : Role) → Came T l m w → Admitted T o → role_over T l m o ≡ some q
      → Keeps q (root_precedence (root T o)) → Stands T w (apply l m o)
  unfolding role_over fixity admits_both root root_precedence
  close l m w o q c a e k =
      record {
        admitted = (c.admitted, a, rw (e, admits_both) (and_intro (admits_alike q c.own (root T l) alike ∙ c.fits) (keeps_admits q (root T o) k)));
        borne = λ h. rw e (subst (Bears T w) (sym alike.precedence) c.below);
      }
    where
      alike : Alike q c.own
      alike = comes_alike T clear side m (present l) (present o) q c.own e c.known

  over-present : (l : SpanTree) (m : Bytes) (o : SpanTree) → present o ≡ true → role_over T l m o ≡ role_of_fixity T m (fixity_by (present l) true)
  unfolding role_over fixity
  over-present l m o h = rw h

  -- A missing left operand fits.
  operand_fits : (m : Bytes) (f : Fixity) (q : Role) → role T m f ≡ some q → admits on_left q (root T missing) ≡ true
  unfolding admits root root_precedence
  operand_fits m f q e = let p = positive m f q e in rw (lt-ltb 0 q.precedence (omega arith))

  -- Over an operand, ..
  close_operand :
      (l : SpanTree) (m : Bytes) (w : Stack) (o : SpanTree) → Came T l m w → present o ≡ true → Stands T (waiting l m w) o
      → Stands T w (apply l m o)
  unfolding role_over fixity
  close_operand l m w o c h s =
      let b = s.borne h in
      close l m w o b.0 c s.admitted (rw h b.1) b.2

  -- .. or over nothing.
  close_postfix : (l : SpanTree) (m : Bytes) (w : Stack) (q : Role) → Came T l m w → role_over T l m missing ≡ some q → Stands T w (apply l m missing)
  unfolding role_over root root_precedence
  close_postfix l m w q c e = close l m w missing q c tt e (keeps_operand m (fixity l missing) q e)

  -- Where the operator gives way.
  close_giving :
      (l : SpanTree) (m : Bytes) (w : Stack) (o : SpanTree) (d : Option Role) → Came T l m w → Stands T (waiting l m w) o
      → gives_way (role_over T l m o) d ≡ true → Stands T w (apply l m o)
  unfolding gives_way
  close_giving l m w o d c s e = go (present o) refl
    where
      some_role : (x : Option Role) → role_over T l m missing ≡ x → gives_way x d ≡ true → Stands T w (apply l m missing)
      some_role none f g = absurd (clash g refl)
      some_role (some q) f g = close_postfix l m w q c f

      go : (b : Bool) → present o ≡ b → Stands T w (apply l m o)
      go true h = close_operand l m w o c h s
      go false h =
          let n = absent_missing o h in
          rw n (some_role (role_over T l m missing) refl (rw n at e))

  -- Nothing more comes: all that wait close.
  pub closed-stands : (w : Stack) (o : SpanTree) → Waits T w → Stands T w o → present o ≡ true → Admitted T (closed w o) × (present (closed w o) ≡ true)
  unfolding closed present
  closed-stands empty o g s h = (s.admitted, h)
  closed-stands (waiting l m w) o g s h = closed-stands w (apply l m o) g.1 (close_operand l m w o g.0 h s) refl

  -- What an operator that comes leaves: itself on top, and below it what keeps it.
  abbrev Pushed : Bytes → Stack → Type 0
  Pushed m empty = ⊥
  Pushed m (waiting o t w) =
      (t ≡ m) × Waits T w × Admitted T o × (present o ≡ true → (d : Role) → left_role T m ≡ some d → Bears T w d.precedence)

  pushed_good : (m : Bytes) (w : Stack) (o : SpanTree) → Waits T w → Stands T w o → Pushed m (pushed T m w o)
  unfolding pushed
  pushed_good m empty o g s = (refl, tt, s.admitted, λ h d e. tt)
  pushed_good m (waiting l t w) o g s = go (gives_way (role_over T l t o) (left_role T m)) refl (pushed_good m w (apply l t o) g.1)
    where
      go :
          (b : Bool) → gives_way (role_over T l t o) (left_role T m) ≡ b → (Stands T w (apply l t o) → Pushed m (pushed T m w (apply l t o)))
          → Pushed m (pushed T m (waiting l t w) o)
      go true e ih = rw (e, pushed) (ih (close_giving l t w o (left_role T m) g.0 s e))
      go false e ih = rw (e, pushed) (refl, g, s.admitted, kept)
        where
          kept : present o ≡ true → (d : Role) → left_role T m ≡ some d → Bears T (waiting l t w) d.precedence
          kept h d f =
              let b = s.borne h in
              let r = over-present l t o h ∙ b.1 in
              (b.0, b.1, stays_keeps b.0 d (rw (r, f) at e))

  -- The test of what waits below.
  pub bears_test : (w : Stack) (c : Role) → bears T w c ≡ true → Bears T w c.precedence
  unfolding bears taking admits_prefix root_precedence
  bears_test empty c e = tt
  bears_test (waiting l t w) c e = go (role_of_fixity T t (fixity_by (present l) true)) refl e
    where
      go :
          (o : Option Role) → role_of_fixity T t (fixity_by (present l) true) ≡ o → admits_prefix o c ≡ true
          → Bears T (waiting l t w) c.precedence
      go none f h = absurd (clash h refl)
      go (some q) f h = (q, f, admits_keeps q (some c) h)

  takes_test : (w : Stack) → takes T w ≡ true → Bears T w 0
  unfolding takes taking is_some
  takes_test empty e = tt
  takes_test (waiting l t w) e = go (role_of_fixity T t (fixity_by (present l) true)) refl e
    where
      go : (o : Option Role) → role_of_fixity T t (fixity_by (present l) true) ≡ o → is_some o ≡ true → Bears T (waiting l t w) 0
      go none f h = absurd (clash h refl)
      go (some q) f h = (q, f, keeps_operand t (fixity_by (present l) true) q f)

  -- An operator that has come and passed the test.
  came : (o : SpanTree) (m : Bytes) (w : Stack) → Pushed m (waiting o m w) → arrives T o m w ≡ true → Came T o m w
  unfolding arrives fits_left fits_below coming
  came o m w p e = go (present o) refl
    where
      behind : present o ≡ true → (x : Option Role) → left_role T m ≡ x → fits_left x (root T o) ≡ true → Came T o m w
      behind h none f g = absurd (clash g refl)
      behind h (some d) f g = record { own = d; known = rw h f; admitted = p.2; fits = g; below = p.3 h d f }

      first : present o ≡ false → (x : Option Role) → role T m Prefix ≡ x → fits_below T x w ≡ true → Came T o m w
      first h none f g = absurd (clash g refl)
      first h (some c) f g =
          record { own = c; known = rw h f; admitted = p.2; fits = rw (absent_missing o h) (operand_fits m Prefix c f); below = bears_test w c g }

      go : (b : Bool) → present o ≡ b → Came T o m w
      go true h = behind h (left_role T m) refl (rw (h, arrives) at e)
      go false h = first h (role T m Prefix) refl (rw (h, arrives) at e)

  arrived_good : (m : Bytes) (w : Stack) (v : Progress) → Pushed m w → arrived T w ≡ some v → Good T v
  unfolding arrived
  arrived_good m empty v p e = absurd p
  arrived_good m (waiting o t w) v p e = go (arrives T o t w) refl
    where
      same : t ≡ m
      same = p.0

      go : (b : Bool) → arrives T o t w ≡ b → Good T v
      go false f = let z : none ≡ some v = rw (f, arrived) at e in impossible cc
      go true f =
          let z : some (record { stack = waiting o t w; last = missing }) ≡ some v = rw (f, arrived) at e in
          let y : record { stack = waiting o t w; last = missing } ≡ v = cc in
          rw (← y) (record {
            waits = (came o t w (refl, p.1, p.2, rw (← same) at p.3) f, p.1);
            stands = record { admitted = tt; borne = λ h. absurd (clash h present_missing) };
          })

  pub step_good : (u : Progress) (i : Item) (v : Progress) → Good T u → advance T u i ≡ some v → Good T v
  unfolding root root_precedence
  step_good u i v g e = go (stepped T u i v e)
    where
      go : Stepped T u i v → Good T v
      go (as_operand a h t n) =
          rw n (record { waits = g.waits; stands = record { admitted = a; borne = λ x. takes_test u.stack t } })
      go (as_operator m a n) = arrived_good m (pushed T m u.stack u.last) v (pushed_good m u.stack u.last g.waits g.stands) n

  -- What is found at the end is a tree.
  postfix_last_lem : (w : Stack) (s : SpanTree) → Waits T w → postfix_last T w ≡ some s → Admitted T s × (present s ≡ true) × (yield s ≡ stack_items w [])
  unfolding postfix_last is_some present stack_items yield
  postfix_last_lem empty s g e = impossible cc
  postfix_last_lem (waiting l t w) s g e = go (role_over T l t missing) refl
    where
      go : (o : Option Role) → role_over T l t missing ≡ o → Admitted T s × (present s ≡ true) × (yield s ≡ stack_items (waiting l t w) [])
      go none f = let z : none ≡ some s = rw (f, postfix_last) at e in impossible cc
      go (some q) f =
          let z : some (closed w (apply l t missing)) ≡ some s = rw (f, postfix_last) at e in
          let y : closed w (apply l t missing) ≡ s = cc in
          let c = closed-stands w (apply l t missing) g.1 (close_postfix l t w q g.0 f) refl in
          rw (← y) (c.0, c.1, closed-yield w (apply l t missing))

  pub final_good : (u : Progress) (s : SpanTree) → Good T u → finish T u ≡ some s → IsSpanTree T (items u) s
  unfolding finish items yield
  final_good u s g e = go (present u.last) refl
    where
      go : (b : Bool) → present u.last ≡ b → IsSpanTree T (items u) s
      go true h =
          let z : some (closed u.stack u.last) ≡ some s = rw (h, finish) at e in
          let y : closed u.stack u.last ≡ s = cc in
          let c = closed-stands u.stack u.last g.waits g.stands h in
          rw (← y) (record { yields = closed-yield u.stack u.last; admitted = c.0; there = c.1 })
      go false h =
          let z : postfix_last T u.stack ≡ some s = rw (h, finish) at e in
          let c = postfix_last_lem u.stack s g.waits z in
          record { yields = rw (absent_missing u.last h) c.2; admitted = c.0; there = c.1 }

  -- What has come can be continued, with nothing or with one operand.
  behind_waiting : (w : Stack) (x : Item) → is_operand T x ≡ true → Waits T w → Bears T w 0 → HasTree T (stack_items w [] ++ x ∷ [])
  unfolding yield present root root_precedence
  behind_waiting w x free g b =
      let c = closed-stands w (operand x) g (record { admitted = free; borne = λ h. b }) refl in
      (closed w (operand x), record { yields = closed-yield w (operand x) ∙ sym (stack_append w [] (x ∷ [])); admitted = c.0; there = c.1 })

  with_nothing : (p : List Item) (s : SpanTree) → Admitted T s → present s ≡ true → yield s ≡ p → Continuable T p
  with_nothing p s a h e = ([], (s, rw (append-nil p) (record { yields = e; admitted = a; there = h })))

  continuable_waiting : (w : Stack) → Waits T w → Continuable T (stack_items w [])
  unfolding stack_items yield present role_over fixity is_operand is_operand_atom
  continuable_waiting empty g = (some_operand ∷ [], behind_waiting empty some_operand refl g tt)
  continuable_waiting (waiting l t w) g = go (role_over T l t missing) refl
    where
      go : (o : Option Role) → role_over T l t missing ≡ o → Continuable T (stack_items (waiting l t w) [])
      go none f =
          let r = comes_some T t (present l) g.0.own g.0.known f in
          let b : Bears T (waiting l t w) 0 = (g.0.own, r, keeps_operand t (fixity_by (present l) true) g.0.own r) in
          (some_operand ∷ [], behind_waiting (waiting l t w) some_operand refl g b)
      go (some q) f =
          let c = closed-stands w (apply l t missing) g.1 (close_postfix l t w q g.0 f) refl in
          with_nothing _ (closed w (apply l t missing)) c.0 c.1 (closed-yield w (apply l t missing))

  pub good_continuable : (u : Progress) → Good T u → Continuable T (items u)
  unfolding items yield
  good_continuable u g = go (present u.last) refl
    where
      go : (b : Bool) → present u.last ≡ b → Continuable T (items u)
      go true h =
          let c = closed-stands u.stack u.last g.waits g.stands h in
          with_nothing _ (closed u.stack u.last) c.0 c.1 (closed-yield u.stack u.last)
      go false h = rw (absent_missing u.last h) (continuable_waiting u.stack g.waits)
