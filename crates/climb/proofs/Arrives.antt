-- Whether an operator may come, by the numbers of the roles.
use mathlib.Core.Path.{◌≡◌, refl, sym, ap, ◌∙◌}
use mathlib.Core.Bool.{Bool, true, false, not}
use mathlib.Core.Option.{Option, none, some}
use Prim.Native.Nat.{ℕ}
use native.Mathlib.Omega.{arith}
use lib.Dec.{eqb}
use lib.ListN.{get_or}
use borrow.Author.Tests.{eq-eqb, ne_eqb}
use Rattle.std.proofs.lemmas.List.{get_or_default}
use Rattle.grammar.specs.Bytes.{Bytes}
use Rattle.grammar.specs.Token.{symbol}
use Rattle.grammar.specs.Operator.{Prefix, Infix, Postfix, right, Role, Table, role, is_some}
use Rattle.grammar.specs.SpanTree.{SpanTree, missing, present, fixity_by, root, root_precedence, is_right, on_left, on_right, admits}
use Rattle.grammar.specs.Climb.{first_role, left_role, Stack, empty, waiting, taking, takes, admits_prefix, bears, fits_left, fits_below, arrives}
use Rattle.grammar.proofs.StackItems.{absent_missing}
use Rattle.grammar.proofs.ClimbInvariant.{keeps_admits}
use Rattle.rows.specs.declared.roles.Note.{Note}
use Rattle.rows.specs.Fields.{NoteRow, no_note, note, prefix, infixed, postfix, Within}
use Rattle.rows.specs.InUse.{role_between, role_beside}
use Rattle.rows.specs.Codes.{role_code, role_of, Fit, Bounded}
use Rattle.rows.specs.Agreeing.{roles_for, Noted}
use Rattle.rows.proofs.Codes.{no_role, some_role, right-role, role-code, none_code}
use Rattle.climb.specs.Beside.{fits_prefix, arrives_at}
use Rattle.climb.specs.Searched.{span_mark}
use Rattle.climb.proofs.Roles.{fit_fixity, fit_root}
use Rattle.climb.proofs.Waiting.{mark_shows}

-- The note of a token whatever stands for one behind the row, and the role that it gives.
pub note_read : (R : NoteRow) (i : ℕ) (n : Note) → Within R i → note R i ≡ get_or R i n
note_read R i n w = get_or_default R i no_note n w.1

pub beside_read :
    (R : NoteRow) (i l r : ℕ) (n : Note) {c : ℕ} → Within R i → c ≡ role_between (get_or R i n).roles l r → c ≡ role_beside R i l r
beside_read R i l r n w e = e ∙ ap (λ (m : Note). role_between m.roles l r) (sym (note_read R i n w))

module _ (R : NoteRow) (i l q k : ℕ) where
  at_front : eqb l 0 ≡ true → arrives_at R i l q k ≡ fits_prefix (role_of (prefix R i)) (role_of k)
  unfolding arrives_at
  at_front e = rw (arrives_at, e)

  at_behind : eqb l 0 ≡ false → arrives_at R i l q k ≡ fits_left (first_role (role_of (infixed R i)) (role_of (postfix R i))) (role_of q)
  unfolding arrives_at
  at_behind e = rw (arrives_at, e)

  pub prefix_none : l ≡ 0 → prefix R i ≡ 0 → arrives_at R i l q k ≡ false
  unfolding fits_prefix
  prefix_none e f = at_front (eq-eqb l 0 e) ∙ rw (no_role (prefix R i) f)

  pub prefix_untaken : l ≡ 0 → k ≡ 0 → arrives_at R i l q k ≡ false
  unfolding fits_prefix admits_prefix
  prefix_untaken e f = at_front (eq-eqb l 0 e) ∙ rw (no_role k f) (go (role_of (prefix R i)))
    where
      go : (o : Option Role) → fits_prefix o none ≡ false
      go none = refl
      go (some c) = refl

  pub prefix_by :
      (b : Bool) → l ≡ 0 → (prefix R i ≡ 0 → ⊥) → (k ≡ 0 → ⊥) → ((r : Role) → role_of k ≡ some r → b ≡ admits on_right r (role_of (prefix R i)))
      → b ≡ arrives_at R i l q k
  unfolding fits_prefix admits_prefix
  prefix_by b e f g h =
      some_role (prefix R i) f (λ c d. some_role k g (λ r m. go c r d m))
    where
      go : (c r : Role) → role_of (prefix R i) ≡ some c → role_of k ≡ some r → b ≡ arrives_at R i l q k
      go c r d m =
          let x : b ≡ admits on_right r (some c) = rw d at (h r m) in
          let y : fits_prefix (role_of (prefix R i)) (role_of k) ≡ admits on_right r (some c) = rw (d, m) in
          x ∙ sym (at_front (eq-eqb l 0 e) ∙ y)

  pub infix_by :
      (b : Bool) → (l ≡ 0 → ⊥) → (infixed R i ≡ 0 → ⊥) → ((r : Role) → role_of (infixed R i) ≡ some r → b ≡ admits on_left r (role_of q))
      → b ≡ arrives_at R i l q k
  unfolding fits_left first_role
  infix_by b e f h = some_role (infixed R i) f (λ r d. h r d ∙ sym (at_behind (ne_eqb l 0 e) ∙ rw d))

  pub postfix_none : (l ≡ 0 → ⊥) → infixed R i ≡ 0 → postfix R i ≡ 0 → arrives_at R i l q k ≡ false
  unfolding fits_left first_role
  postfix_none e f g = at_behind (ne_eqb l 0 e) ∙ rw (no_role (infixed R i) f, no_role (postfix R i) g)

  pub postfix_by :
      (b : Bool) → (l ≡ 0 → ⊥) → infixed R i ≡ 0 → (postfix R i ≡ 0 → ⊥)
      → ((r : Role) → role_of (postfix R i) ≡ some r → b ≡ admits on_left r (role_of q)) → b ≡ arrives_at R i l q k
  unfolding fits_left first_role
  postfix_by b e f g h = some_role (postfix R i) g (λ r d. h r d ∙ sym (at_behind (ne_eqb l 0 e) ∙ rw (no_role (infixed R i) f, d)))

mark_missing : (s : ℕ) → span_mark s missing ≡ 0
unfolding span_mark
mark_missing s = refl

-- The number of the role in which what waits takes an operand; where none waits, that of a role that admits all.
abbrev pub widest : ℕ
widest = 7344

abbrev pub TakingCode : Table → Stack → ℕ → Type 0
TakingCode T empty k = k ≡ widest
TakingCode T (waiting l t w) k = k ≡ role_code (taking T l t)

module _ (T : Table) (bounded : Bounded T) where
  fit_taking : (l : SpanTree) (t : Bytes) → Fit (taking T l t)
  unfolding taking
  fit_taking l t = fit_fixity T bounded t (fixity_by (present l) true)

  -- The widest role.
  widest-role : role_of widest ≡ some (record { precedence = 1200; associativity = right })
  widest-role = right-role widest (omega arith)

  -- 0: no operand is taken.
  pub untaken : (w : Stack) (k : ℕ) → TakingCode T w k → k ≡ 0 → takes T w ≡ false
  unfolding takes is_some
  untaken empty k e z = absurd (omega arith)
  untaken (waiting l t w) k e z = rw (none_code (taking T l t) (fit_taking l t) (sym e ∙ z))

  pub taken : (w : Stack) (k : ℕ) → TakingCode T w k → (k ≡ 0 → ⊥) → takes T w ≡ true
  unfolding takes is_some role_code
  taken empty k e z = refl
  taken (waiting l t w) k e z = go (taking T l t) refl
    where
      go : (o : Option Role) → taking T l t ≡ o → takes T (waiting l t w) ≡ true
      go none f = absurd (z (e ∙ rw f))
      go (some r) f = rw f

  -- The test by numbers is the test.
  module _ (R : NoteRow) (i : ℕ) (m : Bytes) (noted : Noted T R i (symbol m)) where
    at_prefix : role_of (prefix R i) ≡ role T m Prefix
    unfolding roles_for
    at_prefix = ap role_of noted.prefixed ∙ role-code (role T m Prefix) (bounded m Prefix)

    at_infix : role_of (infixed R i) ≡ role T m Infix
    unfolding roles_for
    at_infix = ap role_of noted.between ∙ role-code (role T m Infix) (bounded m Infix)

    at_postfix : role_of (postfix R i) ≡ role T m Postfix
    unfolding roles_for
    at_postfix = ap role_of noted.postfixed ∙ role-code (role T m Postfix) (bounded m Postfix)

    admits-widest : (c : Role) → Fit (some c) → admits on_right (record { precedence = 1200; associativity = right }) (some c) ≡ true
    unfolding root_precedence is_right
    admits-widest c f = keeps_admits (record { precedence = 1200; associativity = right }) (some c) (f.1, λ e. refl)

    before : (w : Stack) (k : ℕ) → TakingCode T w k → fits_prefix (role T m Prefix) (role_of k) ≡ fits_below T (role T m Prefix) w
    unfolding fits_prefix fits_below bears admits_prefix
    before w k t = go (role T m Prefix) (bounded m Prefix) w t
      where
        go : (o : Option Role) → Fit o → (w : Stack) → TakingCode T w k → fits_prefix o (role_of k) ≡ fits_below T o w
        go none f w t = refl
        go (some c) f empty t = rw (t, widest-role) (admits-widest c f)
        go (some c) f (waiting l n w) t = rw (t, role-code (taking T l n) (fit_taking l n))

    pub arrives-same :
        (o : SpanTree) (w : Stack) (s l q k : ℕ) → l ≡ span_mark s o → q ≡ role_code (root T o) → (l ≡ 0 → TakingCode T w k)
        → arrives_at R i l q k ≡ arrives T o m w
    unfolding arrives left_role
    arrives-same o w s l q k p e t = go (present o) refl
      where
        shows : eqb l 0 ≡ not (present o)
        shows = rw p (mark_shows s o)

        go : (b : Bool) → present o ≡ b → arrives_at R i l q k ≡ arrives T o m w
        go true h =
            at_behind R i l q k (shows ∙ rw h)
            ∙ rw (at_infix, at_postfix, e, role-code (root T o) (fit_root T bounded o), arrives, h)
        go false h =
            let z : l ≡ 0 = p ∙ ap (span_mark s) (absent_missing o h) ∙ mark_missing s in
            at_front R i l q k (eq-eqb l 0 z) ∙ rw at_prefix (before w k (t z) ∙ rw (arrives, h))
