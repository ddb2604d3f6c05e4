-- What a turn answers or how it goes on are the laws of `DeclarationLoop`.
use mathlib.Core.Path.{◌≡◌, refl, sym, ◌∙◌}
use mathlib.Core.Bool.{false}
use Prim.Native.Nat.{ℕ}
use Rattle.std.specs.Prelude.{Option, Some, None, is_some}
use Rattle.grammar.proofs.Logic.{clash, impossible}
use Rattle.declaring.proofs.DeclarationAt.{RoleAt, ClearsAt, role_at, clears_at}
use Rattle.declaring.proofs.DeclarationLoop.{
  entering_first,
  declares_refused,
  declares_passed,
  passed_test,
  refused_test,
  handed,
  unfit_stops,
  role_name,
  role_part,
  role_reserved,
  overfull,
  declarable,
  declared-over,
  cleared_name,
  cleared_part,
  cleared_reserved,
  cleared_over,
}
use Rattle.declaring.proofs.declare_all.Goals as goal
use Rattle.declaring.proofs.declare_all.Goals.{In-Ok-Clears, In-Ok-Role, Joined-is_some, then-is_some, else-is_some}

pub loop-at-init : goal.loop-at-init
loop-at-init c = entering_first _ _ _ _ _ c.requires.0 c.requires.1 refl

pub returns-in-Err : goal.returns-in-Err
returns-in-Err c =
    declares_refused _ _ _ _ _ _ _ _ (unfit_stops c.loop-at.invariant c.loop-at-test.true _ c.in-Err.ensures)
    (record { numbered = refl; placed = refl })

-- A role that is declared.
role :
    (c : In-Ok-Role)
    → let v = c.loop-at.invariant in
    RoleAt c.args.text.now c.args.tokens.now c.args.to v.placed v.stored v.within c.loop-at.at c.loop-at-test.true
    c.in-Ok-Role.fixity c.in-Ok-Role.role c.in-Ok-Role.operator
role c =
    let v = c.loop-at.invariant in
    role_at _ _ _ v.placed v.stored v.within _ c.loop-at-test.true _ _ _ (rw c.in-Ok-Role.field-0-is at c.in-Ok-Role.ensures)

pub slice_bounds-name-end : goal.slice_bounds-name-end
slice_bounds-name-end c =
    (role_part c.loop-at.invariant c.loop-at-test.true (role (goal.at.slice_bounds-name-end c).In-Ok-Role)).1

pub returns-in_err-check_reserved-in-Ok-Role : goal.returns-in_err-check_reserved-in-Ok-Role
returns-in_err-check_reserved-in-Ok-Role c =
    let r = role (goal.at.returns-in_err-check_reserved-in-Ok-Role c).In-Ok-Role in
    let (t, x) = refused_test _ _ _ _ c.in_err-check_reserved-in-Ok-Role.ensures in
    declares_refused _ _ _ _ _ _ _ _ (role_reserved c.loop-at.invariant c.loop-at-test.true r t)
    (handed _ _ _ _ c.from_residual.ensures.1 x)

pub find-found-requires : goal.find-found-requires
find-found-requires c =
    let v = c.loop-at.invariant in
    (v.sound, role_name v c.loop-at-test.true (role (goal.at.find-found-requires c).In-Ok-Role))

pub returns-in_err-check_room-in-Ok-Role : goal.returns-in_err-check_room-in-Ok-Role
returns-in_err-check_room-in-Ok-Role c =
    let r = role (goal.at.returns-in_err-check_room-in-Ok-Role c).In-Ok-Role in
    let free = passed_test _ _ _ _ c.in_ok-check_reserved-in-Ok-Role.ensures in
    let (t, x) = refused_test _ _ _ _ c.in_err-check_room-in-Ok-Role.ensures in
    declares_refused _ _ _ _ _ _ _ _ (overfull c.loop-at.invariant c.loop-at-test.true r _ c.find-found.ensures free t)
    (handed _ _ _ _ c.from_residual-in_err-check_room-in-Ok-Role.ensures.1 x)

pub hash-requires : goal.hash-requires
hash-requires c = role_name c.loop-at.invariant c.loop-at-test.true (role (goal.at.hash-requires c).In-Ok-Role)

pub declare-inner-requires : goal.declare-inner-requires
declare-inner-requires c =
    let r = role (goal.at.declare-inner-requires c).In-Ok-Role in
    let room = passed_test _ _ _ _ c.in_ok-check_room-in-Ok-Role.ensures in
    (_, declarable c.loop-at.invariant c.loop-at-test.true r _ c.find-found.ensures c.hash.ensures room)

-- No operator that was listed got a role, if none did before and this one is new.
not_found : (o : Option ℕ) → is_some o ≡ false → o ≡ None
not_found None e = refl
not_found (Some k) e = impossible (cc)

unreplaced :
    (c : Joined-is_some) → c.if-is_some.replaced ≡ false → (c.loop-at.replaced ≡ false) × (c.find-found.result ≡ None)
unreplaced c z =
    elim c.if-is_some.branch [
      | then-is_some w ↦ absurd (clash w.replaced-is z)
      | else-is_some w ↦ (sym w.replaced-is ∙ z, not_found _ (sym c.is_some.ensures ∙ w.if-is_some.false))
    ]

pub loop-at-preserved-in-Ok-Role : goal.loop-at-preserved-in-Ok-Role
loop-at-preserved-in-Ok-Role c =
    let v = c.loop-at.invariant in
    let l = c.loop-at-test.true in
    let p = goal.at.loop-at-preserved-in-Ok-Role c in
    let r = role p.In-Ok-Role in
    let room = passed_test _ _ _ _ c.in_ok-check_room-in-Ok-Role.ensures in
    let free = passed_test _ _ _ _ c.in_ok-check_reserved-in-Ok-Role.ensures in
    let d = declarable v l r _ c.find-found.ensures c.hash.ensures room in
    declared-over v l r _ c.find-found.ensures free _ (c.declare-inner.ensures _ d) _ (unreplaced p.Joined-is_some)

-- A name that is cleared.
clears :
    (c : In-Ok-Clears)
    → let v = c.loop-at.invariant in
    ClearsAt c.args.text.now c.args.tokens.now c.args.to v.placed v.stored v.within c.loop-at.at c.loop-at-test.true
    c.in-Ok-Clears.operator
clears c =
    let v = c.loop-at.invariant in
    clears_at _ _ _ v.placed v.stored v.within _ c.loop-at-test.true _ (rw c.in-Ok-Clears.field-0-is at c.in-Ok-Clears.ensures)

pub slice_bounds-cleared-end : goal.slice_bounds-cleared-end
slice_bounds-cleared-end c =
    (cleared_part c.loop-at.invariant c.loop-at-test.true (clears (goal.at.slice_bounds-cleared-end c).In-Ok-Clears)).1

pub returns-in_err-check_reserved-in-Ok-Clears : goal.returns-in_err-check_reserved-in-Ok-Clears
returns-in_err-check_reserved-in-Ok-Clears c =
    let r = clears (goal.at.returns-in_err-check_reserved-in-Ok-Clears c).In-Ok-Clears in
    let (t, x) = refused_test _ _ _ _ c.in_err-check_reserved-in-Ok-Clears.ensures in
    declares_refused _ _ _ _ _ _ _ _ (cleared_reserved c.loop-at.invariant c.loop-at-test.true r t)
    (handed _ _ _ _ c.from_residual-in_err-check_reserved-in-Ok-Clears.ensures.1 x)

pub find-found-requires-in-Ok-Clears : goal.find-found-requires-in-Ok-Clears
find-found-requires-in-Ok-Clears c =
    let v = c.loop-at.invariant in
    (v.sound, cleared_name v c.loop-at-test.true (clears (goal.at.find-found-requires-in-Ok-Clears c).In-Ok-Clears))

pub loop-at-preserved : goal.loop-at-preserved
loop-at-preserved c =
    let v = c.loop-at.invariant in
    cleared_over v c.loop-at-test.true (clears (goal.at.loop-at-preserved c).In-Ok-Clears)
    (passed_test _ _ _ _ c.in_ok-check_reserved-in-Ok-Clears.ensures) _
    (c.clear-inner.ensures _ _ (record { sound = v.sound; looked = c.find-found-in-Ok-Clears.ensures }))

-- Behind the last declaration.
pub returns : goal.returns
returns c = declares_passed _ _ _ _ _ c.loop-at.invariant c.loop-at-test.false
