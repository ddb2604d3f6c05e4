-- Whether an operator may come: by the roles that are there.
use mathlib.Core.Path.{◌≡◌, sym, ap, ◌∙◌}
use mathlib.Core.Bool.{Bool, true, false}
use Prim.Native.Nat.{ℕ}
use lib.Dec.{eqb}
use borrow.Author.Tests.{eqb-true, eqb-false}
use Rattle.rows.specs.declared.roles.Note.{Note}
use Rattle.climb.proofs.Arrives.{note_read, prefix_none, prefix_untaken, prefix_by, infix_by, postfix_none, postfix_by}
use Rattle.climb.proofs.search.arrives.Goals as goal

is-zero : {b : Bool} {x y : ℕ} → x ≡ y → b ≡ eqb y 0 → b ≡ true → x ≡ 0
is-zero {y = y} e f t = e ∙ eqb-true y 0 (sym f ∙ t)

not-zero : {b : Bool} {x y : ℕ} → x ≡ y → b ≡ eqb y 0 → b ≡ false → x ≡ 0 → ⊥
not-zero {y = y} e f t z = eqb-false y 0 (sym f ∙ t) (sym e ∙ z)

pub returns-then-is_none : goal.returns-then-is_none
returns-then-is_none c =
    let e = note_read _ _ c.index-notes-i.result c.requires in
    sym
    (prefix_none _ _ _ _ _ c.if-left-eq0.true (is-zero (ap (λ (n : Note). n.roles.prefix.code) e) c.is_none.ensures c.if-is_none.true))

pub returns-then-is_none-2 : goal.returns-then-is_none-2
returns-then-is_none-2 c =
    sym (prefix_untaken _ _ _ _ _ c.if-left-eq0.true (eqb-true _ 0 (sym c.is_none-then-left-eq0.ensures ∙ c.if-is_none-2.true)))

pub returns-then-left-eq0 : goal.returns-then-left-eq0
returns-then-left-eq0 c =
    let e = ap (λ (n : Note). n.roles.prefix.code) (note_read _ _ c.index-notes-i.result c.requires) in
    prefix_by _ _ _ _ _ _ c.if-left-eq0.true (not-zero e c.is_none.ensures c.if-is_none.false)
    (eqb-false _ 0 (sym c.is_none-then-left-eq0.ensures ∙ c.if-is_none-2.false)) (rw e c.admits.ensures)

pub returns-then-not-is_none : goal.returns-then-not-is_none
returns-then-not-is_none c =
    let e = ap (λ (n : Note). n.roles.«infix».code) (note_read _ _ c.index-notes-i.result c.requires) in
    infix_by _ _ _ _ _ _ c.if-left-eq0.false (not-zero e c.is_none-2.ensures c.if-not-is_none.true) (rw e c.admits-then-not-is_none.ensures)

pub returns-then-is_none-3 : goal.returns-then-is_none-3
returns-then-is_none-3 c =
    let e = note_read _ _ c.index-notes-i.result c.requires in
    sym
    (postfix_none _ _ _ _ _ c.if-left-eq0.false (is-zero (ap (λ (n : Note). n.roles.«infix».code) e) c.is_none-2.ensures c.if-not-is_none.false)
    (is-zero (ap (λ (n : Note). n.roles.postfix.code) e) c.is_none-3.ensures c.if-is_none-3.true))

pub returns : goal.returns
returns c =
    let e = note_read _ _ c.index-notes-i.result c.requires in
    let p = ap (λ (n : Note). n.roles.postfix.code) e in
    postfix_by _ _ _ _ _ _ c.if-left-eq0.false (is-zero (ap (λ (n : Note). n.roles.«infix».code) e) c.is_none-2.ensures c.if-not-is_none.false)
    (not-zero p c.is_none-3.ensures c.if-is_none-3.false) (rw p c.admits-2.ensures)
