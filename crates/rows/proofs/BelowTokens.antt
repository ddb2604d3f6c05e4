-- What stands alone, test by test. Looking through bracket pairs: what is known of a root on the way, and where the way ends.
use mathlib.Core.Path.{◌≡◌, refl}
use mathlib.Core.Bool.{Bool, true, false, ◌&&◌}
use Prim.Native.Nat.{ℕ, ◌-◌, ◌≤◌, ◌<◌}
use native.Mathlib.Omega.{arith}
use lib.Dec.{eqb, leb}
use borrow.Author.Tests.{leb-true, le-leb, lt-leb, eqb-true, eq-eqb, ne_eqb}
use Rattle.grammar.proofs.Logic.{and_left, and_right}
use Rattle.rows.specs.Fields.{TokenRow, RootRow, kind, left, right, Within}
use Rattle.rows.specs.Below.{stands_alone, Leads, there, through}

and_false : (b : Bool) → b && false ≡ false
and_false true = refl
and_false false = refl

module _ (K : TokenRow) (O : RootRow) (i : ℕ) where
  pub alone_structure : 3 < kind K i → stands_alone K O i ≡ false
  unfolding stands_alone
  alone_structure l = rw (lt-leb (kind K i) 3 l, stands_alone)

  pub alone_left : (left O i ≡ 0 → ⊥) → stands_alone K O i ≡ false
  unfolding stands_alone
  alone_left n = rw (ne_eqb (left O i) 0 n, stands_alone) (and_false (leb (kind K i) 3))

  pub alone_right : kind K i ≤ 3 → left O i ≡ 0 → stands_alone K O i ≡ eqb (right O i) 0
  unfolding stands_alone
  alone_right l e = rw (le-leb (kind K i) 3 l, eq-eqb (left O i) 0 e, stands_alone)

  pub alone : stands_alone K O i ≡ true → (kind K i ≤ 3) × (left O i ≡ 0) × (right O i ≡ 0)
  unfolding stands_alone
  alone e =
      let f = and_right (leb (kind K i) 3) (eqb (left O i) 0 && eqb (right O i) 0) e in (
        leb-true (kind K i) 3 (and_left (leb (kind K i) 3) (eqb (left O i) 0 && eqb (right O i) 0) e),
        eqb-true (left O i) 0 (and_left (eqb (left O i) 0) (eqb (right O i) 0) f),
        eqb-true (right O i) 0 (and_right (eqb (left O i) 0) (eqb (right O i) 0) f),
      )

pub leads_within : {K : TokenRow} {O : RootRow} {i h : ℕ} → Leads K O i h → Within K i
leads_within (there w k) = w
leads_within (through j w v k e l p) = w

-- The way ends where no bracket pair stands.
pub leads_there : {K : TokenRow} {O : RootRow} {i h : ℕ} → Leads K O i h → (kind K i ≡ 4 → ⊥) → i ≡ h
leads_there (there w k) d = refl
leads_there (through j w v k e l p) d = absurd (d k)

-- Through a pair it goes on, at a token behind it.
pub record Onward (K : TokenRow) (O : RootRow) (i h : ℕ) : Type 0 where
  pub within : Within O i
  pub some : 1 ≤ left O i
  pub behind : i < left O i - 1
  pub rest : Leads K O (left O i - 1) h

pub leads_through : {K : TokenRow} {O : RootRow} {i h : ℕ} → Leads K O i h → kind K i ≡ 4 → Onward K O i h
leads_through (there w k) e = absurd (k e)
leads_through {K} {O} {i} {h} (through j w v k e l p) d =
    let s : left O i - 1 ≡ j = omega arith in
    record { within = v; some = omega arith; behind = omega arith; rest = rw s p }
