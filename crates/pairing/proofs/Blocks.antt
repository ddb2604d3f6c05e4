-- Where none of the tokens is the `in` of a block, none is one by its number.
use mathlib.Core.Path.{◌≡◌, refl}
use mathlib.Core.Bool.{Bool, true, false}
use Prim.Native.Nat.{ℕ, zero, suc}
use native.Mathlib.Omega.{arith}
use lib.Dec.{eqb}
use borrow.Author.Tests.{eq-eqb}
use Rattle.grammar.proofs.Logic.{impossible, below}
use Rattle.rows.specs.Fields.{TokenRow, kind}
use Rattle.rows.specs.Tokens.{Unblocked}
use Rattle.pairing.specs.Pairing.{has_block}

pub no_block : (K : TokenRow) (n : ℕ) → has_block K n ≡ false → Unblocked K n
unfolding has_block
no_block K zero e = λ j l k. absurd (omega arith)
no_block K (suc n) e = go (eqb (kind K n) 8) refl e (no_block K n)
  where
    go :
        (b : Bool) → eqb (kind K n) 8 ≡ b → elim b as (λ _. Bool) [ true ↦ true | false ↦ has_block K n ] ≡ false
        → (has_block K n ≡ false → Unblocked K n) → Unblocked K (suc n)
    go true d f u = impossible cc
    go false d f u =
        λ j l k. below j n (λ a. u f j a k)
        (λ a. let z : j ≡ n = omega arith in let y = eq-eqb (kind K n) 8 (rw z at k) in impossible cc)
