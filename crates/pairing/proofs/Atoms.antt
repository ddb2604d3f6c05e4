-- A text without tokens of structure passes checks 6 and 7, and its tokens are paired as they stand.
use mathlib.Core.Path.{◌≡◌, refl, ◌∙◌}
use mathlib.Core.List.{[]}
use Prim.Native.Nat.{ℕ, zero, suc, ◌+◌, ◌≤◌, ◌<◌}
use native.Mathlib.Omega.{arith}
use Rattle.grammar.specs.Outcome.{passed}
use Rattle.grammar.specs.Nesting.{stays, nesting}
use Rattle.grammar.specs.Coded.{token_of}
use Rattle.grammar.proofs.Nested.{moved, nesting_step}
use Rattle.rows.specs.Fields.{TokenRow, kind}
use Rattle.rows.specs.Tokens.{Paired, done, single, IsAtomKind}
use Rattle.pairing.specs.Pairing.{tokens_by}
use Rattle.pairing.proofs.Moves.{atom_kind-stays}

module _ (K : TokenRow) where
  -- `n` tokens from number `i` on.
  atoms :
      (n i : ℕ) → ((j : ℕ) → i ≤ j → j < i + n → IsAtomKind (kind K j))
      → Paired K i (i + n) × (nesting [] i (tokens_by K i n) ≡ passed tt)
  unfolding tokens_by nesting moved
  atoms zero i h = let e : i + 0 ≡ i = omega arith in (rw e done, refl)
  atoms (suc n) i h =
      let e : i + suc n ≡ suc i + n = omega arith in
      let l : i < suc i + n = omega arith in
      let k = h i (omega arith) (omega arith) in
      let r = atoms n (suc i) (λ j x y. h j (omega arith) (omega arith)) in (
        rw e (single l k r.0),
        nesting_step [] i (token_of (kind K i) []) (tokens_by K (suc i) n) stays (atom_kind-stays [] (kind K i) k) tt ∙ r.1,
      )

  pub paired_atoms :
      (n : ℕ) → ((j : ℕ) → j < n → IsAtomKind (kind K j)) → Paired K 0 n × (nesting [] 0 (tokens_by K 0 n) ≡ passed tt)
  paired_atoms n h =
      let e : 0 + n ≡ n = omega arith in
      rw e at (atoms n 0 (λ j x y. h j (omega arith)))
