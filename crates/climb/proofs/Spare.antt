-- The tokens that make no node, counted where the check counts them: a closer at its opener, and at a `let` the tokens behind it up to
-- its `in`. What is counted from one token to another is a sum, so it can be cut anywhere.
use mathlib.Core.Path.{◌≡◌, refl}
use mathlib.Core.Bool.{true, false}
use mathlib.Core.Logic.{◌⊎◌, inl, inr, ⊎_elim}
use Prim.Native.Nat.{ℕ, zero, suc, ◌+◌, ◌-◌, ◌≤◌, ◌<◌}
use native.Mathlib.Omega.{arith}
use lib.Dec.{eqb}
use borrow.Author.Tests.{eq-eqb, ne_eqb, eqb-true}
use Rattle.grammar.proofs.Logic.{or_cases}
use Rattle.rows.specs.Fields.{TokenRow, kind, closer}
use Rattle.rows.specs.Tokens.{IsQuietKind}
use Rattle.climb.specs.Beside.{opens_span}

-- Token `j` opens a span.
abbrev pub Opens : TokenRow → ℕ → Type 0
Opens K j = opens_span (kind K j) ≡ true

pub opens_bracket : (k : ℕ) → k ≡ 4 → opens_span k ≡ true
unfolding opens_span
opens_bracket k e = rw e

pub opens_in : (k : ℕ) → k ≡ 8 → opens_span k ≡ true
unfolding opens_span
opens_in k e = rw e

pub opens-kind : (k : ℕ) → opens_span k ≡ true → (k ≡ 4) ⊎ (k ≡ 8)
unfolding opens_span
opens-kind k e = go (or_cases (eqb k 4) (eqb k 8) e)
  where
    go : (eqb k 4 ≡ true) ⊎ (eqb k 8 ≡ true) → (k ≡ 4) ⊎ (k ≡ 8)
    go (inl f) = inl (eqb-true k 4 f)
    go (inr f) = inr (eqb-true k 8 f)

pub opens_none : (k : ℕ) → (k ≡ 4 → ⊥) → (k ≡ 8 → ⊥) → opens_span k ≡ false
unfolding opens_span
opens_none k d e = rw (ne_eqb k 4 d, ne_eqb k 8 e)

unfoldable pub spare : TokenRow → ℕ → ℕ
spare K j = elim (opens_span (kind K j)) [ true ↦ 1 | false ↦ elim (eqb (kind K j) 7) [ true ↦ closer K j - j | false ↦ 0 ] ]

-- Of `n` tokens from number `i` on, and of those from number `i` to number `to`.
unfoldable pub spare_in : TokenRow → ℕ → ℕ → ℕ
spare_in K i zero = 0
spare_in K i (suc n) = spare K i + spare_in K (suc i) n

abbrev pub spare_to : TokenRow → ℕ → ℕ → ℕ
spare_to K i to = spare_in K i (to - i)

module _ (K : TokenRow) where
  -- At one token, by its kind.
  pub spare_opens : (j : ℕ) → Opens K j → spare K j ≡ 1
  unfolding spare
  spare_opens j e = rw (e, spare)

  pub spare_let : (j : ℕ) → kind K j ≡ 7 → spare K j ≡ closer K j - j
  unfolding spare
  spare_let j e =
      rw (opens_none (kind K j) (λ d. omega arith) (λ d. omega arith), spare, eq-eqb (kind K j) 7 e)

  pub spare_none : (j : ℕ) → opens_span (kind K j) ≡ false → (kind K j ≡ 7 → ⊥) → spare K j ≡ 0
  unfolding spare
  spare_none j e d = rw (e, spare, ne_eqb (kind K j) 7 d)

  pub spare_quiet : (j : ℕ) → IsQuietKind (kind K j) → spare K j ≡ 0
  spare_quiet j q = spare_none j (opens_none (kind K j) q.2 (λ d. omega (arith, q.1))) (λ d. omega (arith, q.1))

  pub spare_atom : (j : ℕ) → kind K j ≤ 3 → spare K j ≡ 0
  spare_atom j q = spare_none j (opens_none (kind K j) (λ d. omega arith) (λ d. omega arith)) (λ d. omega arith)

  pub atom_opens_none : (j : ℕ) → kind K j ≤ 3 → Opens K j → ⊥
  atom_opens_none j q o = ⊎_elim (λ x. omega arith) (λ x. omega arith) (opens-kind (kind K j) o)

  pub quiet_opens_none : (j : ℕ) → IsQuietKind (kind K j) → Opens K j → ⊥
  quiet_opens_none j q o = ⊎_elim (λ x. q.2 x) (λ x. omega (arith, q.1)) (opens-kind (kind K j) o)

  -- Over tokens.
  spare_split : (n m i : ℕ) → spare_in K i (n + m) ≡ spare_in K i n + spare_in K (i + n) m
  unfolding spare_in
  spare_split zero m i = let e : 0 + m ≡ m = omega arith in let f : i + 0 ≡ i = omega arith in rw (e, f) (omega arith)
  spare_split (suc n) m i =
      let e : suc n + m ≡ suc (n + m) = omega arith in
      let f : i + suc n ≡ suc i + n = omega arith in
      rw (e, f) (omega (arith, spare_split n m (suc i)))

  pub spare_cut : (i c to : ℕ) → i ≤ c → c ≤ to → spare_to K i to ≡ spare_to K i c + spare_to K c to
  spare_cut i c to l m =
      let e : to - i ≡ (c - i) + (to - c) = omega arith in
      let f : i + (c - i) ≡ c = omega arith in
      rw e (rw f at (spare_split (c - i) (to - c) i))

  pub spare_next : (i to : ℕ) → i < to → spare_to K i to ≡ spare K i + spare_to K (suc i) to
  unfolding spare_in
  spare_next i to l = let e : to - i ≡ suc (to - suc i) = omega arith in rw e

  pub spare_done : (to : ℕ) → spare_to K to to ≡ 0
  unfolding spare_in
  spare_done to = let e : to - to ≡ 0 = omega arith in rw e

  pub spare_last : (i to : ℕ) → i ≤ to → spare_to K i (suc to) ≡ spare_to K i to + spare K to
  spare_last i to l =
      omega (arith, spare_cut i to (suc to) l (omega arith), spare_next to (suc to) (omega arith), spare_done (suc to))

  spare_quiet_in : (n i : ℕ) → ((j : ℕ) → i ≤ j → j < i + n → spare K j ≡ 0) → spare_in K i n ≡ 0
  unfolding spare_in
  spare_quiet_in zero i f = refl
  spare_quiet_in (suc n) i f =
      omega (arith, f i (omega arith) (omega arith), spare_quiet_in n (suc i) (λ j l m. f j (omega arith) (omega arith)))

  pub spare_nothing : (i to : ℕ) → ((j : ℕ) → i ≤ j → j < to → spare K j ≡ 0) → spare_to K i to ≡ 0
  spare_nothing i to f = spare_quiet_in (to - i) i (λ j l m. f j l (omega arith))
