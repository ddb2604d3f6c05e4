-- A row in which the brackets of a pair have got their byte, if it stays: nothing else has changed.
use mathlib.Core.Path.{◌≡◌, refl, sym, ap, ◌∙◌}
use mathlib.Core.Bool.{Bool, true, false}
use Prim.Native.Nat.{ℕ, max, ◌≤◌}
use native.Mathlib.Omega.{arith}
use lib.ListN.{length, length-set}
use lib.Seq.{set_out}
use Rattle.grammar.proofs.Logic.{below}
use Rattle.rows.specs.declared.token.Token.{Token}
use Rattle.rows.specs.Fields.{TokenRow, blank, token, closer, size, Within}
use Rattle.rows.proofs.Fields.{same_entry, other_entry}
use Rattle.canonical_text.specs.Brackets.{DiffersInSizes, resized, kept_pair, size_if}

pub sizes_then : (K K' K'' : TokenRow) → DiffersInSizes K K' → DiffersInSizes K' K'' → DiffersInSizes K K''
sizes_then K K' K'' f g j = g j ∙ ap {A = Token} (λ t. record t { size = size K'' j }) (f j)

own_size : (t u : Token) (n : ℕ) → t ≡ record u { size = n } → t ≡ record u { size = t.size }
own_size t u n e = e ∙ ap {A = ℕ} (λ m. record u { size = m }) (sym (ap (λ v. v.size) e))

-- A row with another size for a token.
module _ (K : TokenRow) (i n : ℕ) where
  resized_other : (j : ℕ) → (i ≡ j → ⊥) → token (resized K i n) j ≡ token K j
  resized_other j d = other_entry K i j _ blank d

  resized_here : Within K i → token (resized K i n) i ≡ record (token K i) { size = n }
  resized_here w = same_entry K i _ blank w.1

  -- Another token, and the same one in a row that has it or not.
  resized_cases : (j : ℕ) (P : Type 0) → (token (resized K i n) j ≡ token K j → P) → (token (resized K i n) j ≡ record (token K j) { size = n } → P) → P
  resized_cases j P f g =
      below i j (λ h. f (resized_other j (λ e. omega arith)))
      (λ h. below j i (λ k. f (resized_other j (λ e. omega arith)))
      (λ k. let e : j ≡ i = omega arith in
      below i (length K) (λ m. g (rw e (same_entry K i _ blank m)))
      (λ m. f (ap (λ L. token L j) (set_out K i (record (token K i) { size = n }) m)))))

  -- No token has changed but for its size.
  resized_fields : DiffersInSizes K (resized K i n)
  resized_fields j = resized_cases j _ (own_size _ (token K j) (size K j)) (own_size _ (token K j) n)

  resized_bound : (j : ℕ) → size (resized K i n) j ≤ max n (size K j)
  resized_bound j =
      resized_cases j _ (λ e. omega (arith, ap (λ t. t.size) e)) (λ e. omega (arith, ap (λ t. t.size) e))

  resized_long : length (resized K i n) ≡ length K
  resized_long = length-set K i _

module _ (K : TokenRow) (i : ℕ) where
  pub pair_long : (b : Bool) → length (kept_pair b K i) ≡ length K
  unfolding kept_pair
  pair_long true = resized_long (resized K i 1) (closer K i) 1 ∙ resized_long K i 1
  pair_long false = refl

  -- Every token but for its size.
  pub pair_fields : (b : Bool) → DiffersInSizes K (kept_pair b K i)
  unfolding kept_pair
  pair_fields true = sizes_then K (resized K i 1) (resized (resized K i 1) (closer K i) 1) (resized_fields K i 1) (resized_fields (resized K i 1) (closer K i) 1)
  pair_fields false = λ j. refl

  -- The size of every other token.
  pub pair_others : (b : Bool) (j : ℕ) → (i ≡ j → ⊥) → (closer K i ≡ j → ⊥) → size (kept_pair b K i) j ≡ size K j
  unfolding kept_pair
  pair_others true j d e = ap (λ t. t.size) (resized_other (resized K i 1) (closer K i) 1 j e ∙ resized_other K i 1 j d)
  pair_others false j d e = refl

  -- No size is above 1 that was not.
  pub pair_small : (b : Bool) (j : ℕ) → size (kept_pair b K i) j ≤ max 1 (size K j)
  unfolding kept_pair
  pair_small true j = omega (arith, resized_bound (resized K i 1) (closer K i) 1 j, resized_bound K i 1 j)
  pair_small false j = omega arith

  -- The brackets themselves, which had none.
  module _ (c : ℕ) (e : closer K i ≡ c) (d : i ≡ c → ⊥) where
    pub pair_opener : (b : Bool) → Within K i → size K i ≡ 0 → size (kept_pair b K i) i ≡ size_if b
    unfolding kept_pair size_if
    pair_opener true w z =
        ap (λ t. t.size) (resized_other (resized K i 1) (closer K i) 1 i (λ q. d (sym q ∙ e)) ∙ resized_here K i 1 w)
    pair_opener false w z = z

    pub pair_closer : (b : Bool) → Within K c → size K c ≡ 0 → size (kept_pair b K i) c ≡ size_if b
    unfolding kept_pair size_if
    pair_closer true w z =
        ap (λ x. size (resized (resized K i 1) x 1) c) e
        ∙ ap (λ t. t.size) (resized_here (resized K i 1) c 1 (w.0, omega (arith, resized_long K i 1, w.1)))
    pair_closer false w z = z
