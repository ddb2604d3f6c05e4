-- Stores into a row, whatever is read of an entry, such as one of its fields: what is stored is there; it is kept of every other entry, and of
-- the same one where the stored entry has it as the row had it. Which entries stand in a row; where the first byte of a token stands, by its
-- kind.
use mathlib.Core.Path.{◌≡◌, ap, subst, ◌∙◌}
use mathlib.Core.List.{List}
use Prim.Native.Nat.{ℕ, ◌-◌, ◌<◌}
use native.Mathlib.Omega.{arith}
use lib.ListN.{length, get_or, set}
use lib.Seq.{get_or-set_same, get_or-set_other, set_out}
use borrow.Author.Tests.{eq-eqb, ne_eqb}
use Rattle.grammar.proofs.Logic.{below}
use Rattle.rows.specs.Kinds.{first_byte_of}
use Rattle.rows.specs.Fields.{TokenRow, Within, Holds, kind, start, first_byte}

module _ {A B : Type 0} (f : A → B) where
  pub store_same : (R : List A) (i : ℕ) (v d : A) → i < length R → f (get_or (set R i v) i d) ≡ f v
  store_same R i v d h = ap f (get_or-set_same R i v d h)

  pub store_other :
      (R : List A) (i j : ℕ) (v d : A) → (i ≡ j → f v ≡ f (get_or R j d)) → f (get_or (set R i v) j d) ≡ f (get_or R j d)
  store_other R i j v d k =
      below i j (λ l. apart (λ e. omega arith)) (λ l. below j i (λ m. apart (λ e. omega arith)) (λ m. here (omega arith)))
    where
      apart : (j ≡ i → ⊥) → f (get_or (set R i v) j d) ≡ f (get_or R j d)
      apart n = ap f (get_or-set_other R i j v d n)

      here : i ≡ j → f (get_or (set R i v) j d) ≡ f (get_or R j d)
      here e =
          below i (length R)
          (λ h. subst (λ n. f (get_or (set R i v) n d) ≡ f v) e (store_same R i v d h) ∙ k e)
          (λ h. ap (λ S. f (get_or S j d)) (set_out R i v h))

  -- What a store leaves as it was, such as another field than the one that it changes, of any entry.
  pub other-field : (R : List A) (i j : ℕ) (v d : A) → f v ≡ f (get_or R i d) → f (get_or (set R i v) j d) ≡ f (get_or R j d)
  other-field R i j v d h = store_other R i j v d (λ e. subst (λ n. f v ≡ f (get_or R n d)) e h)

-- The whole of the stored entry, and of another one.
module _ {A : Type 0} where
  pub same_entry : (R : List A) (i : ℕ) (v d : A) → i < length R → get_or (set R i v) i d ≡ v
  same_entry = store_same (λ e. e)

  pub other_entry : (R : List A) (i j : ℕ) (v d : A) → (i ≡ j → ⊥) → get_or (set R i v) j d ≡ get_or R j d
  other_entry R i j v d n = store_other (λ e. e) R i j v d (λ e. absurd (n e))

-- Entries below the number of a row's entries stand in it.
pub within : {A : Type 0} (n : ℕ) (R : List A) (i : ℕ) → Holds R n → i < n → Within R i
within n R i h l = omega arith

-- The first byte of a token, by its kind.
module _ (K : TokenRow) (i : ℕ) where
  pub first_quoted : kind K i ≡ 3 → first_byte K i ≡ start K i - 1
  unfolding first_byte_of
  first_quoted e = rw (eq-eqb (kind K i) 3 e, first_byte_of)

  pub first_other : (kind K i ≡ 3 → ⊥) → first_byte K i ≡ start K i
  unfolding first_byte_of
  first_other d = rw (ne_eqb (kind K i) 3 d, first_byte_of)
