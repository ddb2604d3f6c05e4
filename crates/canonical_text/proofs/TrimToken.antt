-- What a token leaves, and the token with that for its bytes: a number's digits behind its zeros, a quoted name with its quotes or without
-- them, any other token as it is.
use mathlib.Core.Path.{◌≡◌, sym, ap, ◌∙◌}
use mathlib.Core.Bool.{true, false}
use mathlib.Core.List.{[], ◌∷◌, ◌++◌}
use Prim.Native.Nat.{ℕ, ◌+◌, ◌-◌, ◌≤◌, ◌<◌}
use native.Mathlib.Omega.{arith}
use lib.ListN.{length, take, drop, length-take, length-drop}
use lib.Seq.{take-add, drop_at, drop-drop, length-take-le}
use borrow.Author.Tests.{eq-eqb, ne_eqb}
use Rattle.grammar.specs.Bytes.{Bytes}
use Rattle.grammar.specs.Canonical.{strip}
use Rattle.rows.specs.declared.token.Token.{Token}
use Rattle.rows.specs.declared.roles.Roles.{Roles}
use Rattle.rows.specs.Kinds.{kind_code}
use Rattle.canonical_text.specs.Trimming.{stays_quoted, leaves, bytes_of, token_part, Trimmable, Trimmed}

-- By the kind of the token.
module _ (s : Roles) {k : ℕ} (c : Bytes) where
  pub part_number : k ≡ 2 → leaves s k c ≡ strip c
  unfolding leaves
  part_number e = rw (eq-eqb k 2 e, leaves)

  pub part_quoted : k ≡ 3 → stays_quoted s c ≡ true → leaves s k c ≡ 39 ∷ c ++ 39 ∷ []
  unfolding leaves
  part_quoted e f = rw (ne_eqb k 2 (λ z. omega arith), leaves, eq-eqb k 3 e, f)

  pub part_bare : k ≡ 3 → stays_quoted s c ≡ false → leaves s k c ≡ c
  unfolding leaves
  part_bare e f = rw (ne_eqb k 2 (λ z. omega arith), leaves, eq-eqb k 3 e, f)

  pub part_plain : (k ≡ 2 → ⊥) → (k ≡ 3 → ⊥) → leaves s k c ≡ c
  unfolding leaves
  part_plain d e = rw (ne_eqb k 2 d, leaves, ne_eqb k 3 e)

drop-take : (z n : ℕ) (l : Bytes) → z ≤ n → z ≤ length l → drop z (take n l) ≡ take (n - z) (drop z l)
drop-take z n l h k =
    let e : n ≡ z + (n - z) = omega arith in
    ap (λ m. drop z (take m l)) e ∙ ap (drop z) (take-add z (n - z) l) ∙ drop_at (take z l) (take (n - z) (drop z l)) z (length-take-le z l k)

module _ {text : Bytes} (s : Roles) {t : Token} (h : Trimmable text t) where
  bytes_long : length (bytes_of text t) ≡ t.size
  bytes_long = length-take t.size (drop t.start text) ∙ omega (arith, h.within, length-drop t.start text)

  -- Left as it is.
  untouched : bytes_of text t ≡ token_part text s t → Trimmed text s t t
  untouched e = record { part = e; within = h.within }

  pub trimmed_plain : (kind_code t.kind ≡ 2 → ⊥) → (kind_code t.kind ≡ 3 → ⊥) → Trimmed text s t t
  trimmed_plain d e = untouched (sym (part_plain s _ d e))

  zeros_below : {z : ℕ} → z < length (bytes_of text t) → z < t.size
  zeros_below l = omega (arith, bytes_long)

  pub trimmed_number : kind_code t.kind ≡ 2 → (z : ℕ) → z < length (bytes_of text t) → drop z (bytes_of text t) ≡ strip (bytes_of text t)
      → Trimmed text s t (record t { start = t.start + z; size = t.size - z })
  trimmed_number k z l f =
      let y = zeros_below l in
      record {
        part =
            ap (take (t.size - z)) (sym (drop-drop z t.start text))
            ∙ sym (drop-take z t.size (drop t.start text) (omega arith) (omega (arith, length-drop t.start text, h.within)))
            ∙ f ∙ sym (part_number s _ k);
        within = omega (arith, h.within);
      }

  pub trimmed_quoted : kind_code t.kind ≡ 3 → stays_quoted s (bytes_of text t) ≡ true
      → Trimmed text s t (record t { start = t.start - 1; size = t.size + 2 })
  trimmed_quoted k f =
      let q = h.quoted k in
      record { part = q.2 ∙ sym (part_quoted s _ k f); within = omega (arith, q.0, q.1) }

  pub trimmed_bare : kind_code t.kind ≡ 3 → stays_quoted s (bytes_of text t) ≡ false → Trimmed text s t t
  trimmed_bare k f = untouched (sym (part_bare s _ k f))
