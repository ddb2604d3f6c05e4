-- A token in the row: where its bytes begin and how many they are goes by its kind, and a store into one entry leaves them there and keeps
-- the entries before it.
use mathlib.Core.Path.{◌≡◌, refl, sym, ap, ◌∙◌}
use mathlib.Core.Bool.{true, false}
use mathlib.Core.Logic.{◌⊎◌, inl, inr}
use mathlib.Core.List.{[], ◌∷◌}
use Prim.Native.Nat.{ℕ, ◌+◌, ◌-◌, ◌≤◌, ◌<◌}
use native.Mathlib.Omega.{arith}
use lib.Dec.{eqb, ltb}
use lib.ListN.{length, set, length-append}
use borrow.Author.Tests.{eq-eqb, ne_eqb, lt-ltb, le-ltb}
use Rattle.grammar.proofs.Logic.{below}
use Rattle.grammar.specs.Token.{Token, atom, structure, symbol, number, quoted, as_written, doubled, spelling, structure_number}
use Rattle.grammar.specs.Token.{opening, closing, semicolon, keyword_let, keyword_in, keyword_end}
use Rattle.grammar.specs.Coded.{kind_of}
use Rattle.rows.specs.declared.token.Token.{Token as Entry}
use Rattle.rows.specs.declared.token.Kind.{Kind}
use Rattle.rows.specs.declared.token.Kind.TheVariants.{Opening, Closing}
use Rattle.rows.specs.Kinds.{kind_code}
use Rattle.rows.specs.Fields.{TokenRow, token, blank, Within}
use Rattle.rows.specs.Tokens.{place_of, size_of, structure_size}
use Rattle.rows.proofs.Fields.{same_entry, other_entry}
use Rattle.scanner.specs.Scanning.{TokenStored}

-- By the kind: the bytes of a quoted name stand between the quotes, and of brackets there are none.
abbrev place_by : ℕ → ℕ → ℕ
place_by k at = elim (eqb k 3) [ true ↦ at + 1 | false ↦ at ]

abbrev size_by : ℕ → ℕ → ℕ
size_by k m = elim (eqb k 3) [ true ↦ m - 2 | false ↦ elim (ltb k 3) [ true ↦ m | false ↦ elim (ltb k 6) [ true ↦ 0 | false ↦ m ] ] ]

place_by_lem : (t : Token) (at : ℕ) → place_of t at ≡ place_by (kind_of t) at
unfolding place_of kind_of structure_number
place_by_lem (atom (symbol w)) at = refl
place_by_lem (atom (number d)) at = refl
place_by_lem (atom (quoted c)) at = omega arith
place_by_lem (structure opening) at = refl
place_by_lem (structure closing) at = refl
place_by_lem (structure semicolon) at = refl
place_by_lem (structure keyword_let) at = refl
place_by_lem (structure keyword_in) at = refl
place_by_lem (structure keyword_end) at = refl

size_by_lem : (t : Token) → size_of t ≡ size_by (kind_of t) (length (spelling t))
unfolding size_of structure_size kind_of structure_number as_written spelling
size_by_lem (atom (symbol w)) = refl
size_by_lem (atom (number d)) = refl
size_by_lem (atom (quoted c)) = omega (arith, length-append (doubled c) (39 ∷ []))
size_by_lem (structure opening) = refl
size_by_lem (structure closing) = refl
size_by_lem (structure semicolon) = refl
size_by_lem (structure keyword_let) = refl
size_by_lem (structure keyword_in) = refl
size_by_lem (structure keyword_end) = refl

-- Brackets have the kinds 4 and 5.
pub bracket_bounds : (k : Kind) → (k ≡ Opening) ⊎ (k ≡ Closing) → (3 < kind_code k) × (kind_code k < 6)
bracket_bounds k (inl e) = omega (arith, ap kind_code e)
bracket_bounds k (inr e) = omega (arith, ap kind_code e)

-- An entry of the row is stored.
module _ (K : TokenRow) (n : ℕ) (x : Entry) (w : Within K n) where
  there : token (set K n x) n ≡ x
  there = same_entry K n x blank w.1

  pub token_stored
      : (t : Token) (at : ℕ) → kind_of t ≡ kind_code x.kind → place_of t at ≡ x.start → size_of t ≡ x.size
      → TokenStored K (set K n x) n at t
  token_stored t at p q r = record {
    kinds = ap (λ y. kind_code y.kind) there ∙ sym p;
    starts = ap (λ y. y.start) there ∙ sym q;
    sizes = ap (λ y. y.size) there ∙ sym r;
    kept = λ j h. other_entry K n j x blank (λ e. omega arith);
  }

-- The place and the size that the code stores.
module _ (t : Token) {k m : ℕ} (at : ℕ) (p : kind_of t ≡ k) (q : length (spelling t) ≡ m) where
  by_kind : place_of t at ≡ place_by k at
  by_kind = place_by_lem t at ∙ ap (λ x. place_by x at) p

  by_size : size_of t ≡ size_by k m
  by_size = size_by_lem t ∙ ap (λ x. size_by x (length (spelling t))) p ∙ ap (size_by k) q

  pub quoted_place : k ≡ 3 → place_of t at ≡ at + 1
  quoted_place e = by_kind ∙ rw (eq-eqb k 3 e, place_by)

  pub quoted_size : k ≡ 3 → size_of t ≡ m - 2
  quoted_size e = by_size ∙ rw (eq-eqb k 3 e, size_by)

  module _ (f : k ≡ 3 → ⊥) where
    pub other_place : place_of t at ≡ at
    other_place = by_kind ∙ rw (ne_eqb k 3 f, place_by)

    low_size : k < 3 → size_of t ≡ m
    low_size l = by_size ∙ rw (size_by, ne_eqb k 3 f, lt-ltb k 3 l)

    pub bracket_size : 3 ≤ k → k < 6 → size_of t ≡ 0
    bracket_size l h = by_size ∙ rw (size_by, ne_eqb k 3 f, le-ltb k 3 l, lt-ltb k 6 h)

    high_size : 6 ≤ k → size_of t ≡ m
    high_size h = by_size ∙ rw (size_by, ne_eqb k 3 f, le-ltb k 3 (omega arith), le-ltb k 6 h)

    pub whole_size : (k ≡ 4 → ⊥) → (k ≡ 5 → ⊥) → size_of t ≡ m
    whole_size g h = below k 3 low_size (λ l. high_size (omega arith))
