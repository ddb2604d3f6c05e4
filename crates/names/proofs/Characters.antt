-- The characters of a name from a place of its bytes on: the byte there, and behind it, or behind the quote that makes it a pair, the others.
use mathlib.Core.Path.{◌≡◌, refl, sym, ap, ◌∙◌}
use mathlib.Core.Bool.{Bool, true, false}
use mathlib.Core.List.{[], ◌∷◌}
use Prim.Native.Nat.{ℕ, ◌+◌, ◌≤◌, ◌<◌}
use native.Mathlib.Omega.{arith}
use lib.ListN.{length, drop, get_or, drop_of_length-le}
use lib.Seq.{drop-drop}
use borrow.Author.Tests.{eq-eqb, ne_eqb}
use Rattle.grammar.specs.Bytes.{Bytes}
use Rattle.grammar.specs.Token.{is_quote, undoubled, undoubled_behind}
use Rattle.byte_strings.proofs.Suffixes.{drop_next}
use Rattle.names.specs.Widths.{width_of}

-- The width of a byte that is a quote, and of another.
pub quote_wide : (b : ℕ) → b ≡ 39 → 2 ≡ width_of b
unfolding width_of is_quote
quote_wide b e = rw (eq-eqb b 39 e, width_of)

pub other_wide : (b : ℕ) → (b ≡ 39 → ⊥) → 1 ≡ width_of b
unfolding width_of is_quote
other_wide b e = rw (ne_eqb b 39 e, width_of)

pub some_wide : (b : ℕ) → (1 ≤ width_of b) × (width_of b ≤ 2)
unfolding width_of
some_wide b = go (is_quote b) refl
  where
    go : (x : Bool) → is_quote b ≡ x → (1 ≤ width_of b) × (width_of b ≤ 2)
    go true e = rw (e, width_of) (omega arith)
    go false e = rw (e, width_of) (omega arith)

behind-quote : (w : Bytes) → undoubled_behind true w ≡ undoubled (drop 1 w)
unfolding undoubled undoubled_behind
behind-quote [] = refl
behind-quote (b ∷ w) = refl

next_undoubled : (b : ℕ) (w : Bytes) → undoubled (b ∷ w) ≡ b ∷ undoubled (drop (width_of b) (b ∷ w))
unfolding undoubled undoubled_behind width_of
next_undoubled b w = go (is_quote b) refl
  where
    go : (x : Bool) → is_quote b ≡ x → undoubled (b ∷ w) ≡ b ∷ undoubled (drop (width_of b) (b ∷ w))
    go true e = rw (e, undoubled_behind, width_of) (ap (◌∷◌ b) (behind-quote w))
    go false e = rw (e, undoubled_behind, width_of)

module _ (w : Bytes) (i : ℕ) where
  pub undoubled_next : i < length w → undoubled (drop i w) ≡ get_or w i 0 ∷ undoubled (drop (i + width_of (get_or w i 0)) w)
  undoubled_next h =
      ap undoubled (drop_next w i h)
      ∙ next_undoubled (get_or w i 0) (drop (i + 1) w)
      ∙ ap (λ v. get_or w i 0 ∷ undoubled (drop (width_of (get_or w i 0)) v)) (sym (drop_next w i h))
      ∙ ap (λ v. get_or w i 0 ∷ undoubled v) (drop-drop (width_of (get_or w i 0)) i w)

  pub undoubled_end : length w ≤ i → undoubled (drop i w) ≡ []
  unfolding undoubled undoubled_behind
  undoubled_end h = ap undoubled (drop_of_length-le w h)
