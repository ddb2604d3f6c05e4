-- The parts of tokens written one behind the other over the front of a buffer: the first has no space before it, and bytes have been
-- written exactly where a part has.
use mathlib.Core.Path.{◌≡◌, refl, sym, ap, ◌∙◌}
use mathlib.Core.List.{List, [], ◌∷◌, ◌++◌}
use Prim.Native.Nat.{ℕ, zero, suc, ◌+◌, ◌-◌, ◌≤◌, ◌<◌}
use native.Mathlib.Omega.{arith}
use lib.ListN.{length, drop, length-append, length-take, length-drop}
use lib.Seq.{sets, length-sets}
use Rattle.grammar.specs.Canonical.{spaced_pieces, join_pieces}
use Rattle.grammar.specs.Bytes.{Bytes}
use Rattle.grammar.specs.Answer.{over}
use Rattle.byte_strings.specs.Puts.{Put}
use Rattle.byte_strings.proofs.Puts.{sets_then, sets_over}
use Rattle.rows.specs.Fields.{TokenRow, start, size}
use Rattle.rows.specs.Tokens.{written_of}
use Rattle.canonical_text.specs.Pieces.{pieces, behind, InText}
use Rattle.canonical_text.proofs.Parts.{before_none, before_some, parts_end, parts_next}

-- Behind a part that is not empty bytes have been written.
some_written : (n : ℕ) (p : Bytes) → (length p ≡ 0 → ⊥) → 1 ≤ n + length (behind n p)
unfolding behind
some_written zero p d = omega arith
some_written (suc n) p d = omega arith

-- What is still to be written from place `n` on.
unfoldable pub written : ℕ → List Bytes → Bytes
written zero ps = join_pieces ps
written (suc n) ps = spaced_pieces ps

written_none : (n : ℕ) → written n [] ≡ []
unfolding written join_pieces spaced_pieces
written_none zero = refl
written_none (suc n) = refl

written_next : (n m : ℕ) (p : Bytes) (ps : List Bytes) → written n (p ∷ ps) ≡ behind n p ++ written (suc m) ps
unfolding written behind join_pieces spaced_pieces
written_next zero m p ps = refl
written_next (suc n) m p ps = refl

-- Between turns: `n` bytes have been written for the tokens before number `i`.
pub record Filled (text : Bytes) (K : TokenRow) (to : ℕ) (b₀ b : List ℕ) (n i : ℕ) : Type 0 where
  pub size : length b ≡ length b₀
  pub sum : n + length (written n (pieces text K i (to - i))) ≡ length (join_pieces (pieces text K 0 to))
  pub stored : sets b₀ 0 (join_pieces (pieces text K 0 to)) ≡ sets b n (written n (pieces text K i (to - i)))

pub fill_start : {text : Bytes} {K : TokenRow} {to : ℕ} {b : List ℕ} → Filled text K to b b 0 0
unfolding written
fill_start {text} {K} {to} {b} =
    let e : join_pieces (pieces text K 0 (to - 0)) ≡ join_pieces (pieces text K 0 to) = ap (λ m. join_pieces (pieces text K 0 m)) (omega arith) in
    record { size = refl; sum = omega (arith, ap length e); stored = ap (sets b 0) (sym e) }

module _ {text : Bytes} {K : TokenRow} {to : ℕ} (h : InText text K to) where
  module _ {i : ℕ} (l : i < to) where
    long_here : length (written_of text K i) ≡ size K i
    long_here = length-take (size K i) (drop (start K i) text) ∙ omega (arith, h.within i l, length-drop (start K i) text)

    module _ {b₀ b : List ℕ} {n : ℕ} (v : Filled text K to b₀ b n i) where
      -- A turn at a token that leaves nothing.
      pub fill_skip : size K i ≡ 0 → Filled text K to b₀ b n (suc i)
      fill_skip z =
          let e : pieces text K i (to - i) ≡ pieces text K (suc i) (to - suc i) =
          parts_next (written_of text K) to i l ∙ before_none (written_of text K i) _ (long_here ∙ z) in
          record { size = v.size; sum = rw (← e) v.sum; stored = rw (← e) v.stored }

      -- A turn at any other.
      module _ (d : size K i ≡ 0 → ⊥) where
        rest : (m : ℕ) → written n (pieces text K i (to - i)) ≡ behind n (written_of text K i) ++ written (suc m) (pieces text K (suc i) (to - suc i))
        rest m =
            ap (written n) (parts_next (written_of text K) to i l ∙ before_some (written_of text K i) _ (λ z. d (sym long_here ∙ z)))
            ∙ written_next n m (written_of text K i) (pieces text K (suc i) (to - suc i))

        pub next_fits : {p : Bytes} → p ≡ written_of text K i → length (join_pieces (pieces text K 0 to)) ≤ length b₀
            → n + length (behind n p) ≤ length b
        next_fits e f =
            rw e (omega (
              arith,
              v.size,
              v.sum,
              f,
              ap length (rest 0),
              length-append (behind n (written_of text K i)) (written 1 (pieces text K (suc i) (to - suc i))),
            ))

        pub fill_next : {b' : List ℕ} {p : Bytes} {r : ℕ} → p ≡ written_of text K i → Put b n (behind n p) b' r → Filled text K to b₀ b' r (suc i)
        fill_next {b'} {p} {r} e w =
            let q : Put b n (behind n (written_of text K i)) b' r = rw e at w in
            let s : r ≡ suc (r - 1) = omega (arith, q.size, some_written n (written_of text K i) (λ z. d (sym long_here ∙ z))) in
            let ps = pieces text K (suc i) (to - suc i) in
            let k = rest (r - 1) in
            let g : written r ps ≡ written (suc (r - 1)) ps = ap (λ m. written m ps) s in
            record {
              size = ap length q.stored ∙ length-sets b n (behind n (written_of text K i)) ∙ v.size;
              sum =
                  omega (arith, v.sum, q.size, ap length k, ap length g, length-append (behind n (written_of text K i)) (written (suc (r - 1)) ps));
              stored =
                  v.stored ∙ ap (sets b n) k ∙ sym (sets_then b n (behind n (written_of text K i)) (written (suc (r - 1)) ps))
                  ∙ rw (← q.stored, ← q.size, g) refl;
            }

  pub fill_end :
      {b₀ b : List ℕ} {n i : ℕ} → to ≤ i → length (join_pieces (pieces text K 0 to)) ≤ length b₀ → Filled text K to b₀ b n i
      → b ≡ over (join_pieces (pieces text K 0 to)) b₀
  fill_end {b₀} {b} {n} {i} l f v =
      sym (ap (λ ps. sets b n (written n ps)) (parts_end (written_of text K) to i l) ∙ ap (sets b n) (written_none n))
      ∙ sym v.stored ∙ sets_over (join_pieces (pieces text K 0 to)) b₀ f
