-- Tests of byte strings for equality: the library's `==` of two slices, and a `match` with a text, which reads the length and then each
-- byte.
use mathlib.Core.Path.{◌≡◌, refl, sym, ap, ◌∙◌}
use mathlib.Core.Bool.{Bool, true, false, ◌&&◌}
use mathlib.Core.List.{[], ◌∷◌}
use Prim.Native.Nat.{ℕ, ◌+◌}
use native.Mathlib.Numerals.{add-one}
use lib.Dec.{eqb, eqb-suc-suc, eqb-suc-zero, eqb-zero-suc}
use lib.ListN.{length, get_or}
use Rattle.std.specs.Cmp.Lexicographic.{pointwise}
use Rattle.grammar.specs.Bytes.{Bytes, same}

pub pointwise_same : (a b : Bytes) → pointwise eqb a b ≡ same a b
unfolding same
pointwise_same [] [] = refl
pointwise_same [] (y ∷ b) = refl
pointwise_same (x ∷ a) [] = refl
pointwise_same (x ∷ a) (y ∷ b) = ap (λ t. eqb x y && t) (pointwise_same a b)

-- The bytes from `i` on are those of a text.
abbrev pub reads : Bytes → ℕ → Bytes → Bool
reads s i [] = true
reads s i (c ∷ text) = eqb (get_or s i 0) c && reads s (i + 1) text

reads_behind : (b : ℕ) (s : Bytes) (i : ℕ) (text : Bytes) → reads (b ∷ s) (i + 1) text ≡ reads s i text
reads_behind b s i [] = refl
reads_behind b s i (c ∷ text) = rw (add-one i) (ap (λ t. eqb (get_or s i 0) c && t) (rw (← add-one i) (reads_behind b s (i + 1) text)))

turned : (p q r : Bool) → q && (p && r) ≡ p && (q && r)
turned true true r = refl
turned true false r = refl
turned false true r = refl
turned false false r = refl

pub same_reads : (s text : Bytes) → same s text ≡ (eqb (length s) (length text) && reads s 0 text)
unfolding same
same_reads [] [] = refl
same_reads [] (c ∷ text) = sym (ap (λ t. t && reads [] 0 (c ∷ text)) (eqb-zero-suc (length text)))
same_reads (b ∷ s) [] = sym (ap (λ t. t && true) (eqb-suc-zero (length s)))
same_reads (b ∷ s) (c ∷ text) =
    ap (λ t. eqb b c && t) (same_reads s text)
    ∙ turned (eqb (length s) (length text)) (eqb b c) (reads s 0 text)
    ∙ ap (λ t. eqb (length s) (length text) && (eqb b c && t)) (sym (reads_behind b s 0 text))
    ∙ ap (λ t. t && reads (b ∷ s) 0 (c ∷ text)) (sym (eqb-suc-suc (length s) (length text)))
