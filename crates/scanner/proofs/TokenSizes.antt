-- How many bytes a token has by the class of its first byte. The scan takes so many: its tests are those of `token_size`, and a run from
-- a place on is one longer than the run behind its first byte.
use mathlib.Core.Path.{◌≡◌, refl, sym, ap, subst, ◌∙◌}
use mathlib.Core.Bool.{Bool, true, false}
use mathlib.Core.List.{[], ◌∷◌}
use Prim.Native.Nat.{ℕ, suc, ◌+◌, ◌≤◌, ◌<◌}
use native.Mathlib.Omega.{arith}
use lib.Dec.{leb, eqb}
use lib.ListN.{length, drop, get_or, drop_of_length-le, length-drop}
use borrow.Author.Tests.{ne_eqb}
use Rattle.grammar.specs.Bytes.{Bytes}
use Rattle.grammar.specs.Token.{class, letter, digit, sign, quote, opens, closes, separates, in_word, in_sign, in_number}
use Rattle.grammar.specs.Token.{Token}
use Rattle.grammar.specs.Scan.{Front, nothing, wrong, taken, run, at_most, characters_at, is_closed, quoted_with, quoted_name, front_of, front}
use Rattle.grammar.specs.Coded.{kind_of}
use Rattle.grammar.proofs.Runs.{Kind, words, signs, numbers}
use Rattle.byte_strings.proofs.Suffixes.{drop_next, run_step, run-within}
use Rattle.scanner.specs.Places.{token_size_of, token_size, token_end}

-- A token that is taken has `n` bytes, but for a quoted name.
abbrev Sized : ℕ → Front → Type 0
Sized n nothing = Unit {0}
Sized n (wrong k) = Unit {0}
Sized n (taken t m) = (kind_of t ≡ 3 → ⊥) → m ≡ n

-- Two choices by one test.
both :
    (b : Bool) (f g : Front) (m n : ℕ) → Sized m f → Sized n g
    → Sized (elim b [ true ↦ m | false ↦ n ]) (elim b [ true ↦ f | false ↦ g ])
both true f g m n x y = x
both false f g m n x y = y

-- One choice.
either : (b : Bool) (f g : Front) (n : ℕ) → Sized n f → Sized n g → Sized n (elim b [ true ↦ f | false ↦ g ])
either true f g n x y = x
either false f g n x y = y

limited : (most n : ℕ) (t : Token) → Sized n (at_most most n t)
unfolding at_most
limited most n t = either (leb n most) (taken t n) (wrong 4) n (λ d. refl) tt

named : (s : Bytes) → Sized 1 (quoted_name s)
unfolding quoted_name quoted_with kind_of
named s = either (is_closed (characters_at s) s) _ (wrong 3) 1 (λ d. absurd (d refl)) tt

sized_of : (c : ℕ) (s : Bytes) → Sized (token_size_of c s) (front_of c s)
unfolding front_of token_size_of
sized_of c s =
    both (eqb c letter) _ _ _ _ (limited _ (run in_word s) _)
    (both (eqb c sign) _ _ _ _ (limited _ (run in_sign s) _)
    (both (eqb c digit) _ _ _ _ (limited _ (run in_number s) _)
    (either (eqb c quote) _ _ 1 (named (drop 1 s))
    (either (eqb c opens) _ _ 1 (λ d. refl)
    (either (eqb c closes) _ _ 1 (λ d. refl)
    (either (eqb c separates) _ _ 1 (λ d. refl) tt))))))

sized : (s : Bytes) → Sized (token_size s) (front s)
unfolding front token_size
sized [] = tt
sized (b ∷ s) = sized_of (class b) (b ∷ s)

-- What the scan takes has so many bytes.
pub taken-size : (s : Bytes) (t : Token) (n : ℕ) → front s ≡ taken t n → (kind_of t ≡ 3 → ⊥) → n ≡ token_size s
taken-size s t n e = subst (Sized (token_size s)) e (sized s)

-- The token at a place, by the class of the byte there.
module _ (s : Bytes) (at : ℕ) where
  pub size-behind : length s ≤ at → token_size (drop at s) ≡ 0
  unfolding token_size
  size-behind h = ap token_size (drop_of_length-le s h)

  module _ (h : at < length s) where
    size-class : (c : ℕ) → class (get_or s at 0) ≡ c → token_size (drop at s) ≡ token_size_of c (drop at s)
    unfolding token_size
    size-class c e = ap token_size d ∙ ap (λ v. token_size_of (class (get_or s at 0)) v) (sym d) ∙ ap (λ k. token_size_of k (drop at s)) e
      where
        d : drop at s ≡ get_or s at 0 ∷ drop (at + 1) s
        d = drop_next s at h

    module _ (k : Kind) (g : (v : Bytes) → token_size_of k.first v ≡ run k.test v) where
      size-run : class (get_or s at 0) ≡ k.first → token_size (drop at s) ≡ suc (run k.test (drop (at + 1) s))
      size-run e = size-class k.first e ∙ g (drop at s) ∙ run_step k.test s at h (k.begun (get_or s at 0) e)

      end_run :
          class (get_or s at 0) ≡ k.first → {e : ℕ} → e ≡ at + 1 + run k.test (drop (at + 1) s) → e ≡ token_end s at
      end_run c r = omega (arith, size-run c)

    pub end_word : class (get_or s at 0) ≡ letter → {e : ℕ} → e ≡ at + 1 + run in_word (drop (at + 1) s) → e ≡ token_end s at
    unfolding token_size_of
    end_word = end_run words (λ v. refl)

    pub end_sign : class (get_or s at 0) ≡ sign → {e : ℕ} → e ≡ at + 1 + run in_sign (drop (at + 1) s) → e ≡ token_end s at
    unfolding token_size_of
    end_sign = end_run signs (λ v. refl)

    pub end_number : class (get_or s at 0) ≡ digit → {e : ℕ} → e ≡ at + 1 + run in_number (drop (at + 1) s) → e ≡ token_end s at
    unfolding token_size_of
    end_number = end_run numbers (λ v. refl)

    pub end_other :
        (c : ℕ) → class (get_or s at 0) ≡ c → (c ≡ letter → ⊥) → (c ≡ sign → ⊥) → (c ≡ digit → ⊥) → at + 1 ≡ token_end s at
    unfolding token_size_of
    end_other c e l g d =
        ap (λ n. at + n) (sym (size-class c e ∙ rw (token_size_of, ne_eqb c letter l, ne_eqb c sign g, ne_eqb c digit d)))

-- A token ends within the text.
most : (b : Bool) {m n l : ℕ} → m ≤ l → n ≤ l → elim b [ true ↦ m | false ↦ n ] ≤ l
most true x y = x
most false x y = y

run_short : (p : ℕ → Bool) (v : Bytes) → run p v ≤ length v
run_short p v = omega (arith, run-within p v 0 (omega arith))

size_short : (v : Bytes) → token_size v ≤ length v
unfolding token_size token_size_of
size_short [] = omega arith
size_short (b ∷ v) =
    most (eqb (class b) letter) (run_short in_word (b ∷ v))
    (most (eqb (class b) sign) (run_short in_sign (b ∷ v))
    (most (eqb (class b) digit) (run_short in_number (b ∷ v)) (omega arith)))

pub token_within : (s : Bytes) (at : ℕ) → at ≤ length s → token_end s at ≤ length s
token_within s at h = omega (arith, size_short (drop at s), length-drop at s)
