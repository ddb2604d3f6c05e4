-- The token at a place of a text, by the class of the byte there: words, signs and numbers are the longest run of a test, and the run
-- from the place on is one longer than the run behind its first byte.
use mathlib.Core.Path.{◌≡◌, sym, ap, ◌∙◌}
use mathlib.Core.Bool.{true, false}
use mathlib.Core.List.{◌∷◌}
use Prim.Native.Nat.{ℕ, ◌+◌, ◌-◌, ◌≤◌, ◌<◌}
use native.Mathlib.Omega.{arith}
use lib.ListN.{length, take, drop, get_or}
use lib.Seq.{drop-drop}
use borrow.Author.Tests.{le-leb, lt-leb, ne_eqb}
use Rattle.grammar.specs.Bytes.{Bytes}
use Rattle.grammar.specs.Token.{Token, class, letter, digit, sign, quote, opens, closes, separates, longest_name}
use Rattle.grammar.specs.Token.{is_quote, doubled, atom, quoted}
use Rattle.grammar.specs.Scan.{wrong, taken, run, at_most, characters_at, is_closed, quoted_name, quoted_with, front_of, front}
use Rattle.grammar.proofs.Runs.{Kind}
use Rattle.byte_strings.proofs.Suffixes.{drop_next, run_step}

-- "4: word, sign or number too long"
module _ (most n : ℕ) (t : Token) where
  pub short_enough : n ≤ most → at_most most n t ≡ taken t n
  unfolding at_most
  short_enough h = rw (le-leb n most h, at_most)

  pub too_long : most < n → at_most most n t ≡ wrong 4
  unfolding at_most
  too_long h = rw (lt-leb n most h, at_most)

-- A quoted name, behind its opening quote: the characters `c`, `n` of them, and a quote.
module _ (s c : Bytes) (e : characters_at s ≡ c) (n : ℕ) (m : length c ≡ n) where
  name_taken : is_closed c s ≡ true → quoted_name s ≡ taken (atom (quoted c)) (length (doubled c) + 2)
  unfolding quoted_name quoted_with
  name_taken h = ap (λ d. quoted_with d s) e ∙ rw (h, quoted_with)

  name_wrong : is_closed c s ≡ false → quoted_name s ≡ wrong 3
  unfolding quoted_name quoted_with
  name_wrong h = ap (λ d. quoted_with d s) e ∙ rw (h, quoted_with)

  pub quoted_empty : n < 1 → quoted_name s ≡ wrong 3
  quoted_empty h = name_wrong (rw (lt-leb 1 (length c) (omega arith)))

  pub quoted_long : 1 ≤ n → longest_name < n → quoted_name s ≡ wrong 3
  quoted_long h g = name_wrong (rw (le-leb 1 (length c) (omega arith), lt-leb (length c) longest_name (omega arith)))

  module _ (h : 1 ≤ n) (g : n ≤ longest_name) where
    pub quoted_taken :
        is_quote (get_or s (length (doubled c)) 0) ≡ true → quoted_name s ≡ taken (atom (quoted c)) (length (doubled c) + 2)
    quoted_taken q = name_taken (rw (le-leb 1 (length c) (omega arith), le-leb (length c) longest_name (omega arith), q))

    pub quoted_open : is_quote (get_or s (length (doubled c)) 0) ≡ false → quoted_name s ≡ wrong 3
    quoted_open q = name_wrong (rw (le-leb 1 (length c) (omega arith), le-leb (length c) longest_name (omega arith), q))

module _ (s : Bytes) (at : ℕ) (h : at < length s) where
  -- What stands at a place goes by the class of the byte there.
  pub front-class : (c : ℕ) → class (get_or s at 0) ≡ c → front (drop at s) ≡ front_of c (drop at s)
  unfolding front
  front-class c e =
      ap front d ∙ ap (λ v. front_of (class (get_or s at 0)) v) (sym d) ∙ ap (λ k. front_of k (drop at s)) e
    where
      d : drop at s ≡ get_or s at 0 ∷ drop (at + 1) s
      d = drop_next s at h

  -- A word, a sign or a number that ends at `e`.
  pub front-run :
      (k : Kind) → class (get_or s at 0) ≡ k.first → (e : ℕ) → e ≡ at + 1 + run k.test (drop (at + 1) s)
      → front (drop at s) ≡ at_most k.most (e - at) (k.make (take (e - at) (drop at s)))
  front-run k c e r =
      front-class k.first c
      ∙ k.law (drop at s)
      ∙ ap (λ n. at_most k.most n (k.make (take n (drop at s)))) size
    where
      size : run k.test (drop at s) ≡ e - at
      size = omega (arith, run_step k.test s at h (k.begun (get_or s at 0) c))

  pub front-quote : class (get_or s at 0) ≡ quote → front (drop at s) ≡ quoted_name (drop (at + 1) s)
  unfolding front_of
  front-quote e = front-class quote e ∙ ap quoted_name (drop-drop 1 at s)

-- "2: byte begins no token"
pub front-other
    : (c : ℕ) (s : Bytes) → (c ≡ letter → ⊥) → (c ≡ digit → ⊥) → (c ≡ sign → ⊥) → (c ≡ quote → ⊥) → (c ≡ opens → ⊥) → (c ≡ closes → ⊥)
    → (c ≡ separates → ⊥) → front_of c s ≡ wrong 2
unfolding front_of
front-other c s h₁ h₂ h₄ h₅ h₆ h₇ h₈ =
    rw (
      front_of,
      ne_eqb c letter h₁,
      ne_eqb c sign h₄,
      ne_eqb c digit h₂,
      ne_eqb c quote h₅,
      ne_eqb c opens h₆,
      ne_eqb c closes h₇,
      ne_eqb c separates h₈,
    )
