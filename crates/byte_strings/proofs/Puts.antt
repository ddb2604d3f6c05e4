-- Bytes put into a buffer: a turn of the loop that puts them, and one part behind another.
-- What is still to be put is a run of stores; each turn does the first of them.
use mathlib.Core.Path.{◌≡◌, refl, sym, ap, subst, ◌∙◌}
use mathlib.Core.List.{List, [], ◌∷◌, ◌++◌}
use Prim.Native.Nat.{ℕ, suc, ◌+◌, ◌≤◌, ◌<◌}
use native.Mathlib.Nat.{add-zero, zero-add, suc-add, add-suc}
use native.Mathlib.Numerals.{add-one}
use native.Mathlib.Omega.{arith}
use lib.ListN.{length, drop, set, get_or, length-append, drop_of_length-le}
use lib.Seq.{sets, sets-eq, drop-cons}
use Rattle.grammar.specs.Bytes.{Bytes}
use Rattle.grammar.specs.Answer.{over}
use Rattle.byte_strings.specs.Puts.{Put}

-- A turn of the loop stores one byte.
pub put_step
    : (buffer part : List ℕ) (n i : ℕ) → i < length part
    → sets buffer (n + i) (drop i part) ≡ sets (set buffer (n + i) (get_or part i 0)) (n + (i + 1)) (drop (i + 1) part)
put_step buffer part n i h = rw (drop-cons part i 0 h, add-one i, add-suc n i) refl

-- After the last turn every byte is stored.
pub put-end
    : (buffer₀ buffer part : List ℕ) (n i : ℕ) → length part ≤ i → sets buffer₀ n part ≡ sets buffer (n + i) (drop i part)
    → buffer ≡ sets buffer₀ n part
put-end buffer₀ buffer part n i h e = sym (rw (drop_of_length-le part h) at e)

-- Two runs of stores, one behind the other, are one.
pub sets_then : (l : List ℕ) (n : ℕ) (p q : Bytes) → sets (sets l n p) (n + length p) q ≡ sets l n (p ++ q)
sets_then l n [] q = rw (add-zero n) refl
sets_then l n (x ∷ p) q = rw (add-suc n (length p), ← suc-add n (length p)) (sets_then (set l n x) (suc n) p q)

-- A part behind another, and a part that is known by an equation.
module _ {l l₂ : List ℕ} {n n₂ : ℕ} where
  pub put_then : {l₁ : List ℕ} {n₁ : ℕ} {p q : Bytes} → Put l n p l₁ n₁ → Put l₁ n₁ q l₂ n₂ → Put l n (p ++ q) l₂ n₂
  put_then {l₁} {n₁} {p} {q} h g = record {
    size = omega (arith, h.size, g.size, length-append p q);
    stored =
        g.stored
        ∙ ap (λ (x : List ℕ). sets x n₁ q) h.stored
        ∙ ap (λ (k : ℕ). sets (sets l n p) k q) h.size
        ∙ sets_then l n p q;
  }

  pub put_same : {p q : Bytes} → p ≡ q → Put l n p l₂ n₂ → Put l n q l₂ n₂
  put_same e h = subst (λ (x : Bytes). Put l n x l₂ n₂) e h

-- Bytes put over the front of a buffer that holds them.
pub sets_over : (w b : List ℕ) → length w ≤ length b → sets b 0 w ≡ over w b
unfolding over
sets_over w b h = sets-eq w b 0 (omega arith) ∙ rw (zero-add (length w)) refl
