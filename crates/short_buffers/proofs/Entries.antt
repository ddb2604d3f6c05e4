-- A loop that sets the entries of an array one by one.
use mathlib.Core.Path.{◌≡◌, ◌∙◌}
use mathlib.Core.List.{List}
use Prim.Native.Nat.{ℕ, ◌+◌, ◌<◌}
use native.Mathlib.Omega.{arith}
use borrow.Author.Count.{below_more}
use lib.ListN.{length, get_or, set, length-set}
use lib.Seq.{get_or-set_same, get_or-set_other}

-- The first `i` entries of `l` are those that `f` gives, and `l` has as many as `l₀`.
abbrev pub EntriesSet : (ℕ → ℕ) → List ℕ → List ℕ → ℕ → Type 0
EntriesSet f l₀ l i = (length l ≡ length l₀) × ((k : ℕ) → k < i → get_or l k 0 ≡ f k)

module _ (f : ℕ → ℕ) (l₀ l : List ℕ) (i : ℕ) where
  -- A turn of the loop.
  pub entry_set : i < length l → EntriesSet f l₀ l i → EntriesSet f l₀ (set l i (f i)) (i + 1)
  entry_set h e = (
    length-set l i (f i) ∙ e.0,
    below_more (λ (k : ℕ). get_or (set l i (f i)) k 0 ≡ f k) i
        (λ k lt. get_or-set_other l i k (f i) 0 (λ same. omega arith) ∙ e.1 k lt)
        (get_or-set_same l i (f i) 0 h),
  )
