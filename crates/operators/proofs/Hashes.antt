-- The number that a name is looked up by: each of five numbers is taken off once where it can be, so that less than 128 is left.
use mathlib.Core.Path.{◌≡◌, refl}
use mathlib.Core.Bool.{Bool, true, false}
use mathlib.Core.List.{List}
use Prim.Native.Nat.{ℕ, ◌+◌, ◌-◌, ◌*◌, ◌≤◌, ◌<◌}
use native.Mathlib.Omega.{arith}
use Rattle.std.specs.Prelude.{bit_and, ◌%◌}
use Rattle.std.proofs.lemmas.Nat.{and_mask}
use lib.Dec.{eqb}
use lib.ListN.{length, get_or, set}
use lib.Seq.{get_or-set_same, get_or-set_other}
use borrow.Author.Tests.{eqb-true, eqb-false, lt-ltb, le-ltb, le-leb, lt-leb}
use Rattle.grammar.specs.Bytes.{Bytes}
use Rattle.grammar.proofs.Logic.{below}
use Rattle.operators.specs.Entries.{less_by, last_two, hash_of}

-- One number is taken off, or not.
pub less_off : (n h : ℕ) → n ≤ h → less_by n h ≡ h - n
unfolding less_by
less_off n h l = rw (le-leb n h l, less_by)

pub less_kept : (n h : ℕ) → h < n → less_by n h ≡ h
unfolding less_by
less_kept n h l = rw (lt-leb n h l, less_by)

pub less_below : (n h : ℕ) → h < n + n → less_by n h < n
less_below n h l = below h n (λ k. omega (arith, less_kept n h k)) (λ k. omega (arith, less_off n h k))

-- Of one byte, or of two.
pub last_one : (s : Bytes) → length s ≤ 1 → last_two s ≡ get_or s (length s - 1) 0
unfolding last_two
last_one s h = rw (le-ltb 1 (length s) h, last_two)

pub last_two_lem : (s : Bytes) → 1 < length s → last_two s ≡ get_or s (length s - 1) 0 + get_or s (length s - 2) 0 * 10
unfolding last_two
last_two_lem s h = rw (lt-ltb 1 (length s) h, last_two)

-- The five in a row, below 4,096.
pub hash_below : (s : Bytes) → last_two s < 4096 → hash_of s < 128
unfolding hash_of
hash_below s h =
    let a : ℕ = less_by 2048 (last_two s) in
    let b : ℕ = less_by 1024 a in
    let c : ℕ = less_by 512 b in
    let d : ℕ = less_by 256 c in
    less_below 128 d (less_below 256 c (less_below 512 b (less_below 1024 a (less_below 2048 (last_two s) h))))

-- So it is what seven bits of the number hold.
less_split : (n h : ℕ) → (t : ℕ) × (h ≡ t * n + less_by n h)
less_split n h = below h n (λ k. (0, omega (arith, less_kept n h k))) (λ k. (1, omega (arith, less_off n h k)))

pub hash_masked : (s : Bytes) → last_two s < 4096 → (bit_and (last_two s) 127 ≡ hash_of s) × (bit_and (last_two s) 127 < 128)
unfolding hash_of
hash_masked s h =
    let m : bit_and (last_two s) 127 ≡ last_two s % 128 = and_mask (last_two s) 7 in
    let b : hash_of s < 128 = hash_below s h in
    let (t, e) = less_split 2048 (last_two s) in
    let (u, f) = less_split 1024 (less_by 2048 (last_two s)) in
    let (v, g) = less_split 512 (less_by 1024 (less_by 2048 (last_two s))) in
    let (w, k) = less_split 256 (less_by 512 (less_by 1024 (less_by 2048 (last_two s)))) in
    let (x, l) = less_split 128 (less_by 256 (less_by 512 (less_by 1024 (less_by 2048 (last_two s))))) in
    (omega arith, omega arith)

-- A hint that is stored is there, and the others are there still.
pub hint_kept : (H : List ℕ) (k v h : ℕ) → k < length H → 0 < get_or H h 0 → 0 < get_or (set H k (v + 1)) h 0
hint_kept H k v h b p = go (eqb h k) refl
  where
    go : (t : Bool) → eqb h k ≡ t → 0 < get_or (set H k (v + 1)) h 0
    go true e = rw (eqb-true h k e, get_or-set_same H k (v + 1) 0 b) (omega arith)
    go false e = rw (get_or-set_other H k h (v + 1) 0 (eqb-false h k e)) p
