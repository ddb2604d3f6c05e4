-- Words over the front of a table: a node behind them, and more words behind them through a lent part of the table.
use mathlib.Core.Path.{◌≡◌, refl, sym, ap, ap₂, ◌∙◌}
use mathlib.Core.List.{List, [], ◌++◌, append_assoc, append-nil}
use Prim.Native.Nat.{ℕ, ◌+◌, ◌-◌, ◌≤◌}
use native.Mathlib.Omega.{arith}
use lib.ListN.{length, drop, length-append, length-drop, drop_of_length-le}
use lib.Seq.{sets, sets-eq, take_all, take_at, drop_at, drop-append-add, drop-drop}
use borrow.Rule.Slice.PartMut.{mid_of, put_mid}
use Rattle.grammar.specs.Answer.{over}

pub over_none : (N : List ℕ) → over [] N ≡ N
unfolding over
over_none N = refl

pub over-length : (w N : List ℕ) → length w ≤ length N → length (over w N) ≡ length N
unfolding over
over-length w N h = simp (length-append, length-drop) (omega arith)

-- Two pieces one behind the other.
over_both : (w v N : List ℕ) → (w ++ v) ++ drop (length w + length v) N ≡ over (w ++ v) N
unfolding over
over_both w v N = ap (λ k. (w ++ v) ++ drop k N) (sym (length-append w v))

pub over-node : (w v N : List ℕ) (k : ℕ) → length w ≡ k → k + length v ≤ length N → sets (over w N) k v ≡ over (w ++ v) N
unfolding over
over-node w v N k e h =
    let n = over-length w N (omega arith) in
    let a : drop (k + length v) (over w N) ≡ drop (length w + length v) N =
    ap (λ j. drop (j + length v) (over w N)) (sym e) ∙ drop-append-add w (drop (length w) N) (length v) ∙ drop-drop (length v) (length w) N in
    sets-eq v (over w N) k (omega arith) ∙ ap₂ (λ x y. (x ++ v) ++ y) (take_at w (drop (length w) N) k e) a ∙ over_both w v N

-- The part from `k` on is lent.
pub lent_length : (k : ℕ) (N : List ℕ) → length (mid_of k (length N - k) N) ≡ length N - k
lent_length k N =
    ap length (take_all (length N - k) (drop k N) (omega (arith, length-drop k N))) ∙ length-drop k N

-- Words over the lent part, which is given back, stand behind those in front of it.
pub over-lent : (w v N ys : List ℕ) (k : ℕ) → length w ≡ k → k ≤ length N → ys ≡ over v (mid_of k (length (over w N) - k) (over w N))
    → put_mid k (length (over w N) - k) (over w N) ys ≡ over (w ++ v) N
unfolding over
over-lent w v N ys k e h d =
    let M = over w N in
    let short : length (drop k M) ≤ length M - k = omega (arith, length-drop k M) in
    let lent : mid_of k (length M - k) M ≡ drop k N =
    take_all (length M - k) (drop k M) short ∙ drop_at w (drop (length w) N) k e ∙ ap (λ j. drop j N) e in
    let none : drop (length M - k) (drop k M) ≡ [] = drop_of_length-le _ short in
    let behind : drop (length v) (drop k N) ≡ drop (length w + length v) N =
    drop-drop (length v) k N ∙ ap (λ j. drop (j + length v) N) (sym e) in
    ap₂ (λ x y. x ++ (ys ++ y)) (take_at w (drop (length w) N) k e) none
    ∙ ap (λ y. w ++ y) (append-nil ys ∙ d ∙ ap (λ l. over v l) lent ∙ ap (λ l. v ++ l) behind)
    ∙ sym (append_assoc w v (drop (length w + length v) N))
    ∙ over_both w v N
