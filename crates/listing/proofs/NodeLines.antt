-- The lines of nodes, one behind the other.
use mathlib.Core.Path.{◌≡◌, refl, sym, ap, ap₂, ◌∙◌}
use mathlib.Core.List.{List, [], ◌++◌, append-nil, append_assoc}
use Prim.Native.Nat.{ℕ, zero, suc, ◌+◌, ◌*◌}
use native.Mathlib.Nat.{add-zero}
use native.Mathlib.Omega.{arith}
use lib.ListN.{drop}
use lib.Seq.{drop-drop}
use Rattle.grammar.specs.Bytes.{Bytes}
use Rattle.grammar.specs.Nodes.{words_per_node}
use Rattle.grammar.specs.Listing.{node_lines}

first_line : (j k : ℕ) (ws : List ℕ) → node_lines (suc j) k ws ≡ node_lines 1 k ws ++ node_lines j (suc k) (drop words_per_node ws)
unfolding node_lines
first_line j k ws = simp (append_assoc, append-nil) refl

no_line : (k : ℕ) (ws : List ℕ) → node_lines 1 k ws ≡ node_lines 0 k ws ++ node_lines 1 (k + 0) (drop (0 * words_per_node) ws)
unfolding node_lines
no_line k ws = rw (add-zero k) refl

last_line
    : (j k : ℕ) (ws : List ℕ) → node_lines (suc j) k ws ≡ node_lines j k ws ++ node_lines 1 (k + j) (drop (j * words_per_node) ws)
last_line zero k ws = no_line k ws
last_line (suc j) k ws =
    let ws' : List ℕ = drop words_per_node ws in
    let n : suc k + j ≡ k + suc j = omega arith in
    let d : words_per_node + j * words_per_node ≡ suc j * words_per_node = omega arith in
    let w : drop (j * words_per_node) ws' ≡ drop (suc j * words_per_node) ws =
    drop-drop (j * words_per_node) words_per_node ws ∙ ap (λ (i : ℕ). drop i ws) d in
    first_line (suc j) k ws
    ∙ ap (λ (x : Bytes). node_lines 1 k ws ++ x) (last_line j (suc k) ws')
    ∙ sym (append_assoc (node_lines 1 k ws) (node_lines j (suc k) ws') (node_lines 1 (suc k + j) (drop (j * words_per_node) ws')))
    ∙ ap₂ (λ (x y : Bytes). x ++ y) (sym (first_line j k ws)) (ap₂ (λ (i : ℕ) (v : List ℕ). node_lines 1 i v) n w)

pub next_line
    : (j : ℕ) (ws : List ℕ) → node_lines j 0 ws ++ node_lines 1 j (drop (j * words_per_node) ws) ≡ node_lines (j + 1) 0 ws
next_line j ws =
    let z : 0 + j ≡ j = omega arith in
    let s : suc j ≡ j + 1 = omega arith in
    sym (last_line j 0 ws ∙ ap (λ (i : ℕ). node_lines j 0 ws ++ node_lines 1 i (drop (j * words_per_node) ws)) z)
    ∙ ap (λ (i : ℕ). node_lines i 0 ws) s

pub no_lines : (ws : List ℕ) → [] ≡ node_lines 0 0 ws
unfolding node_lines
no_lines ws = refl
