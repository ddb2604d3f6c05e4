-- The line of a node is its line of the definition.
use mathlib.Core.Path.{◌≡◌, refl, sym, ap, ◌∙◌}
use mathlib.Core.List.{List, [], ◌++◌, append_assoc, append-nil}
use Prim.Native.Nat.{ℕ, zero, suc, ◌^◌, ◌≤◌, ◌<◌}
use native.Mathlib.Omega.{arith}
use lib.ListN.{length, get_or, get_or-append, get_or-eq_default}
use Rattle.std.proofs.Common.{Result, Ok, Err, lit≤}
use Rattle.std.specs.Result.{result_ok}
use Rattle.grammar.specs.Nodes.{words_per_node}
use Rattle.grammar.specs.Listing.{kind_names, node_lines}
use Rattle.nodes.specs.declared.kind.NodeKind.{NodeKind}
use Rattle.nodes.specs.declared.kind.NodeKind.TheVariants.{Name, Number, Prefix, Infix, Postfix, Bracket, Block}
use Rattle.nodes.specs.declared.kind.UnknownKind.{UnknownKind}
use Rattle.nodes.specs.Kind.{kind_word, Decodes}
use Rattle.listing.specs.declared.node.Node.{Node}
use Rattle.listing.specs.Node.{word_of, node_text, IsNodeOf}
use Rattle.listing.proofs.Digits.{spelled-decimal}

-- A number that no kind has has no word.
unnamed : (n : ℕ) → (1 ≤ n → 7 < n) → get_or kind_names n [] ≡ []
unfolding kind_names
unnamed zero h = refl
unnamed (suc k) h = let more : 7 < suc k = h (omega arith) in get_or-eq_default kind_names [] {n = suc k} (omega arith)

pub decoded_word : (n : ℕ) (r : Result NodeKind UnknownKind) → Decodes n r → word_of (result_ok r) ≡ get_or kind_names n []
decoded_word n (Ok k) e = ap (λ (x : ℕ). get_or kind_names x []) e
decoded_word n (Err u) e = sym (unnamed n e.1)

-- No kind's word has more than seven bytes.
pub kind_word_short : (kind : NodeKind) → length (kind_word kind) ≤ 7
unfolding kind_names
kind_word_short Name = lit≤ tt
kind_word_short Number = lit≤ tt
kind_word_short Prefix = lit≤ tt
kind_word_short Infix = lit≤ tt
kind_word_short Postfix = lit≤ tt
kind_word_short Bracket = lit≤ tt
kind_word_short Block = lit≤ tt

-- A line that grew by one part after another has grown by the parts together.
pub grown
    : (l d k a b c e f z : List ℕ)
    → (((((((l ++ d) ++ k) ++ a) ++ b) ++ c) ++ e) ++ f) ++ z ≡ l ++ d ++ k ++ a ++ b ++ c ++ e ++ f ++ z
grown l d k a b c e f z = simp append_assoc refl

module _ (i : ℕ) (words rest : List ℕ) (n : Node) (h : IsNodeOf words n) (size : length words ≡ words_per_node) where
  pub node_line : i < 10 ^ 10 → node_text i n ≡ node_lines 1 i (words ++ rest)
  unfolding node_lines
  node_line a =
      let ws = words ++ rest in
      let w₀ : get_or kind_names (get_or ws 0 0) [] ≡ word_of n.kind =
      ap (λ (x : ℕ). get_or kind_names x []) (get_or-append words rest 0 0 (omega arith)) ∙ sym h.kind in
      let w₁ : get_or ws 1 0 ≡ n.first = get_or-append words rest 0 1 (omega arith) ∙ sym h.first in
      let w₂ : get_or ws 2 0 ≡ n.second = get_or-append words rest 0 2 (omega arith) ∙ sym h.second in
      let w₃ : get_or ws 3 0 ≡ n.offset = get_or-append words rest 0 3 (omega arith) ∙ sym h.offset in
      let w₄ : get_or ws 4 0 ≡ n.length = get_or-append words rest 0 4 (omega arith) ∙ sym h.length in
      let w₅ : get_or ws 5 0 ≡ n.precedence = get_or-append words rest 0 5 (omega arith) ∙ sym h.precedence in
      rw (w₀, w₁, w₂, w₃, w₄, w₅, spelled-decimal i a, append-nil) refl
