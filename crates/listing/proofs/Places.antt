-- A refusal's place lies in the text or at its end, so no place is above the longest text.
use mathlib.Core.Path.{◌≡◌, refl, ap}
use mathlib.Core.Bool.{Bool, true, false}
use mathlib.Core.List.{List, [], ◌∷◌, ◌++◌}
use Prim.Native.Nat.{ℕ, zero, suc, ◌+◌, ◌*◌, ◌≤◌}
use native.Mathlib.Omega.{arith}
use lib.Dec.{leb}
use lib.ListN.{length, take, drop, get_or, length-append}
use Rattle.std.proofs.Common.{take-append-drop}
use borrow.Author.Tests.{leb-true}
use Rattle.std.proofs.Math.Option.{Option, none, some}
use Rattle.grammar.specs.Bytes.{All, Bytes}
use Rattle.grammar.specs.Token.{Token, is_blank_byte, spelling}
use Rattle.grammar.specs.Outcome.{Outcome, refused, passed, and_then, placed}
use Rattle.grammar.specs.Scan.{Placed, run, Front, nothing, wrong, taken, front, before, scan}
use Rattle.grammar.specs.Nesting.{nesting}
use Rattle.grammar.specs.Declaration.{start_table}
use Rattle.grammar.specs.Blocks.{check_blocks, treeless_opener}
use Rattle.grammar.specs.Tree.{Tree}
use Rattle.grammar.specs.Nodes.{count, words_per_node}
use Rattle.grammar.specs.Fault.{longest_text, most_tokens}
use Rattle.grammar.specs.Answer as G
use Rattle.grammar.specs.Answer.{
  Reading,
  Written,
  tokens_of,
  starts_of,
  offset_of,
  span_offset,
  spans_of,
  reading_tree,
  read_spans,
  read_tokens,
  read_text,
  answered,
  nodes_into,
  bytes_that,
  text_into,
  rejection,
  success,
}
use Rattle.grammar.proofs.Lists.{all_map}
use Rattle.grammar.proofs.Runs.{ran}
use Rattle.grammar.proofs.Scanned.{next_token}
use Rattle.grammar.proofs.Offsets.{Stands, token_offsets}
use Rattle.grammar.proofs.RefusalNumbers.{Refuses, refuses-and_then}

-- The tokens that a scan found start in the text.
starts_below : (m : ℕ) (ps : List Placed) → All (λ (p : Placed). p.start ≤ m) ps → (i : ℕ) → get_or (starts_of ps ++ m ∷ []) i 0 ≤ m
unfolding starts_of
starts_below m [] a zero = omega arith
starts_below m [] a (suc i) = omega arith
starts_below m (p ∷ ps) a zero = a.0
starts_below m (p ∷ ps) a (suc i) = starts_below m ps a.1 i

offset_below : (text : Bytes) (ps : List Placed) → scan most_tokens 0 text ≡ passed ps → (i : ℕ) → offset_of text ps i ≤ length text
unfolding offset_of
offset_below text ps h =
    starts_below (length text) ps
    (all_map (Stands 0 text) (λ (p : Placed). p.start ≤ length text) (λ p s. omega (arith, s.1)) ps (token_offsets most_tokens 0 text ps h))

-- What a scan refuses stands in the text or at its end.
module _ (m : ℕ) where
  abbrev Below : {A : Type 0} → Outcome A → Type 0
  Below = Refuses (λ n p. p ≤ m)

  before_below : (p : Placed) (o : Outcome (List Placed)) → Below o → Below (before p o)
  unfolding before
  before_below p (refused n q) b = b
  before_below p (passed ps) b = tt

  blanks_within : (s : Bytes) → run is_blank_byte s ≤ length s
  blanks_within s =
      let n = run is_blank_byte s in
      omega (arith, (ran is_blank_byte s).size, ap length (take-append-drop n s), length-append (take n s) (drop n s))

  token_within
      : (s : Bytes) (t : Token) (k : ℕ) → front (drop (run is_blank_byte s) s) ≡ taken t k
      → run is_blank_byte s + k + length (drop (run is_blank_byte s + k) s) ≡ length s
  token_within s t k e =
      let n = run is_blank_byte s in
      let next = next_token s t k e in
      omega (
        arith,
        (ran is_blank_byte s).size,
        ap length next.written,
        next.size,
        ap length next.behind,
        length-append (take n s) (spelling t ++ next.rest),
        length-append (spelling t) next.rest,
      )

  scan_below : (room at : ℕ) (s : Bytes) → at + length s ≤ m → Below (scan room at s)
  unfolding scan
  scan_below zero at s h = go (front (drop (run is_blank_byte s) s))
    where
      q : at + run is_blank_byte s ≤ m
      q = omega (arith, blanks_within s)

      go
          : (f : Front)
          → Below {A = List Placed} (elim f [
            | nothing ↦ passed []
            | wrong k ↦ refused k (at + run is_blank_byte s)
            | taken t k ↦ refused 5 (at + run is_blank_byte s)
          ])
      go nothing = tt
      go (wrong k) = q
      go (taken t k) = q
  scan_below (suc room) at s h = go (λ b r l. scan_below room b r l) (front (drop (run is_blank_byte s) s)) refl
    where
      n : ℕ
      n = run is_blank_byte s

      go
          : ((b : ℕ) (r : Bytes) → b + length r ≤ m → Below (scan room b r))
          → (f : Front) → front (drop (run is_blank_byte s) s) ≡ f
          → Below {A = List Placed} (elim f [
            | nothing ↦ passed []
            | wrong k ↦ refused k (at + n)
            | taken t k ↦ before (record { token = t; start = at + n }) (scan room (at + n + k) (drop (n + k) s))
          ])
      go ih nothing e = tt
      go ih (wrong k) e = omega (arith, blanks_within s)
      go ih (taken t k) e = before_below _ _ (ih (at + n + k) (drop (n + k) s) (omega (arith, token_within s t k e)))

  placed_below : {A : Type 0} (f : ℕ → ℕ) (o : Outcome A) → ((i : ℕ) → f i ≤ m) → Below (placed f o)
  unfolding placed
  placed_below f (refused n p) h = h p
  placed_below f (passed a) h = tt

  module _ (text : Bytes) (ps : List Placed) (h : (i : ℕ) → offset_of text ps i ≤ m) where
    opener_below : (o : Option ℕ) → span_offset text ps o ≤ m
    unfolding span_offset
    opener_below none = omega arith
    opener_below (some i) = h i

    spans_below : (o : Option Tree) → Below (read_spans text ps o)
    unfolding read_spans
    spans_below none = opener_below (treeless_opener (spans_of ps))
    spans_below (some t) = tt

    tokens_below : Below (read_tokens text ps)
    unfolding read_tokens
    tokens_below =
        let f = offset_of text ps in
        let n = nesting [] 0 (tokens_of ps) in
        let c = check_blocks (suc (length ps)) start_table 0 (tokens_of ps) in
        refuses-and_then (λ n p. p ≤ m) (placed f n) _ (placed_below f n h) (λ u.
        refuses-and_then (λ n p. p ≤ m) (placed f c) _ (placed_below f c h) (λ v. spans_below (reading_tree (tokens_of ps))))

  -- A service adds refusals at the place 0 alone.
  answer_below : (b : List ℕ) (o : Outcome Written) → Below o → (answered b o).answer.offset ≤ m
  unfolding answered rejection success
  answer_below b (refused n p) h = h
  answer_below b (passed w) h = omega arith

  nodes_below : (text : Bytes) (b : List ℕ) (r : Reading) → Below (nodes_into text b r)
  unfolding nodes_into
  nodes_below text b r = go (leb (words_per_node * count r.tree) (length b)) refl
    where
      go : (t : Bool) → leb (words_per_node * count r.tree) (length b) ≡ t → Below (nodes_into text b r)
      go true e = rw (e, nodes_into) tt
      go false e = rw (e, nodes_into) (omega arith)

  bytes_below : (t : Bool) (w : Bytes) → Below (bytes_that t w)
  unfolding bytes_that
  bytes_below true w = tt
  bytes_below false w = omega arith

  text_below : (b : List ℕ) (r : Reading) → Below (text_into b r)
  unfolding text_into
  text_below b r = bytes_below _ _

read_below : (text : Bytes) → Below longest_text (read_text text)
unfolding read_text and_then
read_below text = go (leb (length text) longest_text) refl
  where
    tokens
        : length text ≤ longest_text → (o : Outcome (List Placed)) → scan most_tokens 0 text ≡ o → Below longest_text o
        → Below longest_text (and_then o (read_tokens text))
    tokens l (refused n p) e b = b
    tokens l (passed ps) e b = tokens_below longest_text text ps (λ i. omega (arith, offset_below text ps e i))

    go
        : (b : Bool) → leb (length text) longest_text ≡ b
        → Below longest_text {A = Reading} (elim b [ true ↦ and_then (scan most_tokens 0 text) (read_tokens text) | false ↦ refused 1 longest_text ])
    go true e =
        let l = leb-true (length text) longest_text e in
        tokens l (scan most_tokens 0 text) refl (scan_below longest_text most_tokens 0 text (omega arith))
    go false e = omega arith

pub read_offset : (text : Bytes) (b : List ℕ) → (G.read text b).answer.offset ≤ longest_text
unfolding G.read
read_offset text b =
    answer_below longest_text b (and_then (read_text text) (nodes_into text b))
    (refuses-and_then (λ n p. p ≤ longest_text) (read_text text) (nodes_into text b) (read_below text) (nodes_below longest_text text b))

pub canonicalize_offset : (text : Bytes) (b : List ℕ) → (G.canonicalize text b).answer.offset ≤ longest_text
unfolding G.canonicalize
canonicalize_offset text b =
    answer_below longest_text b (and_then (read_text text) (text_into b))
    (refuses-and_then (λ n p. p ≤ longest_text) (read_text text) (text_into b) (read_below text) (text_below longest_text b))
