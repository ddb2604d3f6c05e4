-- The parts that are printed are the lines of the listing's definition.
use mathlib.Core.Path.{◌≡◌, refl, sym, ap, ◌∙◌}
use mathlib.Core.Logic.{◌⊎◌, ⊎_elim}
use mathlib.Core.List.{List, ◌++◌, append_assoc}
use Prim.Native.Nat.{ℕ, ◌*◌, ◌^◌, ◌≤◌, ◌<◌}
use native.Mathlib.Omega.{arith}
use lib.ListN.{take, replicate, length-replicate}
use borrow.Author.Tests.{eq-eqb, ne_eqb}
use Rattle.grammar.specs.Fault.{longest_text, most_tokens}
use Rattle.grammar.specs.Bytes.{bytes}
use Rattle.grammar.specs.Nodes.{words_per_node}
use Rattle.grammar.specs.Answer as G
use Rattle.grammar.specs.Listing.{
  decimal,
  newline,
  node_lines,
  refusal_line,
  canonical_lines,
  reading_lines,
  listing_of,
  listing,
  printed,
}
use Rattle.grammar.proofs.Answers.{read_proper, canonicalize_proper}
use Rattle.reader.specs.declared.Answer.{Answer}
use Rattle.reader.specs.Answered.{result_of, Reads, Canonicalizes}
use Rattle.reader.proofs.Fits.{count_fits, canonical_count_fits}
use Rattle.std.proofs.Common.{Ok, Err, codes}
use Rattle.std.specs.Fmt as P
use Rattle.listing.specs.declared.error.NumberedError.{NumberedError}
use Rattle.listing.specs.Outcome.{outcome_of, error_output}
use Rattle.listing.proofs.Digits.{printed_decimal}
use Rattle.listing.proofs.Outcomes.{outcome-counted, outcome-refused}
use Rattle.listing.proofs.Places.{read_offset, canonicalize_offset}

regroup : (a b c d z : List ℕ) → (a ++ (b ++ (c ++ d))) ++ z ≡ a ++ b ++ c ++ d ++ z
regroup a b c d z = simp append_assoc refl

-- What is printed of an answer whose number, place and count have at most ten digits.
module _ (a : Answer) (B : List ℕ) where
  refused_line
      : (r : NumberedError) → outcome_of a ≡ Err r → a.number < 10 ^ 10 → a.offset < 10 ^ 10
      → error_output r ++ newline ≡ refusal_line (result_of a B).answer
  unfolding refusal_line result_of
  refused_line r e h k =
      rw ((outcome-refused a r e).1, printed_decimal a.number h, printed_decimal a.offset k)
      (regroup (bytes "refused ") (decimal a.number) (bytes " at ") (decimal a.offset) newline)

  canonical_counted
      : (n : ℕ) → outcome_of a ≡ Ok n → n < 10 ^ 10
      → (codes "tidy " ++ (P.decimal n ++ codes "\n")) ++ (take n B ++ newline) ≡ canonical_lines (result_of a B)
  unfolding canonical_lines result_of
  canonical_counted n e h =
      let o = outcome-counted a n e in
      rw (eq-eqb a.number 0 o.0, canonical_lines, o.1, printed_decimal n h) (sym (append_assoc (bytes "tidy " ++ decimal n ++ newline) (take n B) newline))

  canonical_refused
      : (r : NumberedError) → outcome_of a ≡ Err r → a.number < 10 ^ 10 → a.offset < 10 ^ 10
      → error_output r ++ newline ≡ canonical_lines (result_of a B)
  unfolding canonical_lines result_of
  canonical_refused r e h k = rw (ne_eqb a.number 0 (outcome-refused a r e).0, canonical_lines) (refused_line r e h k)

  reading_counted
      : (C : G.Result) (n : ℕ) → outcome_of a ≡ Ok n → n < 10 ^ 10
      → (codes "read " ++ (P.decimal n ++ codes "\n")) ++ node_lines n 0 B ++ canonical_lines C ≡ listing_of (result_of a B) C
  unfolding listing_of reading_lines result_of
  reading_counted C n e h =
      let o = outcome-counted a n e in
      rw (eq-eqb a.number 0 o.0, listing_of, o.1, printed_decimal n h) refl

  reading_refused
      : (C : G.Result) (r : NumberedError) → outcome_of a ≡ Err r → a.number < 10 ^ 10 → a.offset < 10 ^ 10
      → error_output r ++ newline ≡ listing_of (result_of a B) C
  unfolding listing_of result_of
  reading_refused C r e h k = rw (ne_eqb a.number 0 (outcome-refused a r e).0, listing_of) (refused_line r e h k)

-- Numbers of refusals are small.
known_small : (n most : ℕ) → most ≤ 17 → (n ≤ most) ⊎ (n ≡ 17) → n < 10 ^ 10
known_small n most l h = ⊎_elim (λ k. omega arith) (λ k. omega arith) h

module _ (text B' : List ℕ) (a : Answer) (e : Canonicalizes text (replicate longest_text 0) B' a) where
  pub canonical_printed
      : (n : ℕ) → outcome_of a ≡ Ok n
      → (codes "tidy " ++ (P.decimal n ++ codes "\n")) ++ (take n B' ++ newline) ≡ canonical_lines (G.canonicalize text (replicate longest_text 0))
  unfolding result_of
  canonical_printed n o =
      let small : n < 10 ^ 10 =
      omega (arith, canonical_count_fits text (replicate longest_text 0) B' a e, length-replicate {A = ℕ} longest_text 0, (outcome-counted a n o).1) in
      canonical_counted a B' n o small ∙ ap canonical_lines e

  pub canonical-refusal_printed
      : (r : NumberedError) → outcome_of a ≡ Err r → error_output r ++ newline ≡ canonical_lines (G.canonicalize text (replicate longest_text 0))
  unfolding result_of
  canonical-refusal_printed r o =
      let C : List ℕ = replicate longest_text 0 in
      let n : a.number ≡ (G.canonicalize text C).answer.number = ap (λ (r : G.Result). r.answer.number) e in
      let p : a.offset ≡ (G.canonicalize text C).answer.offset = ap (λ (r : G.Result). r.answer.offset) e in
      let h = known_small _ 13 (omega arith) (canonicalize_proper text C).known in
      canonical_refused a B' r o (omega (arith, n, h)) (omega (arith, p, canonicalize_offset text C)) ∙ ap canonical_lines e

module _ (text N' : List ℕ) (a : Answer) (e : Reads text (replicate (words_per_node * most_tokens) 0) N' a) where
  pub reading_printed
      : (n : ℕ) → outcome_of a ≡ Ok n
      → (codes "read " ++ (P.decimal n ++ codes "\n")) ++ node_lines n 0 N' ++ canonical_lines (G.canonicalize text (replicate longest_text 0))
      ≡ printed text
  unfolding printed listing result_of
  reading_printed n o =
      let N : List ℕ = replicate (words_per_node * most_tokens) 0 in
      let C = G.canonicalize text (replicate longest_text 0) in
      let small : n < 10 ^ 10 =
      omega (arith, count_fits text N N' a e, length-replicate {A = ℕ} (words_per_node * most_tokens) 0, (outcome-counted a n o).1) in
      reading_counted a N' C n o small ∙ ap (λ (r : G.Result). listing_of r C) e

  pub reading-refusal_printed : (r : NumberedError) → outcome_of a ≡ Err r → error_output r ++ newline ≡ printed text
  unfolding printed listing result_of
  reading-refusal_printed r o =
      let N : List ℕ = replicate (words_per_node * most_tokens) 0 in
      let C = G.canonicalize text (replicate longest_text 0) in
      let n : a.number ≡ (G.read text N).answer.number = ap (λ (r : G.Result). r.answer.number) e in
      let p : a.offset ≡ (G.read text N).answer.offset = ap (λ (r : G.Result). r.answer.offset) e in
      let h = known_small _ 12 (omega arith) (read_proper text N).known in
      reading_refused a N' C r o (omega (arith, n, h)) (omega (arith, p, read_offset text N)) ∙ ap (λ (r : G.Result). listing_of r C) e
