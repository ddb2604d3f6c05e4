-- What is asked of a call settles its answer and its buffer: the number says which of the demands applies, and that one gives the rest.
-- It speaks of the rules only through the rows that hold of the text, so it is asked alike where these are alike.
use mathlib.Core.Path.{◌≡◌, refl, sym, ap, ap₂, ◌∙◌}
use mathlib.Core.Logic.{inl, inr, ⊎_elim}
use mathlib.Core.Bool.{Bool, true, false}
use mathlib.Core.List.{List, ◌++◌}
use Prim.Native.Nat.{ℕ, ◌*◌, ◌≤◌, ◌<◌}
use native.Mathlib.Omega.{arith}
use lib.Dec.{eqb}
use borrow.Author.Tests.{eqb-true}
use lib.ListN.{take, drop, take-append-drop}
use Rattle.grammar.specs.Bytes.{Bytes}
use Rattle.grammar.specs.Token.{Token}
use Rattle.grammar.specs.Tree.{Tree}
use Rattle.grammar.specs.Nodes.{words_per_node}
use Rattle.grammar.specs.Declaration.{start_table, is_reserved}
use Rattle.grammar.specs.Operator.{Permitted}
use Rattle.grammar.specs.Fault.{Rules, current, without_reserving, with_four_conditions, BeforeEleven, Unreserved, Conditioned}
use Rattle.grammar.proofs.Logic.{below, clash}
use Rattle.grammar.proofs.TokenFaults.{goes_on_unique}
use Rattle.grammar.proofs.WordsOffsets.{words_offsets}
use Rattle.grammar.proofs.RulesAlike.{Alike, alike_back, same_past, same_readings}
use Rattle.grammar.proofs.ReservedNames.{reserved_alike}
use Rattle.grammar.proofs.FourConditions.{conditions_alike}
use Rattle.reader.specs.declared.Answer.{Answer}
use Rattle.reader.specs.Demands.{IsOwn, RightAnswerUnder, TableHolds, BufferHolds, Right, RightReading, RightCanonical, OnlyReading, OnlyCanonical}
use Rattle.reader.specs.Answered.{Reads, Canonicalizes}
use Rattle.reader.proofs.ReadCalls as ReadCalls
use Rattle.reader.proofs.CanonicalCalls as CanonicalCalls

-- Two lists with the same front and the same rest.
same_parts : (n : ℕ) (xs ys : List ℕ) → take n xs ≡ take n ys → drop n xs ≡ drop n ys → xs ≡ ys
same_parts n xs ys f r = sym (take-append-drop n xs) ∙ ap₂ ◌++◌ f r ∙ take-append-drop n ys

-- What a buffer holds of a tree settles the count and the buffer: so it is of a node table, and of canonical text.
abbrev Settles : (List ℕ → ℕ → Tree → Type 0) → Type 0
Settles Holds = (t : Tree) (C C' : List ℕ) (c d : ℕ) → Holds C c t → Holds C' d t → (c ≡ d) × (C ≡ C')

table_settled : (text : Bytes) (N : List ℕ) → Settles (TableHolds text N)
table_settled text N t C C' c d h g =
    let e : c ≡ d = h.counted ∙ sym g.counted in
    let size : words_per_node * d ≡ words_per_node * c = ap (◌*◌ words_per_node) (sym e) in
    let words = words_offsets h.offsets g.offsets start_table t 0 0
    (λ j l m. (goes_on_unique (h.begins j (omega arith)).1 (g.begins j (omega arith)).1).0) in
    let front = h.written ∙ words ∙ sym g.written ∙ ap (λ k. take k C') size in
    let rest = h.behind ∙ ap (λ k. drop k N) (sym size) ∙ sym g.behind ∙ ap (λ k. drop k C') size in
    (e, same_parts (words_per_node * c) C C' front rest)

buffer_settled : (B : List ℕ) → Settles (BufferHolds B)
buffer_settled B t C C' c d h g =
    let e : c ≡ d = h.counted ∙ sym g.counted in
    let front = h.text ∙ sym g.text ∙ ap (λ k. take k C') (sym e) in
    let rest = h.behind ∙ ap (λ k. drop k B) e ∙ sym g.behind ∙ ap (λ k. drop k C') (sym e) in
    (e, same_parts c C C' front rest)

pub same_answer : {a b : Answer} → a.number ≡ b.number → a.offset ≡ b.offset → a.count ≡ b.count → a ≡ b
same_answer n p c i = record { number = n i; offset = p i; count = c i }

-- Every number is 0, that of a row, 11, or a service's own.
by_number : {X : Type 0} (n : ℕ) → (n ≡ 0 → X) → (BeforeEleven n → X) → (n ≡ 11 → X) → (IsOwn n → X) → X
by_number {X} n zero row eleven own = below n 12 (λ l. low l) (λ l. high (eqb n 17) refl l)
  where
    low : n < 12 → X
    low l = below n 1 (λ m. zero (omega arith)) (λ m. below n 11 (λ k. row (inl (omega arith))) (λ k. eleven (omega arith)))

    high : (b : Bool) → eqb n 17 ≡ b → 12 ≤ n → X
    high true e l = row (inr (eqb-true n 17 e))
    high false e l = own (omega arith, λ f. clash (ap (λ i. eqb i 17) f) e)

module _
    {rules : Rules} {Treeless : Bytes → List Token → ℕ → Type 0} {Own : Tree → ℕ → ℕ → Type 0} {Holds : List ℕ → ℕ → Tree → Type 0} {text : Bytes}
    {B : List ℕ} where
  -- Two calls that meet the same demands.
  module _
      {B' B'' : List ℕ} {a b : Answer} (h : Right rules Treeless Own Holds text B B' a) (g : Right rules Treeless Own Holds text B B'' b)
    where
      -- Both refuse.
      refusals : (a.number ≡ 0 → ⊥) → b.number ≡ a.number → b.offset ≡ a.offset → (a ≡ b) × (B' ≡ B'')
      refusals f n p =
          let (u, c) = h.answers.unchanged f in
          let (w, d) = g.answers.unchanged (λ z. f (sym n ∙ z)) in
          (same_answer (sym n) (sym p) (c ∙ sym d), u ∙ sym w)

      -- Both read, and the buffers hold the same tree.
      readings : Settles Holds → a.number ≡ 0 → (a ≡ b) × (B' ≡ B'')
      readings unique z =
          let (t, tree, none) = h.answers.success.0 z in
          let y = g.answers.success.1 (t, tree, none) in
          let (c, u) = unique t B' B'' a.count b.count (h.held z t tree) (g.held y t tree) in
          (same_answer (z ∙ sym y) (h.answers.place_zero z ∙ sym (g.answers.place_zero y)) c, u)

      pub settled : Settles Holds → (a ≡ b) × (B' ≡ B'')
      settled unique = by_number a.number (readings unique) row last owned
        where
          row : BeforeEleven a.number → (a ≡ b) × (B' ≡ B'')
          row r =
              let (n, p, k) = (g.answers.faults a.number a.offset).1 ((h.answers.faults a.number a.offset).0 (refl, refl, r)) in
              refusals (λ z. ⊎_elim (λ l. omega arith) (λ l. omega arith) r) n p

          last : a.number ≡ 11 → (a ≡ b) × (B' ≡ B'')
          last e =
              let (n, p) = (g.answers.eleven a.offset).1 ((h.answers.eleven a.offset).0 (e, refl)) in
              refusals (λ z. omega arith) (n ∙ sym e) p

          owned : IsOwn a.number → (a ≡ b) × (B' ≡ B'')
          owned o =
              let (n, p, k) = (g.answers.own a.number a.offset).1 ((h.answers.own a.number a.offset).0 (refl, refl, o)) in
              refusals (λ z. omega arith) n p

-- Under rules that let the same rows hold of the text the same is asked.
module _ {R S : Rules} {text : Bytes} (alike : Alike R S text) where
  module _ {Treeless : Bytes → List Token → ℕ → Type 0} {Own : Tree → ℕ → ℕ → Type 0} {B B' : List ℕ} {a : Answer} where
    answers_alike : RightAnswerUnder R Treeless Own text B B' a → RightAnswerUnder S Treeless Own text B B' a
    answers_alike h =
        record {
          faults = λ n p. (λ z. (alike n p).0 ((h.faults n p).0 z), λ f. (h.faults n p).1 ((alike n p).1 f));
          eleven =
              λ p. (
                λ z. let (x, ts, past, first) = (h.eleven p).0 z in (x, ts, same_past alike past, first),
                λ (x, ts, past, first). (h.eleven p).1 (x, ts, same_past (alike_back alike) past, first),
              );
          own =
              λ n p. (
                λ z. let (t, tree, o) = (h.own n p).0 z in (t, same_readings alike tree, o),
                λ (t, tree, o). (h.own n p).1 (t, same_readings (alike_back alike) tree, o),
              );
          success = (
            λ z. let (t, tree, none) = h.success.0 z in (t, same_readings alike tree, none),
            λ (t, tree, none). h.success.1 (t, same_readings (alike_back alike) tree, none),
          );
          place_zero = h.place_zero;
          unchanged = h.unchanged;
        }

    right_alike :
        {Holds : List ℕ → ℕ → Tree → Type 0} → Right R Treeless Own Holds text B B' a → Right S Treeless Own Holds text B B' a
    right_alike h = record { answers = answers_alike h.answers; held = λ z t tree. h.held z t (same_readings (alike_back alike) tree) }

-- Of the two services, first under the rules as they are, ..
pub read_settled :
    (text : Bytes) (N N' N'' : List ℕ) (a b : Answer) → Reads text N N' a → RightReading current text N N'' b → (a ≡ b) × (N' ≡ N'')
read_settled text N N' N'' a b h g = settled (ReadCalls.right text N N' a h) g (table_settled text N)

pub canonicalize_settled :
    (text : Bytes) (B B' B'' : List ℕ) (a b : Answer) → Canonicalizes text B B' a → RightCanonical current text B B'' b → (a ≡ b) × (B' ≡ B'')
canonicalize_settled text B B' B'' a b h g = settled (CanonicalCalls.right text B B' a h) g (buffer_settled B)

-- .. then under others that are alike for the text.
module _ {R : Rules} {text : Bytes} (alike : Alike current R text) where
  read_alike : (N N' : List ℕ) (a : Answer) → Reads text N N' a → OnlyReading R text N N' a
  read_alike N N' a h =
      let other = right_alike alike (ReadCalls.right text N N' a h) in
      (other, λ N'' b g. settled other g (table_settled text N))

  canonicalize_alike : (B B' : List ℕ) (a : Answer) → Canonicalizes text B B' a → OnlyCanonical R text B B' a
  canonicalize_alike B B' a h =
      let other = right_alike alike (CanonicalCalls.right text B B' a h) in
      (other, λ B'' b g. settled other g (buffer_settled B))

-- Where no declaration names a reserved operator: as if none were reserved.
unreserved_alike : (text : Bytes) → Unreserved text → Alike current without_reserving text
unreserved_alike text free = reserved_alike Permitted is_reserved (λ m. false) text free

pub read_unreserved :
    (text : Bytes) → Unreserved text → (N N' : List ℕ) (a : Answer) → Reads text N N' a → OnlyReading without_reserving text N N' a
read_unreserved text free = read_alike (unreserved_alike text free)

pub canonicalize_unreserved :
    (text : Bytes) → Unreserved text → (B B' : List ℕ) (a : Answer) → Canonicalizes text B B' a → OnlyCanonical without_reserving text B B' a
canonicalize_unreserved text free = canonicalize_alike (unreserved_alike text free)

-- Where the four conditions would not refuse the text: as if they were asked of every table.
pub read_conditioned :
    (text : Bytes) → Conditioned text → (N N' : List ℕ) (a : Answer) → Reads text N N' a → OnlyReading with_four_conditions text N N' a
read_conditioned text never = read_alike (conditions_alike text never)

pub canonicalize_conditioned :
    (text : Bytes) → Conditioned text → (B B' : List ℕ) (a : Answer) → Canonicalizes text B B' a → OnlyCanonical with_four_conditions text B B' a
canonicalize_conditioned text never = canonicalize_alike (conditions_alike text never)
