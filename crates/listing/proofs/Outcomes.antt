-- What an answer says, and the text of it.
use mathlib.Core.Path.{◌≡◌, refl}
use mathlib.Core.Bool.{Bool, true, false}
use mathlib.Core.List.{◌++◌, append_assoc}
use Prim.Native.Nat.{ℕ, ◌^◌, ◌<◌}
use borrow.Author.Tests.{eqb-true, eqb-false, eq-eqb, ne_eqb}
use lib.Dec.{eqb}
use Rattle.std.proofs.Common.{Result, Ok, Err, codes}
use Rattle.std.specs.Fmt as P
use Rattle.grammar.specs.Bytes.{Bytes}
use Rattle.reader.specs.declared.Answer.{Answer}
use Rattle.listing.specs.declared.error.NumberedError.{NumberedError}
use Rattle.listing.specs.Lines.{refusal_text, answer_text, outcome_text}
use Rattle.listing.specs.Outcome.{outcome_of, error_output}
use Rattle.listing.proofs.Digits.{printed_spelled}

module _ (a : Answer) where
  pub outcome-counted : (n : ℕ) → outcome_of a ≡ Ok n → (a.number ≡ 0) × (a.count ≡ n)
  outcome-counted n e = go (eqb a.number 0) refl e
    where
      go
          : (b : Bool) → eqb a.number 0 ≡ b → ◌≡◌ {A = Result ℕ NumberedError} (elim b [ true ↦ Ok a.count | false ↦ Err (record { number = a.number; offset = a.offset }) ]) (Ok n)
          → (a.number ≡ 0) × (a.count ≡ n)
      go true t e = (eqb-true a.number 0 t, cc)
      go false t e = absurd (cc)

  pub outcome-refused
      : (r : NumberedError) → outcome_of a ≡ Err r → (a.number ≡ 0 → ⊥) × (r ≡ record { number = a.number; offset = a.offset })
  outcome-refused r e = go (eqb a.number 0) refl e
    where
      go
          : (b : Bool) → eqb a.number 0 ≡ b → ◌≡◌ {A = Result ℕ NumberedError} (elim b [ true ↦ Ok a.count | false ↦ Err (record { number = a.number; offset = a.offset }) ]) (Err r)
          → (a.number ≡ 0 → ⊥) × (r ≡ record { number = a.number; offset = a.offset })
      go true t e = absurd (cc)
      go false t e = (eqb-false a.number 0 t, cc)

  pub error-output
      : (r : NumberedError) → outcome_of a ≡ Err r → a.number < 2 ^ 64 → a.offset < 2 ^ 64 → error_output r ≡ refusal_text a
  unfolding refusal_text
  error-output r e h k =
      rw (outcome-refused r e).1
      (rw (printed_spelled a.number h, printed_spelled a.offset k) (simp append_assoc refl))

  module _ (word : Bytes) where
    pub answer-counted
        : (n : ℕ) → outcome_of a ≡ Ok n → n < 2 ^ 64 → word ++ (codes " " ++ P.decimal n) ≡ answer_text word a
    unfolding answer_text
    answer-counted n e h =
        let o = outcome-counted n e in
        rw (eq-eqb a.number 0 o.0, answer_text, o.1, printed_spelled n h) (simp append_assoc refl)

    pub answer-refused
        : (r : NumberedError) → outcome_of a ≡ Err r → a.number < 2 ^ 64 → a.offset < 2 ^ 64 → error_output r ≡ answer_text word a
    unfolding answer_text
    answer-refused r e h k = rw (ne_eqb a.number 0 (outcome-refused r e).0, answer_text) (error-output r e h k)

    pub outcome_text-counted : (n : ℕ) → outcome_of a ≡ Ok n → word ≡ outcome_text word a
    unfolding outcome_text
    outcome_text-counted n e = rw (eq-eqb a.number 0 (outcome-counted n e).0, outcome_text) refl

    pub outcome_text-refused
        : (r : NumberedError) → outcome_of a ≡ Err r → a.number < 2 ^ 64 → a.offset < 2 ^ 64 → error_output r ≡ outcome_text word a
    unfolding outcome_text
    outcome_text-refused r e h k = rw (ne_eqb a.number 0 (outcome-refused r e).0, outcome_text) (error-output r e h k)
