-- Tests of a byte by its class, as it was looked up in the table, and by bounds.
use mathlib.Core.Path.{◌≡◌, refl, sym, ap, ◌∙◌}
use mathlib.Core.Bool.{Bool, true, false, ◌||◌}
use mathlib.Core.Logic.{◌⊎◌, inl, inr}
use Prim.Native.Nat.{ℕ, ◌≤◌, ◌<◌}
use native.Mathlib.Omega.{arith}
use lib.Dec.{eqb}
use denote.Enum.Bare.{sameb}
use borrow.Author.Tests.{le-leb, lt-leb, eq-eqb, ne_eqb, eqb-true, eqb-false}
use Rattle.grammar.specs.Bytes.{member}
use Rattle.grammar.specs.Token.{class, quote, is_blank_byte, in_word, in_quotes, is_quote}
use Rattle.grammar.proofs.Taken.{solo}
use Rattle.byte_classes.specs.declared.classes.Class.{Class}
use Rattle.byte_classes.specs.declared.classes.Class.TheVariants.{
  Blank,
  Letter,
  Digit,
  Underscore,
  Sign,
  Quote,
  Opening,
  Closing,
  Semicolon,
  Other,
}
use Rattle.byte_classes.specs.contracts.classes.Class.{the_type}
use Rattle.byte_classes.specs.Classes.{class_code}
use Rattle.byte_classes.proofs.Codes.{same_code}

-- The classes of words.
abbrev of_word : ℕ → Bool
of_word c = eqb c 1 || eqb c 2 || eqb c 3

word-class : (r : Class) → (r ≡ Letter) ⊎ ((r ≡ Digit) ⊎ (r ≡ Underscore)) → true ≡ of_word (class_code r)
word-class r (inl e) = sym (ap (λ x. of_word (class_code x)) e)
word-class r (inr (inl e)) = sym (ap (λ x. of_word (class_code x)) e)
word-class r (inr (inr e)) = sym (ap (λ x. of_word (class_code x)) e)

other-class : (r : Class) → (r ≡ Letter → ⊥) → (r ≡ Digit → ⊥) → (r ≡ Underscore → ⊥) → false ≡ of_word (class_code r)
other-class Blank f g h = refl
other-class Letter f g h = absurd (f refl)
other-class Digit f g h = absurd (g refl)
other-class Underscore f g h = absurd (h refl)
other-class Sign f g h = refl
other-class Quote f g h = refl
other-class Opening f g h = refl
other-class Closing f g h = refl
other-class Semicolon f g h = refl
other-class Other f g h = refl

module _ (b : ℕ) (r : Class) (e : class_code r ≡ class b) where
  pub in_word_lem : (r ≡ Letter) ⊎ ((r ≡ Digit) ⊎ (r ≡ Underscore)) → true ≡ in_word b
  unfolding in_word
  in_word_lem h = word-class r h ∙ ap of_word e

  pub not_in_word : (r ≡ Letter → ⊥) → (r ≡ Digit → ⊥) → (r ≡ Underscore → ⊥) → false ≡ in_word b
  unfolding in_word
  not_in_word f g h = other-class r f g h ∙ ap of_word e

module _ (b : ℕ) where
  pub in_quotes_lem : 32 ≤ b → b ≤ 126 → in_quotes b ≡ true
  unfolding in_quotes
  in_quotes_lem l m = rw (le-leb 32 b l, le-leb b 126 m, in_quotes)

  pub below_quotes : b < 32 → in_quotes b ≡ false
  unfolding in_quotes
  below_quotes l = rw (lt-leb 32 b l, in_quotes)

  pub above_quotes : 126 < b → in_quotes b ≡ false
  unfolding in_quotes
  above_quotes l = rw (le-leb 32 b (omega arith), lt-leb b 126 l, in_quotes)

-- A test for the class of blanks.
pub blank_test : (b : ℕ) (r : Class) {t : Bool} → t ≡ sameb the_type r Blank → class_code r ≡ class b → t ≡ is_blank_byte b
unfolding is_blank_byte
blank_test b r e f = e ∙ same_code r Blank ∙ ap (λ n. eqb n 0) f

-- One byte has the class of the quote, by a class that was looked up.
module _ (b : ℕ) {c : ℕ} (e : c ≡ class b) where
  pub a_quote : c ≡ quote → b ≡ 39
  a_quote i = (solo b).a_quote (sym e ∙ i)

  pub no_quote : (c ≡ quote → ⊥) → b ≡ 39 → ⊥
  unfolding class member
  no_quote f i = f (e ∙ ap class i)

quote_class : (b : ℕ) → eqb (class b) quote ≡ is_quote b
unfolding is_quote
quote_class b = go (eqb (class b) quote) refl
  where
    go : (x : Bool) → eqb (class b) quote ≡ x → eqb (class b) quote ≡ is_quote b
    go true i = i ∙ sym (eq-eqb b 39 (a_quote b refl (eqb-true (class b) quote i)))
    go false i = i ∙ sym (ne_eqb b 39 (no_quote b refl (eqb-false (class b) quote i)))

-- A test for the class of the quote.
pub quote_test : (b : ℕ) (r : Class) {t : Bool} → t ≡ sameb the_type r Quote → class_code r ≡ class b → t ≡ is_quote b
quote_test b r e f = e ∙ same_code r Quote ∙ ap (λ n. eqb n quote) f ∙ quote_class b
