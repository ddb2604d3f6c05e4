-- Strings of digits without their leading zeros: value, form and length, and that equal values give equal bytes.
-- Equal values: the shorter string is filled up with zeros, which changes neither its value nor what is left without zeros;
-- strings of one length and one value are then compared from their last digit, each digit being below 10.
use mathlib.Core.Path.{◌≡◌, refl, sym, ap, ap₂, ◌∙◌}
use mathlib.Core.Logic.{◌↔◌}
use mathlib.Core.Bool.{Bool, true, false, true≢false}
use mathlib.Core.List.{[], ◌∷◌}
use Prim.Native.Nat.{ℕ, zero, suc, ◌+◌, ◌*◌, ◌-◌, ◌≤◌}
use native.Mathlib.Nat.{suc_inj}
use native.Mathlib.Omega.{arith}
use lib.Dec.{leb, eqb}
use lib.ListN.{length}
use borrow.Author.Tests.{leb-true, leb-false, eqb-true}
use Rattle.grammar.specs.Bytes.{Bytes, member, every}
use Rattle.grammar.specs.Token.{class, is_blank, is_letter, between, signs, in_number, is_number}
use Rattle.grammar.specs.Declaration.{value, value_from}
use Rattle.grammar.specs.Canonical.{without_zeros, or_zero, strip}
use Rattle.grammar.proofs.Logic.{and_left, and_right, and_intro}

-- A byte that is no digit is in another class.
abbrev NoDigit : ℕ → Type 0
NoDigit c = c ≡ 2 → ⊥

otherwise : (p : Bool) {x y : ℕ} → NoDigit x → NoDigit y → NoDigit (elim p [ true ↦ x | false ↦ y ])
otherwise true f g = f
otherwise false f g = g

no_digit : (b : ℕ) → between 48 57 b ≡ false → NoDigit (class b)
unfolding class
no_digit b e =
    otherwise (is_blank b) (omega arith)
    (otherwise (is_letter b) (omega arith)
    (rw e
    (otherwise (eqb b 95) (omega arith)
    (otherwise (member b signs) (omega arith)
    (otherwise (eqb b 39) (omega arith)
    (otherwise (eqb b 40) (omega arith)
    (otherwise (eqb b 41) (omega arith)
    (otherwise (eqb b 59) (omega arith) (omega arith)))))))))

digit_bounds : (b : ℕ) → in_number b ≡ true → (48 ≤ b) × (b ≤ 57)
unfolding in_number
digit_bounds b e = go (between 48 57 b) refl
  where
    go : (t : Bool) → between 48 57 b ≡ t → (48 ≤ b) × (b ≤ 57)
    go true f = (leb-true 48 b (and_left _ _ f), leb-true b 57 (and_right (leb 48 b) _ f))
    go false f = absurd (no_digit b f (eqb-true (class b) 2 e))

every_head : (b : ℕ) (d : Bytes) → every in_number (b ∷ d) ≡ true → in_number b ≡ true
unfolding every
every_head b d e = go (in_number b) refl
  where
    go : (t : Bool) → in_number b ≡ t → in_number b ≡ true
    go true f = f
    go false f = absurd (true≢false (sym e ∙ rw (f, every) refl))

every_tail : (b : ℕ) (d : Bytes) → every in_number (b ∷ d) ≡ true → every in_number d ≡ true
unfolding every
every_tail b d e = rw (every_head b d e, every) at e

every_number_lem : (d : Bytes) → is_number d ≡ true → every in_number d ≡ true
unfolding is_number every
every_number_lem [] e = refl
every_number_lem (b ∷ d) e = rw (and_left (in_number b) _ e, every) (and_right (in_number b) _ e)

number_every : (b : ℕ) (d : Bytes) → every in_number (b ∷ d) ≡ true → is_number (b ∷ d) ≡ true
unfolding is_number
number_every b d e = and_intro (every_head b d e) (every_tail b d e)

-- Zeros in front.
padded : ℕ → Bytes → Bytes
padded zero d = d
padded (suc n) d = 48 ∷ padded n d

padded_length : (n : ℕ) (d : Bytes) → length (padded n d) ≡ n + length d
unfolding padded
padded_length zero d = omega arith
padded_length (suc n) d = omega (arith, padded_length n d)

padded_value : (n : ℕ) (d : Bytes) → value (padded n d) ≡ value d
unfolding padded value value_from
padded_value zero d = refl
padded_value (suc n) d = padded_value n d

padded_digits : (n : ℕ) (d : Bytes) → every in_number d ≡ true → every in_number (padded n d) ≡ true
unfolding padded every in_number class member
padded_digits zero d e = e
padded_digits (suc n) d e = padded_digits n d e

padded_strip : (n : ℕ) (d : Bytes) → strip (padded n d) ≡ strip d
unfolding padded strip without_zeros
padded_strip zero d = refl
padded_strip (suc n) d = padded_strip n d

-- Of strings of digits of one length, equal values mean equal digits.
by_value :
    (v w : ℕ) (d e : Bytes) → length d ≡ length e → every in_number d ≡ true → every in_number e ≡ true
    → value_from v d ≡ value_from w e → (v ≡ w) × (d ≡ e)
unfolding value_from
by_value v w [] [] l p q h = (h, refl)
by_value v w [] (c ∷ e) l p q h = absurd (omega arith)
by_value v w (b ∷ d) [] l p q h = absurd (omega arith)
by_value v w (b ∷ d) (c ∷ e) l p q h =
    step (digit_bounds b (every_head b d p)) (digit_bounds c (every_head c e q))
    (by_value (v * 10 + (b - 48)) (w * 10 + (c - 48)) d e (suc_inj l) (every_tail b d p) (every_tail c e q) h)
  where
    step :
        (48 ≤ b) × (b ≤ 57) → (48 ≤ c) × (c ≤ 57) → (v * 10 + (b - 48) ≡ w * 10 + (c - 48)) × (d ≡ e)
        → (v ≡ w) × (b ∷ d ≡ c ∷ e)
    step m n r =
        let f : v * 10 + (b - 48) ≡ w * 10 + (c - 48) = r.0 in
        (omega arith, ap₂ ◌∷◌ (omega arith) r.1)

-- Digits of equal value are the same bytes without their zeros.
longer : (d e : Bytes) → length d ≤ length e → is_number d ≡ true → is_number e ≡ true → value d ≡ value e → strip d ≡ strip e
unfolding value
longer d e l p q h = sym (padded_strip n d) ∙ ap strip filled
  where
    n : ℕ
    n = length e - length d

    long_enough : length (padded n d) ≡ length e
    long_enough = padded_length n d ∙ omega arith

    filled : padded n d ≡ e
    filled = (by_value 0 0 (padded n d) e long_enough (padded_digits n d (every_number_lem d p)) (every_number_lem e q) (padded_value n d ∙ h)).1

pub strip_equal : (d e : Bytes) → is_number d ≡ true → is_number e ≡ true → value d ≡ value e → strip d ≡ strip e
strip_equal d e p q h = go (leb (length d) (length e)) refl
  where
    go : (t : Bool) → leb (length d) (length e) ≡ t → strip d ≡ strip e
    go true l = longer d e (leb-true (length d) (length e) l) p q h
    go false l = sym (longer e d (omega (arith, leb-false (length d) (length e) l)) q p (sym h))

-- The zeros that `without_zeros` takes away stood in front.
zeros_first : (d : Bytes) → (n : ℕ) × (d ≡ padded n (without_zeros d))
unfolding padded without_zeros
zeros_first [] = (0, refl)
zeros_first (b ∷ d) = go (eqb b 48) refl (zeros_first d)
  where
    go : (t : Bool) → eqb b 48 ≡ t → (n : ℕ) × (d ≡ padded n (without_zeros d)) → (n : ℕ) × (b ∷ d ≡ padded n (without_zeros (b ∷ d)))
    go true e r = (suc r.0, rw (e, without_zeros) (ap₂ ◌∷◌ (eqb-true b 48 e) r.1))
    go false e r = (0, rw (e, without_zeros) refl)

padded_every : (n : ℕ) (d : Bytes) → every in_number (padded n d) ≡ true → every in_number d ≡ true
unfolding padded
padded_every zero d e = e
padded_every (suc n) d e = padded_every n d (every_tail 48 (padded n d) e)

-- What a string of digits keeps without its zeros: its value, ..
pub value-strip : (d : Bytes) → value (strip d) ≡ value d
unfolding strip or_zero value value_from
value-strip d = or_zero_lem (without_zeros d) ∙ sym (padded_value (zeros_first d).0 (without_zeros d)) ∙ ap value (sym (zeros_first d).1)
  where
    or_zero_lem : (x : Bytes) → value (or_zero x) ≡ value x
    or_zero_lem [] = refl
    or_zero_lem (b ∷ x) = refl

-- .. that it is a number, ..
pub strip_number : (d : Bytes) → is_number d ≡ true → is_number (strip d) ≡ true
unfolding strip or_zero is_number in_number class every member
strip_number d e =
    or_zero_lem (without_zeros d) (padded_every (zeros_first d).0 (without_zeros d) (rw (zeros_first d).1 at (every_number_lem d e)))
  where
    or_zero_lem : (x : Bytes) → every in_number x ≡ true → is_number (or_zero x) ≡ true
    or_zero_lem [] f = refl
    or_zero_lem (b ∷ x) f = number_every b x f

-- .. and a length no greater, of any bytes but none.
pub strip_shorter_cons : (b : ℕ) (d : Bytes) → length (strip (b ∷ d)) ≤ length (b ∷ d)
unfolding strip or_zero
strip_shorter_cons b d = or_zero_lem (without_zeros (b ∷ d)) (zeros_first (b ∷ d)).0 (zeros_first (b ∷ d)).1
  where
    or_zero_lem : (x : Bytes) (n : ℕ) → b ∷ d ≡ padded n x → length (or_zero x) ≤ suc (length d)
    or_zero_lem [] n f = omega arith
    or_zero_lem (c ∷ x) n f = omega (arith, ap length f, padded_length n (c ∷ x))

pub strip_shorter : (d : Bytes) → is_number d ≡ true → length (strip d) ≤ length d
unfolding is_number
strip_shorter [] e = absurd (true≢false (sym e))
strip_shorter (b ∷ d) e = strip_shorter_cons b d

-- Digit strings lose their zeros to the same bytes exactly where their values are equal.
pub same_digits : (d e : Bytes) → is_number d ≡ true → is_number e ≡ true → (value d ≡ value e) ↔ (strip d ≡ strip e)
same_digits d e m n = (strip_equal d e m n, λ q. sym (value-strip d) ∙ ap value q ∙ value-strip e)
