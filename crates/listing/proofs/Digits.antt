-- The digits that std prints of a number, and those that `io` makes of it, are its decimal in the definition of the listing.
use mathlib.Core.Path.{◌≡◌, refl, sym, ap, ◌∙◌}
use mathlib.Core.Bool.{Bool, true, false}
use mathlib.Core.List.{[], ◌∷◌, ◌++◌}
use Prim.Native.Nat.{ℕ, zero, suc, ◌+◌, ◌*◌, ◌-◌, ◌/◌, ◌%◌, ◌^◌, ◌≤◌, ◌<◌}
use native.Mathlib.Nat.{pow-suc, one-le-pow}
use native.Mathlib.Omega.{arith}
use borrow.Author.Tests.{ltb-true, ltb-false, lt-ltb, le-ltb}
use lib.Dec.{ltb}
use lib.ListN.{length, length-append}
use Rattle.io.specs.Digits.{last_digits, hex_digit_ascii, IsDigitCount}
use Rattle.grammar.specs.Bytes.{Bytes}
use Rattle.grammar.specs.Listing.{decimal_in, decimal, field}
use Rattle.listing.specs.Lines.{spelled}
use Rattle.std.specs.Fmt as P
use Rattle.std.proofs.lemmas.Fmt.{AppendsLastDigit, decimal_from_appends, length-decimal-le}

-- The tenth of a number has one digit less.
tenth : (f n : ℕ) → n < 10 ^ suc f → n / 10 < 10 ^ f
tenth f n h = let p : 10 ^ suc f ≡ 10 ^ f * 10 = pow-suc 10 f in omega arith

least_tenth : (f n : ℕ) → 10 ^ suc f ≤ n → 10 ^ f ≤ n / 10
least_tenth f n h = let p : 10 ^ suc f ≡ 10 ^ f * 10 = pow-suc 10 f in omega arith

-- A number below 10 is one digit; any other has its tenth and then one digit.
last_digit : (f n : ℕ) → n < 10 → decimal_in (suc f) n ≡ (48 + n) ∷ []
unfolding decimal_in
last_digit f n h = rw (lt-ltb n 10 h, decimal_in) refl

more_digits : (f n : ℕ) → 10 ≤ n → decimal_in (suc f) n ≡ decimal_in f (n / 10) ++ (48 + n % 10) ∷ []
unfolding decimal_in
more_digits f n h = rw (le-ltb n 10 h, decimal_in) refl

appends : AppendsLastDigit decimal_in
appends = record { one = last_digit; more = more_digits }

-- What std prints of a number is its decimal with fuel for every digit: for every number of 64 bits, and for those of ten digits.
printed : (f n : ℕ) → 0 < f → n < 10 ^ f → n < 2 ^ 64 → P.decimal n ≡ decimal_in f n
printed f n p h k = sym (decimal_from_appends decimal_in appends f n k (length-decimal-le f n p h k))

pub printed_spelled : (n : ℕ) → n < 2 ^ 64 → P.decimal n ≡ spelled n
unfolding spelled
printed_spelled n h = printed 20 n (omega arith) (omega arith) h

pub printed_decimal : (n : ℕ) → n < 10 ^ 10 → P.decimal n ≡ decimal n
unfolding decimal
printed_decimal n h = printed 10 n (omega arith) h (omega arith)

glyph_digit : (n : ℕ) → hex_digit_ascii (n % 10) ≡ 48 + n % 10
glyph_digit n = let h : n % 10 < 10 = omega arith in rw (lt-ltb (n % 10) 10 h) refl

-- The fewest digits that hold a number, and as much fuel.
fewest : (k n : ℕ) → n < 10 ^ suc k → (0 < k → 10 ^ k ≤ n) → last_digits 10 (suc k) n ≡ decimal_in (suc k) n
fewest zero n h g =
    let m : n % 10 ≡ n = omega arith in
    rw (glyph_digit n, m) (sym (last_digit 0 n h))
fewest (suc k) n h g =
    let l : 10 ^ suc k ≤ n = g (omega arith) in
    let o : 1 ≤ 10 ^ k = one-le-pow k 10 (omega arith) in
    let e : 10 ^ suc k ≡ 10 ^ k * 10 = pow-suc 10 k in
    let p : 10 ≤ n = omega arith in
    rw (glyph_digit n, more_digits (suc k) n p)
    (ap (λ (d : Bytes). d ++ (48 + n % 10) ∷ []) (fewest k (n / 10) (tenth (suc k) n h) (λ z. least_tenth k n l)))

-- What `decimal` of `io` promises is the decimal with fuel for every number of 64 bits.
pub digits_spelled : (k n : ℕ) → n < 2 ^ 64 → IsDigitCount 10 1 n k → last_digits 10 k n ≡ spelled n
digits_spelled zero n h f = absurd (omega (arith, f.0))
digits_spelled (suc k) n h f =
    let less : suc k - 1 ≡ k = omega arith in
    fewest k n f.1 (λ z. rw less at (f.2 (omega arith))) ∙ sym (printed (suc k) n (omega arith) f.1 h) ∙ printed_spelled n h

-- The definition of the listing has fuel for ten digits.
pub spelled-decimal : (n : ℕ) → n < 10 ^ 10 → spelled n ≡ decimal n
spelled-decimal n h = sym (printed_spelled n (omega arith)) ∙ printed_decimal n h

length-decimal_in : (f n : ℕ) → length (decimal_in f n) ≤ f
unfolding decimal_in
length-decimal_in zero n = omega arith
length-decimal_in (suc f) n = go (length-decimal_in f (n / 10)) (ltb n 10) refl
  where
    go : length (decimal_in f (n / 10)) ≤ f → (b : Bool) → ltb n 10 ≡ b → length (decimal_in (suc f) n) ≤ suc f
    go ih true e = rw (last_digit f n (ltb-true n 10 e)) (omega arith)
    go ih false e = rw (more_digits f n (ltb-false n 10 e), length-append) (omega arith)

pub length-spelled : (n : ℕ) → length (spelled n) ≤ 20
unfolding spelled
length-spelled n = length-decimal_in 20 n

pub spelled-field : (n : ℕ) → n < 10 ^ 10 → 32 ∷ spelled n ≡ field n
unfolding field
spelled-field n h = ap (λ (d : Bytes). 32 ∷ d) (spelled-decimal n h)
