-- A whole line gives the bytes that its characters stand for, as far as there is room.
use mathlib.Core.Path.{◌≡◌, refl, sym, ap, ◌∙◌}
use mathlib.Core.Bool.{Bool, true, false}
use mathlib.Core.List.{List, [], ◌∷◌, ◌++◌, append_assoc, append-nil}
use Prim.Native.Nat.{ℕ, ◌+◌, ◌*◌, ◌≤◌, ◌<◌}
use native.Mathlib.Numerals.{add-one}
use native.Mathlib.Omega.{arith}
use borrow.Author.Tests.{ltb-true, ltb-false}
use lib.Dec.{ltb}
use lib.ListN.{length, take, set, length-set}
use lib.Seq.{take_all, take-suc-set, take-append-le, length-take-le}
use Rattle.std.specs.Prelude.{None, Some}
use Rattle.std.specs.declared.option.Option.{Option}
use Rattle.hex_lines.specs.declared.lines.Line.{Line}
use Rattle.hex_lines.specs.Hexadecimal.{digit_value, fresh, after, text_after, is_text, given, given_behind, cons, with_byte, text_of, behind}
use Rattle.hex_lines.proofs.Characters.{no-digit-after, first-after, second-after, full_after}

-- The end of a line.
module _ (text : List ℕ) (l : Line) where
  bad_given : l.bad ≡ true → given text l ≡ None
  unfolding given is_text
  bad_given e = rw (e, given) refl

  half_given : (d : ℕ) → l.bad ≡ false → l.high ≡ Some d → given text l ≡ None
  unfolding given is_text
  half_given d e h = rw (e, h, given) refl

  whole_given : l.bad ≡ false → l.high ≡ None → given text l ≡ Some (take l.kept text)
  unfolding given is_text
  whole_given e h = rw (e, h, given) refl

-- One character more.
step
    : (text : List ℕ) (l : Line) (b : ℕ) (s t : List ℕ) (r : Line) → (r ≡ after (length text) l b) × (t ≡ text_after text l b)
    → given_behind text l (b ∷ s) ≡ given_behind t r s
unfolding given_behind
step text l b s t r e = rw (e.0, e.1) refl

-- A line that has a character which is no digit gives nothing.
bad-cases
    : (room : ℕ) (l : Line) (b : ℕ) (x y : Option ℕ) → digit_value b ≡ x → l.high ≡ y → l.bad ≡ true
    → (after room l b).bad ≡ true
unfolding after
bad-cases room l b None y e f h = rw (e, after) refl
bad-cases room l b (Some d) None e f h = rw (e, f, after) h
bad-cases room l b (Some d) (Some d₁) e f h = rw (e, f, after) h

bad_after : (room : ℕ) (l : Line) (b : ℕ) → l.bad ≡ true → (after room l b).bad ≡ true
bad_after room l b h = bad-cases room l b (digit_value b) l.high refl refl h

bad_behind : (s text : List ℕ) (l : Line) → l.bad ≡ true → given_behind text l s ≡ None
unfolding given_behind
bad_behind [] text l e = bad_given text l e
bad_behind (b ∷ s) text l e = bad_behind s (text_after text l b) (after (length text) l b) (bad_after (length text) l b e)

-- Two digits, and other characters.
module _ (a b : ℕ) (o : Option (List ℕ)) where
  no_first : digit_value a ≡ None → with_byte a b o ≡ None
  unfolding with_byte
  no_first e = rw (e, with_byte) refl

  module _ (high : ℕ) (e : digit_value a ≡ Some high) where
    no_second : digit_value b ≡ None → with_byte a b o ≡ None
    unfolding with_byte
    no_second f = rw (e, f, with_byte) refl

    pair : (low : ℕ) → digit_value b ≡ Some low → with_byte a b o ≡ cons (high * 16 + low) o
    unfolding with_byte
    pair low f = rw (e, f, with_byte) refl

-- A byte more before the text, or in a full one.
behind-cons : (room v : ℕ) (front : List ℕ) (o : Option (List ℕ)) → behind room (front ++ v ∷ []) o ≡ behind room front (cons v o)
behind-cons room v front None = refl
behind-cons room v front (Some t) = ap (λ (x : List ℕ). Some (take room x)) (append_assoc front (v ∷ []) t)

behind-full
    : (room v : ℕ) (front : List ℕ) (o : Option (List ℕ)) → room ≤ length front → behind room front o ≡ behind room front (cons v o)
behind-full room v front None h = refl
behind-full room v front (Some t) h =
    ap (λ (x : List ℕ). Some x) (take-append-le room front t h ∙ sym (take-append-le room front (v ∷ t) h))

-- What is to be shown of the characters `s` behind a line of whole bytes.
abbrev Whole : List ℕ → Type 0
Whole s =
    (text : List ℕ) (l : Line) → l.bad ≡ false → l.high ≡ None → l.kept ≤ length text
    → given_behind text l s ≡ behind (length text) (take l.kept text) (text_of s)

none_left : Whole []
unfolding given_behind text_of
none_left text l e h r =
    let f : length (take l.kept text) ≤ length text = omega (arith, length-take-le l.kept text r) in
    whole_given text l e h
    ∙ ap (λ (x : List ℕ). Some x) (sym (ap (take (length text)) (append-nil (take l.kept text)) ∙ take_all (length text) (take l.kept text) f))

-- The digit `d` waits for the second one of its byte.
waiting : Line → ℕ → Line
waiting l d = record { begun = true; bad = l.bad; kept = l.kept; high = Some d }

module _ (text : List ℕ) (l : Line) (a : ℕ) (s : List ℕ) where
  no_digit_first : digit_value a ≡ None → given_behind text l (a ∷ s) ≡ None
  no_digit_first e = step text l a s _ _ (no-digit-after text l a e) ∙ bad_behind s text _ refl

  digit-first
      : (d : ℕ) → digit_value a ≡ Some d → l.high ≡ None → given_behind text l (a ∷ s) ≡ given_behind text (waiting l d) s
  unfolding waiting
  digit-first d e h = step text l a s _ _ (first-after text l a d e h)

one_left : (a : ℕ) → Whole (a ∷ [])
unfolding given_behind text_of waiting
one_left a text l e h r = go (digit_value a) refl
  where
    go : (x : Option ℕ) → digit_value a ≡ x → given_behind text l (a ∷ []) ≡ None
    go None f = no_digit_first text l a [] f
    go (Some d) f = digit-first text l a [] d f h ∙ half_given text (waiting l d) d e refl

-- A byte that is kept, with the text that has it.
kept_byte
    : (text : List ℕ) (k v : ℕ) (o : Option (List ℕ)) → k < length text
    → behind (length (set text k v)) (take (k + 1) (set text k v)) o ≡ behind (length text) (take k text) (cons v o)
kept_byte text k v o h = rw (length-set text k v, add-one k, take-suc-set text k v h) (behind-cons (length text) v (take k text) o)

-- Two digits more.
module _ (a b : ℕ) (s : List ℕ) (ih : Whole s) (text : List ℕ) (l : Line) (e : l.bad ≡ false) (h : l.high ≡ None) (r : l.kept ≤ length text) where
  digits-first
      : (high low : ℕ) → digit_value a ≡ Some high → digit_value b ≡ Some low
      → given_behind text l (a ∷ b ∷ s) ≡ behind (length text) (take l.kept text) (cons (high * 16 + low) (text_of s))
  unfolding waiting
  digits-first high low p q = digit-first text l a (b ∷ s) high p h ∙ go (ltb l.kept (length text)) refl
    where
      v : ℕ
      v = high * 16 + low

      go
          : (x : Bool) → ltb l.kept (length text) ≡ x
          → given_behind text (waiting l high) (b ∷ s) ≡ behind (length text) (take l.kept text) (cons v (text_of s))
      go true i =
          let k : l.kept < length text = ltb-true l.kept (length text) i in
          let m : l.kept + 1 ≤ length (set text l.kept v) = simp length-set (omega arith) in
          step text (waiting l high) b s _ _ (second-after text (waiting l high) b low q high refl k) ∙ ih _ _ e refl m
          ∙ kept_byte text l.kept v (text_of s) k
      go false i =
          let k : length text ≤ l.kept = ltb-false l.kept (length text) i in
          let m : length text ≤ length (take l.kept text) = omega (arith, length-take-le l.kept text r) in
          step text (waiting l high) b s _ _ (full_after text (waiting l high) b low q high refl r k) ∙ ih _ _ e refl r
          ∙ behind-full (length text) v (take l.kept text) (text_of s) m

  two_more : given_behind text l (a ∷ b ∷ s) ≡ behind (length text) (take l.kept text) (with_byte a b (text_of s))
  two_more = go (digit_value a) refl (digit_value b) refl
    where
      front : Option (List ℕ) → Option (List ℕ)
      front = behind (length text) (take l.kept text)

      go
          : (x : Option ℕ) → digit_value a ≡ x → (y : Option ℕ) → digit_value b ≡ y
          → given_behind text l (a ∷ b ∷ s) ≡ behind (length text) (take l.kept text) (with_byte a b (text_of s))
      go None p y q = no_digit_first text l a (b ∷ s) p ∙ sym (ap front (no_first a b (text_of s) p))
      go (Some high) p None q =
          digit-first text l a (b ∷ s) high p h ∙ no_digit_first text (waiting l high) b s q
          ∙ sym (ap front (no_second a b (text_of s) high p q))
      go (Some high) p (Some low) q = digits-first high low p q ∙ sym (ap front (pair a b (text_of s) high p low q))

whole : (s : List ℕ) → Whole s
unfolding text_of
whole [] = none_left
whole (a ∷ []) = one_left a
whole (a ∷ b ∷ s) = two_more a b s (whole s)

pub whole_line : (text s : List ℕ) → given_behind text fresh s ≡ behind (length text) [] (text_of s)
whole_line text s = whole s text fresh refl refl (omega arith)
