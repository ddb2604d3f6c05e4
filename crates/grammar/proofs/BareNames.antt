-- Before the characters of a quoted name stands a quote, before a name that stands bare none: there stands a blank, or an operator, a
-- `(` or an `in`, or nothing, and neither blanks nor these tokens have a quote among their bytes.
use mathlib.Core.Path.{◌≡◌, refl, sym, ap, subst, ◌∙◌}
use mathlib.Core.Bool.{Bool, true, false, ◌&&◌, ◌||◌, not, true≢false}
use mathlib.Core.Logic.{◌⊎◌, inl, inr}
use mathlib.Core.List.{List, [], ◌∷◌, ◌++◌, append_assoc}
use Prim.Native.Nat.{ℕ, zero, suc, ◌+◌, ◌<◌}
use native.Mathlib.Omega.{arith}
use lib.ListN.{length, drop, get_or, length-append, get_or-append}
use lib.Seq.{get_or-drop}
use Rattle.grammar.specs.Bytes.{Bytes, All, every, member}
use Rattle.grammar.specs.Token.{
  class,
  is_blank_byte,
  begins_word,
  in_word,
  in_sign,
  in_number,
  Token,
  atom,
  structure,
  symbol,
  opening,
  keyword_in,
  spelling,
  is_keyword,
  is_word,
  is_sign,
  is_number,
  is_symbol,
  is_token,
}
use Rattle.grammar.specs.Outcome.{passed}
use Rattle.grammar.specs.Scan.{Placed, scan}
use Rattle.grammar.specs.Answer.{offset_of}
use Rattle.grammar.specs.Decoding.{byte_before}
use Rattle.grammar.proofs.Logic.{and_left, and_right, or_cases, clash, every-cons}
use Rattle.grammar.proofs.Lists.{all_append}
use Rattle.grammar.proofs.Doubling.{Unquoted}
use Rattle.grammar.proofs.TextParts.{Here, offsets_behind}

-- Bytes, one at least, without a quote.
abbrev Bare : Bytes → Type 0
Bare [] = ⊥
Bare (b ∷ s) = All Unquoted (b ∷ s)

-- A byte that passes a test which a quote fails; bytes that do.
test_unquoted : (p : ℕ → Bool) → p 39 ≡ false → (b : ℕ) → p b ≡ true → Unquoted b
test_unquoted p q b e h = clash e (ap p h ∙ q)

every_unquoted : (p : ℕ → Bool) → p 39 ≡ false → (s : Bytes) → every p s ≡ true → All Unquoted s
every_unquoted p q [] e = tt
every_unquoted p q (b ∷ s) e =
    let f : p b && every p s ≡ true = sym (every-cons p b s) ∙ e in
    (test_unquoted p q b (and_left (p b) (every p s) f), every_unquoted p q s (and_right (p b) (every p s) f))

blank_unquoted : (s : Bytes) → every is_blank_byte s ≡ true → All Unquoted s
unfolding is_blank_byte class member
blank_unquoted = every_unquoted is_blank_byte refl

word_bare : (w : Bytes) → is_word w ≡ true → Bare w
unfolding is_word begins_word in_word class member
word_bare [] e = true≢false (sym e)
word_bare (b ∷ w) e =
    (test_unquoted begins_word refl b (and_left (begins_word b) _ e), every_unquoted in_word refl w (and_right (begins_word b) _ e))

sign_bare : (w : Bytes) → is_sign w ≡ true → Bare w
unfolding is_sign in_sign class member
sign_bare [] e = true≢false (sym e)
sign_bare (b ∷ w) e = (test_unquoted in_sign refl b (and_left (in_sign b) _ e), every_unquoted in_sign refl w (and_right (in_sign b) _ e))

run_bare : (w : Bytes) → is_word w || is_sign w ≡ true → Bare w
run_bare w e = go (or_cases (is_word w) (is_sign w) e)
  where
    go : (is_word w ≡ true) ⊎ (is_sign w ≡ true) → Bare w
    go (inl i) = word_bare w i
    go (inr i) = sign_bare w i

symbol_bare : (w : Bytes) → is_symbol w ≡ true → Bare w
unfolding is_symbol
symbol_bare w e = let bare = is_word w || is_sign w in run_bare w (and_left bare (not (is_keyword w)) (and_left (bare && not (is_keyword w)) _ e))

bare_unquoted : (w : Bytes) → Bare w → All Unquoted w
bare_unquoted [] h = tt
bare_unquoted (b ∷ w) h = h

pub run_unquoted : (w : Bytes) → is_word w || is_sign w ≡ true → All Unquoted w
run_unquoted w e = bare_unquoted w (run_bare w e)

pub symbol_unquoted : (w : Bytes) → is_symbol w ≡ true → All Unquoted w
symbol_unquoted w e = bare_unquoted w (symbol_bare w e)

pub number_unquoted : (d : Bytes) → is_number d ≡ true → All Unquoted d
unfolding is_number in_number class member
number_unquoted [] e = tt
number_unquoted (b ∷ d) e = (test_unquoted in_number refl b (and_left (in_number b) _ e), every_unquoted in_number refl d (and_right (in_number b) _ e))

all_at : (P : ℕ → Type 0) (s : Bytes) (j : ℕ) → j < length s → All P s → P (get_or s j 0)
all_at P [] j l h = absurd (omega arith)
all_at P (b ∷ s) zero l h = h.0
all_at P (b ∷ s) (suc j) l h = all_at P s j (omega arith) h.1

module _ (text : Bytes) where
  pub quote-before : (at : ℕ) (rest : Bytes) → drop at text ≡ 39 ∷ rest → byte_before text (at + 1) ≡ 39
  quote-before at rest e =
      let next : at + 1 ≡ suc at = omega arith in
      let here : get_or text at 0 ≡ get_or text (at + 0) 0 = ap (λ k. get_or text k 0) (omega arith) in
      ap (byte_before text) next ∙ here ∙ sym (get_or-drop at text 0 0) ∙ ap (λ v. get_or v 0 0) e

  -- The byte before the end of bytes without a quote.
  unquoted_end :
      (at b : ℕ) (s rest : Bytes) → drop at (0 ∷ text) ≡ b ∷ s ++ rest → All Unquoted (b ∷ s) → Unquoted (byte_before text (at + length s))
  unquoted_end at b s rest e h = subst Unquoted (sym last) (all_at Unquoted (b ∷ s) (length s) (omega arith) h)
    where
      last : byte_before text (at + length s) ≡ get_or (b ∷ s) (length s) 0
      last =
          sym (get_or-drop at (0 ∷ text) (length s) 0)
          ∙ ap (λ v. get_or v (length s) 0) e
          ∙ get_or-append (b ∷ s) rest 0 (length s) (omega arith)

  module _ (o : ℕ → ℕ) (i : ℕ) where
    -- The byte before the token behind a token without quotes.
    behind_bare : (t : Token) (w : Bytes) → spelling t ≡ w → Bare w → Here text o i t → Unquoted (byte_before text (o (suc i)))
    behind_bare t [] e n h = absurd n
    behind_bare t (b ∷ w) e n h =
        subst (λ k. Unquoted (byte_before text k)) place
        (unquoted_end (suc (o i)) b (w ++ h.gap) (drop (o (suc i)) text) written
        (all_append Unquoted (b ∷ w) h.gap n (blank_unquoted h.gap h.blank)))
      where
        place : suc (o i) + length (w ++ h.gap) ≡ o (suc i)
        place = omega (arith, h.behind, ap length e, length-append w h.gap)

        written : drop (o i) text ≡ b ∷ (w ++ h.gap) ++ drop (o (suc i)) text
        written =
            h.written
            ∙ ap (λ v. v ++ (h.gap ++ drop (o (suc i)) text)) e
            ∙ ap (◌∷◌ b) (sym (append_assoc w h.gap (drop (o (suc i)) text)))

    pub behind_operator : (m : Bytes) → Here text o i (atom (symbol m)) → Unquoted (byte_before text (o (suc i)))
    unfolding spelling is_token
    behind_operator m h = behind_bare (atom (symbol m)) m refl (symbol_bare m h.valid) h

    pub behind_opening : Here text o i (structure opening) → Unquoted (byte_before text (o (suc i)))
    unfolding spelling
    behind_opening h = behind_bare (structure opening) (40 ∷ []) refl (omega arith, tt) h

    pub behind_in : Here text o i (structure keyword_in) → Unquoted (byte_before text (o (suc i)))
    unfolding spelling
    behind_in h = behind_bare (structure keyword_in) (105 ∷ 110 ∷ []) refl (omega arith, (omega arith, tt)) h

-- The byte before the first token of a text.
pub before_first :
    (room : ℕ) (text : Bytes) (ps : List Placed) → scan room 0 text ≡ passed ps → Unquoted (byte_before text (offset_of text ps 0))
before_first room text ps h =
    let b = offsets_behind room text ps h in
    subst (λ k. Unquoted (byte_before text k)) (sym b.starts)
    (unquoted_end text 0 0 b.gap (drop (offset_of text ps 0) text) (ap (◌∷◌ 0) b.written)
    (omega arith, blank_unquoted b.gap b.blank))
