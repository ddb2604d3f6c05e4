-- The run of bytes at the front of a text that pass a test, and by it the token at the front: a token that stands there is taken, if
-- the text doesn't go on with it. Words, signs and numbers are each the longest run of a test, so one law serves the three kinds.
use mathlib.Core.Path.{◌≡◌, refl, sym, ap, subst, ◌∙◌}
use mathlib.Core.Bool.{Bool, true, false, ◌&&◌, ◌||◌, not, true≢false}
use mathlib.Core.Logic.{◌⊎◌, inl, inr}
use mathlib.Core.List.{[], ◌∷◌, ◌++◌, append_assoc}
use Prim.Native.Nat.{ℕ, suc, ◌+◌, ◌≤◌}
use native.Mathlib.Omega.{arith}
use lib.Dec.{leb, eqb}
use lib.ListN.{length, take, drop, length-append}
use lib.Seq.{take-append_seam, get_or-append_seam}
use borrow.Author.Tests.{eqb-true, eq-eqb, leb-true, le-leb, not-true}
use Rattle.grammar.specs.Bytes.{Bytes, bytes, same, member, every}
use Rattle.grammar.specs.Token.{
  atom,
  structure,
  class,
  letter,
  digit,
  sign,
  begins_word,
  in_word,
  in_sign,
  in_number,
  in_quotes,
  is_quote,
  doubled,
  Token,
  symbol,
  number,
  quoted,
  opening,
  closing,
  semicolon,
  keyword_let,
  keyword_in,
  keyword_end,
  spelling,
  is_keyword,
  is_word,
  is_sign,
  is_number,
  is_symbol,
  is_token,
  longest_name,
  longest_number,
}
use Rattle.grammar.specs.Spelling.{continues, Stops}
use Rattle.grammar.specs.Scan.{run, Front, taken, keyword_or_symbol, at_most, is_closed, quoted_name, quoted_with, front_of, front}
use Rattle.grammar.proofs.Logic.{and_left, and_right, and_intro, or_cases, every-cons}
use Rattle.grammar.proofs.Doubling.{characters-doubled}

pub run-cons : (p : ℕ → Bool) (b : ℕ) (s : Bytes) → p b ≡ true → run p (b ∷ s) ≡ suc (run p s)
unfolding run
run-cons p b s e = rw (e, run)

run_stops : (p : ℕ → Bool) (s : Bytes) → Stops p s → run p s ≡ 0
unfolding run
run_stops p [] h = refl
run_stops p (b ∷ s) h = rw (h, run)

pub run-append : (p : ℕ → Bool) (x s : Bytes) → every p x ≡ true → Stops p s → run p (x ++ s) ≡ length x
run-append p [] s e h = run_stops p s h
run-append p (b ∷ x) s e h =
    let f : p b && every p x ≡ true = sym (every-cons p b x) ∙ e in
    run-cons p b (x ++ s) (and_left (p b) (every p x) f) ∙ ap suc (run-append p x s (and_right (p b) (every p x) f) h)

-- What a run takes, and what it leaves.
pub record Ran (p : ℕ → Bool) (s : Bytes) (n : ℕ) : Type 0 where
  pub passes : every p (take n s) ≡ true
  pub size : length (take n s) ≡ n
  pub stops : Stops p (drop n s)

pub ran : (p : ℕ → Bool) (s : Bytes) → Ran p s (run p s)
unfolding run every
ran p [] = record { passes = refl; size = refl; stops = tt }
ran p (b ∷ s) = go (p b) refl (ran p s)
  where
    go : (h : Bool) → p b ≡ h → Ran p s (run p s) → Ran p (b ∷ s) (run p (b ∷ s))
    go true e r =
        rw
        (run-cons p b s e)
        (record {
          passes = every-cons p b (take (run p s) s) ∙ and_intro e r.passes;
          size = ap suc r.size;
          stops = r.stops;
        })
    go false e r = rw (run_stops p (b ∷ s) e) (record { passes = refl; size = refl; stops = e })

-- The longest run of a test, if it is not too long.
abbrev pub longest : (ℕ → Bool) → ℕ → (Bytes → Token) → Bytes → Front
longest test most make s = at_most most (run test s) (make (take (run test s) s))

-- A kind of token that is taken so. The class of the first byte tells it from the other kinds.
pub record Kind : Type 0 where
  pub first : ℕ
  pub test : ℕ → Bool
  pub most : ℕ
  pub make : Bytes → Token
  pub begun : (b : ℕ) → class b ≡ first → test b ≡ true
  pub law : (s : Bytes) → front_of first s ≡ longest test most make s

pub letter-in_word : (b : ℕ) → class b ≡ letter → in_word b ≡ true
unfolding in_word
letter-in_word b k = rw (k, in_word)

pub sign-in_sign : (b : ℕ) → class b ≡ sign → in_sign b ≡ true
unfolding in_sign
sign-in_sign b k = eq-eqb (class b) sign k

pub digit-in_number : (b : ℕ) → class b ≡ digit → in_number b ≡ true
unfolding in_number
digit-in_number b k = eq-eqb (class b) digit k

pub front-letter : (s : Bytes) → front_of letter s ≡ longest in_word longest_name keyword_or_symbol s
unfolding front_of
front-letter s = refl

pub front-sign : (s : Bytes) → front_of sign s ≡ longest in_sign longest_name (λ w. atom (symbol w)) s
unfolding front_of
front-sign s = refl

pub front-digit : (s : Bytes) → front_of digit s ≡ longest in_number longest_number (λ w. atom (number w)) s
unfolding front_of
front-digit s = refl

abbrev pub words : Kind
words = record {
  first = letter;
  test = in_word;
  most = longest_name;
  make = keyword_or_symbol;
  begun = letter-in_word;
  law = front-letter;
}

abbrev pub signs : Kind
signs = record {
  first = sign;
  test = in_sign;
  most = longest_name;
  make = (λ w. atom (symbol w));
  begun = sign-in_sign;
  law = front-sign;
}

abbrev pub numbers : Kind
numbers = record {
  first = digit;
  test = in_number;
  most = longest_number;
  make = (λ w. atom (number w));
  begun = digit-in_number;
  law = front-digit;
}

-- The bytes are a token of the kind, but for their number.
unfoldable pub is_run : Kind → Bytes → Bool
is_run k [] = false
is_run k (b ∷ w) = eqb (class b) k.first && every k.test w

pub word-run : (w : Bytes) → is_word w ≡ is_run words w
unfolding is_word begins_word is_run
word-run [] = refl
word-run (b ∷ w) = refl

pub sign-run : (w : Bytes) → is_sign w ≡ is_run signs w
unfolding is_sign in_sign is_run
sign-run [] = refl
sign-run (b ∷ w) = refl

pub number_run : (d : Bytes) → is_number d ≡ is_run numbers d
unfolding is_number in_number is_run
number_run [] = refl
number_run (b ∷ d) = refl

-- A word, a sign or a number at the front is found; ..
pub front-longest
    : (k : Kind) (w s : Bytes) → is_run k w ≡ true → Stops k.test s → front (w ++ s) ≡ at_most k.most (length w) (k.make w)
unfolding front is_run
front-longest k [] s e h = absurd (true≢false (sym e))
front-longest k (b ∷ w) s e h =
    ap (λ c. front_of c (b ∷ w ++ s)) c
    ∙ k.law (b ∷ w ++ s)
    ∙ ap (λ n. at_most k.most n (k.make (take n (b ∷ w ++ s)))) (run-append k.test (b ∷ w) s passes h)
    ∙ ap (λ v. at_most k.most (length (b ∷ w)) (k.make v)) (take-append_seam (b ∷ w) s)
  where
    c : class b ≡ k.first
    c = eqb-true (class b) k.first (and_left (eqb (class b) k.first) (every k.test w) e)

    passes : every k.test (b ∷ w) ≡ true
    passes = every-cons k.test b w ∙ and_intro (k.begun b c) (and_right (eqb (class b) k.first) (every k.test w) e)

-- .. it is taken if it is not too long.
front-run
    : (k : Kind) (w s : Bytes) → is_run k w ≡ true → length w ≤ k.most → Stops k.test s
    → front (w ++ s) ≡ taken (k.make w) (length w)
unfolding at_most
front-run k w s e h h' = front-longest k w s e h' ∙ rw (le-leb (length w) k.most h, at_most)

-- A name in quotes, doubled and closed by a quote that is none of a pair, is taken.
front_quoted :
    (c s : Bytes) → is_token (atom (quoted c)) ≡ true → Stops is_quote s
    → front (39 ∷ (doubled c ++ 39 ∷ s)) ≡ taken (atom (quoted c)) (length (doubled c) + 2)
unfolding front front_of class member is_token quoted_name quoted_with is_quote
front_quoted c s e h =
    ap (λ d. quoted_with d (doubled c ++ 39 ∷ s)) (characters-doubled c s (and_right sized (every in_quotes c) e) h) ∙ rw (closed, quoted_with)
  where
    sized : Bool
    sized = leb 1 (length c) && leb (length c) longest_name

    some : 1 ≤ length c
    some = leb-true 1 (length c) (and_left (leb 1 (length c)) (leb (length c) longest_name) (and_left sized (every in_quotes c) e))

    few : length c ≤ longest_name
    few = leb-true (length c) longest_name (and_right (leb 1 (length c)) (leb (length c) longest_name) (and_left sized (every in_quotes c) e))

    closed : is_closed c (doubled c ++ 39 ∷ s) ≡ true
    closed =
        and_intro
        (and_intro (le-leb _ (length c) (omega (arith, some))) (le-leb (length c) longest_name few))
        (ap is_quote (get_or-append_seam (doubled c) 39 s 0))

or_false : (a b : Bool) → a || b ≡ false → (a ≡ false) × (b ≡ false)
or_false true b e = absurd (true≢false e)
or_false false b e = (refl, e)

symbol_unless_keyword : (w : Bytes) → is_keyword w ≡ false → keyword_or_symbol w ≡ atom (symbol w)
unfolding is_keyword keyword_or_symbol
symbol_unless_keyword w e =
    let (h, h₃) = or_false (same w (bytes "let") || same w (bytes "in")) (same w (bytes "end")) e in
    let (h₁, h₂) = or_false (same w (bytes "let")) (same w (bytes "in")) h in
    rw (h₁, h₂, h₃, keyword_or_symbol)

pub sign_not_word : (w : Bytes) → is_sign w ≡ true → is_word w ≡ false
unfolding is_sign in_sign is_word begins_word
sign_not_word [] e = refl
sign_not_word (b ∷ w) e = rw (eqb-true (class b) sign (and_left (in_sign b) (every in_sign w) e), is_word)

pub continues-word : (w : Bytes) → is_word w ≡ true → continues (atom (symbol w)) ≡ in_word
unfolding continues
continues-word w e = rw (e, continues)

pub continues-sign : (w : Bytes) → is_sign w ≡ true → continues (atom (symbol w)) ≡ in_sign
unfolding continues
continues-sign w e = rw (sign_not_word w e, continues)

front-symbol
    : (w s : Bytes) → is_symbol w ≡ true → Stops (continues (atom (symbol w))) s → front (w ++ s) ≡ taken (atom (symbol w)) (length w)
unfolding is_symbol
front-symbol w s e h = go (or_cases (is_word w) (is_sign w) (and_left bare (not (is_keyword w)) (and_left named short e)))
  where
    bare : Bool
    bare = is_word w || is_sign w

    named : Bool
    named = bare && not (is_keyword w)

    short : Bool
    short = leb (length w) longest_name

    no_keyword : is_keyword w ≡ false
    no_keyword = not-true (is_keyword w) (and_right bare (not (is_keyword w)) (and_left named short e))

    fits : length w ≤ longest_name
    fits = leb-true (length w) longest_name (and_right named short e)

    go : (is_word w ≡ true) ⊎ (is_sign w ≡ true) → front (w ++ s) ≡ taken (atom (symbol w)) (length w)
    go (inl i) =
        front-run words w s (sym (word-run w) ∙ i) fits (subst (λ p. Stops p s) (continues-word w i) h)
        ∙ ap (λ t. taken t (length w)) (symbol_unless_keyword w no_keyword)
    go (inr i) = front-run signs w s (sym (sign-run w) ∙ i) fits (subst (λ p. Stops p s) (continues-sign w i) h)

-- A token is taken if it stands at the front and the text doesn't go on with it.
pub front-spelled
    : (t : Token) → is_token t ≡ true → (s : Bytes) → Stops (continues t) s → front (spelling t ++ s) ≡ taken t (length (spelling t))
unfolding is_token spelling continues front front_of class member is_run every in_word keyword_or_symbol same
front-spelled (atom (symbol w)) e s h = front-symbol w s e h
front-spelled (atom (number d)) e s h =
    front-run
    numbers
    d
    s
    (sym (number_run d) ∙ and_left (is_number d) (leb (length d) longest_number) e)
    (leb-true (length d) longest_number (and_right (is_number d) (leb (length d) longest_number) e))
    h
front-spelled (atom (quoted c)) e s h =
    ap (λ r. front (39 ∷ r)) (append_assoc (doubled c) (39 ∷ []) s)
    ∙ front_quoted c s e h
    ∙ ap (taken (atom (quoted c))) (simp length-append (omega arith))
front-spelled (structure opening) e s h = refl
front-spelled (structure closing) e s h = refl
front-spelled (structure semicolon) e s h = refl
front-spelled (structure keyword_let) e s h = front-run words (bytes "let") s refl (omega arith) h
front-spelled (structure keyword_in) e s h = front-run words (bytes "in") s refl (omega arith) h
front-spelled (structure keyword_end) e s h = front-run words (bytes "end") s refl (omega arith) h
