-- The token at the front of a text, second direction: what is taken is a token that stands there, and the text doesn't go on with it.
use mathlib.Core.Path.{◌≡◌, refl, sym, ap, subst, ◌∙◌}
use mathlib.Core.Bool.{Bool, true, false, ◌&&◌, ◌||◌, not}
use mathlib.Core.Logic.{◌⊎◌, inl, inr}
use mathlib.Core.List.{[], ◌∷◌, ◌++◌, append_assoc}
use Prim.Native.Nat.{ℕ, suc, ◌+◌, ◌≤◌}
use native.Mathlib.Omega.{arith}
use lib.Dec.{leb, eqb}
use lib.ListN.{length, take, drop, get_or, length-append, take-append-drop}
use borrow.Author.Tests.{eqb-true, eq-eqb, leb-true, le-leb}
use Rattle.grammar.specs.Bytes.{Bytes, bytes, same, member, every}
use Rattle.grammar.specs.Token.{
  atom,
  structure,
  class,
  letter,
  digit,
  sign,
  quote,
  opens,
  closes,
  separates,
  between,
  is_blank,
  is_letter,
  signs as sign_bytes,
  begins_word,
  in_word,
  is_quote,
  doubled,
  Token,
  symbol,
  quoted,
  opening,
  closing,
  semicolon,
  keyword_let,
  keyword_in,
  keyword_end,
  spelling,
  is_keyword,
  is_word,
  is_sign,
  is_symbol,
  is_token,
  longest_name,
  longest_number,
}
use Rattle.grammar.specs.Spelling.{continues, Stops}
use Rattle.grammar.specs.Scan.{run, Front, nothing, wrong, taken, keyword_or_symbol, at_most, characters_at, quoted_name, quoted_with, front_of, front}
use Rattle.grammar.proofs.Logic.{and_left, and_right, and_intro, or_cases, clash, same_eq}
use Rattle.grammar.proofs.Doubling.{a_quote, CharactersFound, characters_found, closed-behind, quote_stops}
use Rattle.grammar.proofs.Runs.{
  Ran,
  run-cons,
  ran,
  longest,
  Kind,
  words,
  signs,
  numbers,
  is_run,
  word-run,
  sign-run,
  number_run,
  sign_not_word,
  continues-word,
  continues-sign,
}

-- The token `t` of `n` bytes stands at the front, and the text doesn't go on with it.
pub record Begins (s : Bytes) (t : Token) (n : ℕ) : Type 0 where
  pub rest : Bytes
  pub written : s ≡ spelling t ++ rest
  pub size : n ≡ length (spelling t)
  pub valid : is_token t ≡ true
  pub stops : Stops (continues t) rest

-- What an answer about the front of a text tells of the text.
abbrev pub Told : Bytes → Front → Type 0
Told s nothing = s ≡ []
Told s (wrong k) = Unit {0}
Told s (taken t n) = Begins s t n

-- What holds in both cases of a test holds of the choice between them.
pub branch : {A : Type 0} (P : A → Type 0) (b : Bool) (x y : A) → (b ≡ true → P x) → P y → P (elim b [ true ↦ x | false ↦ y ])
branch P true x y h h' = h refl
branch P false x y h h' = h'

-- The bytes make a token of the kind that is spelled so, and that goes on as its kind does.
pub record Makes (k : Kind) (w : Bytes) : Type 0 where
  pub valid : is_token (k.make w) ≡ true
  pub spelled : spelling (k.make w) ≡ w
  pub goes_on : continues (k.make w) ≡ k.test

makes
    : (k : Kind) (w : Bytes) (t : Token) → k.make w ≡ t → is_token t ≡ true → spelling t ≡ w → continues t ≡ k.test → Makes k w
makes k w t e h h' h'' = record { valid = ap is_token e ∙ h; spelled = ap spelling e ∙ h'; goes_on = ap continues e ∙ h'' }

bare_name : (w : Bytes) → is_word w || is_sign w ≡ true → is_keyword w ≡ false → length w ≤ longest_name → is_token (atom (symbol w)) ≡ true
unfolding is_token is_symbol
bare_name w e k h = and_intro (and_intro e (ap not k)) (le-leb (length w) longest_name h)

-- A word is a keyword or a bare name.
pub word_makes : (w : Bytes) → is_run words w ≡ true → length w ≤ longest_name → Makes words w
unfolding is_token spelling continues keyword_or_symbol is_keyword
word_makes w e h = go (same w (bytes "let")) (same w (bytes "in")) (same w (bytes "end")) refl refl refl
  where
    i : is_word w ≡ true
    i = word-run w ∙ e

    go : (x y z : Bool) → same w (bytes "let") ≡ x → same w (bytes "in") ≡ y → same w (bytes "end") ≡ z → Makes words w
    go true y z p q r = makes words w (structure keyword_let) (rw (p, keyword_or_symbol)) refl (sym (same_eq w (bytes "let") p)) refl
    go false true z p q r = makes words w (structure keyword_in) (rw (p, q, keyword_or_symbol)) refl (sym (same_eq w (bytes "in") q)) refl
    go false false true p q r = makes words w (structure keyword_end) (rw (p, q, r, keyword_or_symbol)) refl (sym (same_eq w (bytes "end") r)) refl
    go false false false p q r =
        makes
        words
        w
        (atom (symbol w))
        (rw (p, q, r, keyword_or_symbol))
        (bare_name w (ap (λ x. x || is_sign w) i) (rw (p, q, r, is_keyword)) h)
        refl
        (continues-word w i)

keyword_word : (w : Bytes) → is_keyword w ≡ true → is_word w ≡ true
unfolding is_keyword is_word begins_word class every in_word
keyword_word w e = go (or_cases (same w (bytes "let") || same w (bytes "in")) (same w (bytes "end")) e)
  where
    first : (same w (bytes "let") ≡ true) ⊎ (same w (bytes "in") ≡ true) → is_word w ≡ true
    first (inl h) = ap is_word (same_eq w (bytes "let") h)
    first (inr h) = ap is_word (same_eq w (bytes "in") h)

    go : (same w (bytes "let") || same w (bytes "in") ≡ true) ⊎ (same w (bytes "end") ≡ true) → is_word w ≡ true
    go (inl h) = first (or_cases (same w (bytes "let")) (same w (bytes "in")) h)
    go (inr h) = ap is_word (same_eq w (bytes "end") h)

-- A sign is no word, so it is no keyword.
pub sign_makes : (w : Bytes) → is_run signs w ≡ true → length w ≤ longest_name → Makes signs w
unfolding spelling
sign_makes w e h = record {
  valid = bare_name w sign_or_word (no_keyword (is_keyword w) refl) h;
  spelled = refl;
  goes_on = continues-sign w i;
}
  where
    i : is_sign w ≡ true
    i = sign-run w ∙ e

    sign_or_word : is_word w || is_sign w ≡ true
    sign_or_word = rw (sign_not_word w i) i

    no_keyword : (x : Bool) → is_keyword w ≡ x → is_keyword w ≡ false
    no_keyword true f = absurd (clash (keyword_word w f) (sign_not_word w i))
    no_keyword false f = f

pub number_makes : (w : Bytes) → is_run numbers w ≡ true → length w ≤ longest_number → Makes numbers w
unfolding is_token spelling continues
number_makes w e h = record { valid = and_intro (number_run w ∙ e) (le-leb (length w) longest_number h); spelled = refl; goes_on = refl }

-- The longest run that a byte of the kind's class begins is a token of the kind.
longest-told
    : (k : Kind) → ((w : Bytes) → is_run k w ≡ true → length w ≤ k.most → Makes k w)
    → (b : ℕ) (s : Bytes) → class b ≡ k.first → Told (b ∷ s) (longest k.test k.most k.make (b ∷ s))
unfolding at_most is_run
longest-told k make b s c =
    subst
    (λ n. Told (b ∷ s) (at_most k.most n (k.make (take n (b ∷ s)))))
    (sym (run-cons k.test b s (k.begun b c)))
    (branch (Told (b ∷ s)) (leb (suc n) k.most) _ _ (λ h. begins (leb-true (suc n) k.most h)) tt)
  where
    n : ℕ
    n = run k.test s

    r : Ran k.test s n
    r = ran k.test s

    begins : suc n ≤ k.most → Begins (b ∷ s) (k.make (b ∷ take n s)) (suc n)
    begins h =
        let i : is_run k (b ∷ take n s) ≡ true = and_intro (eq-eqb (class b) k.first c) r.passes in
        let m : Makes k (b ∷ take n s) = make (b ∷ take n s) i (omega (arith, r.size)) in
        record {
          rest = drop n s;
          written = ap (λ v. b ∷ v) (sym (take-append-drop n s)) ∙ ap (λ v. v ++ drop n s) (sym m.spelled);
          size = sym (ap length m.spelled ∙ ap suc r.size);
          valid = m.valid;
          stops = subst (λ p. Stops p (drop n s)) (sym m.goes_on) r.stops;
        }

pub stops_always : (s : Bytes) → Stops (λ b. false) s
stops_always [] = tt
stops_always (b ∷ s) = refl

-- A quoted name is closed by a quote that is none of a pair.
quoted_told : (s : Bytes) → Told (39 ∷ s) (quoted_name s)
unfolding quoted_name quoted_with is_token spelling continues
quoted_told s = branch (Told (39 ∷ s)) (sized && closes_it) _ _ begins tt
  where
    c : Bytes
    c = characters_at s

    sized : Bool
    sized = leb 1 (length c) && leb (length c) longest_name

    closes_it : Bool
    closes_it = is_quote (get_or s (length (doubled c)) 0)

    f : CharactersFound s
    f = characters_found s

    begins : sized && closes_it ≡ true → Begins (39 ∷ s) (atom (quoted c)) (length (doubled c) + 2)
    begins e =
        let (r, closed) = closed-behind s f (a_quote _ (and_right sized closes_it e)) in
        record {
          rest = r;
          written =
              ap (◌∷◌ 39) (f.written ∙ ap (λ v. doubled c ++ v) closed)
              ∙ ap (◌∷◌ 39) (sym (append_assoc (doubled c) (39 ∷ []) r));
          size = simp length-append (omega arith);
          valid = and_intro (and_left sized closes_it e) f.allowed;
          stops = quote_stops r (sym (ap characters_at closed) ∙ f.ended);
        }

-- Four classes hold one byte each.
pub record Solo (b c : ℕ) : Type 0 where
  pub a_quote : c ≡ quote → b ≡ 39
  pub an_opening : c ≡ opens → b ≡ 40
  pub a_closing : c ≡ closes → b ≡ 41
  pub a_semicolon : c ≡ separates → b ≡ 59

pub solo : (b : ℕ) → Solo b (class b)
unfolding class
solo b =
    branch (Solo b) (is_blank b) _ _ (λ e. omega arith) (
    branch (Solo b) (is_letter b) _ _ (λ e. omega arith) (
    branch (Solo b) (between 48 57 b) _ _ (λ e. omega arith) (
    branch (Solo b) (eqb b 95) _ _ (λ e. omega arith) (
    branch (Solo b) (member b sign_bytes) _ _ (λ e. omega arith) (
    branch (Solo b) (eqb b 39) _ _ (λ e. omega (arith, eqb-true b 39 e)) (
    branch (Solo b) (eqb b 40) _ _ (λ e. omega (arith, eqb-true b 40 e)) (
    branch (Solo b) (eqb b 41) _ _ (λ e. omega (arith, eqb-true b 41 e)) (
    branch (Solo b) (eqb b 59) _ _ (λ e. omega (arith, eqb-true b 59 e)) (omega arith)))))))))

one_byte
    : (t : Token) {b c : ℕ} (s : Bytes) → b ≡ c → spelling t ≡ c ∷ [] → is_token t ≡ true → continues t ≡ (λ b. false)
    → Begins (b ∷ s) t 1
one_byte t s i e h h' = record {
  rest = s;
  written = ap (λ x. x ∷ s) i ∙ ap (λ v. v ++ s) (sym e);
  size = ap length (sym e);
  valid = h;
  stops = subst (λ p. Stops p s) (sym h') (stops_always s);
}

-- What is taken from the front of a text is a token that stands there, and the text doesn't go on with it.
pub front_told : (s : Bytes) → Told s (front s)
unfolding front front_of spelling is_token continues
front_told [] = refl
front_told (b ∷ s) =
    branch (Told (b ∷ s)) (eqb (class b) letter) _ _ (λ e. longest-told words word_makes b s (is letter e)) (
    branch (Told (b ∷ s)) (eqb (class b) sign) _ _ (λ e. longest-told signs sign_makes b s (is sign e)) (
    branch (Told (b ∷ s)) (eqb (class b) digit) _ _ (λ e. longest-told numbers number_makes b s (is digit e)) (
    branch (Told (b ∷ s)) (eqb (class b) quote) _ _ (λ e. name ((solo b).a_quote (is quote e))) (
    branch (Told (b ∷ s)) (eqb (class b) opens) _ _ (λ e. one_byte (structure opening) s ((solo b).an_opening (is opens e)) refl refl refl) (
    branch (Told (b ∷ s)) (eqb (class b) closes) _ _ (λ e. one_byte (structure closing) s ((solo b).a_closing (is closes e)) refl refl refl) (
    branch (Told (b ∷ s)) (eqb (class b) separates) _ _ (λ e. one_byte (structure semicolon) s ((solo b).a_semicolon (is separates e)) refl refl refl) tt))))))
  where
    is : (c : ℕ) → eqb (class b) c ≡ true → class b ≡ c
    is c e = eqb-true (class b) c e

    name : b ≡ 39 → Told (b ∷ s) (quoted_name s)
    name i = subst (λ c. Told (c ∷ s) (quoted_name s)) (sym i) (quoted_told s)
