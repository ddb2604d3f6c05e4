-- Rows 2 to 4: the answer about the front of a text is the number of a row exactly where that row holds of the bytes there. The first
-- byte begins a word, sign or number, a quoted name, a solo or no token; each of the four is met with in both directions.
use mathlib.Core.Path.{◌≡◌, refl, sym, ap, subst, ◌∙◌}
use mathlib.Core.Bool.{Bool, true, false, ◌||◌}
use mathlib.Core.Logic.{◌⊎◌, inl, inr, ◌↔◌}
use mathlib.Core.List.{[], ◌∷◌, ◌++◌, append-nil}
use Prim.Native.Nat.{ℕ, ◌≤◌, ◌<◌}
use native.Mathlib.Omega.{arith}
use lib.Dec.{leb, eqb}
use lib.ListN.{length, take, drop, take-append-drop}
use borrow.Author.Tests.{eqb-true, eq-eqb, leb-false, lt-leb}
use Rattle.grammar.specs.Bytes.{Bytes, every, member}
use Rattle.grammar.specs.Token.{class, letter, digit, sign, quote, opens, closes, separates, in_quotes, is_quote, doubled}
use Rattle.grammar.specs.Token.{quoted, opening, closing, semicolon, Structure, Token, atom, structure}
use Rattle.grammar.specs.Token.{spelling, is_word, is_sign, is_token}
use Rattle.grammar.specs.Spelling.{continues, Stops}
use Rattle.grammar.specs.Scan.{run, Front, wrong, taken, at_most, characters_at, is_closed, quoted_name, quoted_with, front_of, front}
use Rattle.grammar.specs.Fault.{NoToken, begins_none, no_quoted_name, long_name, long_number}
use Rattle.grammar.proofs.Logic.{and_intro, or_cases, impossible}
use Rattle.grammar.proofs.Runs.{Ran, ran, Kind, words, signs, numbers, is_run, word-run, sign-run, number_run, sign_not_word}
use Rattle.grammar.proofs.Runs.{continues-word, continues-sign, front-longest, front-spelled}
use Rattle.grammar.proofs.Taken.{Begins, Told, branch, Makes, word_makes, sign_makes, number_makes, stops_always, solo, front_told}

-- What follows in both cases of a test.
tested : {C : Type 0} (b : Bool) → (b ≡ true → C) → (b ≡ false → C) → C
tested true h g = h refl
tested false h g = g refl

not_both : {f : Front} {t : Token} {m n : ℕ} → f ≡ taken t m → f ≡ wrong n → ⊥
not_both e f = impossible cc

-- Bytes of a kind, too many of them, are row 4.
abbrev TooLong : Kind → Type 0
TooLong k = (w r : Bytes) → is_run k w ≡ true → Stops k.test r → k.most < length w → NoToken (w ++ r) 4

long_word : TooLong words
long_word w r e h g =
    let i : is_word w ≡ true = word-run w ∙ e in
    long_name w r refl (ap (λ x. x || is_sign w) i) (subst (λ p. Stops p r) (sym (continues-word w i)) h) g

long_sign : TooLong signs
long_sign w r e h g =
    let i : is_sign w ≡ true = sign-run w ∙ e in
    long_name w r refl (rw (sign_not_word w i) i) (subst (λ p. Stops p r) (sym (continues-sign w i)) h) g

long_number_lem : TooLong numbers
long_number_lem w r e h g = long_number w r refl (number_run w ∙ e) h g

-- What a text can begin with.
data FirstByte (b : ℕ) : Type 0 where
  of_run :
      (k : Kind) → class b ≡ k.first → ((w : Bytes) → is_run k w ≡ true → length w ≤ k.most → Makes k w) → 1 ≤ k.most → TooLong k
      → FirstByte b
  of_quoted : b ≡ 39 → FirstByte b
  of_solo : (u : Structure) → spelling (structure u) ≡ b ∷ [] → continues (structure u) ≡ (λ c. false) → FirstByte b
  of_none : ((s : Bytes) → front (b ∷ s) ≡ wrong 2) → FirstByte b

first_byte : (b : ℕ) → FirstByte b
unfolding spelling continues front front_of
first_byte b =
    tested (eqb (class b) letter) (λ e. of_run words (is letter e) word_makes (omega arith) long_word) (λ e₁.
    tested (eqb (class b) sign) (λ e. of_run signs (is sign e) sign_makes (omega arith) long_sign) (λ e₂.
    tested (eqb (class b) digit) (λ e. of_run numbers (is digit e) number_makes (omega arith) long_number_lem) (λ e₃.
    tested (eqb (class b) quote) (λ e. of_quoted ((solo b).a_quote (is quote e))) (λ e₄.
    tested (eqb (class b) opens) (λ e. of_solo opening (alone ((solo b).an_opening (is opens e))) refl) (λ e₅.
    tested (eqb (class b) closes) (λ e. of_solo closing (alone ((solo b).a_closing (is closes e))) refl) (λ e₆.
    tested (eqb (class b) separates) (λ e. of_solo semicolon (alone ((solo b).a_semicolon (is separates e))) refl) (λ e₇.
    of_none (λ s. rw (e₁, e₂, e₃, e₄, e₅, e₆, e₇, front, front_of)))))))))
  where
    is : (c : ℕ) → eqb (class b) c ≡ true → class b ≡ c
    is c e = eqb-true (class b) c e

    alone : {c : ℕ} → b ≡ c → c ∷ [] ≡ b ∷ []
    alone e = ap (λ x. x ∷ []) (sym e)

-- A word, sign or number at the front is refused exactly where it is too long.
front_four : (k : Kind) (w r : Bytes) → is_run k w ≡ true → Stops k.test r → k.most < length w → front (w ++ r) ≡ wrong 4
unfolding at_most
front_four k w r e h g = front-longest k w r e h ∙ rw (lt-leb (length w) k.most g, at_most)

wrong_long : (most m n : ℕ) (t : Token) → at_most most m t ≡ wrong n → (most < m) × (4 ≡ n)
unfolding at_most
wrong_long most m n t e = go (leb m most) refl
  where
    go : (x : Bool) → leb m most ≡ x → (most < m) × (4 ≡ n)
    go true f =
        let g : at_most most m t ≡ taken t m = rw (f, at_most) in
        impossible cc
    go false f =
        let g : at_most most m t ≡ wrong 4 = rw (f, at_most) in
        (leb-false m most f, cc)

run_row : (k : Kind) → TooLong k → (b : ℕ) (s : Bytes) (n : ℕ) → class b ≡ k.first → front (b ∷ s) ≡ wrong n → NoToken (b ∷ s) n
unfolding is_run
run_row k row b s n c e =
    let (long, same) = wrong_long k.most (length w) n (k.make w) (sym (front-longest k w r i q.stops) ∙ ap front (sym whole) ∙ e) in
    subst (NoToken (b ∷ s)) same (subst (λ v. NoToken v 4) (sym whole) (row w r i q.stops long))
  where
    q : Ran k.test s (run k.test s)
    q = ran k.test s

    w : Bytes
    w = b ∷ take (run k.test s) s

    r : Bytes
    r = drop (run k.test s) s

    whole : b ∷ s ≡ w ++ r
    whole = ap (λ v. b ∷ v) (sym (take-append-drop (run k.test s) s))

    i : is_run k w ≡ true
    i = and_intro (eq-eqb (class b) k.first c) q.passes

-- Where a quote stands a quoted name is taken, or the answer is 3.
abbrev QuotedOr3 : Front → Type 0
QuotedOr3 f = ((c : Bytes) × (m : ℕ) × (f ≡ taken (atom (quoted c)) m)) ⊎ (f ≡ wrong 3)

front-quote : (s : Bytes) → QuotedOr3 (front (39 ∷ s))
unfolding front front_of class member quoted_name quoted_with
front-quote s = branch QuotedOr3 (is_closed (characters_at s) s) _ _ (λ e. inl (_, _, refl)) (inr refl)

-- No quoted name stands at the front of a text.
abbrev NoQuotedName : Bytes → Type 0
NoQuotedName s =
    (c r : Bytes) → is_token (atom (quoted c)) ≡ true → s ≡ spelling (atom (quoted c)) ++ r → Stops (continues (atom (quoted c))) r → ⊥

front_three : (s : Bytes) → NoQuotedName (39 ∷ s) → front (39 ∷ s) ≡ wrong 3
front_three s h = go (front-quote s)
  where
    go : QuotedOr3 (front (39 ∷ s)) → front (39 ∷ s) ≡ wrong 3
    go (inl (c, m, e)) =
        let t : Begins (39 ∷ s) (atom (quoted c)) m = subst (Told (39 ∷ s)) e (front_told (39 ∷ s)) in
        absurd (h c t.rest t.valid t.written t.stops)
    go (inr e) = e

quoted_row : (s : Bytes) (n : ℕ) → front (39 ∷ s) ≡ wrong n → NoToken (39 ∷ s) n
quoted_row s n e = go (front-quote s)
  where
    unquoted : NoQuotedName (39 ∷ s)
    unquoted c r v w h = not_both (front-spelled (atom (quoted c)) v r h) (ap front (sym w) ∙ e)

    go : QuotedOr3 (front (39 ∷ s)) → NoToken (39 ∷ s) n
    go (inl (c, m, f)) = absurd (not_both f e)
    go (inr f) =
        let same : 3 ≡ n = cc in
        subst (NoToken (39 ∷ s)) same (no_quoted_name unquoted)

-- A byte with which the answer is 2 begins no token.
none_row : (b : ℕ) (s : Bytes) (n : ℕ) → ((v : Bytes) → front (b ∷ v) ≡ wrong 2) → front (b ∷ s) ≡ wrong n → NoToken (b ∷ s) n
none_row b s n h e =
    let f : front (b ∷ s) ≡ wrong 2 = h s in
    let same : 2 ≡ n = cc in
    subst (NoToken (b ∷ s)) same (begins_none none)
  where
    none : (t : Token) (r : Bytes) → is_token t ≡ true → spelling t ≡ b ∷ r → ⊥
    none t r v w = not_both (front-spelled t v [] tt) (ap front (append-nil (spelling t) ∙ w) ∙ h r)

-- From the answer to the row ..
refused_row : (s : Bytes) (n : ℕ) → front s ≡ wrong n → NoToken s n
unfolding front is_token
refused_row [] n e = impossible cc
refused_row (b ∷ s) n e = go (first_byte b)
  where
    go : FirstByte b → NoToken (b ∷ s) n
    go (of_run k c makes some row) = run_row k row b s n c e
    go (of_quoted q) = subst (λ x. NoToken (x ∷ s) n) (sym q) (quoted_row s n (ap (λ x. front (x ∷ s)) (sym q) ∙ e))
    go (of_solo u w c) =
        absurd (not_both (front-spelled (structure u) refl s (subst (λ p. Stops p s) (sym c) (stops_always s))) (ap (λ v. front (v ++ s)) w ∙ e))
    go (of_none h) = none_row b s n h e

-- .. and from the row to the answer.
front_two : (b : ℕ) (s : Bytes) → ((t : Token) (r : Bytes) → is_token t ≡ true → spelling t ≡ b ∷ r → ⊥) → front (b ∷ s) ≡ wrong 2
unfolding is_run every is_token spelling doubled is_quote in_quotes
front_two b s h = go (first_byte b)
  where
    go : FirstByte b → front (b ∷ s) ≡ wrong 2
    go (of_run k c makes some row) =
        let m : Makes k (b ∷ []) = makes (b ∷ []) (and_intro (eq-eqb (class b) k.first c) refl) some in
        absurd (h (k.make (b ∷ [])) [] m.valid m.spelled)
    go (of_quoted q) = absurd (h (atom (quoted (97 ∷ []))) (97 ∷ 39 ∷ []) refl (ap (λ x. x ∷ 97 ∷ 39 ∷ []) (sym q)))
    go (of_solo u w c) = absurd (h (structure u) [] refl w)
    go (of_none f) = f s

row_refused : {s : Bytes} {n : ℕ} → NoToken s n → front s ≡ wrong n
row_refused (begins_none {b} {s} h) = front_two b s h
row_refused (no_quoted_name {s} h) = front_three s h
row_refused (long_name w r e i h g) = ap front e ∙ go (or_cases (is_word w) (is_sign w) i)
  where
    go : (is_word w ≡ true) ⊎ (is_sign w ≡ true) → front (w ++ r) ≡ wrong 4
    go (inl j) = front_four words w r (sym (word-run w) ∙ j) (subst (λ p. Stops p r) (continues-word w j) h) g
    go (inr j) = front_four signs w r (sym (sign-run w) ∙ j) (subst (λ p. Stops p r) (continues-sign w j) h) g
row_refused (long_number d r e i h g) = ap front e ∙ front_four numbers d r (sym (number_run d) ∙ i) h g

-- Rows 2 to 4 hold of the bytes at which a token is due exactly where the answer there is their number.
pub front_refused : (s : Bytes) (n : ℕ) → (front s ≡ wrong n) ↔ NoToken s n
front_refused s n = (refused_row s n, row_refused)
