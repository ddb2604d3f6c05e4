-- Quotes doubled and taken singly again: back from the doubled bytes are the characters, so doubling tells characters apart. The characters
-- found behind an opening quote are those whose doubled bytes stand there, up to a quote that is none of a pair.
use mathlib.Core.Path.{◌≡◌, refl, sym, ap, subst, ◌∙◌}
use mathlib.Core.Bool.{Bool, true, false, ◌&&◌}
use mathlib.Core.List.{[], ◌∷◌, ◌++◌, append_assoc}
use Prim.Native.Nat.{ℕ, ◌*◌, ◌≤◌}
use native.Mathlib.Omega.{arith}
use lib.ListN.{length, get_or, length-append, get_or-eq_default}
use lib.Seq.{get_or-append_seam}
use borrow.Author.Tests.{eqb-true}
use Rattle.grammar.specs.Bytes.{Bytes, All, every}
use Rattle.grammar.specs.Token.{in_quotes, is_quote, doubled, undoubled, undoubled_behind}
use Rattle.grammar.specs.Spelling.{Stops}
use Rattle.grammar.specs.Scan.{characters_at, characters_behind}
use Rattle.grammar.proofs.Logic.{and_left, and_right, and_intro, every-cons, impossible}

pub a_quote : (b : ℕ) → is_quote b ≡ true → b ≡ 39
unfolding is_quote
a_quote b e = eqb-true b 39 e

-- One character, doubled if it is a quote.
pub doubled-quote : (b : ℕ) (c : Bytes) → is_quote b ≡ true → doubled (b ∷ c) ≡ 39 ∷ 39 ∷ doubled c
unfolding doubled
doubled-quote b c e = rw (e, doubled)

pub doubled-other : (b : ℕ) (c : Bytes) → is_quote b ≡ false → doubled (b ∷ c) ≡ b ∷ doubled c
unfolding doubled
doubled-other b c e = rw (e, doubled)

undoubled-other : (b : ℕ) (w : Bytes) → is_quote b ≡ false → undoubled (b ∷ w) ≡ b ∷ undoubled w
unfolding undoubled undoubled_behind
undoubled-other b w e = cc e

pub undoubled-doubled : (c : Bytes) → undoubled (doubled c) ≡ c
unfolding undoubled undoubled_behind doubled is_quote
undoubled-doubled [] = refl
undoubled-doubled (b ∷ c) = go (undoubled-doubled c) (is_quote b) refl
  where
    go : undoubled (doubled c) ≡ c → (x : Bool) → is_quote b ≡ x → undoubled (doubled (b ∷ c)) ≡ b ∷ c
    go i true e = ap undoubled (doubled-quote b c e) ∙ ap (◌∷◌ 39) i ∙ ap (λ q. q ∷ c) (sym (a_quote b e))
    go i false e = ap undoubled (doubled-other b c e) ∙ undoubled-other b (doubled c) e ∙ ap (◌∷◌ b) i

-- Bytes that are characters doubled.
abbrev pub IsDoubled : Bytes → Type 0
IsDoubled w = (c : Bytes) × (w ≡ doubled c)

pub doubled_injective : {c d : Bytes} → doubled c ≡ doubled d → c ≡ d
doubled_injective {c} {d} e = sym (undoubled-doubled c) ∙ ap undoubled e ∙ undoubled-doubled d

pub doubled-append : (c d : Bytes) → doubled (c ++ d) ≡ doubled c ++ doubled d
unfolding doubled
doubled-append [] d = refl
doubled-append (b ∷ c) d = go (doubled-append c d) (is_quote b) refl
  where
    go : doubled (c ++ d) ≡ doubled c ++ doubled d → (x : Bool) → is_quote b ≡ x → doubled (b ∷ c ++ d) ≡ doubled (b ∷ c) ++ doubled d
    go i true e = doubled-quote b (c ++ d) e ∙ ap (λ w. 39 ∷ 39 ∷ w) i ∙ ap (λ w. w ++ doubled d) (sym (doubled-quote b c e))
    go i false e = doubled-other b (c ++ d) e ∙ ap (◌∷◌ b) i ∙ ap (λ w. w ++ doubled d) (sym (doubled-other b c e))

-- There are no fewer of them, and at most twice as many.
pub doubled-length : (c : Bytes) → (length c ≤ length (doubled c)) × (length (doubled c) ≤ 2 * length c)
unfolding doubled
doubled-length [] = omega arith
doubled-length (b ∷ c) = go (doubled-length c) (is_quote b) refl
  where
    go :
        (length c ≤ length (doubled c)) × (length (doubled c) ≤ 2 * length c) → (x : Bool) → is_quote b ≡ x
        → (length (b ∷ c) ≤ length (doubled (b ∷ c))) × (length (doubled (b ∷ c)) ≤ 2 * length (b ∷ c))
    go i true e = omega (arith, ap length (doubled-quote b c e))
    go i false e = omega (arith, ap length (doubled-other b c e))

-- Bytes without a quote are their own doubled bytes.
abbrev pub Unquoted : ℕ → Type 0
Unquoted b = b ≡ 39 → ⊥

pub unquoted : (b : ℕ) → Unquoted b → is_quote b ≡ false
unquoted b h = go (is_quote b) refl
  where
    go : (x : Bool) → is_quote b ≡ x → is_quote b ≡ false
    go true e = absurd (h (a_quote b e))
    go false e = e

pub doubled_plain : (w : Bytes) → All Unquoted w → doubled w ≡ w
unfolding doubled
doubled_plain [] h = refl
doubled_plain (b ∷ w) h = doubled-other b w (unquoted b h.0) ∙ ap (◌∷◌ b) (doubled_plain w h.1)

-- The characters behind an opening quote, byte by byte: another byte that can stand there is one, a pair of quotes is one, and a lone
-- quote ends them, as does a byte that cannot stand there.
pub characters-other : (b : ℕ) (s : Bytes) → is_quote b ≡ false → in_quotes b ≡ true → characters_at (b ∷ s) ≡ b ∷ characters_at s
unfolding characters_at characters_behind
characters-other b s e f = rw (e, f, characters_behind)

pub characters_bad : (b : ℕ) (s : Bytes) → is_quote b ≡ false → in_quotes b ≡ false → characters_at (b ∷ s) ≡ []
unfolding characters_at characters_behind
characters_bad b s e f = rw (e, f, characters_behind)

pub characters_pair : (s : Bytes) → characters_at (39 ∷ 39 ∷ s) ≡ 39 ∷ characters_at s
unfolding characters_at characters_behind is_quote
characters_pair s = refl

pub characters-closed : (s : Bytes) → Stops is_quote s → characters_at (39 ∷ s) ≡ []
unfolding characters_at characters_behind is_quote
characters-closed [] h = refl
characters-closed (b ∷ s) h = rw (h, characters_behind)

-- Characters whose doubled bytes stand there, closed by a quote, are found; ..
pub characters-doubled : (c r : Bytes) → every in_quotes c ≡ true → Stops is_quote r → characters_at (doubled c ++ 39 ∷ r) ≡ c
unfolding doubled
characters-doubled [] r e h = characters-closed r h
characters-doubled (b ∷ c) r e h =
    let both : in_quotes b && every in_quotes c ≡ true = sym (every-cons in_quotes b c) ∙ e in
    go (and_left (in_quotes b) (every in_quotes c) both)
    (characters-doubled c r (and_right (in_quotes b) (every in_quotes c) both) h)
    (is_quote b)
    refl
  where
    go :
        in_quotes b ≡ true → characters_at (doubled c ++ 39 ∷ r) ≡ c → (x : Bool) → is_quote b ≡ x
        → characters_at (doubled (b ∷ c) ++ 39 ∷ r) ≡ b ∷ c
    go i inside true f =
        ap (λ w. characters_at (w ++ 39 ∷ r)) (doubled-quote b c f)
        ∙ characters_pair (doubled c ++ 39 ∷ r)
        ∙ ap (◌∷◌ 39) inside
        ∙ ap (λ q. q ∷ c) (sym (a_quote b f))
    go i inside false f =
        ap (λ w. characters_at (w ++ 39 ∷ r)) (doubled-other b c f)
        ∙ characters-other b (doubled c ++ 39 ∷ r) f i
        ∙ ap (◌∷◌ b) inside

-- .. and what is found stands there doubled, and goes no further.
pub record CharactersFound (s : Bytes) : Type 0 where
  pub rest : Bytes
  pub written : s ≡ doubled (characters_at s) ++ rest
  pub allowed : every in_quotes (characters_at s) ≡ true
  pub ended : characters_at rest ≡ []

found_none : (s : Bytes) → characters_at s ≡ [] → CharactersFound s
unfolding doubled every
found_none s e = record { rest = s; written = ap (λ c. doubled c ++ s) (sym e); allowed = ap (every in_quotes) e; ended = e }

found_one :
    (b : ℕ) (front s : Bytes) → characters_at (front ++ s) ≡ b ∷ characters_at s → ((c : Bytes) → front ++ doubled c ≡ doubled (b ∷ c))
    → in_quotes b ≡ true → CharactersFound s → CharactersFound (front ++ s)
found_one b front s e d i f = record {
  rest = f.rest;
  written =
      ap (◌++◌ front) f.written
      ∙ sym (append_assoc front (doubled (characters_at s)) f.rest)
      ∙ ap (λ w. w ++ f.rest) (d (characters_at s) ∙ ap doubled (sym e));
  allowed = ap (every in_quotes) e ∙ every-cons in_quotes b (characters_at s) ∙ and_intro i f.allowed;
  ended = f.ended;
}

-- Behind a quote as well, so that a pair is gone through quote by quote.
abbrev FoundBehind : Bool → Bytes → Type 0
FoundBehind false s = CharactersFound s
FoundBehind true s = CharactersFound (39 ∷ s)

found_behind : (paired : Bool) (s : Bytes) → FoundBehind paired s
unfolding characters_at characters_behind doubled is_quote in_quotes
found_behind false [] = found_none [] refl
found_behind true [] = found_none (39 ∷ []) refl
found_behind true (b ∷ s) = go (found_behind false s) (is_quote b) refl
  where
    go : CharactersFound s → (x : Bool) → is_quote b ≡ x → CharactersFound (39 ∷ b ∷ s)
    go i true e =
        subst (λ q. CharactersFound (39 ∷ q ∷ s)) (sym (a_quote b e))
        (found_one 39 (39 ∷ 39 ∷ []) s (characters_pair s) (λ c. refl) refl i)
    go i false e = found_none (39 ∷ b ∷ s) (characters-closed (b ∷ s) e)
found_behind false (b ∷ s) = go (found_behind true s) (found_behind false s) (is_quote b) (in_quotes b) refl refl
  where
    go : CharactersFound (39 ∷ s) → CharactersFound s → (x y : Bool) → is_quote b ≡ x → in_quotes b ≡ y → CharactersFound (b ∷ s)
    go q i true y e f = subst (λ x. CharactersFound (x ∷ s)) (sym (a_quote b e)) q
    go q i false true e f = found_one b (b ∷ []) s (characters-other b s e f) (λ c. sym (doubled-other b c e)) f i
    go q i false false e f = found_none (b ∷ s) (characters_bad b s e f)

pub characters_found : (s : Bytes) → CharactersFound s
characters_found s = found_behind false s

-- A quote behind the characters closes them: it is none of a pair.
pub closed-behind :
    (s : Bytes) (f : CharactersFound s) → get_or s (length (doubled (characters_at s))) 0 ≡ 39 → (r : Bytes) × (f.rest ≡ 39 ∷ r)
closed-behind s f e = go f.rest f.written
  where
    n : ℕ
    n = length (doubled (characters_at s))

    go : (v : Bytes) → s ≡ doubled (characters_at s) ++ v → (r : Bytes) × (v ≡ 39 ∷ r)
    go [] w =
        let none : get_or s n 0 ≡ 0 = get_or-eq_default s 0 (omega (arith, ap length w, length-append (doubled (characters_at s)) [])) in
        absurd (omega arith)
    go (b ∷ r) w = (r, ap (λ x. x ∷ r) (sym (ap (λ v. get_or v n 0) w ∙ get_or-append_seam (doubled (characters_at s)) b r 0) ∙ e))

pub quote_stops : (r : Bytes) → characters_at (39 ∷ r) ≡ [] → Stops is_quote r
unfolding characters_at characters_behind is_quote
quote_stops [] e = tt
quote_stops (b ∷ r) e = go (is_quote b) refl
  where
    go : (x : Bool) → is_quote b ≡ x → is_quote b ≡ false
    go true f =
        let pair : characters_at (39 ∷ b ∷ r) ≡ 39 ∷ characters_at r = ap (λ q. characters_at (39 ∷ q ∷ r)) (a_quote b f) in
        impossible cc
    go false f = f
