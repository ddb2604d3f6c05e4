-- A scan finds the tokens that the text spells, and all of them: `Spells` says what a text spells without a scan, and both
-- directions go by the token at the front. What tokens joined by spaces spell is those tokens, so a scan gives them back.
use mathlib.Core.Path.{◌≡◌, refl, sym, ap, subst, ◌∙◌}
use mathlib.Core.Bool.{Bool, true, false}
use mathlib.Core.List.{List, [], ◌∷◌, ◌++◌, append-nil, map}
use Prim.Native.Nat.{ℕ, zero, suc, ◌+◌, ◌≤◌, max}
use native.Mathlib.Omega.{arith}
use lib.ListN.{length, take, drop, length-append, take-append-drop}
use lib.Seq.{drop-length, drop-append_seam, drop-append-add, drop-drop}
use borrow.Author.Tests.{eqb-true}
use Rattle.grammar.specs.Bytes.{Bytes, every, member}
use Rattle.grammar.specs.Token.{
  atom,
  structure,
  class,
  blank,
  is_blank_byte,
  in_word,
  in_sign,
  in_number,
  is_quote,
  Token,
  symbol,
  number,
  quoted,
  opening,
  closing,
  semicolon,
  keyword_let,
  keyword_in,
  keyword_end,
  spelling,
  is_word,
  is_token,
  are_tokens,
}
use Rattle.grammar.specs.Spelling.{continues, Stops, Splits, no_more, one_more, Spells}
use Rattle.grammar.specs.Outcome.{Outcome, refused, passed}
use Rattle.grammar.specs.Scan.{Placed, run, Front, nothing, wrong, taken, front_of, front, before, scan}
use Rattle.grammar.specs.Canonical.{spaced_pieces, join_pieces, join_tokens}
use Rattle.grammar.specs.Answer.{tokens_of}
use Rattle.grammar.proofs.Logic.{and_left, and_right, and_intro, impossible}
use Rattle.grammar.proofs.Runs.{run-append, ran, front-spelled}
use Rattle.grammar.proofs.Taken.{Begins, Told, front_told}

-- What stands behind the blanks at the front.
abbrev pub behind_blanks : Bytes → Bytes
behind_blanks s = drop (run is_blank_byte s) s

-- A token is judged for 2, 3, 4 before it is counted.
pub judged-first
    : (room at : ℕ) (s : Bytes) (k : ℕ) → front (behind_blanks s) ≡ wrong k
    → scan room at s ≡ refused k (at + run is_blank_byte s)
unfolding scan
judged-first zero at s k e = rw (e, scan)
judged-first (suc room) at s k e = rw (e, scan)

-- A token that passes is refused when there is no room for it.
pub counted-last
    : (at : ℕ) (s : Bytes) (t : Token) (m : ℕ) → front (behind_blanks s) ≡ taken t m
    → scan zero at s ≡ refused 5 (at + run is_blank_byte s)
unfolding scan
counted-last at s t m e = rw (e, scan)

pub scan_end : (room at : ℕ) (s : Bytes) → front (behind_blanks s) ≡ nothing → scan room at s ≡ passed []
unfolding scan
scan_end zero at s e = rw (e, scan)
scan_end (suc room) at s e = rw (e, scan)

pub scan-next
    : (room at : ℕ) (s : Bytes) (t : Token) (m : ℕ) → front (behind_blanks s) ≡ taken t m
    → scan (suc room) at s
    ≡ before
    (record { token = t; start = at + run is_blank_byte s })
    (scan room (at + run is_blank_byte s + m) (drop (run is_blank_byte s + m) s))
unfolding scan
scan-next room at s t m e = rw (e, scan)

pub refused_not_passed : {A : Type 0} {o : Outcome A} {k a : ℕ} {v : A} → o ≡ refused k a → o ≡ passed v → ⊥
refused_not_passed e h = impossible cc

-- No token goes on with a space.
space_stops : (t : Token) (s : Bytes) → Stops (continues t) (32 ∷ s)
unfolding continues in_word in_sign in_number is_quote class member
space_stops (atom (symbol w)) s = go (is_word w) refl
  where
    go : (x : Bool) → is_word w ≡ x → continues (atom (symbol w)) 32 ≡ false
    go true e = rw (e, continues)
    go false e = rw (e, continues)
space_stops (atom (number d)) s = refl
space_stops (atom (quoted c)) s = refl
space_stops (structure opening) s = refl
space_stops (structure closing) s = refl
space_stops (structure semicolon) s = refl
space_stops (structure keyword_let) s = refl
space_stops (structure keyword_in) s = refl
space_stops (structure keyword_end) s = refl

-- The spellings of tokens with one space before each.
abbrev spaced : List Token → Bytes
spaced ts = spaced_pieces (map spelling ts)

spaced_stops : (t : Token) (ts : List Token) → Stops (continues t) (spaced ts)
unfolding spaced_pieces
spaced_stops t [] = tt
spaced_stops t (u ∷ ts) = space_stops t (spelling u ++ spaced ts)

front-blank : (b : ℕ) (s : Bytes) → is_blank_byte b ≡ true → front (b ∷ s) ≡ wrong 2
unfolding front front_of is_blank_byte
front-blank b s e = ap (λ c. front_of c (b ∷ s)) (eqb-true (class b) blank e)

-- No token begins with a blank.
pub taken_not_blank : (s : Bytes) (t : Token) (n : ℕ) → front s ≡ taken t n → Stops is_blank_byte s
taken_not_blank [] t n e = tt
taken_not_blank (b ∷ s) t n e = go (is_blank_byte b) refl
  where
    go : (x : Bool) → is_blank_byte b ≡ x → is_blank_byte b ≡ false
    go true h =
        let f : front (b ∷ s) ≡ wrong 2 = front-blank b s h in
        impossible cc
    go false h = h

-- The token at the front behind the blanks, and what stands behind the token.
pub record Ahead (s : Bytes) (t : Token) (rest : Bytes) : Type 0 where
  pub here : front (behind_blanks s) ≡ taken t (length (spelling t))
  pub behind : drop (run is_blank_byte s + length (spelling t)) s ≡ rest
  pub size : run is_blank_byte s + length (spelling t) + length rest ≡ length s

pub ahead
    : {s : Bytes} (blanks : Bytes) (t : Token) (rest : Bytes) → s ≡ blanks ++ (spelling t ++ rest) → every is_blank_byte blanks ≡ true
    → is_token t ≡ true → Stops (continues t) rest → Ahead s t rest
ahead blanks t rest w e h h' =
    subst (λ s. Ahead s t rest) (sym w) (
    record {
      here = ap (λ n. front (drop n s)) skip ∙ ap front (drop-append_seam blanks v) ∙ token;
      behind = ap (λ n. drop (n + m) s) skip ∙ drop-append-add blanks v m ∙ drop-append_seam (spelling t) rest;
      size = omega (arith, skip, length-append blanks v, length-append (spelling t) rest);
    })
  where
    m : ℕ
    m = length (spelling t)

    v : Bytes
    v = spelling t ++ rest

    s : Bytes
    s = blanks ++ v

    token : front v ≡ taken t m
    token = front-spelled t h rest h'

    skip : run is_blank_byte s ≡ length blanks
    skip = run-append is_blank_byte blanks v e (taken_not_blank v t m token)

all_blank : (s : Bytes) → every is_blank_byte s ≡ true → front (behind_blanks s) ≡ nothing
unfolding front
all_blank s e = ap (λ n. front (drop n s)) skip ∙ ap front (drop-length s)
  where
    skip : run is_blank_byte s ≡ length s
    skip = ap (run is_blank_byte) (sym (append-nil s)) ∙ run-append is_blank_byte s [] e tt

-- Blanks spell no token; a token before what spells some.
pub spells_none : {s : Bytes} → every is_blank_byte s ≡ true → Spells s []
spells_none {s} e = record { rest = s; split = no_more; blank = e }

pub spells_next :
    {s : Bytes} (blanks : Bytes) (t : Token) (rest : Bytes) {ts : List Token} → s ≡ blanks ++ (spelling t ++ rest)
    → every is_blank_byte blanks ≡ true → is_token t ≡ true → Stops (continues t) rest → Spells rest ts → Spells s (t ∷ ts)
spells_next b t rest w e v h r = record { rest = r.rest; split = one_more b t rest w e v h r.split; blank = r.blank }

-- A scan finds what the text spells.
scan-splits
    : {s : Bytes} {ts : List Token} {end : Bytes} → Splits s ts end → every is_blank_byte end ≡ true → (room at : ℕ) → length ts ≤ room
    → (ps : List Placed) × (scan room at s ≡ passed ps) × (tokens_of ps ≡ ts)
unfolding before tokens_of
scan-splits {s} no_more z room at h = ([], scan_end room at s (all_blank s z), refl)
scan-splits (one_more b t rest w e e' h' r) z zero at h = absurd (omega arith)
scan-splits {s} (one_more b t rest {ts} w e e' h' r) z (suc room) at h =
    let (ps, found, same) = scan-splits r z room (at + n + m) (omega arith) in (
      p ∷ ps,
      scan-next room at s t m a.here ∙ ap (λ x. before p (scan room (at + n + m) x)) a.behind ∙ ap (before p) found,
      ap (λ x. t ∷ x) same,
    )
  where
    n : ℕ
    n = run is_blank_byte s

    m : ℕ
    m = length (spelling t)

    p : Placed
    p = record { token = t; start = at + n }

    a : Ahead s t rest
    a = ahead b t rest w e e' h'

pub scan-spells
    : {s : Bytes} {ts : List Token} → Spells s ts → (room at : ℕ) → length ts ≤ room
    → (ps : List Placed) × (scan room at s ≡ passed ps) × (tokens_of ps ≡ ts)
scan-spells r = scan-splits r.split r.blank

-- A text spells one list of tokens.
pub spells_unique : {s : Bytes} {ts us : List Token} → Spells s ts → Spells s us → ts ≡ us
spells_unique {ts = ts} {us = us} x y =
    let (ps, e, h) = scan-spells x (max (length ts) (length us)) 0 (omega arith) in
    let (qs, e', h') = scan-spells y (max (length ts) (length us)) 0 (omega arith) in
    cc

-- Tokens joined by spaces spell themselves. The first has no space before it, the others one.
spells-behind
    : (b : Bytes) (t : Token) (ts : List Token) → every is_blank_byte b ≡ true → are_tokens (t ∷ ts) ≡ true → Spells (spaced ts) ts
    → Spells (b ++ (spelling t ++ spaced ts)) (t ∷ ts)
unfolding are_tokens
spells-behind b t ts e h r = spells_next b t (spaced ts) refl e (and_left (is_token t) (are_tokens ts) h) (spaced_stops t ts) r

spells_spaced : (ts : List Token) → are_tokens ts ≡ true → Spells (spaced ts) ts
unfolding spaced_pieces are_tokens every is_blank_byte class
spells_spaced [] e = spells_none refl
spells_spaced (t ∷ ts) e = spells-behind (32 ∷ []) t ts refl e (spells_spaced ts (and_right (is_token t) (are_tokens ts) e))

spells_joined : (ts : List Token) → are_tokens ts ≡ true → Spells (join_tokens ts) ts
unfolding join_pieces join_tokens are_tokens every
spells_joined [] e = spells_none refl
spells_joined (t ∷ ts) e = spells-behind [] t ts refl e (spells_spaced ts (and_right (is_token t) (are_tokens ts) e))

-- A token by itself spells itself.
pub token_spelled : (t : Token) → is_token t ≡ true → Spells (spelling t) (t ∷ [])
unfolding are_tokens join_pieces join_tokens spaced_pieces
token_spelled t e = subst (λ s. Spells s (t ∷ [])) (append-nil (spelling t)) (spells_joined (t ∷ []) (and_intro e refl))

-- Scanning what was written gives back the tokens.
pub scan-joined
    : (ts : List Token) → are_tokens ts ≡ true → (room at : ℕ) → length ts ≤ room
    → (ps : List Placed) × (scan room at (join_tokens ts) ≡ passed ps) × (tokens_of ps ≡ ts)
scan-joined ts e = scan-spells (spells_joined ts e)

pub join_injective : (ts us : List Token) → are_tokens ts ≡ true → are_tokens us ≡ true → join_tokens ts ≡ join_tokens us → ts ≡ us
join_injective ts us e e' h = spells_unique (spells_joined ts e) (subst (λ s. Spells s us) (sym h) (spells_joined us e'))

-- What a scan that passes found: tokens that the text spells, no more than there is room for.
record Found (room : ℕ) (s : Bytes) (ps : List Placed) : Type 0 where
  spelled : Spells s (tokens_of ps)
  fits : length ps ≤ room

abbrev Finds : ℕ → Type 0
Finds room = (at : ℕ) (s : Bytes) (ps : List Placed) → scan room at s ≡ passed ps → Found room s ps

Found-None
    : (room at : ℕ) (s : Bytes) (ps : List Placed) → front (behind_blanks s) ≡ nothing → scan room at s ≡ passed ps
    → Found room s ps
unfolding tokens_of
Found-None room at s ps e h =
    subst (Found room s) none (record { spelled = spells_none (ap (every is_blank_byte) whole ∙ (ran is_blank_byte s).passes); fits = omega arith })
  where
    n : ℕ
    n = run is_blank_byte s

    left : drop n s ≡ []
    left = subst (Told (drop n s)) e (front_told (drop n s))

    whole : s ≡ take n s
    whole = sym (take-append-drop n s) ∙ ap (λ v. take n s ++ v) left ∙ append-nil (take n s)

    none : [] ≡ ps
    none = let f : scan room at s ≡ passed [] = scan_end room at s e in cc

-- The token that is taken behind the blanks stands there, and the text doesn't go on with it.
pub record Next (s : Bytes) (t : Token) (m : ℕ) : Type 0 where
  pub rest : Bytes
  pub written : s ≡ take (run is_blank_byte s) s ++ (spelling t ++ rest)
  pub size : m ≡ length (spelling t)
  pub valid : is_token t ≡ true
  pub stops : Stops (continues t) rest
  pub behind : drop (run is_blank_byte s + m) s ≡ rest

pub next_token : (s : Bytes) (t : Token) (m : ℕ) → front (behind_blanks s) ≡ taken t m → Next s t m
next_token s t m e = record {
  rest = here.rest;
  written = sym (take-append-drop n s) ∙ ap (λ v. take n s ++ v) here.written;
  size = here.size;
  valid = here.valid;
  stops = here.stops;
  behind =
      sym (drop-drop m n s)
      ∙ ap (drop m) here.written
      ∙ ap (λ k. drop k (spelling t ++ here.rest)) here.size
      ∙ drop-append_seam (spelling t) here.rest;
}
  where
    n : ℕ
    n = run is_blank_byte s

    here : Begins (drop n s) t m
    here = subst (Told (drop n s)) e (front_told (drop n s))

found-next
    : (room : ℕ) → Finds room → (at : ℕ) (s : Bytes) (t : Token) (m : ℕ) (ps : List Placed) → front (behind_blanks s) ≡ taken t m
    → scan (suc room) at s ≡ passed ps → Found (suc room) s ps
unfolding tokens_of before
found-next room finds at s t m ps e h = go (scan room (at + n + m) (drop (n + m) s)) refl
  where
    n : ℕ
    n = run is_blank_byte s

    p : Placed
    p = record { token = t; start = at + n }

    here : Next s t m
    here = next_token s t m e

    more : (qs : List Placed) → Found room (drop (n + m) s) qs → Found (suc room) s (p ∷ qs)
    more qs f =
        let r : Spells here.rest (tokens_of qs) = subst (λ v. Spells v (tokens_of qs)) here.behind f.spelled in
        record {
          spelled = spells_next (take n s) t here.rest here.written (ran is_blank_byte s).passes here.valid here.stops r;
          fits = omega arith;
        }

    passes : (o : Outcome (List Placed)) → scan room (at + n + m) (drop (n + m) s) ≡ o → before p o ≡ passed ps
    passes o f = ap (before p) (sym f) ∙ sym (scan-next room at s t m e) ∙ h

    go : (o : Outcome (List Placed)) → scan room (at + n + m) (drop (n + m) s) ≡ o → Found (suc room) s ps
    go (refused k a) f = absurd (refused_not_passed refl (passes (refused k a) f))
    go (passed qs) f =
        let g : passed (p ∷ qs) ≡ passed ps = passes (passed qs) f in
        let same : p ∷ qs ≡ ps = cc in
        subst (Found (suc room) s) same (more qs (finds (at + n + m) (drop (n + m) s) qs f))

finds : (room : ℕ) → Finds room
finds zero at s ps h = go (front (behind_blanks s)) refl
  where
    go : (f : Front) → front (behind_blanks s) ≡ f → Found zero s ps
    go nothing e = Found-None zero at s ps e h
    go (wrong k) e = absurd (refused_not_passed (judged-first zero at s k e) h)
    go (taken t m) e = absurd (refused_not_passed (counted-last at s t m e) h)
finds (suc room) at s ps h = go (finds room) (front (behind_blanks s)) refl
  where
    go : Finds room → (f : Front) → front (behind_blanks s) ≡ f → Found (suc room) s ps
    go ih nothing e = Found-None (suc room) at s ps e h
    go ih (wrong k) e = absurd (refused_not_passed (judged-first (suc room) at s k e) h)
    go ih (taken t m) e = found-next room ih at s t m ps e h

pub length_tokens : (ps : List Placed) → length (tokens_of ps) ≡ length ps
unfolding tokens_of
length_tokens [] = refl
length_tokens (p ∷ ps) = ap suc (length_tokens ps)

-- What a scan finds is spelled by the text.
pub scan-spelled : (room at : ℕ) (s : Bytes) (ps : List Placed) → scan room at s ≡ passed ps → Spells s (tokens_of ps)
scan-spelled room at s ps h = (finds room at s ps h).spelled

splits_tokens : {s : Bytes} {ts : List Token} {end : Bytes} → Splits s ts end → are_tokens ts ≡ true
unfolding are_tokens
splits_tokens no_more = refl
splits_tokens (one_more b t rest w e e' h r) = and_intro e' (splits_tokens r)

pub spells_tokens : {s : Bytes} {ts : List Token} → Spells s ts → are_tokens ts ≡ true
spells_tokens r = splits_tokens r.split

-- What a scan finds are tokens, no more than there is room for.
pub scan-tokens
    : (room at : ℕ) (s : Bytes) (ps : List Placed) → scan room at s ≡ passed ps
    → (are_tokens (tokens_of ps) ≡ true) × (length ps ≤ room)
scan-tokens room at s ps h = (spells_tokens (scan-spelled room at s ps h), (finds room at s ps h).fits)
