-- The tokens of a text stand at their offsets with blanks between them; so the text from one token to the end of a later one spells
-- these tokens and those between them.
use mathlib.Core.Path.{◌≡◌, refl, sym, ap, subst, ◌∙◌}
use mathlib.Core.Bool.{Bool, true, ◌&&◌}
use mathlib.Core.List.{List, [], ◌∷◌, ◌++◌, append_assoc, append-nil}
use Prim.Native.Nat.{ℕ, suc, ◌+◌, ◌≤◌}
use native.Mathlib.Omega.{arith}
use lib.ListN.{length, drop, get_or, length-append, drop_of_length-le}
use lib.Seq.{drop-append_seam, drop-drop}
use Rattle.grammar.specs.Bytes.{Bytes, every}
use Rattle.grammar.specs.Token.{is_blank_byte, Token, spelling, is_token}
use Rattle.grammar.specs.Spelling.{continues, Stops, Splits, no_more, one_more, Spells}
use Rattle.grammar.specs.Outcome.{passed}
use Rattle.grammar.specs.Scan.{Placed, scan}
use Rattle.grammar.specs.Answer.{tokens_of, starts_of, offset_of}
use Rattle.grammar.proofs.Logic.{and_left, and_right, and_intro, every-cons}
use Rattle.grammar.proofs.Scanned.{scan-spelled, spells_none, spells_next}
use Rattle.grammar.proofs.Offsets.{First, first_found, first_size_lem}

-- Token number `i` stands in the text at its offset; behind it stand blanks, then the next token or the end.
pub record Here (text : Bytes) (o : ℕ → ℕ) (i : ℕ) (t : Token) : Type 0 where
  pub gap : Bytes
  pub written : drop (o i) text ≡ spelling t ++ (gap ++ drop (o (suc i)) text)
  pub blank : every is_blank_byte gap ≡ true
  pub behind : o (suc i) ≡ o i + length (spelling t) + length gap
  pub valid : is_token t ≡ true
  pub stops : Stops (continues t) (gap ++ drop (o (suc i)) text)

-- The first of the tokens `ts` and `t`.
abbrev pub first_of : List Token → Token → Token
first_of [] t = t
first_of (u ∷ ts) t = u

-- A part of the text: the token `t` and those of `ts` before it, of which the first has number `i`.
pub record Part (text : Bytes) (o : ℕ → ℕ) (i : ℕ) (ts : List Token) (t : Token) : Type 0 where
  pub bytes : Bytes
  pub rest : Bytes
  pub front : Bytes
  pub written : drop (o i) text ≡ bytes ++ rest
  pub size : o i + length bytes ≡ o (i + length ts) + length (spelling t)
  pub begins : (x : Bytes) × (bytes ≡ spelling (first_of ts t) ++ x)
  pub ends : bytes ≡ front ++ spelling t
  pub spells : Spells bytes (ts ++ t ∷ [])

-- Blanks in front of a text, and behind its last token.
every_append : (p : ℕ → Bool) (a b : Bytes) → every p a ≡ true → every p b ≡ true → every p (a ++ b) ≡ true
every_append p [] b h g = g
every_append p (x ∷ a) b h g =
    let e : p x && every p a ≡ true = sym (every-cons p x a) ∙ h in
    every-cons p x (a ++ b) ∙ and_intro (and_left (p x) (every p a) e) (every_append p a b (and_right (p x) (every p a) e) g)

blanks_before : {s : Bytes} {ts : List Token} (g : Bytes) → every is_blank_byte g ≡ true → Spells s ts → Spells (g ++ s) ts
blanks_before {s} {ts} g b r = go r.split r.blank
  where
    go : {us : List Token} {end : Bytes} → Splits s us end → every is_blank_byte end ≡ true → Spells (g ++ s) us
    go no_more z = spells_none (every_append is_blank_byte g s b z)
    go (one_more c t rest w e v h r) z =
        spells_next (g ++ c) t rest (ap (◌++◌ g) w ∙ sym (append_assoc g c (spelling t ++ rest))) (every_append is_blank_byte g c b e) v h
        (record { rest = _; split = r; blank = z })

blank_end : {s : Bytes} → Spells s [] → every is_blank_byte s ≡ true
blank_end r = go r.split r.blank
  where
    go : {s end : Bytes} → Splits s [] end → every is_blank_byte end ≡ true → every is_blank_byte s ≡ true
    go no_more z = z

-- A text that stops stops where it is cut.
stops_front : (p : ℕ → Bool) (a b : Bytes) → Stops p (a ++ b) → Stops p a
stops_front p [] b h = tt
stops_front p (x ∷ a) b h = h

module _ (text : Bytes) (o : ℕ → ℕ) where
  -- From number `i` on the tokens stand in the text.
  abbrev pub Stand : ℕ → List Token → Type 0
  Stand i [] = Unit {0}
  Stand i (t ∷ ts) = Here text o i t × Stand (suc i) ts

  pub stand_left : (i : ℕ) (ts us : List Token) → Stand i (ts ++ us) → Stand i ts
  stand_left i [] us h = tt
  stand_left i (t ∷ ts) us h = (h.0, stand_left (suc i) ts us h.1)

  pub stand_right : (i : ℕ) (ts us : List Token) → Stand i (ts ++ us) → Stand (i + length ts) us
  stand_right i [] us h = subst (λ j. Stand j us) (omega arith) h
  stand_right i (t ∷ ts) us h = subst (λ j. Stand j us) (omega arith) (stand_right (suc i) ts us h.1)

  -- A part of one token, and a part with one more in front.
  one_token : (i : ℕ) (t : Token) → Here text o i t → Part text o i [] t
  unfolding every
  one_token i t h = record {
    bytes = spelling t;
    rest = h.gap ++ drop (o (suc i)) text;
    front = [];
    begins = ([], sym (append-nil (spelling t)));
    written = h.written;
    size = ap (λ j. o j + length (spelling t)) (omega arith);
    ends = refl;
    spells = spells_next [] t [] (sym (append-nil (spelling t))) refl h.valid tt (spells_none refl);
  }

  token_before : (i : ℕ) (u : Token) (ts : List Token) (t : Token) → Here text o i u → Part text o (suc i) ts t → Part text o i (u ∷ ts) t
  unfolding every
  token_before i u ts t h q = record {
    bytes = spelling u ++ (h.gap ++ q.bytes);
    rest = q.rest;
    front = spelling u ++ (h.gap ++ q.front);
    begins = (h.gap ++ q.bytes, refl);
    written = h.written ∙ ap (◌++◌ (spelling u)) inner ∙ sym (append_assoc (spelling u) (h.gap ++ q.bytes) q.rest);
    size =
        let s = length-append (spelling u) (h.gap ++ q.bytes) in
        let g = length-append h.gap q.bytes in
        let e : o (suc i + length ts) ≡ o (i + suc (length ts)) = ap o (omega arith) in
        omega (arith, h.behind, q.size);
    ends =
        ap (λ v. spelling u ++ (h.gap ++ v)) q.ends
        ∙ ap (◌++◌ (spelling u)) (sym (append_assoc h.gap q.front (spelling t)))
        ∙ sym (append_assoc (spelling u) (h.gap ++ q.front) (spelling t));
    spells =
        spells_next [] u (h.gap ++ q.bytes) refl refl h.valid
        (stops_front (continues u) (h.gap ++ q.bytes) q.rest (subst (Stops (continues u)) inner h.stops))
        (blanks_before h.gap h.blank q.spells);
  }
    where
      inner : h.gap ++ drop (o (suc i)) text ≡ (h.gap ++ q.bytes) ++ q.rest
      inner = ap (◌++◌ h.gap) q.written ∙ sym (append_assoc h.gap q.bytes q.rest)

  -- The text from a token to the end of a later one.
  pub part : (i : ℕ) (ts : List Token) (t : Token) → Stand i (ts ++ t ∷ []) → Part text o i ts t
  part i [] t h = one_token i t h.0
  part i (u ∷ ts) t h = token_before i u ts t h.0 (part (suc i) ts t h.1)

  -- What a scan from offset `at` on tells of the tokens from number `i` on.
  pub record Behind (at : ℕ) (s : Bytes) (i : ℕ) (ts : List Token) : Type 0 where
    pub gap : Bytes
    pub written : s ≡ gap ++ drop (o i) text
    pub blank : every is_blank_byte gap ≡ true
    pub starts : o i ≡ at + length gap
    pub stand : Stand i ts

  module _ (at : ℕ) (s : Bytes) (p : Placed) (ps : List Placed) (g : First at s p ps) (d : drop at text ≡ s) where
    -- The first token stands in the text, ..
    ahead : drop p.start text ≡ spelling p.token ++ g.rest
    ahead =
        ap (λ n. drop n text) g.starts ∙ sym (drop-drop (length g.gap) at text)
        ∙ ap (drop (length g.gap)) (d ∙ g.written) ∙ drop-append_seam g.gap (spelling p.token ++ g.rest)

    rest_ahead : drop (p.start + length (spelling p.token)) text ≡ g.rest
    rest_ahead =
        sym (drop-drop (length (spelling p.token)) p.start text) ∙ ap (drop (length (spelling p.token))) ahead
        ∙ drop-append_seam (spelling p.token) g.rest

    -- .. with blanks behind it.
    first_stands :
        (i : ℕ) (ts : List Token) → o i ≡ p.start → Behind (p.start + length (spelling p.token)) g.rest (suc i) ts
        → Behind at s i (p.token ∷ ts)
    first_stands i ts e b = record {
      gap = g.gap;
      written = g.written ∙ ap (◌++◌ g.gap) (sym here);
      blank = g.blank;
      starts = e ∙ g.starts;
      stand = (
        record {
          gap = b.gap;
          written = here ∙ ap (◌++◌ (spelling p.token)) b.written;
          blank = b.blank;
          behind = b.starts ∙ ap (λ n. n + length (spelling p.token) + length b.gap) (sym e);
          valid = g.valid;
          stops = subst (Stops (continues p.token)) b.written g.stops;
        },
        b.stand,
      );
    }
      where
        here : drop (o i) text ≡ spelling p.token ++ g.rest
        here = ap (λ n. drop n text) e ∙ ahead

  -- The tokens that a scan finds from offset `at` on, if `o` gives their offsets and behind the last one the length of the text.
  scan-stands :
      (room at : ℕ) (s : Bytes) (ps : List Placed) (i : ℕ) → scan room at s ≡ passed ps → drop at text ≡ s → at + length s ≡ length text
      → ((j : ℕ) → j ≤ length ps → o (i + j) ≡ get_or (starts_of ps ++ length text ∷ []) j 0) → Behind at s i (tokens_of ps)
  unfolding tokens_of starts_of
  scan-stands room at s [] i h d l f =
      let e : o i ≡ length text = ap o (omega arith) ∙ f 0 (omega arith) in
      record {
        gap = s;
        written = sym (append-nil s) ∙ ap (◌++◌ s) (sym (drop_of_length-le text {i = o i} (omega arith)));
        blank = blank_end (scan-spelled room at s [] h);
        starts = omega arith;
        stand = tt;
      }
  scan-stands room at s (p ∷ ps) i h d l f =
      let g = first_found room at s h in
      first_stands at s p ps g d i (tokens_of ps) (ap o (omega arith) ∙ f 0 (omega arith))
      (scan-stands g.room (p.start + length (spelling p.token)) g.rest ps (suc i) g.further (rest_ahead at s p ps g d)
      (omega (arith, g.starts, first_size_lem at s g)) (λ j k. ap o (omega arith) ∙ f (suc j) (omega arith)))

-- The tokens of a text stand at the offsets that the words of its nodes are made of; before the first stand blanks.
pub offsets_behind :
    (room : ℕ) (text : Bytes) (ps : List Placed) → scan room 0 text ≡ passed ps
    → Behind text (offset_of text ps) 0 text 0 (tokens_of ps)
unfolding offset_of
offsets_behind room text ps h =
    scan-stands text (offset_of text ps) room 0 text ps 0 h refl (omega arith) (λ j k. ap (offset_of text ps) (omega arith))

pub offsets_stand :
    (room : ℕ) (text : Bytes) (ps : List Placed) → scan room 0 text ≡ passed ps → Stand text (offset_of text ps) 0 (tokens_of ps)
offsets_stand room text ps h = (offsets_behind room text ps h).stand
