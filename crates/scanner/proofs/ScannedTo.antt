-- A scan as far as it has come: the tokens found so far stand in the row, and the whole scan's outcome is theirs before that of a scan of
-- the rest. Each turn passes a blank byte, or stores one token more, or ends the scan with a refusal.
use mathlib.Core.Path.{◌≡◌, refl, sym, ap, subst, ◌∙◌}
use mathlib.Core.Bool.{Bool, true, false, true≢false, not, ◌||◌}
use mathlib.Core.List.{List, [], ◌∷◌, ◌++◌, map, map-append, append-nil}
use Prim.Native.Nat.{ℕ, suc, ◌+◌, ◌-◌, ◌≤◌, ◌<◌}
use native.Mathlib.Omega.{arith}
use lib.Dec.{leb}
use borrow.Author.Tests.{leb-true}
use lib.ListN.{length, drop, get_or, length-append, length-map, length-drop, drop_of_length-le, get_or-append}
use lib.Seq.{drop-drop, get_or-append_seam}
use Rattle.grammar.specs.Fault.{most_tokens}
use Rattle.grammar.specs.Token.{Token, atom, structure, symbol, number, quoted, doubled, is_blank_byte, spelling, structure_number}
use Rattle.grammar.specs.Token.{opening, closing, semicolon, keyword_let, keyword_in, keyword_end, is_word, is_sign, is_number, is_symbol, is_token}
use Rattle.grammar.specs.Outcome.{refused, passed}
use Rattle.grammar.specs.Scan.{Placed, nothing, wrong, taken, run, front, scan}
use Rattle.grammar.specs.Scan as Scan
use Rattle.grammar.specs.Coded.{kind_of}
use Rattle.grammar.proofs.Logic.{below}
use Rattle.grammar.proofs.Taken.{Begins, Told, front_told}
use Rattle.std.specs.Prelude.{Result, Ok, Err, IsErrAnd}
use Rattle.refusals.specs.declared.Refusal.{Refusal}
use Rattle.refusals.specs.declared.Refused.{Refused}
use Rattle.refusals.specs.Numbers.{number_of}
use Rattle.rows.specs.declared.token.Token.{Token as Entry}
use Rattle.rows.specs.Kinds.{kind_code}
use Rattle.rows.specs.Fields.{TokenRow, token, kind, start, size}
use Rattle.rows.specs.Tokens.{kind_at, place_at, size_at}
use Rattle.byte_strings.proofs.Suffixes.{drop_next, run_stop}
use Rattle.scanner.specs.declared.fronts.Front.{Front}
use Rattle.scanner.specs.declared.scan.Scanned.{Scanned}
use Rattle.scanner.specs.Scanning.{Fronts, Scannable, Storable, TokenStored, Stores, Scans}
use Rattle.scanner.proofs.ScanSteps.{before_none, at_place, scan-blank, scan_wrong, scan_full, scan_token, scan_none, before_all, before_one}

-- A field of the first entries of a row is that of the tokens found.
abbrev pub Held : (Entry → ℕ) → (Placed → ℕ) → TokenRow → List Placed → Type 0
Held g f K ps = (j : ℕ) → j < length ps → g (token K j) ≡ get_or (map f ps) j 0

held_next :
    (g : Entry → ℕ) (f : Placed → ℕ) (K K' : TokenRow) (ps : List Placed) (p : Placed)
    → ((j : ℕ) → j < length ps → token K' j ≡ token K j) → g (token K' (length ps)) ≡ f p → Held g f K ps
    → Held g f K' (ps ++ p ∷ [])
held_next g f K K' ps p kept new held j h = below j (length ps) before here
  where
    both : map f (ps ++ p ∷ []) ≡ map f ps ++ f p ∷ []
    both = map-append f ps (p ∷ [])

    before : j < length ps → g (token K' j) ≡ get_or (map f (ps ++ p ∷ [])) j 0
    before l =
        ap g (kept j l) ∙ held j l ∙ sym (get_or-append (map f ps) (f p ∷ []) 0 j (omega (arith, length-map ps f)))
        ∙ ap (λ xs. get_or xs j 0) (sym both)

    last : get_or (map f (ps ++ p ∷ [])) (length ps) 0 ≡ f p
    last =
        ap (λ xs. get_or xs (length ps) 0) both
        ∙ ap (λ n. get_or (map f ps ++ f p ∷ []) n 0) (sym (length-map ps f))
        ∙ get_or-append_seam (map f ps) (f p) [] 0

    here : length ps ≤ j → g (token K' j) ≡ get_or (map f (ps ++ p ∷ [])) j 0
    here l = let e : j ≡ length ps = omega (arith, length-append ps (p ∷ [])) in rw e (new ∙ sym last)

-- A token has a byte, and a quoted name its quotes.
token_bytes : (t : Token) → is_token t ≡ true → (1 ≤ length (spelling t)) × (kind_of t ≡ 3 → 2 ≤ length (spelling t))
unfolding is_token is_symbol is_word is_sign is_number spelling kind_of structure_number
token_bytes (atom (symbol [])) e = absurd (true≢false (sym e))
token_bytes (atom (symbol (b ∷ w))) e = (omega arith, λ k. absurd (omega arith))
token_bytes (atom (number [])) e = absurd (true≢false (sym e))
token_bytes (atom (number (b ∷ d))) e = (omega arith, λ k. absurd (omega arith))
token_bytes (atom (quoted c)) e = (omega arith, λ k. omega (arith, length-append (doubled c) (39 ∷ [])))
token_bytes (structure opening) e = (omega arith, λ k. absurd (omega arith))
token_bytes (structure closing) e = (omega arith, λ k. absurd (omega arith))
token_bytes (structure semicolon) e = (omega arith, λ k. absurd (omega arith))
token_bytes (structure keyword_let) e = (omega arith, λ k. absurd (omega arith))
token_bytes (structure keyword_in) e = (omega arith, λ k. absurd (omega arith))
token_bytes (structure keyword_end) e = (omega arith, λ k. absurd (omega arith))

-- What the code's answer tells of what stands there.
told_wrong : (f : Scan.Front) → (f ≡ nothing → ⊥) → (e : Refusal) → Fronts f (Err e) → f ≡ wrong (number_of e)
told_wrong nothing g e a = absurd (g refl)
told_wrong (wrong j) g e a = ap wrong (sym a)
told_wrong (taken t m) g e a = absurd a

told_taken :
    (f : Scan.Front) → (f ≡ nothing → ⊥) → (x : Front) → Fronts f (Ok x)
    → (t : Token) × (f ≡ taken t x.size) × (kind_of t ≡ kind_code x.kind)
told_taken nothing g x a = absurd (g refl)
told_taken (wrong j) g x a = absurd a
told_taken (taken t j) g x a = (t, ap (taken t) (sym a.long), sym a.coded)

-- A refusal with the place put to it.
pub placed :
    (f : Scan.Front) (at : ℕ) (e : Refused) (r : Result Front Refusal) → Fronts f r
    → IsErrAnd r (λ w. e ≡ record { refusal = w; at = at }) → (e.at ≡ at) × Fronts f (Err e.refusal)
placed f at e (Ok x) a m = absurd m
placed f at e (Err w) a m = (ap (λ x. x.at) m, subst (λ x. Fronts f (Err x.refusal)) (sym m) a)

-- A token that is no atom sets the mark for structure.
pub still_plain : (nested atomic : Bool) (k : ℕ) → atomic ≡ leb k 3 → nested || not atomic ≡ false → (nested ≡ false) × (k ≤ 3)
still_plain true atomic k e q = cc
still_plain false true k e q = (refl, leb-true k 3 (sym e))
still_plain false false k e q = cc

-- `n` tokens are found and stored, and what is left begins at `at`.
pub record ScannedTo (text : List ℕ) (K : TokenRow) (n at : ℕ) (nested : Bool) : Type 0 where
  pub found : List Placed
  pub many : length found ≡ n
  pub ahead : n ≤ at
  pub room : n ≤ most_tokens
  pub whole : scan most_tokens 0 text ≡ before_all found (scan (most_tokens - n) at (drop at text))
  pub kinds : Held (λ x. kind_code x.kind) kind_at K found
  pub starts : Held (λ x. x.start) place_at K found
  pub sizes : Held (λ x. x.size) size_at K found
  pub plain : nested ≡ false → (j : ℕ) → j < n → kind K j ≤ 3

pub begun : (text : List ℕ) (K : TokenRow) → ScannedTo text K 0 0 false
begun text K = record {
  found = [];
  many = refl;
  ahead = omega arith;
  room = omega arith;
  whole = before_none (scan most_tokens 0 text);
  kinds = λ j h. absurd (omega arith);
  starts = λ j h. absurd (omega arith);
  sizes = λ j h. absurd (omega arith);
  plain = λ e j h. absurd (omega arith);
}

module _ {text : List ℕ} {K : TokenRow} {n at : ℕ} {nested : Bool} (v : ScannedTo text K n at nested) where
  pub at_end : length text ≤ at → (s : Scanned) → s.count ≡ n → s.nested ≡ nested → Scans text K (scan most_tokens 0 text) (Ok s)
  at_end h s q r =
      subst (λ o. Scans text K o (Ok s)) (sym outcome) (
        q ∙ sym v.many,
        record { scanned = outcome; kinds = v.kinds; starts = v.starts; sizes = v.sizes },
        λ e j l. v.plain (sym r ∙ e) j (omega (arith, v.many)),
      )
    where
      none : scan (most_tokens - n) at (drop at text) ≡ passed []
      none = ap (scan (most_tokens - n) at) (drop_of_length-le text h) ∙ scan_none (most_tokens - n) at

      outcome : scan most_tokens 0 text ≡ passed v.found
      outcome = v.whole ∙ ap (before_all v.found) none ∙ ap passed (append-nil v.found)

  module _ (h : at < length text) where
    pub at_blank : is_blank_byte (get_or text at 0) ≡ true → ScannedTo text K n (at + 1) nested
    at_blank b = record {
      found = v.found;
      many = v.many;
      ahead = omega (arith, v.ahead);
      room = v.room;
      whole = v.whole ∙ ap (before_all v.found) passes;
      kinds = v.kinds;
      starts = v.starts;
      sizes = v.sizes;
      plain = v.plain;
    }
      where
        passes : scan (most_tokens - n) at (drop at text) ≡ scan (most_tokens - n) (at + 1) (drop (at + 1) text)
        passes =
            ap (scan (most_tokens - n) at) (drop_next text at h)
            ∙ scan-blank (get_or text at 0) (drop (at + 1) text) b (most_tokens - n) at

    something : front (drop at text) ≡ nothing → ⊥
    something e =
        let f : drop at text ≡ [] = subst (Told (drop at text)) e (front_told (drop at text)) in
        omega (arith, ap length f, length-drop at text)

    no_blank : is_blank_byte (get_or text at 0) ≡ false → run is_blank_byte (drop at text) ≡ 0
    no_blank b = run_stop is_blank_byte text at h b

    -- What stands there, where the byte is no blank: a refusal ..
    module _ (b : is_blank_byte (get_or text at 0) ≡ false) where
      pub at_wrong : (e : Refused) → e.at ≡ at → Fronts (front (drop at text)) (Err e.refusal) → Scans text K (scan most_tokens 0 text) (Err e)
      at_wrong e q a =
          let f = told_wrong (front (drop at text)) something e.refusal a in
          let o = v.whole ∙ ap (before_all v.found) (scan_wrong (drop at text) (no_blank b) at (most_tokens - n) (number_of e.refusal) f) in
          subst (λ o. Scans text K o (Err e)) (sym o) (record { numbered = refl; placed = q })

      -- .. or a token.
      module _ (x : Front) (a : Fronts (front (drop at text)) (Ok x)) where
        abbrev k : ℕ
        k = kind_code x.kind

        abbrev m : ℕ
        m = x.size

        abbrev told : (t : Token) × (front (drop at text) ≡ taken t m) × (kind_of t ≡ k)
        told = told_taken (front (drop at text)) something x a

        abbrev found_token : Token
        found_token = told.0

        begins : Begins (drop at text) found_token m
        begins = subst (Told (drop at text)) told.1 (front_told (drop at text))

        pub next_within : (1 ≤ m) × (at + m ≤ length text)
        next_within = (
          omega (arith, begins.size, (token_bytes found_token begins.valid).0),
          omega (
            arith,
            begins.size,
            ap length begins.written,
            length-append (spelling found_token) begins.rest,
            length-drop at text,
          ),
        )

        pub at_full
            : most_tokens ≤ n → (e : Refused) → number_of e.refusal ≡ 5 → e.at ≡ at → Scans text K (scan most_tokens 0 text) (Err e)
        at_full g e q r = subst (λ o. Scans text K o (Err e)) (sym o) (record { numbered = q; placed = r })
          where
            full : most_tokens - n ≡ 0
            full = omega arith

            o : scan most_tokens 0 text ≡ refused 5 at
            o =
                v.whole
                ∙ ap (λ x. before_all v.found (scan x at (drop at text))) full
                ∙ ap (before_all v.found) (scan_full (drop at text) (no_blank b) at found_token m told.1)

        module _ (g : n < most_tokens) where
          -- The token can be stored ..
          pub storable : (K₀ : TokenRow) → Scannable text K₀ → length K ≡ length K₀ → Storable K n k at m
          storable K₀ s l = record {
            within = (g, omega (arith, s.room n (omega (arith, v.ahead)) g));
            place = omega (arith, s.short);
            short = omega (arith, s.short, next_within);
            quotes = λ q. omega (arith, begins.size, (token_bytes found_token begins.valid).1 (told.2 ∙ q));
          }

          -- .. and then the scan has come behind it.
          pub at_token :
              {K' : TokenRow} {nested' : Bool} → Stores K K' n k at m → (nested' ≡ false → (nested ≡ false) × (k ≤ 3))
              → ScannedTo text K' (n + 1) (at + m) nested'
          at_token {K'} {nested'} w c = record {
            found = v.found ++ here ∷ [];
            many = length-append v.found (here ∷ []) ∙ omega (arith, v.many);
            ahead = omega (arith, v.ahead, next_within);
            room = omega arith;
            whole = further;
            kinds = held_next (λ y. kind_code y.kind) kind_at K K' v.found here kept (ap (kind K') v.many ∙ stored.kinds) v.kinds;
            starts = held_next (λ y. y.start) place_at K K' v.found here kept (ap (start K') v.many ∙ stored.starts) v.starts;
            sizes = held_next (λ y. y.size) size_at K K' v.found here kept (ap (size K') v.many ∙ stored.sizes) v.sizes;
            plain = λ q j l. below j n
                (λ i. omega (arith, v.plain (c q).0 j i, ap (λ y. kind_code y.kind) (stored.kept j i))) (λ i. atom j (omega arith) (c q).1);
          }
            where
              here : Placed
              here = at_place found_token at

              stored : TokenStored K K' n at found_token
              stored = w found_token told.2 (sym begins.size)

              kept : (j : ℕ) → j < length v.found → token K' j ≡ token K j
              kept j q = stored.kept j (omega (arith, v.many))

              atom : (j : ℕ) → j ≡ n → k ≤ 3 → kind K' j ≤ 3
              atom j i q = rw i (omega (arith, stored.kinds, told.2))

              further :
                  scan most_tokens 0 text
                  ≡ before_all (v.found ++ here ∷ []) (scan (most_tokens - (n + 1)) (at + m) (drop (at + m) text))
              further =
                  let i : most_tokens - n ≡ suc (most_tokens - (n + 1)) = omega arith in
                  v.whole
                  ∙ ap (λ x. before_all v.found (scan x at (drop at text))) i
                  ∙ ap (before_all v.found) (scan_token (drop at text) (no_blank b) at found_token m told.1 (most_tokens - (n + 1)))
                  ∙ before_one v.found here (scan (most_tokens - (n + 1)) (at + m) (drop m (drop at text)))
                  ∙ ap (λ s. before_all (v.found ++ here ∷ []) (scan (most_tokens - (n + 1)) (at + m) s)) (drop-drop m at text)
