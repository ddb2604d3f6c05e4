-- What a row holds that begins with the tokens of a text: each token with its kind and its bytes as written, where the text has it.
-- The tokens of a scan stand at their offsets with blanks between them, so token number `j` of the row is read off the text there.
use mathlib.Core.Path.{◌≡◌, refl, sym, ap, ap₂, subst, ◌∙◌}
use mathlib.Core.Bool.{true}
use mathlib.Core.List.{List, [], ◌∷◌, ◌++◌, map}
use Prim.Native.Nat.{ℕ, zero, suc, ◌+◌, ◌-◌, ◌≤◌, ◌<◌}
use native.Mathlib.Omega.{arith}
use lib.ListN.{length, take, drop, get_or, length-append, length-drop, length-take, length-map, get_or-append}
use lib.Seq.{drop-length, get_or_at, ext_get_or, drop-drop, drop-append_seam}
use Rattle.grammar.specs.Fault.{longest_text, most_tokens}
use Rattle.grammar.specs.Bytes.{Bytes}
use Rattle.grammar.specs.Token.{Token, structure, semicolon, is_blank_byte, spelling, is_token}
use Rattle.grammar.specs.Spelling.{Stops}
use Rattle.grammar.specs.Scan.{Placed, run, front, taken}
use Rattle.grammar.specs.Coded.{kind_of}
use Rattle.grammar.specs.Answer.{tokens_of, starts_of, offset_of}
use Rattle.grammar.proofs.Doubling.{IsDoubled}
use Rattle.grammar.proofs.Logic.{below}
use Rattle.grammar.proofs.Runs.{run-append, front-spelled}
use Rattle.grammar.proofs.Scanned.{scan-tokens, length_tokens, taken_not_blank}
use Rattle.grammar.proofs.TextParts.{Here, Stand, Behind, offsets_behind, offsets_stand}
use Rattle.rows.specs.Fields.{TokenRow, kind, start, first_byte, size}
use Rattle.rows.specs.Tokens.{written_of, token_in, range, place_of, size_of, kind_at, place_at, size_at, Stored}
use Rattle.rows.proofs.Fields.{first_quoted, first_other}
use Rattle.rows.proofs.Ranges.{length-range, range_token}
use Rattle.rows.proofs.TokenBytes.{kind_bounds, place_quoted, place_plain, token_ends, size_bound, size_plain, size_atom}
use Rattle.rows.proofs.TokenBytes.{token_bytes, written-within, place_within, read-doubled, token_read}

abbrev start_at : Placed → ℕ
start_at p = p.start

starts_map : (ps : List Placed) → starts_of ps ≡ map start_at ps
unfolding starts_of
starts_map [] = refl
starts_map (p ∷ ps) = ap (◌∷◌ p.start) (starts_map ps)

starts_length : (ps : List Placed) → length (starts_of ps) ≡ length ps
starts_length ps = ap length (starts_map ps) ∙ length-map ps start_at

-- Token number `j` of a list; each list made of the tokens has there what is made of this one.
record Numbered (text : Bytes) (o : ℕ → ℕ) (i : ℕ) (ps : List Placed) (j : ℕ) : Type 0 where
  place : Placed
  here : Here text o (i + j) place.token
  made : (f : Placed → ℕ) → get_or (map f ps) j 0 ≡ f place
  listed : (d : Token) → get_or (tokens_of ps) j d ≡ place.token

numbered :
    (text : Bytes) (o : ℕ → ℕ) (i : ℕ) (ps : List Placed) → Stand text o i (tokens_of ps) → (j : ℕ) → j < length ps
    → Numbered text o i ps j
unfolding tokens_of
numbered text o i [] s j h = absurd (omega arith)
numbered text o i (p ∷ ps) s zero h =
    record { place = p; here = subst (λ k. Here text o k p.token) (omega arith) s.0; made = λ f. refl; listed = λ d. refl }
numbered text o i (p ∷ ps) s (suc j) h =
    let n = numbered text o (suc i) ps s.1 j (omega arith) in
    record {
      place = n.place;
      here = subst (λ k. Here text o k n.place.token) (omega arith) n.here;
      made = n.made;
      listed = n.listed;
    }

module _ {text : Bytes} {ps : List Placed} {K : TokenRow} (v : Stored text ps K) where
  pub stored_few : length ps ≤ most_tokens
  stored_few = (scan-tokens most_tokens 0 text ps v.scanned).1

  -- Behind the last token stands the end of the text.
  pub stored_end : offset_of text ps (length ps) ≡ length text
  unfolding offset_of
  stored_end = get_or_at (starts_of ps) (length text) [] 0 (length ps) (starts_length ps)

  module _ (j : ℕ) (h : j < length ps) where
    token : Numbered text (offset_of text ps) 0 ps j
    token = numbered text (offset_of text ps) 0 ps (offsets_stand most_tokens text ps v.scanned) j h

    offset : token.place.start ≡ offset_of text ps j
    unfolding offset_of
    offset =
        sym (token.made start_at)
        ∙ ap (λ l. get_or l j 0) (sym (starts_map ps))
        ∙ sym (get_or-append (starts_of ps) (length text ∷ []) 0 j (omega (arith, starts_length ps)))

    placed : Here text (offset_of text ps) j token.place.token
    placed = subst (λ k. Here text (offset_of text ps) k token.place.token) (omega arith) token.here

    kind-placed : kind K j ≡ kind_of token.place.token
    kind-placed = v.kinds j h ∙ token.made kind_at

    start-placed : start K j ≡ place_of token.place.token (offset_of text ps j)
    start-placed = v.starts j h ∙ token.made place_at ∙ ap (place_of token.place.token) offset

    size-placed : size K j ≡ size_of token.place.token
    size-placed = v.sizes j h ∙ token.made size_at

    read : token_in text K j ≡ token.place.token
    unfolding token_in
    read = rw (kind-placed, start-placed, size-placed) (token_read text token.place.token (offset_of text ps j) _ placed.written)

    -- Token number `j` stands in the text at its offset, with blanks behind it.
    pub stored_here : Here text (offset_of text ps) j (token_in text K j)
    stored_here = subst (Here text (offset_of text ps) j) (sym read) placed

    pub stored_valid : is_token (token_in text K j) ≡ true
    stored_valid = stored_here.valid

    -- It is token number `j` of the text, with its kind, the place of its bytes and their number.
    pub stored_token : (d : Token) → get_or (tokens_of ps) j d ≡ token_in text K j
    stored_token d = token.listed d ∙ sym read

    pub stored_kind : kind K j ≡ kind_of (token_in text K j)
    stored_kind = kind-placed ∙ ap kind_of (sym read)

    pub stored_place : start K j ≡ place_of (token_in text K j) (offset_of text ps j)
    stored_place = start-placed ∙ ap (λ t. place_of t (offset_of text ps j)) (sym read)

    pub stored_size : size K j ≡ size_of (token_in text K j)
    stored_size = size-placed ∙ ap size_of (sym read)

    -- The bytes of a quoted name begin behind its quote, those of any other token at its offset.
    pub stored_quoted : kind K j ≡ 3 → start K j ≡ suc (offset_of text ps j)
    stored_quoted e = stored_place ∙ place_quoted (token_in text K j) (offset_of text ps j) (sym stored_kind ∙ e)

    pub stored_offset : (kind K j ≡ 3 → ⊥) → start K j ≡ offset_of text ps j
    stored_offset d = stored_place ∙ place_plain (token_in text K j) (offset_of text ps j) (λ e. d (stored_kind ∙ e))

    -- Where the first byte stands.
    pub stored_byte : first_byte K j ≡ offset_of text ps j
    stored_byte =
        below (kind K j) 3 (λ a. plain (λ z. omega arith)) (λ a. below 3 (kind K j) (λ b. plain (λ z. omega arith)) (λ b. quoted (omega arith)))
      where
        quoted : kind K j ≡ 3 → first_byte K j ≡ offset_of text ps j
        quoted e = first_quoted K j e ∙ omega (arith, stored_quoted e)

        plain : (kind K j ≡ 3 → ⊥) → first_byte K j ≡ offset_of text ps j
        plain d = first_other K j d ∙ stored_offset d

    -- The kinds are those of tokens, and there are few bytes, of an atom one at least.
    pub stored_kinds : (1 ≤ kind K j) × (kind K j ≤ 9)
    stored_kinds = omega (arith, stored_kind, kind_bounds (token_in text K j))

    pub stored_sizes : size K j ≤ 126
    stored_sizes = omega (arith, stored_size, size_bound (token_in text K j) stored_valid)

    pub stored_short : (kind K j ≡ 3 → ⊥) → size K j ≤ 63
    stored_short d = omega (arith, stored_size, size_plain (token_in text K j) stored_valid (λ e. d (stored_kind ∙ e)))

    pub stored_sized : kind K j ≤ 3 → 1 ≤ size K j
    stored_sized l = omega (arith, stored_size, size_atom (token_in text K j) stored_valid (omega (arith, stored_kind)))

    -- A token ends within the text, and so its bytes begin and end there.
    pub spelled-within : offset_of text ps j + length (spelling (token_in text K j)) ≤ length text
    spelled-within =
        omega (
          arith,
          ap length stored_here.written,
          length-append (spelling (token_in text K j)) (stored_here.gap ++ drop (offset_of text ps (suc j)) text),
          length-drop (offset_of text ps j) text,
          token_bytes (token_in text K j) stored_valid,
        )

    pub stored_within : start K j + size K j ≤ length text
    stored_within =
        omega (arith, stored_place, stored_size, written-within (token_in text K j) (offset_of text ps j), spelled-within)

    pub stored_begins : start K j < length text
    stored_begins = omega (arith, stored_place, place_within (token_in text K j) (offset_of text ps j) stored_valid, spelled-within)

    pub stored_starts : length text ≤ longest_text → start K j < longest_text
    stored_starts short = omega (arith, stored_begins)

    -- So does a part of the text that begins where they do and is as long; it has as many bytes.
    pub part_ends : {s n : ℕ} → s ≡ start K j → n ≡ size K j → s + n ≤ length text
    part_ends a b = omega (arith, stored_within)

    pub stored_written : length (written_of text K j) ≡ size K j
    stored_written = simp (length-take, length-drop) (omega (arith, stored_within))

    -- Those of a quoted name are its characters doubled.
    pub stored_doubled : kind K j ≡ 3 → IsDoubled (written_of text K j)
    stored_doubled e =
        rw (stored_place, stored_size)
        (read-doubled text (token_in text K j) (offset_of text ps j) _ stored_here.written (sym stored_kind ∙ e))

    -- At its offset the scan finds it.
    spelled : front (spelling (token_in text K j) ++ (stored_here.gap ++ drop (offset_of text ps (suc j)) text))
        ≡ taken (token_in text K j) (length (spelling (token_in text K j)))
    spelled = front-spelled (token_in text K j) stored_valid _ stored_here.stops

    pub stored_front : front (drop (offset_of text ps j) text) ≡ taken (token_in text K j) (length (spelling (token_in text K j)))
    stored_front = ap front stored_here.written ∙ spelled

    pub stored_apart : offset_of text ps j + length (spelling (token_in text K j)) ≤ offset_of text ps (suc j)
    stored_apart = omega (arith, stored_here.behind)

  -- The row has the tokens of the text.
  pub stored_tokens : range text K 0 (length ps) ≡ tokens_of ps
  stored_tokens =
      ext_get_or
      (structure semicolon)
      (range text K 0 (length ps))
      (tokens_of ps)
      (omega (arith, length-range text K 0 (length ps), length_tokens ps))
      same
    where
      same :
          (j : ℕ) → j < length (range text K 0 (length ps))
          → get_or (range text K 0 (length ps)) j (structure semicolon) ≡ get_or (tokens_of ps) j (structure semicolon)
      same j l =
          let h : j < length ps = omega (arith, length-range text K 0 (length ps)) in
          range_token text K 0 (length ps) j (structure semicolon) (omega arith)
          ∙ ap (token_in text K) (omega arith)
          ∙ sym (stored_token j h (structure semicolon))

  -- Offsets ascend.
  pub stored_ascend : (i j : ℕ) → i ≤ j → j ≤ length ps → offset_of text ps i ≤ offset_of text ps j
  stored_ascend i zero l h = let e : i ≡ 0 = omega arith in rw e (omega arith)
  stored_ascend i (suc j) l h =
      below
      i
      (suc j)
      (λ m. omega (arith, stored_ascend i j (omega arith) (omega arith), stored_apart j h))
      (λ m. let e : i ≡ suc j = omega arith in rw e (omega arith))

  pub stored_before : (i j : ℕ) → i < j → j ≤ length ps → start K i + size K i ≤ offset_of text ps j
  stored_before i j l h =
      let k : i < length ps = omega arith in
      omega (
        arith,
        stored_place i k,
        stored_size i k,
        written-within (token_in text K i) (offset_of text ps i),
        stored_apart i k,
        stored_ascend (suc i) j l h,
      )

  -- At no token and not at the end of the text stands a blank.
  begins : (i : ℕ) → i ≤ length ps → Stops is_blank_byte (drop (offset_of text ps i) text)
  begins i h = below i (length ps) (λ l. taken_not_blank _ _ _ (stored_front i l)) ending
    where
      ending : length ps ≤ i → Stops is_blank_byte (drop (offset_of text ps i) text)
      ending l =
          let e : offset_of text ps i ≡ length text = ap (offset_of text ps) (omega arith) ∙ stored_end in
          rw (e, drop-length text) tt

  -- The first token stands behind the blanks at the front, ..
  pub stored_first : offset_of text ps 0 ≡ run is_blank_byte text
  stored_first = omega (arith, b.starts, blanks)
    where
      b : Behind text (offset_of text ps) 0 text 0 (tokens_of ps)
      b = offsets_behind most_tokens text ps v.scanned

      blanks : run is_blank_byte text ≡ length b.gap
      blanks = ap (run is_blank_byte) b.written ∙ run-append is_blank_byte b.gap _ b.blank (begins 0 (omega arith))

  -- .. and the next one, or the end of the text, behind the blanks behind a token.
  module _ (j : ℕ) (h : j < length ps) where
    next_from :
        (e : ℕ) → e ≡ offset_of text ps j + length (spelling (token_in text K j))
        → offset_of text ps (suc j) ≡ e + run is_blank_byte (drop e text)
    next_from e d = omega (arith, b.behind, blanks)
      where
        b : Here text (offset_of text ps) j (token_in text K j)
        b = stored_here j h

        t : Bytes
        t = spelling (token_in text K j)

        behind : drop e text ≡ b.gap ++ drop (offset_of text ps (suc j)) text
        behind =
            ap (λ n. drop n text) d
            ∙ sym (drop-drop (length t) (offset_of text ps j) text)
            ∙ ap (drop (length t)) b.written
            ∙ drop-append_seam t (b.gap ++ drop (offset_of text ps (suc j)) text)

        blanks : run is_blank_byte (drop e text) ≡ length b.gap
        blanks = ap (run is_blank_byte) behind ∙ run-append is_blank_byte b.gap _ b.blank (begins (suc j) h)

    pub stored_next :
        (3 ≤ kind K j → kind K j ≤ 5 → ⊥)
        → offset_of text ps (suc j) ≡ start K j + size K j + run is_blank_byte (drop (start K j + size K j) text)
    stored_next d =
        next_from
        (start K j + size K j)
        (ap₂ ◌+◌ (stored_place j h) (stored_size j h)
        ∙ (token_ends (token_in text K j) (offset_of text ps j)).plain
        (λ l m. d (omega (arith, stored_kind j h)) (omega (arith, stored_kind j h))))

    pub stored_next_enclosed :
        3 ≤ kind K j → kind K j ≤ 5
        → offset_of text ps (suc j) ≡ suc (start K j + size K j) + run is_blank_byte (drop (suc (start K j + size K j)) text)
    stored_next_enclosed l m =
        next_from
        (suc (start K j + size K j))
        (ap suc (ap₂ ◌+◌ (stored_place j h) (stored_size j h))
        ∙ (token_ends (token_in text K j) (offset_of text ps j)).enclosed (omega (arith, stored_kind j h)) (omega (arith, stored_kind j h)))

-- The part of the text from where the bytes of a token begin, as long as they are.
pub part_written :
    (text : Bytes) (K : TokenRow) (j : ℕ) {s n : ℕ} → s ≡ start K j → n ≡ size K j → take (s + n - s) (drop s text) ≡ written_of text K j
part_written text K j {s} {n} a b = let e : s + n - s ≡ size K j = omega arith in rw (e, a)

-- A row with the same kinds, places and sizes has the same tokens.
pub stored_kept :
    {text : Bytes} {ps : List Placed} (K K' : TokenRow) → ((j : ℕ) → kind K' j ≡ kind K j) → ((j : ℕ) → start K' j ≡ start K j)
    → ((j : ℕ) → size K' j ≡ size K j) → Stored text ps K → Stored text ps K'
stored_kept K K' kinds starts sizes v = record {
  scanned = v.scanned;
  kinds = λ j h. kinds j ∙ v.kinds j h;
  starts = λ j h. starts j ∙ v.starts j h;
  sizes = λ j h. sizes j ∙ v.sizes j h;
}
