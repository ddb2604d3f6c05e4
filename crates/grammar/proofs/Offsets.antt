-- Tokens stand where the scan says: the first stands behind the blanks, the others in what follows it, and so on. So a text with the
-- kinds, offsets and lengths of its tokens gives the tokens back.
use mathlib.Core.Path.{◌≡◌, refl, sym, ap, ap₂, subst, ◌∙◌}
use mathlib.Core.Bool.{true}
use mathlib.Core.List.{List, [], ◌∷◌, ◌++◌, append_assoc}
use Prim.Native.Nat.{ℕ, zero, suc, ◌+◌, ◌-◌, ◌≤◌}
use native.Mathlib.Omega.{arith}
use native.Mathlib.Nat.{sub-zero}
use lib.ListN.{length, take, drop, length-append}
use lib.Seq.{take-append_seam, drop-append_seam, drop-append-add, drop-drop}
use Rattle.grammar.specs.Bytes.{All, Bytes, every}
use Rattle.grammar.specs.Token.{
  atom,
  structure,
  is_blank_byte,
  Token,
  symbol,
  number,
  quoted,
  opening,
  closing,
  semicolon,
  keyword_let,
  keyword_in,
  keyword_end,
  spelling,
  is_token,
  Atom,
  Structure,
  structure_number,
  as_written,
  doubled,
}
use Rattle.grammar.specs.Spelling.{continues, Stops}
use Rattle.grammar.specs.Outcome.{Outcome, refused, passed}
use Rattle.grammar.specs.Scan.{Placed, run, Front, nothing, wrong, taken, front, before, scan}
use Rattle.grammar.specs.Nodes.{written_offset}
use Rattle.grammar.specs.Coded.{kind_of, token_of}
use Rattle.grammar.proofs.Lists.{all_map}
use Rattle.grammar.proofs.Doubling.{undoubled-doubled}
use Rattle.grammar.proofs.Runs.{ran, front-spelled}
use Rattle.grammar.proofs.Scanned.{Next, next_token, refused_not_passed}
use Rattle.grammar.proofs.Logic.{impossible}

-- The token stands at its offset in the text `s`, which begins at offset `at`, and is the one that is taken there.
abbrev pub Stands : ℕ → Bytes → Placed → Type 0
Stands at s p =
    (at ≤ p.start) × (p.start + length (spelling p.token) ≤ at + length s)
    × ((rest : Bytes) × (drop (p.start - at) s ≡ spelling p.token ++ rest))
    × (front (drop (p.start - at) s) ≡ taken p.token (length (spelling p.token)))

-- Each token starts at or behind the end of the one before; the first at or behind `n`.
abbrev pub Ascend : ℕ → List Placed → Type 0
Ascend n [] = Unit {0}
Ascend n (p ∷ ps) = (n ≤ p.start) × Ascend (p.start + length (spelling p.token)) ps

-- What a scan that found the tokens `p ∷ ps` found first, and the scan of what follows.
pub record First (at : ℕ) (s : Bytes) (p : Placed) (ps : List Placed) : Type 0 where
  pub gap : Bytes
  pub rest : Bytes
  pub room : ℕ
  pub written : s ≡ gap ++ (spelling p.token ++ rest)
  pub blank : every is_blank_byte gap ≡ true
  pub starts : p.start ≡ at + length gap
  pub valid : is_token p.token ≡ true
  pub stops : Stops (continues p.token) rest
  pub found : front (spelling p.token ++ rest) ≡ taken p.token (length (spelling p.token))
  pub further : scan room (p.start + length (spelling p.token)) rest ≡ passed ps

-- A token taken behind the blanks stands there.
first_taken :
    (room at : ℕ) (s : Bytes) (t : Token) (m : ℕ) (ps : List Placed) → front (drop (run is_blank_byte s) s) ≡ taken t m
    → scan room (at + run is_blank_byte s + m) (drop (run is_blank_byte s + m) s) ≡ passed ps
    → First at s (record { token = t; start = at + run is_blank_byte s }) ps
first_taken room at s t m ps e h = record {
  gap = take n s;
  rest = here.rest;
  room = room;
  written = here.written;
  blank = (ran is_blank_byte s).passes;
  starts = ap (◌+◌ at) (sym (ran is_blank_byte s).size);
  valid = here.valid;
  stops = here.stops;
  found = front-spelled t here.valid here.rest here.stops;
  further = ap₂ (λ k v. scan room (at + n + k) v) (sym here.size) (sym here.behind) ∙ h;
}
  where
    n : ℕ
    n = run is_blank_byte s

    here : Next s t m
    here = next_token s t m e

module _ {p : Placed} {ps : List Placed} where
  -- The front of the text was a token.
  front-taken :
      {C : Type 0} (a : ℕ) (f : Front) {further : Token → ℕ → Outcome (List Placed)}
      → elim f [ nothing ↦ passed [] | wrong k ↦ refused k a | taken t m ↦ further t m ] ≡ passed (p ∷ ps)
      → ((t : Token) (m : ℕ) → f ≡ taken t m → further t m ≡ passed (p ∷ ps) → C) → C
  front-taken a nothing e then = impossible cc
  front-taken a (wrong k) e then = absurd (refused_not_passed refl e)
  front-taken a (taken t m) e then = then t m refl e

  before_passed : (q : Placed) (o : Outcome (List Placed)) → before q o ≡ passed (p ∷ ps) → (q ≡ p) × (o ≡ passed ps)
  unfolding before
  before_passed q (refused k a) e = absurd (refused_not_passed refl e)
  before_passed q (passed qs) e = (cc, cc)

  pub first_found : (room at : ℕ) (s : Bytes) → scan room at s ≡ passed (p ∷ ps) → First at s p ps
  unfolding scan
  first_found zero at s h =
      front-taken (at + run is_blank_byte s) (front (drop (run is_blank_byte s) s)) h λ t m e f. absurd (refused_not_passed refl f)
  first_found (suc room) at s h =
      front-taken (at + run is_blank_byte s) (front (drop (run is_blank_byte s) s)) h λ t m e f.
      let (same, further) = before_passed _ _ f in
      subst (λ q. First at s q ps) same (first_taken room at s t m ps e further)

  pub first_size_lem : (at : ℕ) (s : Bytes) (f : First at s p ps) → length s ≡ length f.gap + (length (spelling p.token) + length f.rest)
  first_size_lem at s f =
      ap length f.written
      ∙ length-append f.gap (spelling p.token ++ f.rest)
      ∙ ap (◌+◌ (length f.gap)) (length-append (spelling p.token) f.rest)

  -- The first token stands in the text, ..
  first_stands : (at : ℕ) (s : Bytes) → First at s p ps → Stands at s p
  first_stands at s f = (
    omega (arith, f.starts),
    omega (arith, f.starts, first_size_lem at s f),
    (f.rest, ahead),
    ap front ahead ∙ f.found,
  )
    where
      offset : p.start - at ≡ length f.gap
      offset = omega (arith, f.starts)

      ahead : drop (p.start - at) s ≡ spelling p.token ++ f.rest
      ahead = ap₂ drop offset f.written ∙ drop-append_seam f.gap (spelling p.token ++ f.rest)

  -- .. and what stands in the text behind it stands in the whole.
  behind-stands : (at : ℕ) (s : Bytes) (f : First at s p ps) (q : Placed) → Stands (p.start + length (spelling p.token)) f.rest q → Stands at s q
  behind-stands at s f q (low, high, (v, e), g) = (
    omega (arith, f.starts),
    omega (arith, f.starts, first_size_lem at s f),
    (v, ahead ∙ e),
    ap front ahead ∙ g,
  )
    where
      n : ℕ
      n = q.start - (p.start + length (spelling p.token))

      offset : q.start - at ≡ length f.gap + (length (spelling p.token) + n)
      offset = omega (arith, f.starts)

      ahead : drop (q.start - at) s ≡ drop n f.rest
      ahead =
          ap₂ drop offset f.written
          ∙ drop-append-add f.gap (spelling p.token ++ f.rest) (length (spelling p.token) + n)
          ∙ drop-append-add (spelling p.token) f.rest n

-- Each token's spelling stands in the text at its offset.
pub token_offsets : (room at : ℕ) (s : Bytes) (ps : List Placed) → scan room at s ≡ passed ps → All (Stands at s) ps
token_offsets room at s [] h = tt
token_offsets room at s (p ∷ ps) h =
    let f = first_found room at s h in
    (first_stands at s f, all_map _ (Stands at s) (behind-stands at s f) ps (token_offsets f.room _ f.rest ps f.further))

-- The offsets ascend.
pub offsets_ascend : (room at : ℕ) (s : Bytes) (ps : List Placed) → scan room at s ≡ passed ps → Ascend at ps
offsets_ascend room at s [] h = tt
offsets_ascend room at s (p ∷ ps) h =
    let f = first_found room at s h in
    ((first_stands at s f).0, offsets_ascend f.room _ f.rest ps f.further)

-- The token stands at its offset in the whole text.
abbrev pub StandsIn : Bytes → Placed → Type 0
StandsIn text p = (rest : Bytes) × (drop p.start text ≡ spelling p.token ++ rest)

pub tokens_stand : (room : ℕ) (text : Bytes) (ps : List Placed) → scan room 0 text ≡ passed ps → All (StandsIn text) ps
tokens_stand room text ps h = all_map (Stands 0 text) (StandsIn text) whole ps (token_offsets room 0 text ps h)
  where
    whole : (p : Placed) → Stands 0 text p → StandsIn text p
    whole p s = (s.2.0, ap (λ n. drop n text) (sym (sub-zero p.start)) ∙ s.2.1)

-- The bytes of a name or number stand in the text as written, ..
pub written_stands :
    (text : Bytes) (a : Atom) (start : ℕ) (rest : Bytes) → drop start text ≡ spelling (atom a) ++ rest
    → take (length (as_written a)) (drop (written_offset a start) text) ≡ as_written a
unfolding written_offset spelling as_written
written_stands text (symbol w) start rest e = ap (take (length w)) e ∙ take-append_seam w rest
written_stands text (number d) start rest e = ap (take (length d)) e ∙ take-append_seam d rest
written_stands text (quoted c) start rest e =
    ap (take (length (doubled c))) (sym (drop-drop 1 start text) ∙ ap (drop 1) e ∙ append_assoc (doubled c) (39 ∷ []) rest)
    ∙ take-append_seam (doubled c) (39 ∷ rest)

-- The kind and the bytes of an atom as written, or the kind of a token of structure, give it back.
pub atom_coded : (a : Atom) → token_of (kind_of (atom a)) (as_written a) ≡ atom a
unfolding token_of kind_of as_written
atom_coded (symbol w) = refl
atom_coded (number d) = refl
atom_coded (quoted c) = ap (λ d. atom (quoted d)) (undoubled-doubled c)

pub structure_coded : (s : Structure) (c : Bytes) → token_of (kind_of (structure s)) c ≡ structure s
unfolding token_of kind_of structure_number
structure_coded opening c = refl
structure_coded closing c = refl
structure_coded semicolon c = refl
structure_coded keyword_let c = refl
structure_coded keyword_in c = refl
structure_coded keyword_end c = refl
