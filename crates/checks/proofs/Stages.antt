-- What each check says of the reading: where one refuses, that is what reading answers; where it passes, what the next one asks.
use mathlib.Core.Path.{◌≡◌, refl, sym, ap, ◌∙◌}
use mathlib.Core.Bool.{Bool, true, false}
use mathlib.Core.List.{List, [], ◌∷◌}
use Prim.Native.Nat.{ℕ, zero, suc, ◌≤◌, ◌<◌}
use native.Mathlib.Omega.{arith}
use lib.Dec.{ltb}
use lib.ListN.{length}
use mathlib.Core.Logic.{⊎_elim}
use borrow.Author.Tests.{ltb-true, ltb-false, lt-ltb, le-ltb, le-leb}
use Rattle.grammar.proofs.RefusalNumbers.{scan_number, nesting_number, blocks_number}
use Rattle.grammar.specs.Fault.{longest_text, most_tokens}
use Rattle.grammar.specs.Bytes.{Bytes}
use Rattle.grammar.specs.Outcome.{Outcome, refused, passed, and_then, placed}
use Rattle.grammar.specs.Scan.{Placed, scan}
use Rattle.grammar.specs.Nesting.{nesting}
use Rattle.grammar.specs.Declaration.{start_table}
use Rattle.grammar.specs.Blocks.{check_blocks}
use Rattle.grammar.specs.Answer.{tokens_of, offset_of, read_text, read_tokens}
use Rattle.grammar.proofs.Scanned.{length_tokens}
use Rattle.grammar.proofs.Logic.{impossible}
use Rattle.grammar.proofs.BlankTexts.{none_read}
use Rattle.grammar.proofs.RefusalPlaces.{nesting_place, blocks_place}
use Rattle.rows.specs.Fields.{TokenRow, NoteRow, RootRow, kind, start, first_byte}
use Rattle.rows.specs.Tokens.{range, token_in, IsAtomKind, Unblocked, Stored}
use Rattle.rows.proofs.TokenBytes.{token_bytes}
use Rattle.rows.proofs.Stored.{stored_few, stored_end, stored_tokens, stored_valid, stored_quoted, stored_apart}
use Rattle.rows.proofs.Stored.{stored_kinds, stored_kept, stored_byte}
use Rattle.scanner.specs.Scanning.{Scans}
use Rattle.scanner.specs.declared.scan.Scanned.{Scanned}
use Rattle.pairing.specs.Pairing.{Pairing, Answers, tokens_by}
use Rattle.pairing.proofs.TokenKinds.{nesting_by_kinds}
use Rattle.pairing.proofs.Atoms.{paired_atoms}
use Rattle.pairing.proofs.Blocks.{no_block}
use Rattle.resolving.specs.Resolving.{Ranged, Resolves, Resolving}
use Rattle.refusals.specs.declared.Refusal.{Refusal}
use Rattle.refusals.specs.declared.Refused.{Refused}
use Rattle.refusals.specs.Numbers.{number_of, IsRefused}
use Rattle.std.specs.Prelude.{Ok, Err, None, IsErrAnd}
use Rattle.std.specs.declared.option.Option.{Option}
use Rattle.checks.specs.declared.Checked.{Checked}
use Rattle.checks.specs.declared.Unread.{Unread}
use Rattle.std.specs.declared.result.Result.{Result}
use Rattle.checks.specs.declared.Unread.TheVariants as Why
use Rattle.checks.specs.Checking.{Roomy, Checkable, Tokenized, Matched, Classified, offset_in, PlacedIn, Checking}

-- One number is below another, or not.
by_order : {X : Type 0} (i n : ℕ) → (i < n → X) → (n ≤ i → X) → X
by_order {X} i n f g = go (ltb i n) refl
  where
    go : (b : Bool) → ltb i n ≡ b → X
    go true e = f (ltb-true i n e)
    go false e = g (ltb-false i n e)

pub positive : {n : ℕ} → (n ≡ 0 → ⊥) → 0 < n
positive {n} f = by_order 0 n (λ l. l) (λ l. absurd (f (omega arith)))

-- A refusal other than 11.
refusal :
    (text : Bytes) (K : TokenRow) (R : NoteRow) (O : RootRow) (n p : ℕ) → (n ≡ 11 → ⊥) → read_text text ≡ refused n p
    → (r : Refusal) (at : ℕ) → number_of r ≡ n → at ≡ p → Checking text K R O (Err (Why.Refused r at))
refusal text K R O n p d e r at a b = rw e (a, b, d)

short_reads : (text : Bytes) → length text ≤ longest_text → read_text text ≡ and_then (scan most_tokens 0 text) (read_tokens text)
unfolding read_text
short_reads text l = rw (le-leb (length text) longest_text l, read_text)

-- A token has a byte at least: there are no more tokens than bytes.
module _ {text : Bytes} {ps : List Placed} {K : TokenRow} (v : Stored text ps K) where
  offset_least : (j : ℕ) → j ≤ length ps → j ≤ offset_of text ps j
  offset_least zero l = omega arith
  offset_least (suc j) l =
      omega (arith, offset_least j (omega arith), stored_apart v j l, token_bytes (token_in text K j) (stored_valid v j l))

  pub tokens_bytes : length ps ≤ length text
  tokens_bytes = omega (arith, offset_least (length ps) (omega arith), stored_end v)

-- So a row that has room for a token for each byte has room for the tokens.
room_holds : {A : Type 0} (text : Bytes) (M : List A) (n : ℕ) → Roomy text M → n ≤ length text → n ≤ most_tokens → n ≤ length M
room_holds text M zero r l m = omega arith
room_holds text M (suc n) r l m = omega (arith, r n l m)

-- Checks 2 to 5.
module _ (text : Bytes) (short : length text ≤ longest_text) where
  pub not_scanned :
      (K : TokenRow) (R : NoteRow) (O : RootRow) (e : Refused) → Scans text K (scan most_tokens 0 text) (Err e)
      → Checking text K R O (Err (Why.Refused e.refusal e.at))
  unfolding and_then
  not_scanned K R O e h = go (scan most_tokens 0 text) refl h
    where
      go : (o : Outcome (List Placed)) → scan most_tokens 0 text ≡ o → Scans text K o (Err e) → Checking text K R O (Err (Why.Refused e.refusal e.at))
      go (refused m q) f g =
          refusal text K R O m q (λ d. omega (arith, scan_number most_tokens 0 text m q f)) (short_reads text short ∙ rw f)
          e.refusal e.at g.numbered g.placed
      go (passed ps) f g = absurd g

-- A refusal that is handed on as why the text is not read.
pub passed_on :
    (text : Bytes) (K : TokenRow) (R : NoteRow) (O : RootRow) (e : Refused) (c : Result (Option Checked) Unread)
    → IsErrAnd c (λ u. u ≡ Why.Refused e.refusal e.at) → Checking text K R O (Err (Why.Refused e.refusal e.at)) → Checking text K R O c
passed_on text K R O e (Ok x) h g = absurd h
passed_on text K R O e (Err u) h g = rw h g

pub tokenized :
    {text : Bytes} {K : TokenRow} {R : NoteRow} {O : RootRow} → Checkable text K R O → (K' : TokenRow) (s : Scanned)
    → Scans text K' (scan most_tokens 0 text) (Ok s) → length K' ≡ length K → 0 < s.count
    → Tokenized text K' R O s.count × (s.nested ≡ false → (j : ℕ) → j < s.count → kind K' j ≤ 3)
tokenized {text} {K} {R} {O} c K' s h w some = go (scan most_tokens 0 text) refl h
  where
    go : (o : Outcome (List Placed)) → scan most_tokens 0 text ≡ o → Scans text K' o (Ok s)
        → Tokenized text K' R O s.count × (s.nested ≡ false → (j : ℕ) → j < s.count → kind K' j ≤ 3)
    go (refused x q) f g = absurd g
    go (passed ps) f g =
        let few = stored_few g.1 in
        let bytes = tokens_bytes g.1 in (
          record {
            short = c.short;
            some = some;
            placed = ps;
            counted = g.0;
            stored = g.1;
            tokens = (omega (arith, g.0), omega (arith, w, g.0, room_holds text K (length ps) c.tokens bytes few));
            roles = (omega (arith, g.0), omega (arith, g.0, room_holds text R (length ps) c.roles bytes few));
            roots = (omega (arith, g.0), omega (arith, g.0, room_holds text O (length ps) c.roots bytes few));
          },
          λ z j l. g.2 z j (omega (arith, g.0)),
        )

-- Without a token the text is blank.
pub blank :
    {text : Bytes} {K : TokenRow} {R : NoteRow} {O : RootRow} → Checkable text K R O → (K' : TokenRow) (s : Scanned)
    → Scans text K' (scan most_tokens 0 text) (Ok s) → s.count ≡ 0 → Checking text K' R O (Ok None)
blank {text} {K} {R} {O} c K' s h none = go (scan most_tokens 0 text) refl h
  where
    go : (o : Outcome (List Placed)) → scan most_tokens 0 text ≡ o → Scans text K' o (Ok s) → Checking text K' R O (Ok None)
    go (refused x q) f g = absurd g
    go (passed []) f g = rw (none_read text c.short f) refl
    go (passed (p ∷ ps)) f g = absurd (omega (arith, g.0))

-- What `offset_in` is.
pub offset_token : (text : Bytes) (K : TokenRow) (n i : ℕ) → i < n → offset_in text K n i ≡ first_byte K i
unfolding offset_in
offset_token text K n i l = rw (lt-ltb i n l, offset_in)

pub offset_end : (text : Bytes) (K : TokenRow) (n i : ℕ) → n ≤ i → offset_in text K n i ≡ length text
unfolding offset_in
offset_end text K n i l = rw (le-ltb i n l, offset_in)

-- The offset of a token, and of what stands behind the last one.
module _ {text : Bytes} {K : TokenRow} {R : NoteRow} {O : RootRow} {n : ℕ} (t : Tokenized text K R O n) where
  here : {i : ℕ} → i < n → i < length t.placed
  here l = omega (arith, t.counted)

  pub quoted_start : {i : ℕ} → i < n → kind K i ≡ 3 → 1 ≤ start K i
  quoted_start {i} l k = omega (arith, stored_quoted t.stored i (here l) k)

  pub offset_in_lem : (i : ℕ) → i ≤ n → offset_in text K n i ≡ offset_of text t.placed i
  offset_in_lem i l =
      by_order i n (λ m. offset_token text K n i m ∙ stored_byte t.stored i (here m))
      (λ m. let e : i ≡ length t.placed = omega (arith, t.counted) in offset_end text K n i m ∙ rw e (sym (stored_end t.stored)))

-- Checks 6 and 7.
nest_refused : (b : Bool) (o : Outcome (Unit {0})) (e : Refused) → Answers b o (Err e) → (k : ℕ) × (i : ℕ) × (o ≡ refused k i) × IsRefused k i e
nest_refused b (refused m q) e h = (m, q, refl, h)
nest_refused b (passed u) e h = impossible cc

nest_passed : (b : Bool) (o : Outcome (Unit {0})) (c : Bool) → Answers b o (Ok c) → (o ≡ passed tt) × (b ≡ c)
nest_passed b (refused m q) c h = absurd h
nest_passed b (passed u) c h = (refl, cc)

module _ {text : Bytes} {K : TokenRow} {R : NoteRow} {O : RootRow} {n : ℕ} (t : Tokenized text K R O n) where
  nested_reads : {k i : ℕ} → nesting [] 0 (tokens_of t.placed) ≡ refused k i → read_text text ≡ refused k (offset_of text t.placed i)
  unfolding and_then read_tokens placed
  nested_reads p = short_reads text t.short ∙ rw t.stored.scanned (rw p)

  by_kinds : nesting [] 0 (tokens_by K 0 n) ≡ nesting [] 0 (tokens_of t.placed)
  by_kinds = ap (λ m. nesting [] 0 (tokens_by K 0 m)) t.counted ∙ nesting_by_kinds text t.placed K t.stored

  module _ (K' : TokenRow) (r : Result Bool Refused) (h : Pairing K n K' r) where
    -- The row with closers has the same tokens.
    pub still_tokens : Tokenized text K' R O n
    still_tokens =
        record {
          short = t.short;
          some = t.some;
          placed = t.placed;
          counted = t.counted;
          stored = stored_kept K K' (λ j. (h.kept j).kinds) (λ j. (h.kept j).starts) (λ j. (h.kept j).sizes) t.stored;
          tokens = (t.tokens.0, omega (arith, t.tokens.1, h.long));
          roles = t.roles;
          roots = t.roots;
        }

    pub not_matched :
        (A : NoteRow) (B : RootRow) (e e' : Refused) → r ≡ Err e → PlacedIn text K' n e e' → Checking text K' A B (Err (Why.Refused e'.refusal e'.at))
    unfolding still_tokens
    not_matched A B e e' w o =
        let (k, i, q, f) = nest_refused _ _ e (rw w at h.answer) in
        let p = sym by_kinds ∙ q in
        let l = nesting_place (tokens_of t.placed) k i p in
        let at = offset_in_lem still_tokens i (omega (arith, t.counted, length_tokens t.placed)) in
        let other : k ≡ 11 → ⊥ = λ d. omega (arith, nesting_number [] 0 (tokens_of t.placed) k i p) in
        refusal text K' A B k (offset_of text t.placed i) other (nested_reads p) e'.refusal e'.at (o.numbered ∙ f.numbered)
        (o.placed ∙ ap (offset_in text K' n) f.placed ∙ at)

    pub matched : (blocks : Bool) → r ≡ Ok blocks → Matched text K' R O n true × (blocks ≡ false → Unblocked K' n)
    unfolding still_tokens
    matched blocks e =
        let (p, b) = nest_passed _ _ blocks (rw e at h.answer) in (
          record {
            scanned = still_tokens;
            nests = sym by_kinds ∙ p;
            paired = h.closed blocks e;
            flat = λ z. impossible cc;
          },
          λ z j l k. no_block K n (b ∙ z) j l (sym (h.kept j).kinds ∙ k),
        )

  -- Without tokens of structure there is nothing to pair.
  pub flat_matched : (nested : Bool) → ((j : ℕ) → j < n → kind K j ≤ 3) → Matched text K R O n nested × Unblocked K n
  flat_matched nested f =
      let a : (j : ℕ) → j < n → IsAtomKind (kind K j) = λ j l. ((stored_kinds t.stored j (omega (arith, t.counted))).0, f j l) in (
        record {
          scanned = t;
          nests = sym by_kinds ∙ (paired_atoms K n a).1;
          paired = (paired_atoms K n a).0;
          flat = λ z. f;
        },
        λ j l k. let b = f j l in omega arith,
      )

-- Checks 8 to 10 and 17.
module _ {text : Bytes} {K : TokenRow} {R : NoteRow} {O : RootRow} {n : ℕ} {nested : Bool} (m : Matched text K R O n nested) where
  abbrev own : List Placed
  own = m.scanned.placed

  pub own_tokens : range text K 0 n ≡ tokens_of own
  own_tokens = ap (λ j. range text K 0 j) m.scanned.counted ∙ stored_tokens m.scanned.stored

  pub ranged : Ranged text K R 0 n
  ranged =
      record {
        placed = own;
        stored = m.scanned.stored;
        short = m.scanned.short;
        within = omega (arith, m.scanned.counted);
        tokens = rw (← m.scanned.counted) m.scanned.tokens;
        roles = rw (← m.scanned.counted) m.scanned.roles;
        paired = m.paired;
      }

  abbrev blocks : Outcome (Unit {0})
  blocks = check_blocks (suc n) start_table 0 (tokens_of own)

  blocks_reads : (k p : ℕ) → blocks ≡ refused k p → read_text text ≡ refused k (offset_of text own p)
  unfolding and_then read_tokens placed
  blocks_reads k p q =
      let e = ap (λ j. check_blocks (suc j) start_table 0 (tokens_of own)) (sym m.scanned.counted) ∙ q in
      short_reads text m.scanned.short ∙ rw m.scanned.stored.scanned (rw (m.nests, e))

  module _ (R' : NoteRow) (r : Result (Unit {0}) Refused) (g : Resolving text K start_table 0 n R R' r) where
    resolving : Resolves text K R' start_table 0 n blocks r
    resolving = rw own_tokens at (g.answer (suc n) (omega arith))

    pub not_resolved :
        (B : RootRow) (e e' : Refused) → r ≡ Err e → PlacedIn text K n e e' → Checking text K R' B (Err (Why.Refused e'.refusal e'.at))
    not_resolved B e e' w o = go blocks refl (rw w at resolving)
      where
        go : (x : Outcome (Unit {0})) → blocks ≡ x → Resolves text K R' start_table 0 n x (Err e) → Checking text K R' B (Err (Why.Refused e'.refusal e'.at))
        go (refused k p) b v =
            let l = blocks_place (suc n) start_table (tokens_of own) k p m.nests b in
            let at = offset_in_lem m.scanned p (omega (arith, m.scanned.counted, length_tokens own)) in
            let number = blocks_number (suc n) start_table 0 (tokens_of own) k p b in
            let other : k ≡ 11 → ⊥ = λ d. ⊎_elim (λ l. omega (arith, d)) (λ l. omega (arith, d)) number in
            refusal text K R' B k (offset_of text own p) other (blocks_reads k p b) e'.refusal e'.at (o.numbered ∙ v.numbered)
            (o.placed ∙ ap (offset_in text K n) v.placed ∙ at)
        go (passed u) b v = let z = v.0 in impossible cc

    pub classified : (u : Unit {0}) → r ≡ Ok u → Classified text K R' O n nested
    classified u e = go blocks refl (rw e at resolving)
      where
        go : (o : Outcome (Unit {0})) → blocks ≡ o → Resolves text K R' start_table 0 n o (Ok u) → Classified text K R' O n nested
        go (refused x p) b v = absurd v
        go (passed w) b v =
            record {
              matched =
                  record {
                    scanned =
                        record {
                          short = m.scanned.short;
                          some = m.scanned.some;
                          placed = own;
                          counted = m.scanned.counted;
                          stored = m.scanned.stored;
                          tokens = m.scanned.tokens;
                          roles = (m.scanned.roles.0, omega (arith, m.scanned.roles.1, g.kept.long));
                          roots = m.scanned.roots;
                        };
                    nests = m.nests;
                    paired = m.paired;
                    flat = m.flat;
                  };
              declared = b;
              agrees = v.1;
            }
