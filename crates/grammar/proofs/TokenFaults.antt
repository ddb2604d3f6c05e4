-- Rows 2 to 5 of a whole text: the scan refuses exactly where a row holds, and where it passes the tokens begin at its offsets. One
-- walk from token to token says what an outcome tells of the text; back from a row, the scan goes past the tokens before it.
use mathlib.Core.Path.{◌≡◌, refl, sym, ap, subst, ◌∙◌}
use mathlib.Core.Bool.{true}
use mathlib.Core.Logic.{◌↔◌}
use mathlib.Core.List.{List, [], ◌∷◌, ◌++◌, append_assoc, append-nil}
use Prim.Native.Nat.{ℕ, zero, suc, ◌+◌, ◌-◌, ◌≤◌}
use native.Mathlib.Omega.{arith}
use lib.ListN.{length, take, drop, length-append, take-append-drop}
use lib.Seq.{drop-append_seam}
use Rattle.grammar.specs.Bytes.{Bytes, every}
use Rattle.grammar.specs.Token.{is_blank_byte, Token, spelling}
use Rattle.grammar.specs.Spelling.{Stops, Splits, no_more, one_more, Spells, GoesOn, TokenAt}
use Rattle.grammar.specs.Outcome.{Outcome, refused, passed}
use Rattle.grammar.specs.Scan.{Placed, run, Front, nothing, wrong, taken, front, before, scan}
use Rattle.grammar.specs.Answer.{tokens_of, starts_of, offset_of}
use Rattle.grammar.specs.Fault.{most_tokens, TokenFault, judged, counted}
use Rattle.grammar.proofs.Logic.{below}
use Rattle.grammar.proofs.Runs.{run-append, ran}
use Rattle.grammar.proofs.Taken.{Begins, Told, front_told}
use Rattle.grammar.proofs.Scanned.{behind_blanks, judged-first, counted-last, scan_end, scan-next}
use Rattle.grammar.proofs.Scanned.{Ahead, ahead, Next, next_token, scan-spells, scan-spelled, scan-tokens, length_tokens}
use Rattle.grammar.proofs.NoTokens.{front_refused}

-- Tokens, and tokens behind them.
splits_append : {a b c : Bytes} {us ts : List Token} → Splits a us b → Splits b ts c → Splits a (us ++ ts) c
splits_append no_more q = q
splits_append (one_more b t rest w e v h r) q = one_more b t rest w e v h (splits_append r q)

-- What is left behind given tokens is settled by the text, ..
splits_unique : {s a b : Bytes} {ts : List Token} → Splits s ts a → Splits s ts b → a ≡ b
splits_unique no_more no_more = refl
splits_unique (one_more b t rest w e v h r) (one_more b' u rest' {ts} {behind = end} w' e' v' h' r') =
    let same : rest' ≡ rest = sym (ahead b' u rest' w' e' v' h').behind ∙ (ahead b t rest w e v h).behind in
    splits_unique r (subst (λ x. Splits x ts end) same r')

blanks_skipped : (blanks s : Bytes) → every is_blank_byte blanks ≡ true → Stops is_blank_byte s → behind_blanks (blanks ++ s) ≡ s
blanks_skipped blanks s e h = ap (λ n. drop n (blanks ++ s)) (run-append is_blank_byte blanks s e h) ∙ drop-append_seam blanks s

-- .. so it goes on in one way.
pub goes_on_unique :
    {text : Bytes} {ts : List Token} {p q : ℕ} {s r : Bytes} → GoesOn text ts p s → GoesOn text ts q r → (p ≡ q) × (s ≡ r)
goes_on_unique {s = s} {r = r} g h = (omega (arith, ap length same, g.offset, h.offset), same)
  where
    same : s ≡ r
    same =
        sym (blanks_skipped g.blanks s g.blank g.begun)
        ∙ ap behind_blanks (splits_unique g.split h.split)
        ∙ blanks_skipped h.blanks r h.blank h.begun

-- A token that is taken splits off, ..
taken_splits : (s : Bytes) (t : Token) (m : ℕ) → front s ≡ taken t m → (r : Bytes) × Splits s (t ∷ []) r
unfolding every
taken_splits s t m e =
    let g : Begins s t m = subst (Told s) e (front_told s) in
    (g.rest, one_more [] t g.rest g.written refl g.valid g.stops no_more)

-- .. and one that splits off behind the blanks is taken there.
splits_ahead : {s : Bytes} {t : Token} {r : Bytes} → Splits s (t ∷ []) r → Ahead s t r
splits_ahead (one_more b t rest w e v h no_more) = ahead b t rest w e v h

split_taken : (s : Bytes) (t : Token) {r : Bytes} → Stops is_blank_byte s → Splits s (t ∷ []) r → front s ≡ taken t (length (spelling t))
unfolding every
split_taken s t h r = ap front (sym (blanks_skipped [] s refl h)) ∙ (splits_ahead r).here

-- A scan goes past tokens that split off; if what is left is refused with the room that is left, so is the text.
scan_past :
    {s r : Bytes} {ts : List Token} → Splits s ts r → (room left at n p : ℕ) → length ts + left ≡ room
    → ((q : ℕ) → q + length r ≡ at + length s → scan left q r ≡ refused n p) → scan room at s ≡ refused n p
unfolding before
scan_past {s} no_more room left at n p l h =
    let same : room ≡ left = omega arith in
    ap (λ k. scan k at s) same ∙ h at refl
scan_past (one_more b t rest w e v f r) zero left at n p l h = absurd (omega arith)
scan_past {s} (one_more b t rest {ts} w e v f r) (suc room) left at n p l h =
    scan-next room at s t m a.here
    ∙ ap (λ x. before token (scan room place x)) a.behind
    ∙ ap (before token) (scan_past r room left place n p (omega arith) (λ q g. h q (omega (arith, g, a.size))))
  where
    m : ℕ
    m = length (spelling t)

    place : ℕ
    place = at + run is_blank_byte s + m

    token : Placed
    token = record { token = t; start = at + run is_blank_byte s }

    a : Ahead s t rest
    a = ahead b t rest w e v f

module _ (text : Bytes) where
  -- At offset `at` the bytes `s` are left behind the tokens `us`.
  record Reached (us : List Token) (at : ℕ) (s : Bytes) : Type 0 where
    split : Splits text us s
    place : at + length s ≡ length text

  -- What an outcome of the scan from there on tells of the text: a row holds, or the next tokens begin at the offsets.
  abbrev Tells : List Token → Outcome (List Placed) → Type 0
  Tells us (refused n p) = TokenFault text n p
  Tells us (passed ps) = (i : ℕ) → i ≤ length ps → (v : Bytes) × GoesOn text (us ++ take i (tokens_of ps)) (offset_of text ps i) v

  -- Behind the blanks the text goes on.
  ongoing : (us : List Token) (at : ℕ) (s : Bytes) → Reached us at s → GoesOn text us (at + run is_blank_byte s) (behind_blanks s)
  ongoing us at s r = record {
    blanks = take n s;
    split = subst (Splits text us) (sym (take-append-drop n s)) r.split;
    blank = (ran is_blank_byte s).passes;
    begun = (ran is_blank_byte s).stops;
    offset =
        omega (arith, r.place, (ran is_blank_byte s).size, ap length (take-append-drop n s), length-append (take n s) (drop n s));
  }
    where
      n : ℕ
      n = run is_blank_byte s

  -- A token taken there is passed by.
  reached_next :
      (us : List Token) (at : ℕ) (s : Bytes) (t : Token) (m : ℕ) → Reached us at s → Next s t m
      → Reached (us ++ t ∷ []) (at + run is_blank_byte s + m) (drop (run is_blank_byte s + m) s)
  reached_next us at s t m r g = record {
    split = splits_append r.split (subst (Splits s (t ∷ [])) (sym g.behind) one);
    place = ap (λ v. at + run is_blank_byte s + m + length v) g.behind ∙ omega (arith, r.place, g.size, (splits_ahead one).size);
  }
    where
      one : Splits s (t ∷ []) g.rest
      one = one_more (take (run is_blank_byte s) s) t g.rest g.written (ran is_blank_byte s).passes g.valid g.stops no_more

  -- The end of the text, ..
  end_tells :
      (us : List Token) (at : ℕ) (s : Bytes) → Reached us at s → front (behind_blanks s) ≡ nothing → Tells us (passed [])
  unfolding tokens_of starts_of offset_of
  end_tells us at s r e (suc i) h = absurd (omega arith)
  end_tells us at s r e zero h =
      let all : at + run is_blank_byte s ≡ length text = omega (arith, g.offset) in
      ([], subst (λ p. GoesOn text (us ++ []) p []) all (rw (append-nil us) g))
    where
      g : GoesOn text us (at + run is_blank_byte s) []
      g = subst (GoesOn text us (at + run is_blank_byte s)) (subst (Told (behind_blanks s)) e (front_told (behind_blanks s))) (ongoing us at s r)

  -- .. and one more token before what is told of the text behind it.
  before_tells :
      (us : List Token) (t : Token) (p : ℕ) (v : Bytes) (o : Outcome (List Placed)) → GoesOn text us p v → Tells (us ++ t ∷ []) o
      → Tells us (before (record { token = t; start = p }) o)
  unfolding before tokens_of starts_of offset_of
  before_tells us t p v (refused n q) g h = h
  before_tells us t p v (passed ps) g h = go
    where
      go : Tells us (passed (record { token = t; start = p } ∷ ps))
      go zero l = (v, rw (append-nil us) g)
      go (suc i) l =
          let (x, f) = h i (omega arith) in
          (x, subst (λ ts. GoesOn text ts (offset_of text ps i) x) (append_assoc us (t ∷ []) (take i (tokens_of ps))) f)

  -- From the scan to a row, or to the tokens' offsets: what stands behind the blanks settles the outcome.
  abbrev AllTell : ℕ → Type 0
  AllTell room = (us : List Token) (at : ℕ) (s : Bytes) → Reached us at s → length us + room ≡ most_tokens → Tells us (scan room at s)

  end_of_scan :
      (room : ℕ) (us : List Token) (at : ℕ) (s : Bytes) → Reached us at s → front (behind_blanks s) ≡ nothing → Tells us (scan room at s)
  end_of_scan room us at s r e = subst (Tells us) (sym (scan_end room at s e)) (end_tells us at s r e)

  refused_judged :
      (room : ℕ) (us : List Token) (at : ℕ) (s : Bytes) (k : ℕ) → Reached us at s → length us + room ≡ most_tokens
      → front (behind_blanks s) ≡ wrong k → Tells us (scan room at s)
  refused_judged room us at s k r l e =
      subst (Tells us) (sym (judged-first room at s k e)) (
      judged (omega arith) (ongoing us at s r) ((front_refused (behind_blanks s) k).0 e))

  tells : (room : ℕ) → AllTell room
  tells zero us at s r l = go (front (behind_blanks s)) refl
    where
      go : (f : Front) → front (behind_blanks s) ≡ f → Tells us (scan zero at s)
      go nothing e = end_of_scan zero us at s r e
      go (wrong k) e = refused_judged zero us at s k r l e
      go (taken t m) e =
          subst (Tells us) (sym (counted-last at s t m e)) (
          counted (omega arith) (ongoing us at s r) (taken_splits (behind_blanks s) t m e).1)
  tells (suc room) us at s r l = go (tells room) (front (behind_blanks s)) refl
    where
      go : AllTell room → (f : Front) → front (behind_blanks s) ≡ f → Tells us (scan (suc room) at s)
      go ih nothing e = end_of_scan (suc room) us at s r e
      go ih (wrong k) e = refused_judged (suc room) us at s k r l e
      go ih (taken t m) e =
          subst (Tells us) (sym (scan-next room at s t m e)) (
          before_tells us t (at + run is_blank_byte s) (behind_blanks s) _ (ongoing us at s r) (
          ih (us ++ t ∷ []) _ _ (reached_next us at s t m r (next_token s t m e)) (omega (arith, length-append us (t ∷ [])))))

  whole : Tells [] (scan most_tokens 0 text)
  whole = tells most_tokens [] 0 text (record { split = no_more; place = omega arith }) (omega arith)

  -- From a row to the refusal.
  stopped :
      (left n p : ℕ) (ts : List Token) (s : Bytes) → length ts + left ≡ most_tokens → GoesOn text ts p s
      → ((q : ℕ) (v : Bytes) → behind_blanks v ≡ s → scan left q v ≡ refused n (q + run is_blank_byte v)) → scan most_tokens 0 text ≡ refused n p
  stopped left n p ts s l g h = scan_past g.split most_tokens left 0 n p l there
    where
      there : (q : ℕ) → q + length (g.blanks ++ s) ≡ 0 + length text → scan left q (g.blanks ++ s) ≡ refused n p
      there q e =
          let skip : run is_blank_byte (g.blanks ++ s) ≡ length g.blanks = run-append is_blank_byte g.blanks s g.blank g.begun in
          let place : q + run is_blank_byte (g.blanks ++ s) ≡ p = omega (arith, length-append g.blanks s, g.offset) in
          h q (g.blanks ++ s) (blanks_skipped g.blanks s g.blank g.begun) ∙ ap (refused n) place

  fault_refused : {n p : ℕ} → TokenFault text n p → scan most_tokens 0 text ≡ refused n p
  fault_refused (judged {ts} {n} {p} {s} l g h) =
      stopped (most_tokens - length ts) n p ts s (omega arith) g
      (λ q v e. judged-first (most_tokens - length ts) q v n (ap front e ∙ (front_refused s n).1 h))
  fault_refused (counted {ts} {p} {s} {t} l g r) =
      stopped 0 5 p ts s (omega arith) g
      (λ q v e. counted-last q v t (length (spelling t)) (ap front e ∙ split_taken s t g.begun r))

-- Rows 2 to 5: the scan refuses exactly where a row holds, with its number and place.
pub scan_fault : (text : Bytes) (n p : ℕ) → (scan most_tokens 0 text ≡ refused n p) ↔ TokenFault text n p
scan_fault text n p = ((λ e. subst (Tells text []) e (whole text)), fault_refused text)

-- Where the scan passes, its offsets are those at which the tokens begin; behind the last token stands the text's length.
pub token_at :
    (text : Bytes) (ps : List Placed) → scan most_tokens 0 text ≡ passed ps → (i p : ℕ) → i ≤ length ps
    → TokenAt text (tokens_of ps) i p ↔ (p ≡ offset_of text ps i)
token_at text ps e i p l =
    let (v, g) = subst (Tells text []) e (whole text) i l in
    ((λ (s, h). (goes_on_unique h g).0), (λ q. (v, subst (λ x. GoesOn text (take i (tokens_of ps)) x v) (sym q) g)))

-- The scan passes with the tokens that the text spells, if these are at most 1,024.
pub scanned_exactly :
    (text : Bytes) (ts : List Token)
    → ((ps : List Placed) × (scan most_tokens 0 text ≡ passed ps) × (tokens_of ps ≡ ts)) ↔ (Spells text ts × (length ts ≤ most_tokens))
scanned_exactly text ts = (
  (λ (ps, e, h). (
    subst (Spells text) h (scan-spelled most_tokens 0 text ps e),
    omega (arith, ap length h, length_tokens ps, (scan-tokens most_tokens 0 text ps e).1),
  )),
  (λ (r, l). scan-spells r most_tokens 0 l),
)

-- Every number of a token has a place: beyond the last token it is the text's length.
take_beyond : (ts : List Token) (i : ℕ) → length ts ≤ i → take i ts ≡ take (length ts) ts
take_beyond [] zero h = refl
take_beyond [] (suc i) h = refl
take_beyond (t ∷ ts) zero h = absurd (omega arith)
take_beyond (t ∷ ts) (suc i) h = ap (◌∷◌ t) (take_beyond ts i (omega arith))

pub token_somewhere : (text : Bytes) (ts : List Token) → Spells text ts → length ts ≤ most_tokens → (i : ℕ) → (p : ℕ) × TokenAt text ts i p
token_somewhere text ts r l i = below (length ts) i (λ h. subst Somewhere (sym (take_beyond ts i (omega arith))) (up_to (length ts) (omega arith))) (up_to i)
  where
    Somewhere : List Token → Type 0
    Somewhere us = (p : ℕ) × ((s : Bytes) × GoesOn text us p s)

    up_to : (k : ℕ) → k ≤ length ts → Somewhere (take k ts)
    up_to k h =
        let (ps, e, q) = (scanned_exactly text ts).1 (r, l) in
        let p : ℕ = offset_of text ps k in
        (p, subst (λ us. TokenAt text us k p) q ((token_at text ps e k p (omega (arith, ap length q, length_tokens ps))).1 refl))
