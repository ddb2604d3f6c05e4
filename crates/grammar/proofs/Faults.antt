-- Rows 1 to 10 and 17 in their order: a text is refused with one of these numbers exactly where `Fault` says so, at that place. The checks come in
-- the order of the constructors of `Fault`, and what passes a check is what the next constructor asks for.
use mathlib.Core.Path.{◌≡◌, refl, sym, ap, subst, ◌∙◌}
use mathlib.Core.Logic.{◌↔◌, ◌⊎◌, inl, inr, ⊎_elim}
use mathlib.Core.Bool.{Bool, true, false}
use mathlib.Core.List.{List, []}
use mathlib.Core.Option.{Option, none, some}
use Prim.Native.Nat.{ℕ, suc, ◌≤◌}
use native.Mathlib.Omega.{arith}
use lib.Dec.{leb}
use lib.ListN.{length}
use borrow.Author.Tests.{leb-true, leb-false, le-leb, lt-leb}
use Rattle.grammar.specs.Bytes.{Bytes}
use Rattle.grammar.specs.Token.{Token}
use Rattle.grammar.specs.Spelling.{TokenAt}
use Rattle.grammar.specs.Outcome.{Outcome, refused, passed, and_then, placed}
use Rattle.grammar.specs.Scan.{Placed, scan}
use Rattle.grammar.specs.Nesting.{nesting}
use Rattle.grammar.specs.Declaration.{start_table}
use Rattle.grammar.specs.Tree.{Tree}
use Rattle.grammar.specs.Blocks.{check_blocks}
use Rattle.grammar.specs.Fault.{longest_text, most_tokens, HasTokens, BeforeEleven, Fault, too_long, in_tokens, in_nesting, in_blocks, Past}
use Rattle.grammar.specs.Answer.{Reading, PastChecks, tokens_of, offset_of, reading_tree, read_spans, read_tokens, read_text}
use Rattle.grammar.proofs.Logic.{impossible}
use Rattle.grammar.proofs.Scanned.{length_tokens, scan-spelled, spells_unique}
use Rattle.grammar.proofs.TokenFaults.{scan_fault, token_at, scanned_exactly}
use Rattle.grammar.proofs.NestingFaults.{nesting_fault, nesting_open}
use Rattle.grammar.proofs.BlockFaults.{blocks_fault}
use Rattle.grammar.proofs.ItemLists.{and_then_refused}
use Rattle.grammar.proofs.RefusalNumbers.{scan_number, nesting_number, blocks_number}
use Rattle.grammar.proofs.RefusalPlaces.{nesting_place, blocks_place}
use Rattle.grammar.proofs.Readings.{past_reads, placed_passed}

-- The refusal of a check whose places are put into bytes.
placed_at : {A : Type 0} (f : ℕ → ℕ) (o : Outcome A) (n p : ℕ) → placed f o ≡ refused n p → (i : ℕ) × (o ≡ refused n i) × (p ≡ f i)
unfolding placed
placed_at f (refused m i) n p e = (i, cc, cc)
placed_at f (passed a) n p e = impossible cc

-- Check 11 gives no other number.
spans_eleven : (text : Bytes) (ps : List Placed) (o : Option Tree) (n p : ℕ) → read_spans text ps o ≡ refused n p → n ≡ 11
unfolding read_spans
spans_eleven text ps none n p e = cc
spans_eleven text ps (some t) n p e = impossible cc

not_eleven : (n : ℕ) → BeforeEleven n → n ≡ 11 → ⊥
not_eleven n b e = ⊎_elim (λ c. omega arith) (λ c. omega arith) b

-- A text that the scan passes, with the tokens it found.
module _ (text : Bytes) (short : length text ≤ longest_text) (ps : List Placed) (scanned : scan most_tokens 0 text ≡ passed ps) where
  abbrev ts : List Token
  ts = tokens_of ps

  abbrev nested : Outcome (Unit {0})
  nested = nesting [] 0 ts

  abbrev declared : Outcome (Unit {0})
  declared = check_blocks (suc (length ps)) start_table 0 ts

  tokenized : HasTokens text ts
  tokenized = let (s, f) = (scanned_exactly text ts).0 (ps, scanned, refl) in record { short = short; spelled = s; few = f }

  same_fuel : declared ≡ check_blocks (suc (length ts)) start_table 0 ts
  same_fuel = ap (λ k. check_blocks (suc k) start_table 0 ts) (sym (length_tokens ps))

  place : (i : ℕ) → i ≤ length ts → TokenAt text ts i (offset_of text ps i)
  place i h = (token_at text ps scanned i (offset_of text ps i) (omega (arith, length_tokens ps))).1 refl

  nesting_told : (n i : ℕ) → nested ≡ refused n i → Fault text n (offset_of text ps i)
  nesting_told n i e = in_nesting tokenized ((nesting_fault ts n i).0 e) (place i (nesting_place ts n i e))

  blocks_told : nested ≡ passed tt → (n i : ℕ) → declared ≡ refused n i → Fault text n (offset_of text ps i)
  blocks_told h n i e =
      let f = sym same_fuel ∙ e in
      let l = blocks_place (suc (length ts)) start_table ts n i h f in
      in_blocks tokenized ((nesting_open ts).0 h) ((blocks_fault ts h n i).0 f) (place i (omega arith))

  tokens_told : (n p : ℕ) → BeforeEleven n → read_tokens text ps ≡ refused n p → Fault text n p
  unfolding read_tokens
  tokens_told n p l e = after-nesting (and_then_refused (placed (offset_of text ps) nested) _ n p e)
    where
      later : Outcome Reading
      later = and_then (placed (offset_of text ps) declared) (λ v. read_spans text ps (reading_tree ts))

      in_bytes : (i : ℕ) → p ≡ offset_of text ps i → Fault text n (offset_of text ps i) → Fault text n p
      in_bytes i q f = subst (Fault text n) (sym q) f

      after_blocks :
          nested ≡ passed tt
          → (placed (offset_of text ps) declared ≡ refused n p)
          ⊎ ((u : Unit {0}) × (placed (offset_of text ps) declared ≡ passed u) × (read_spans text ps (reading_tree ts) ≡ refused n p))
          → Fault text n p
      after_blocks h (inl f) = let (i, g, q) = placed_at (offset_of text ps) declared n p f in in_bytes i q (blocks_told h n i g)
      after_blocks h (inr f) = absurd (not_eleven n l (spans_eleven text ps (reading_tree ts) n p f.2))

      after-nesting :
          (placed (offset_of text ps) nested ≡ refused n p)
          ⊎ ((u : Unit {0}) × (placed (offset_of text ps) nested ≡ passed u) × (later ≡ refused n p))
          → Fault text n p
      after-nesting (inl f) = let (i, g, q) = placed_at (offset_of text ps) nested n p f in in_bytes i q (nesting_told n i g)
      after-nesting (inr f) =
          after_blocks (placed_passed (offset_of text ps) nested f.0 f.1) (and_then_refused (placed (offset_of text ps) declared) _ n p f.2)

-- A text that is short enough, by what the scan answers.
scan_told : (text : Bytes) → length text ≤ longest_text → (n p : ℕ) → BeforeEleven n → and_then (scan most_tokens 0 text) (read_tokens text) ≡ refused n p
    → Fault text n p
scan_told text short n p l e = go (and_then_refused (scan most_tokens 0 text) (read_tokens text) n p e)
  where
    go :
        (scan most_tokens 0 text ≡ refused n p) ⊎ ((ps : List Placed) × (scan most_tokens 0 text ≡ passed ps) × (read_tokens text ps ≡ refused n p))
        → Fault text n p
    go (inl f) = in_tokens short ((scan_fault text n p).0 f)
    go (inr f) = tokens_told text short f.0 f.1 n p l f.2

-- A refusal with one of the numbers 1 to 10 and 17 is a fault.
refusal_fault : (text : Bytes) (n p : ℕ) → BeforeEleven n → read_text text ≡ refused n p → Fault text n p
unfolding read_text
refusal_fault text n p l e = go (leb (length text) longest_text) refl
  where
    go : (b : Bool) → leb (length text) longest_text ≡ b → Fault text n p
    go true q = scan_told text (leb-true (length text) longest_text q) n p l (rw (q, read_text) at e)
    go false q =
        let f : ◌≡◌ {A = Outcome Reading} (refused 1 longest_text) (refused n p) = rw (q, read_text) at e in
        let g : (1 ≡ n) × (longest_text ≡ p) = (cc, cc) in
        rw (sym g.0, sym g.1) (too_long (leb-false (length text) longest_text q))

-- What a short text answers: what the scan refuses, or what the tokens answer.
short_scanned : (text : Bytes) → length text ≤ longest_text → read_text text ≡ and_then (scan most_tokens 0 text) (read_tokens text)
unfolding read_text
short_scanned text h = rw (le-leb (length text) longest_text h, read_text)

-- The tokens of a text as the scan finds them.
found : (text : Bytes) (ts : List Token) → HasTokens text ts → (ps : List Placed) × (scan most_tokens 0 text ≡ passed ps) × (tokens_of ps ≡ ts)
found text ts z = (scanned_exactly text ts).1 (z.spelled, z.few)

-- A fault is a refusal with its number and place.
fault_refusal : (text : Bytes) (n p : ℕ) → Fault text n p → (read_text text ≡ refused n p) × BeforeEleven n
unfolding read_text and_then placed read_tokens
fault_refusal text n p (too_long h) = (rw (lt-leb (length text) longest_text h, read_text), inl (omega arith))
fault_refusal text n p (in_tokens h f) =
    let e = (scan_fault text n p).1 f in
    let b = scan_number most_tokens 0 text n p e in
    (short_scanned text h ∙ rw e, inl (omega arith))
fault_refusal text n p (in_nesting {ts = ts} {i = i} z f t) =
    let (ps, s, q) = found text ts z in
    let e : nesting [] 0 (tokens_of ps) ≡ refused n i = rw q ((nesting_fault ts n i).1 f) in
    let l = nesting_place (tokens_of ps) n i e in
    let w : p ≡ offset_of text ps i = (token_at text ps s i p (omega (arith, length_tokens ps))).0 (rw q t) in
    let b = nesting_number [] 0 (tokens_of ps) n i e in
    (short_scanned text z.short ∙ rw (s, e, w), inl (omega arith))
fault_refusal text n p (in_blocks {ts = ts} {i = i} z o f t) =
    let (ps, s, q) = found text ts z in
    let h : nesting [] 0 (tokens_of ps) ≡ passed tt = rw q ((nesting_open ts).1 o) in
    let g : check_blocks (suc (length ts)) start_table 0 ts ≡ refused n i = (blocks_fault ts ((nesting_open ts).1 o) n i).1 f in
    let e : check_blocks (suc (length ps)) start_table 0 (tokens_of ps) ≡ refused n i = rw (← (length_tokens ps), q) g in
    let l = blocks_place (suc (length ps)) start_table (tokens_of ps) n i h e in
    let w : p ≡ offset_of text ps i = (token_at text ps s i p (omega (arith, length_tokens ps))).0 (rw q t) in
    let b = blocks_number (suc (length ps)) start_table 0 (tokens_of ps) n i e in
    (short_scanned text z.short ∙ rw (s, h, e, w), ⊎_elim (λ c. inl (omega arith)) inr b)

-- Rows 1 to 10 and 17, exactly.
pub fault_exactly : (text : Bytes) (n p : ℕ) → ((read_text text ≡ refused n p) × BeforeEleven n) ↔ Fault text n p
fault_exactly text n p = (λ h. refusal_fault text n p h.1 h.0, fault_refusal text n p)

-- At most one row holds, at one place.
pub fault_unique : (text : Bytes) (n m p q : ℕ) → Fault text n p → Fault text m q → (n ≡ m) × (p ≡ q)
fault_unique text n m p q f g =
    let (e, k) = fault_refusal text n p f in
    let (d, j) = fault_refusal text m q g in
    let r : ◌≡◌ {A = Outcome Reading} (refused n p) (refused m q) = sym e ∙ d in
    (cc, cc)

-- A text that the checks let pass is past them, ..
pub checked_past : (text : Bytes) (ps : List Placed) → PastChecks text ps → Past text (tokens_of ps)
checked_past text ps h =
    record {
      spelled = scan-spelled most_tokens 0 text ps h.scanned;
      faultless =
          λ n p f.
          let (e, b) = fault_refusal text n p f in
          not_eleven n b (spans_eleven text ps (reading_tree (tokens_of ps)) n p (sym (past_reads text ps h) ∙ e));
    }

-- .. and the other way round: a check that refused would be a fault.
pub past_checked : (text : Bytes) (ts : List Token) → Past text ts → (ps : List Placed) × PastChecks text ps × (tokens_of ps ≡ ts)
past_checked text ts h = go (leb (length text) longest_text) refl
  where
    blocks :
        (ps : List Placed) → length text ≤ longest_text → scan most_tokens 0 text ≡ passed ps → nesting [] 0 (tokens_of ps) ≡ passed tt
        → (o : Outcome (Unit {0})) → check_blocks (suc (length ps)) start_table 0 (tokens_of ps) ≡ o → PastChecks text ps
    blocks ps l s k (refused n i) e = absurd (h.faultless n _ (blocks_told text l ps s k n i e))
    blocks ps l s k (passed tt) e = record { short = l; scanned = s; nested = k; declared = e }

    pairs :
        (ps : List Placed) → length text ≤ longest_text → scan most_tokens 0 text ≡ passed ps
        → (o : Outcome (Unit {0})) → nesting [] 0 (tokens_of ps) ≡ o → PastChecks text ps
    pairs ps l s (refused n i) e = absurd (h.faultless n _ (nesting_told text l ps s n i e))
    pairs ps l s (passed tt) e = blocks ps l s e (check_blocks (suc (length ps)) start_table 0 (tokens_of ps)) refl

    tokens :
        length text ≤ longest_text → (o : Outcome (List Placed)) → scan most_tokens 0 text ≡ o
        → (ps : List Placed) × PastChecks text ps × (tokens_of ps ≡ ts)
    tokens l (refused n p) e = absurd (h.faultless n p (in_tokens l ((scan_fault text n p).0 e)))
    tokens l (passed ps) e =
        (ps, pairs ps l e (nesting [] 0 (tokens_of ps)) refl, spells_unique (scan-spelled most_tokens 0 text ps e) h.spelled)

    go : (b : Bool) → leb (length text) longest_text ≡ b → (ps : List Placed) × PastChecks text ps × (tokens_of ps ≡ ts)
    go true q = tokens (leb-true (length text) longest_text q) (scan most_tokens 0 text) refl
    go false q = absurd (h.faultless 1 longest_text (too_long (leb-false (length text) longest_text q)))
