-- Calls of `canonicalize`: one byte to a byte of canonical text, 13 where it does not fit; what the buffer then holds reads back, two of
-- them are compared by their trees, and no bracket of it can be spared.
use mathlib.Core.Path.{◌≡◌, refl, sym, ap, ap₂, subst, ◌∙◌}
use mathlib.Core.Logic.{◌↔◌, ◌⊎◌, inl, inr, ⊎_elim}
use mathlib.Core.Bool.{Bool, true, false, ◌&&◌, true≢false}
use mathlib.Core.List.{List}
use Prim.Native.Nat.{ℕ, ◌≤◌, ◌<◌}
use native.Mathlib.Omega.{arith}
use lib.Dec.{leb}
use lib.ListN.{length, take, drop}
use lib.Seq.{take-append_seam, drop-append_seam}
use borrow.Author.Tests.{leb-true, leb-false}
use Rattle.grammar.specs.Bytes.{Bytes}
use Rattle.grammar.specs.Outcome.{refused, passed}
use Rattle.grammar.specs.Token.{Token}
use Rattle.grammar.specs.Spelling.{Spells}
use Rattle.grammar.specs.Declaration.{start_table}
use Rattle.grammar.specs.Tree.{Tree, flat, IsTree}
use Rattle.grammar.specs.MatchingPair.{MatchingPair, remaining}
use Rattle.grammar.specs.Abstract.{Agree}
use Rattle.grammar.specs.Fault.{current, longest_text}
use Rattle.grammar.specs.Claim.{FirstWithout, ReadingOf, canonical_tree, canonical_bytes}
use Rattle.grammar.specs.Answer as G
use Rattle.grammar.specs.Answer.{Written, read_text, over, reading_text, bytes_that, text_into}
use Rattle.grammar.proofs.Logic.{impossible, below}
use Rattle.grammar.proofs.Scanned.{spells_tokens}
use Rattle.grammar.proofs.FewestTokens as FewestTokens
use Rattle.grammar.proofs.FewestTokens.{CanonicalOf}
use Rattle.grammar.proofs.BlankRules.{reading_spelled}
use Rattle.grammar.proofs.Rules.{reading_of, same_reading, canonical-read, canonical-same}
use Rattle.reader.specs.declared.Answer.{Answer}
use Rattle.reader.specs.Answered.{Reads, Canonicalizes}
use Rattle.reader.specs.Demands.{RightAnswer, TableFits, BufferTooShort, TableHolds, BufferHolds, RightCanonical, Canonicalized}
use Rattle.reader.proofs.Calls as Calls
use Rattle.reader.proofs.Calls.{Gives, Call, read_checks}
use Rattle.reader.proofs.ReadCalls as ReadCalls

-- Bytes that fit are given, others refused with 13.
bytes_judged : (b : Bool) (w : Bytes) (n p : ℕ) → (bytes_that b w ≡ refused n p) ↔ ((n ≡ 13) × (p ≡ 0) × (b ≡ false))
unfolding bytes_that
bytes_judged true w n p = (λ h. impossible cc, λ (e, f, g). absurd (true≢false g))
bytes_judged false w n p = (λ h. (cc, cc, refl), λ (e, f, g). cc (e, f))

bytes-given : (b : Bool) (w : Bytes) (v : Written) → bytes_that b w ≡ passed v → (length w ≡ v.counted) × (w ≡ v.contents)
unfolding bytes_that
bytes-given true w v h =
    let y : ◌≡◌ {A = Written} (record { counted = length w; contents = w }) v = cc in
    (ap (λ u. u.counted) y, ap (λ u. u.contents) y)
bytes-given false w v h = impossible cc

-- The test of 13.
both_fail : (n l m : ℕ) → (leb n l && leb n m ≡ false) ↔ ((l < n) ⊎ (m < n))
both_fail n l m = go (leb n l) refl (leb n m) refl
  where
    go : (b : Bool) → leb n l ≡ b → (c : Bool) → leb n m ≡ c → (leb n l && leb n m ≡ false) ↔ ((l < n) ⊎ (m < n))
    go true e true f = (
      λ h. let z : true ≡ false = rw (e, f) at h in absurd (true≢false z),
      ⊎_elim (λ k. absurd (omega (arith, leb-true n l e))) (λ k. absurd (omega (arith, leb-true n m f))),
    )
    go true e false f = (λ h. inr (leb-false n m f), λ k. rw (e, f))
    go false e c f = (λ h. inl (leb-false n l e), λ k. rw e)

-- Canonicalizing refuses with 13 what does not fit, and else gives the canonical text.
gives : (B : List ℕ) → Gives (BufferTooShort B) (text_into B)
unfolding text_into reading_text
gives B =
    record {
      judged =
          λ r n p.
          let w = canonical_bytes r.tree in
          let j = bytes_judged (leb (length w) (length B) && leb (length w) longest_text) w n p in
          let f = both_fail (length w) (length B) longest_text in
          (λ h. let (x, y, z) = j.0 h in (x, y, f.0 z), λ (x, y, z). j.1 (x, y, f.1 z));
      numbers = λ t n p (e, f, l). (omega arith, λ g. omega arith);
    }

module _ (text : Bytes) (B B' : List ℕ) (a : Answer) (h : Canonicalizes text B B' a) where
  call : Call FirstWithout (BufferTooShort B) (text_into B) text B B' a
  unfolding G.canonicalize
  call = record { gives = gives B; outcome = read_text text; checks = read_checks text; result = h }

  pub answers : RightAnswer (BufferTooShort B) text B B' a
  answers = Calls.answers call

pub written :
    (text : Bytes) (B B' : List ℕ) (a : Answer) → Canonicalizes text B B' a → a.number ≡ 0 → (t : Tree) → ReadingOf text t
    → BufferHolds B B' a.count t
unfolding over reading_text text_into
written text B B' a h z t i =
    let (r, e, v, g, d, u) = Calls.success-read (call text B B' a h) z in
    let (counted, bytes) = bytes-given (leb (length (reading_text r)) (length B) && leb (length (reading_text r)) longest_text)
    (reading_text r) v g in
    let c = d ∙ sym counted in
    let w = u ∙ ap (λ m. over m B) (sym bytes) in
    let same : r.tree ≡ t = same_reading text r.tree t (reading_of text r e) i in
    let s = canonical_bytes r.tree in
    subst (BufferHolds B B' a.count) same
    (record {
      counted = c;
      text = ap₂ take c w ∙ take-append_seam s (drop (length s) B);
      behind = ap₂ drop c w ∙ drop-append_seam s (drop (length s) B) ∙ ap (λ n. drop n B) (sym c);
    })

-- All that is asked of it.
pub right : (text : Bytes) (B B' : List ℕ) (a : Answer) → Canonicalizes text B B' a → RightCanonical current text B B' a
right text B B' a h = record { answers = answers text B B' a h; held = written text B B' a h }

not_over : {n m : ℕ} → (m < n → ⊥) → n ≤ m
not_over {n} {m} f = below m n (λ l. absurd (f l)) (λ l. l)

-- What the buffer then holds reads as the canonical tree.
held_reads :
    (text : Bytes) (B B' : List ℕ) (a : Answer) → Canonicalizes text B B' a → a.number ≡ 0 → (t : Tree) → ReadingOf text t
    → ReadingOf (take a.count B') (canonical_tree t)
held_reads text B B' a h z t i =
    let (u, k, f) = (answers text B B' a h).success.0 z in
    let same : u ≡ t = same_reading text u t k i in
    let short : length (canonical_bytes t) ≤ longest_text = rw same at (not_over (λ l. f 13 0 (refl, refl, inr l))) in
    subst (λ s. ReadingOf s (canonical_tree t)) (sym (written text B B' a h z t i).text) (canonical-read text t i short)

pub reads_back :
    (text : Bytes) (B B' : List ℕ) (a : Answer) → Canonicalizes text B B' a → a.number ≡ 0 → (t : Tree) → ReadingOf text t
    → (N N' : List ℕ) (b : Answer) → Reads (take a.count B') N N' b → TableFits N (canonical_tree t)
    → (b.number ≡ 0) × TableHolds (take a.count B') N N' b.count (canonical_tree t)
reads_back text B B' a h z t i N N' b g l =
    let back = held_reads text B B' a h z t i in
    let zero : b.number ≡ 0 = (ReadCalls.answers (take a.count B') N N' b g).success.1 (canonical_tree t, back, λ n p o. omega arith) in
    (zero, ReadCalls.tree_held (take a.count B') N N' b g zero (canonical_tree t) back)

pub same_bytes :
    (text other : Bytes) (B B' C C' : List ℕ) (a b : Answer) → Canonicalizes text B B' a → Canonicalizes other C C' b
    → a.number ≡ 0 → b.number ≡ 0 → (t u : Tree) → ReadingOf text t → ReadingOf other u → (take a.count B' ≡ take b.count C') ↔ Agree t u
same_bytes text other B B' C C' a b h k z y t u i j =
    let p = (written text B B' a h z t i).text in
    let q = (written other C C' b k y u j).text in
    let s = canonical-same text other t u i j in
    (λ e. s.0 (sym p ∙ e ∙ q), λ e. p ∙ s.1 e ∙ sym q)

-- What a call with the number 0 read, and what the buffer then holds.
rule_read_lem :
    (text : Bytes) (B B' : List ℕ) (a : Answer) → Canonicalizes text B B' a → a.number ≡ 0
    → (r : Tree) × ReadingOf text r × ReadingOf (take a.count B') (canonical_tree r)
rule_read_lem text B B' a h z =
    let (r, rule, fits) = (answers text B B' a h).success.0 z in
    (r, rule, held_reads text B B' a h z r rule)

-- Every such call writes a canonical text.
pub canonicalized :
    (text : Bytes) (B B' : List ℕ) (a : Answer) → Canonicalizes text B B' a → a.number ≡ 0 → (ts : List Token) × (t : Tree) × Canonicalized ts t
canonicalized text B B' a h z =
    let (r, rule, back) = rule_read_lem text B B' a h z in
    let spelled = reading_spelled (take a.count B') (canonical_tree r) back in (
      flat (canonical_tree r),
      canonical_tree r,
      record { text = text; buffer = B; buffer' = B'; answer = a; call = h; written = z; spelled = spelled; reading = back },
    )

-- What was written is the canonical text of a rule, ..
canonical_of : {ts : List Token} {t : Tree} → Canonicalized ts t → CanonicalOf ts t
canonical_of c =
    let (r, rule, back) = rule_read_lem c.text c.buffer c.buffer' c.answer c.call c.written in
    record {
      text = c.text;
      rule = r;
      read = rule;
      written = take c.answer.count c.buffer';
      back = back;
      spelled = c.spelled;
      reading = c.reading;
    }

-- .. so no text with a tree that agrees has fewer tokens, ..
pub fewest_tokens :
    (ts us : List Token) (t u : Tree) (other : Bytes) → Canonicalized ts t → Spells other us → IsTree start_table us u → Agree t u
    → length ts ≤ length us
fewest_tokens ts us t u other c s h agree = FewestTokens.fewest_tokens (canonical_of c) us u (spells_tokens s) h agree

-- .. and none of its bracket pairs can be dropped.
pub bracket_needed :
    (ts : List Token) (t u : Tree) → Canonicalized ts t → (pair : MatchingPair ts) → IsTree start_table (remaining pair) u → Agree t u → ⊥
bracket_needed ts t u c pair h agree = FewestTokens.bracket_needed (canonical_of c) pair u h agree
