-- What holds of a call of any service on a text. The checks come first: what they refuse is refused. Of a text that is read the service gives a
-- refusal of its own, or writes something over the buffer. What is read is what the text reads as.
use mathlib.Core.Path.{◌≡◌, refl, sym, ap, ◌∙◌}
use mathlib.Core.Logic.{◌↔◌, inl, inr, ⊎_elim}
use mathlib.Core.Bool.{Bool, true, false}
use mathlib.Core.List.{List, ◌∷◌}
use Prim.Native.Nat.{ℕ}
use native.Mathlib.Omega.{arith}
use lib.Dec.{eqb}
use borrow.Author.Tests.{eqb-true}
use Rattle.grammar.specs.Bytes.{Bytes}
use Rattle.grammar.specs.Token.{Token}
use Rattle.grammar.specs.Outcome.{Outcome, refused, passed, and_then}
use Rattle.grammar.specs.Tree.{Tree}
use Rattle.grammar.specs.Scan.{scan}
use Rattle.grammar.specs.Fault.{current, most_tokens, BeforeEleven, Fault, Past}
use Rattle.grammar.specs.Claim.{FirstWithout, LostAt, ReadingOf}
use Rattle.grammar.specs.Answer.{Reading, Written, answered, read_text, lost_offset, lost_at, located_text, over, rejection, success}
use Rattle.grammar.proofs.Logic.{impossible, clash}
use Rattle.grammar.proofs.RefusalNumbers.{Numbered, OfChecks, numbered_holds}
use Rattle.grammar.proofs.Answers.{read_numbered}
use Rattle.grammar.proofs.Faults.{fault_exactly}
use Rattle.grammar.proofs.LostPlaces.{lost_eleven}
use Rattle.grammar.proofs.Rules.{reading_of, read_of, eleven_exactly}
use Rattle.reader.specs.declared.Answer.{Answer}
use Rattle.reader.specs.Answered.{result_of}
use Rattle.reader.specs.Demands.{IsOwn, RightAnswerUnder}

-- An outcome of checks 1 to 11 and 17 of a text, with 11 at a place that `Treeless` says.
pub record Checks (Treeless : Bytes → List Token → ℕ → Type 0) (text : Bytes) (o : Outcome Reading) : Type 0 where
  pub numbered : Numbered OfChecks o
  pub faults : (n p : ℕ) → ((o ≡ refused n p) × BeforeEleven n) ↔ Fault text n p
  pub eleven : (p : ℕ) → (o ≡ refused 11 p) ↔ ((x : Token) × (ts : List Token) × Past text (x ∷ ts) × Treeless text (x ∷ ts) p)
  pub reads : (r : Reading) → (o ≡ passed r) ↔ (read_text text ≡ passed r)

pub read_checks : (text : Bytes) → Checks FirstWithout text (read_text text)
read_checks text =
    record { numbered = read_numbered text; faults = fault_exactly text; eleven = eleven_exactly text; reads = λ r. (λ e. e, λ e. e) }

-- The same with 11 where the text is lost.
module _ (text : Bytes) where
  abbrev lost : ℕ
  lost = lost_offset text (scan most_tokens 0 text)

  abbrev refusal : ℕ → ℕ → Outcome Reading
  refusal n p = refused n p

  lost_numbered : (o : Outcome Reading) → Numbered OfChecks o → Numbered OfChecks (lost_at text o)
  unfolding lost_at
  lost_numbered (refused n p) h = go (eqb n 11) refl
    where
      go : (b : Bool) → eqb n 11 ≡ b → Numbered OfChecks (lost_at text (refused n p))
      go true e = rw (e, lost_at) h
      go false e = rw (e, lost_at) h
  lost_numbered (passed r) h = tt

  -- Another number keeps its place, ..
  lost_other : (n p : ℕ) → (n ≡ 11 → ⊥) → (o : Outcome Reading) → (lost_at text o ≡ refused n p) ↔ (o ≡ refused n p)
  unfolding lost_at
  lost_other n p d (passed r) = (λ e. impossible cc, λ e. impossible cc)
  lost_other n p d (refused m q) = go (eqb m 11) refl
    where
      go : (b : Bool) → eqb m 11 ≡ b → (lost_at text (refused m q) ≡ refused n p) ↔ (refusal m q ≡ refused n p)
      go true e =
          let f : m ≡ 11 = eqb-true m 11 e in (
            λ h. let z : refusal m lost ≡ refused n p = rw (e, lost_at) at h in let k : m ≡ n = cc in absurd (d (sym k ∙ f)),
            λ h. let k : m ≡ n = cc in absurd (d (sym k ∙ f)),
          )
      go false e = rw (e, lost_at) (λ h. h, λ h. h)

  -- .. 11 has that one, and what is read is read.
  lost_treeless : (p : ℕ) (o : Outcome Reading) → (lost_at text o ≡ refused 11 p) ↔ ((q : ℕ) × (o ≡ refused 11 q) × (p ≡ lost))
  unfolding lost_at
  lost_treeless p (passed r) = (λ e. impossible cc, λ w. let e = w.1 in impossible cc)
  lost_treeless p (refused m q) = go (eqb m 11) refl
    where
      go : (b : Bool) → eqb m 11 ≡ b → (lost_at text (refused m q) ≡ refused 11 p) ↔ ((j : ℕ) × (refusal m q ≡ refused 11 j) × (p ≡ lost))
      go true e =
          let f : m ≡ 11 = eqb-true m 11 e in (
            λ h. let z : refusal m lost ≡ refused 11 p = rw (e, lost_at) at h in (q, ap (λ k. refused k q) f, cc),
            λ (j, h, g). rw (e, lost_at) (cc (f, g)),
          )
      go false e = (
        λ h. let z : refusal m q ≡ refused 11 p = rw (e, lost_at) at h in let k : m ≡ 11 = cc in absurd (clash (ap (λ i. eqb i 11) k) e),
        λ (j, h, g). let k : m ≡ 11 = cc in absurd (clash (ap (λ i. eqb i 11) k) e),
      )

  lost_reads : (r : Reading) (o : Outcome Reading) → (lost_at text o ≡ passed r) ↔ (o ≡ passed r)
  unfolding lost_at
  lost_reads r (passed s) = (λ e. e, λ e. e)
  lost_reads r (refused m q) = go (eqb m 11) refl
    where
      go : (b : Bool) → eqb m 11 ≡ b → (lost_at text (refused m q) ≡ passed r) ↔ (refusal m q ≡ passed r)
      go true e = (λ h. let z : refusal m lost ≡ passed r = rw (e, lost_at) at h in impossible cc, λ h. impossible cc)
      go false e = (λ h. let z : refusal m q ≡ passed r = rw (e, lost_at) at h in impossible cc, λ h. impossible cc)

  pub lost_checks : Checks LostAt text (located_text text)
  lost_checks =
      record {
        numbered = lost_numbered (read_text text) (read_numbered text);
        faults =
            λ n p.
            let f = fault_exactly text n p in (
              λ (e, b). f.0 ((lost_other n p (not_eleven n b) (read_text text)).0 e, b),
              λ g. let (e, b) = f.1 g in ((lost_other n p (not_eleven n b) (read_text text)).1 e, b),
            );
        eleven =
            λ p.
            let l = lost_treeless p (read_text text) in
            let m = lost_eleven text p in
            (λ e. m.0 (l.0 e), λ w. l.1 (m.1 w));
        reads = λ r. lost_reads r (read_text text);
      }
    where
      not_eleven : (n : ℕ) → BeforeEleven n → n ≡ 11 → ⊥
      not_eleven n b e = ⊎_elim (λ l. omega arith) (λ l. omega arith) b

-- A service gives of each reading a refusal of its own, which is the one of `Own`, or something to write.
pub record Gives (Own : Tree → ℕ → ℕ → Type 0) (give : Reading → Outcome Written) : Type 0 where
  pub judged : (r : Reading) (n p : ℕ) → (give r ≡ refused n p) ↔ Own r.tree n p
  pub numbers : (t : Tree) (n p : ℕ) → Own t n p → IsOwn n

-- A call of a service: the checks come first, and then what the service gives.
pub record Call
    (Treeless : Bytes → List Token → ℕ → Type 0) (Own : Tree → ℕ → ℕ → Type 0) (give : Reading → Outcome Written) (text : Bytes) (B B' : List ℕ)
    (a : Answer)
    : Type 0 where
  pub gives : Gives Own give
  pub outcome : Outcome Reading
  pub checks : Checks Treeless text outcome
  pub result : result_of a B' ≡ answered B (and_then outcome give)

module _
    {Treeless : Bytes → List Token → ℕ → Type 0} {Own : Tree → ℕ → ℕ → Type 0} {give : Reading → Outcome Written} {text : Bytes} {B B' : List ℕ}
    {a : Answer} (call : Call Treeless Own give text B B' a)
  where
    abbrev o : Outcome Reading
    o = call.outcome

    -- The answer's three numbers and the buffer.
    record Is (n p c : ℕ) (C : List ℕ) : Type 0 where
      pub number : a.number ≡ n
      pub offset : a.offset ≡ p
      pub count : a.count ≡ c
      pub buffer : B' ≡ C

    is_refused : (n p : ℕ) → and_then o give ≡ refused n p → Is n p 0 B
    unfolding result_of answered rejection
    is_refused n p e =
        let f = call.result ∙ ap (answered B) e in
        record {
          number = ap (λ r. r.answer.number) f;
          offset = ap (λ r. r.answer.offset) f;
          count = ap (λ r. r.answer.count) f;
          buffer = ap (λ r. r.buffer) f;
        }

    is_written : (w : Written) → and_then o give ≡ passed w → Is 0 0 w.counted (over w.contents B)
    unfolding result_of answered success
    is_written w e =
        let f = call.result ∙ ap (answered B) e in
        record {
          number = ap (λ r. r.answer.number) f;
          offset = ap (λ r. r.answer.offset) f;
          count = ap (λ r. r.answer.count) f;
          buffer = ap (λ r. r.buffer) f;
        }

    -- The three ways of a call: a refusal of the checks, one of the service, or a success.
    by_outcome :
        {X : Type 0}
        → ((n p : ℕ) → o ≡ refused n p → OfChecks n → Is n p 0 B → X)
        → ((r : Reading) (n p : ℕ) → o ≡ passed r → give r ≡ refused n p → Is n p 0 B → X)
        → ((r : Reading) (w : Written) → o ≡ passed r → give r ≡ passed w → Is 0 0 w.counted (over w.contents B) → X)
        → X
    unfolding and_then
    by_outcome {X} f g k = go o refl
      where
        go : (v : Outcome Reading) → o ≡ v → X
        go (refused n p) e = f n p e (numbered_holds OfChecks o call.checks.numbered n p e) (is_refused n p (ap (λ v. and_then v give) e))
        go (passed r) e = given (give r) refl
          where
            given : (u : Outcome Written) → give r ≡ u → X
            given (refused n p) d = g r n p e d (is_refused n p (ap (λ v. and_then v give) e ∙ d))
            given (passed w) d = k r w e d (is_written w (ap (λ v. and_then v give) e ∙ d))

    -- Which of the three it is, by the number.
    not_zero : (n : ℕ) → OfChecks n → n ≡ 0 → ⊥
    not_zero n k z = ⊎_elim (λ l. omega arith) (λ l. omega arith) k

    not_own : (n : ℕ) → OfChecks n → IsOwn n → ⊥
    not_own n k z = ⊎_elim (λ l. omega arith) (λ l. omega arith) k

    own_number : (r : Reading) (n p : ℕ) → give r ≡ refused n p → IsOwn n
    own_number r n p d = call.gives.numbers r.tree n p ((call.gives.judged r n p).0 d)

    -- A refusal of the checks is that of the call.
    checked_exactly : (n p : ℕ) → OfChecks n → ((a.number ≡ n) × (a.offset ≡ p)) ↔ (o ≡ refused n p)
    checked_exactly n p b = (
      λ (y, z).
          by_outcome (λ m q e k i. let f : m ≡ n = sym i.number ∙ y in let g : q ≡ p = sym i.offset ∙ z in e ∙ cc)
          (λ r m q e d i. absurd (not_own n b (let f : m ≡ n = sym i.number ∙ y in rw f at (own_number r m q d))))
          (λ r w e d i. absurd (not_zero n b (sym y ∙ i.number))),
      λ e.
          by_outcome (λ m q f k i. let x : refused m q ≡ refused n p = sym f ∙ e in (i.number ∙ cc, i.offset ∙ cc))
          (λ r m q f d i. let x = sym f ∙ e in impossible cc)
          (λ r w f d i. let x = sym f ∙ e in impossible cc),
    )

    among_checks : (n : ℕ) → BeforeEleven n → OfChecks n
    among_checks n b = ⊎_elim (λ l. inl (omega arith)) inr b

    faults : (n p : ℕ) → ((a.number ≡ n) × (a.offset ≡ p) × BeforeEleven n) ↔ Fault text n p
    faults n p = (
      λ (y, z, b). (call.checks.faults n p).0 ((checked_exactly n p (among_checks n b)).0 (y, z), b),
      λ f.
          let (e, b) = (call.checks.faults n p).1 f in
          let (y, z) = (checked_exactly n p (among_checks n b)).1 e in
          (y, z, b),
    )

    eleven : (p : ℕ) → ((a.number ≡ 11) × (a.offset ≡ p)) ↔ ((x : Token) × (ts : List Token) × Past text (x ∷ ts) × Treeless text (x ∷ ts) p)
    eleven p =
        let c = checked_exactly 11 p (inl (omega arith)) in
        let t = call.checks.eleven p in
        (λ z. t.0 (c.0 z), λ w. c.1 (t.1 w))

    -- What the service gives of the text's reading.
    given_exactly : (t : Tree) → ReadingOf text t → (r : Reading) × (o ≡ passed r) × (r.tree ≡ t)
    given_exactly t i = let (r, e, q) = read_of text t i in (r, (call.checks.reads r).1 e, q)

    read_as : (r : Reading) → o ≡ passed r → ReadingOf text r.tree
    read_as r e = reading_of text r ((call.checks.reads r).0 e)

    own : (n p : ℕ) → ((a.number ≡ n) × (a.offset ≡ p) × IsOwn n) ↔ ((t : Tree) × ReadingOf text t × Own t n p)
    own n p = (
      λ (y, z, b).
          by_outcome (λ m q e k i. let f : m ≡ n = sym i.number ∙ y in absurd (not_own n (rw f at k) b))
          (λ r m q e d i.
          let f : m ≡ n = sym i.number ∙ y in
          let g : q ≡ p = sym i.offset ∙ z in
          (r.tree, read_as r e, (call.gives.judged r n p).0 (d ∙ cc)))
          (λ r w e d i. absurd (let f : n ≡ 0 = sym y ∙ i.number in omega arith)),
      λ (t, i, w).
          let (r, e, q) = given_exactly t i in
          let d = (call.gives.judged r n p).1 (rw q w) in
          by_outcome (λ m j f k s. let x = sym f ∙ e in impossible cc)
          (λ s m j f g v.
          let x : passed s ≡ passed r = sym f ∙ e in
          let y : s ≡ r = cc in
          let z : refused m j ≡ refused n p = sym g ∙ ap give y ∙ d in
          (v.number ∙ cc, v.offset ∙ cc, call.gives.numbers t n p w))
          (λ s u f g v.
          let x : passed s ≡ passed r = sym f ∙ e in
          let y : s ≡ r = cc in
          let z = sym g ∙ ap give y ∙ d in impossible cc),
    )

    zero : (a.number ≡ 0) ↔ ((t : Tree) × ReadingOf text t × ((n p : ℕ) → Own t n p → ⊥))
    zero = (
      λ y.
          by_outcome (λ m q e k i. absurd (not_zero m k (sym i.number ∙ y)))
          (λ r m q e d i. absurd (let b = own_number r m q d in let f : m ≡ 0 = sym i.number ∙ y in omega arith))
          (λ r w e d i. (r.tree, read_as r e, λ n p v. let z = sym d ∙ (call.gives.judged r n p).1 v in impossible cc)),
      λ (t, i, none).
          let (r, e, q) = given_exactly t i in
          by_outcome (λ m j f k s. let x = sym f ∙ e in impossible cc)
          (λ s m j f d v.
          let x : passed s ≡ passed r = sym f ∙ e in
          let y : s ≡ r = cc in
          let z : s.tree ≡ t = ap (λ (u : Reading). u.tree) y ∙ q in
          absurd (none m j (rw z at ((call.gives.judged s m j).0 d))))
          (λ s u f d v. v.number),
    )

    -- A success has place 0; a refusal has count 0 and changes nothing.
    place_zero_lem : a.number ≡ 0 → a.offset ≡ 0
    place_zero_lem y =
        by_outcome (λ m q e k i. absurd (not_zero m k (sym i.number ∙ y)))
        (λ r m q e d i. absurd (let b = own_number r m q d in let f : m ≡ 0 = sym i.number ∙ y in omega arith)) (λ r w e d i. i.offset)

    unchanged : (a.number ≡ 0 → ⊥) → (B' ≡ B) × (a.count ≡ 0)
    unchanged f =
        by_outcome (λ m q e k i. (i.buffer, i.count)) (λ r m q e d i. (i.buffer, i.count)) (λ r w e d i. absurd (f i.number))

    -- Demand 1.
    pub answers : RightAnswerUnder current Treeless Own text B B' a
    answers =
        record { faults = faults; eleven = eleven; own = own; success = zero; place_zero = place_zero_lem; unchanged = unchanged }

    -- A success writes what the service gives.
    pub success-read :
        a.number ≡ 0
        → (r : Reading) × (read_text text ≡ passed r) × (w : Written) × (give r ≡ passed w) × (a.count ≡ w.counted) × (B' ≡ over w.contents B)
    success-read y =
        by_outcome (λ m q e k i. absurd (not_zero m k (sym i.number ∙ y)))
        (λ r m q e d i. absurd (let b = own_number r m q d in let f : m ≡ 0 = sym i.number ∙ y in omega arith))
        (λ r w e d i. (r, (call.checks.reads r).0 e, w, d, i.count, i.buffer))
