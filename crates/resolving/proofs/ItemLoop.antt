-- One turn of the loop over the items of a range. Between turns the checks of all items answer what those of the items from token `i` on
-- answer, and a row that goes on from the one now, and agrees with the items from `i` on, agrees with all. A turn answers, or passes over
-- one item. This holds at every fuel that the range's tokens do not exceed.
use mathlib.Core.Path.{◌≡◌, refl, sym, ap, subst, ◌∙◌}
use mathlib.Core.Logic.{inl}
use mathlib.Core.List.{List, [], ◌∷◌}
use Prim.Native.Nat.{ℕ, zero, suc, ◌+◌, ◌-◌, ◌≤◌, ◌<◌}
use native.Mathlib.Omega.{arith}
use native.Mathlib.Numerals.{add-one}
use lib.ListN.{length}
use Rattle.std.specs.Prelude.{Result, Ok, Err}
use Rattle.grammar.specs.Bytes.{Bytes}
use Rattle.grammar.specs.Token.{Token}
use Rattle.grammar.specs.Outcome.{Outcome, refused, passed, and_then}
use Rattle.grammar.specs.Operator.{Table}
use Rattle.grammar.specs.Declaration.{declarations, all_tokens, enter}
use Rattle.grammar.specs.Span.{Item, single, pair, scope, item_tokens, items}
use Rattle.grammar.specs.Blocks.{body_table, check_item, check_items, check_blocks}
use Rattle.grammar.proofs.Logic.{impossible}
use Rattle.rows.specs.declared.roles.Note.{Note}
use Rattle.rows.specs.Fields.{TokenRow, NoteRow, note, kind, closer, arrival}
use Rattle.rows.specs.Codes.{Bounded}
use Rattle.rows.specs.Tokens.{atom_in, range, Paired}
use Rattle.rows.specs.Agreeing.{KeptOutside, Agrees, ends, atoms, brackets, blocks}
use Rattle.rows.proofs.Ranges.{length-range}
use Rattle.rows.proofs.PairedItems.{items_done, items_single, items_bracket, items_block, behind_pair, behind_scope}
use Rattle.rows.proofs.PairedCases.{BracketAt, BlockAt, paired_ordered, paired_single, paired_bracket, paired_block}
use Rattle.refusals.specs.declared.Refused.{Refused}
use Rattle.resolving.specs.Resolving.{Ranged, end_of, AtomNoted, Resolves, Resolving}
use Rattle.resolving.proofs.Bodies.{refused_by, refusal_is, refused_so, BlockResolves, BlockResolving}
use Rattle.rows.proofs.Noting.{kept_none, kept_join, noted_kept}

-- A row with the same notes from token `from` to token `to`.
abbrev pub SameNotes : NoteRow → ℕ → ℕ → NoteRow → Type 0
SameNotes R from to R' = (j : ℕ) → from ≤ j → j < to → note R' j ≡ note R j

-- What a note says of the operators that wait.
arrives : {a b : Note} → a ≡ b → a.arrival ≡ b.arrival
arrives e = ap (λ (n : Note). n.arrival) e

-- It agrees with the same items.
agrees_kept :
    {text : Bytes} {K : TokenRow} {R R' : NoteRow} {T : Table} {i to : ℕ} → Agrees text K R T i to → SameNotes R i to R' → Agrees text K R' T i to
agrees_kept ends s = ends
agrees_kept (atoms {i = i} l k n r) s =
    atoms l k (noted_kept (s i (omega arith) l) n) (agrees_kept r (λ j a b. s j (omega arith) b))
agrees_kept (brackets {i = i} c k w l m y z p q) s =
    brackets c k w l m y (arrives (s i (omega arith) (omega arith)) ∙ z)
    (agrees_kept p (λ j u o. s j (omega arith) (omega arith)))
    (agrees_kept q (λ j u o. s j (omega arith) o))
agrees_kept (blocks {i = i} c e k w v l m n y z f a t b p q) s =
    blocks c e k w v l m n y z f (arrives (s i (omega arith) (omega arith)) ∙ a) t b
    (agrees_kept p (λ j u o. s j (omega arith) (omega arith)))
    (agrees_kept q (λ j u o. s j (omega arith) o))

-- What an answer says of the outcome.
module _ (text : Bytes) (K : TokenRow) (R : NoteRow) (T : Table) (from to : ℕ) where
  says_refused : (o : Outcome (Unit {0})) (f : Refused) → Resolves text K R T from to o (Err f) → o ≡ refused_by f
  says_refused (refused n p) f h = refusal_is h
  says_refused (passed u) f h = impossible (cc h.0)

  says_passed : (o : Outcome (Unit {0})) → Resolves text K R T from to o (Ok tt) → (o ≡ passed tt) × Agrees text K R T from to
  says_passed (refused n p) h = absurd h
  says_passed (passed u) h = (refl, h.1)

module _ (text : Bytes) (K : TokenRow) (R : NoteRow) (T : Table) (i c e : ℕ) where
  block_says_refused : (o : Outcome (Unit {0})) (f : Refused) → BlockResolves text K R T i c e o (Err f) → o ≡ refused_by f
  block_says_refused (refused n p) f h = refusal_is h
  block_says_refused (passed u) f h = impossible (cc h.0)

  abbrev declared : List Token
  declared = range text K (suc i) c

  block_passed :
      (o : Outcome (Unit {0})) → BlockResolves text K R T i c e o (Ok tt)
      → (o ≡ passed tt) × (all_tokens (declarations declared) ≡ declared) × Bounded (body_table T declared)
      × Agrees text K R (body_table T declared) (suc c) e
  block_passed (refused n p) h = absurd h
  block_passed (passed u) h = (refl, h.1, h.2, h.3)

-- A range within another, with a row that is as long.
pub ranged_part :
    {text : Bytes} {K : TokenRow} {R : NoteRow} {from to : ℕ} → Ranged text K R from to → (R' : NoteRow) → length R' ≡ length R → (a b : ℕ) → b ≤ to
    → Paired K a b → Ranged text K R' a b
ranged_part g R' e a b l p =
    record {
      placed = g.placed;
      stored = g.stored;
      short = g.short;
      within = omega (arith, g.within);
      tokens = g.tokens;
      roles = omega (arith, g.roles);
      paired = p;
    }

module _ (text : Bytes) (K : TokenRow) (T : Table) (from to : ℕ) where
  abbrev checks : ℕ → ℕ → Outcome (Unit {0})
  checks k i = check_items (check_blocks k) T i (items (range text K i to))

  -- What holds between turns: the row was `R₀` and is `R`.
  pub record Progress (R₀ : NoteRow) (i : ℕ) (R : NoteRow) : Type 0 where
    pub low : from ≤ i
    pub paired : Paired K i to
    pub checked : (k : ℕ) → to - from ≤ k → checks k from ≡ checks k i
    pub agreed : (M : NoteRow) → SameNotes R from i M → Agrees text K M T i to → Agrees text K M T from to
    pub kept : KeptOutside R₀ from to R

  pub begins : (R : NoteRow) → Paired K from to → Progress R from R
  begins R p = record { low = omega arith; paired = p; checked = λ k l. refl; agreed = λ M s a. a; kept = kept_none R from to }

module _ {text : Bytes} {K : TokenRow} {T : Table} {from to : ℕ} {R₀ : NoteRow} {i : ℕ} {R : NoteRow} (inv : Progress text K T from to R₀ i R) where
  abbrev part : ℕ → ℕ → List Token
  part = range text K

  -- The answer is the one at `i`.
  answer_at :
      (R' : NoteRow) (r : Result (Unit {0}) Refused) → ((k : ℕ) → to - from ≤ k → Resolves text K R' T from to (checks text K T from to k i) r)
      → (k : ℕ) → to - from < k → Resolves text K R' T from to (check_blocks k T from (part from to)) r
  unfolding check_blocks
  answer_at R' r h zero l = absurd (omega arith)
  answer_at R' r h (suc k) l =
      subst (λ o. Resolves text K R' T from to o r) (sym (inv.checked k (omega arith))) (h k (omega arith))

  -- Behind the last item.
  pub finished : to ≤ i → Resolving text K T from to R₀ R (Ok tt)
  unfolding check_items
  finished h =
      let e : i ≡ to = omega (arith, paired_ordered inv.paired) in
      let n : items (part i to) ≡ [] = rw e (items_done text K to) in
      let a : Agrees text K R T from to = inv.agreed R (λ j u v. refl) (rw e ends) in
      record { answer = answer_at R (Ok tt) (λ k l. rw n (refl, a)); kept = inv.kept }

  -- The first item, and those from token `j` on.
  module _ (x : Item) (j : ℕ) (cut : items (part i to) ≡ x ∷ items (part j to)) (e : i + length (item_tokens x) ≡ j) where
    check_first : (k : ℕ) → checks text K T from to k i ≡ and_then (check_item (check_blocks k) T i x) (λ u. checks text K T from to k j)
    unfolding check_items
    check_first k = rw (cut, e)

    passed_over :
        Paired K j to → (R' : NoteRow) → KeptOutside R i j R' → ((k : ℕ) → to - from ≤ k → check_item (check_blocks k) T i x ≡ passed tt)
        → ((M : NoteRow) → SameNotes R' i j M → Agrees text K M T j to → Agrees text K M T i to)
        → Progress text K T from to R₀ j R'
    unfolding and_then
    passed_over p R' kept c step =
        let low = inv.low in
        let high = paired_ordered p in
        record {
          low = omega arith;
          paired = p;
          checked = λ k l. inv.checked k l ∙ check_first k ∙ rw (c k l);
          agreed = λ M s a. inv.agreed M (λ m u v. s m u (omega arith) ∙ kept.same m (inl v))
              (step M (λ m u v. s m (omega arith) v) a);
          kept = kept_join from to inv.kept kept (omega arith) (omega arith) low high;
        }

    refused_at :
        (R' : NoteRow) (f : Refused) → KeptOutside R i to R'
        → ((k : ℕ) → to - from ≤ k → check_item (check_blocks k) T i x ≡ refused_by f)
        → Resolving text K T from to R₀ R' (Err f)
    unfolding and_then
    refused_at R' f kept c =
        let low = inv.low in
        record {
          answer = answer_at R' (Err f) (λ k l.
              let h : checks text K T from to k i ≡ refused_by f = check_first k ∙ rw (c k l) in
              rw h (refused_so f));
          kept = kept_join from to inv.kept kept (omega arith) (omega arith) low (omega arith);
        }

  -- An atom, with what was noted.
  pub atom_over :
      (R' : NoteRow) → i < to → AtomNoted text K T R i R' → Progress text K T from to R₀ (i + 1) R'
  unfolding item_tokens check_item
  atom_over R' l (k, n) =
      rw (add-one i)
      (passed_over (single (atom_in text K i)) (suc i) (items_single text K i to l k) (omega arith)
      (paired_single inv.paired l k.1).1 R' n.kept (λ k l. refl)
      (λ M s a. atoms l k (noted_kept (s i (omega arith) (omega arith)) n.noted) a))

  -- A bracket pair, with what is resolved within it.
  module _
      (c : ℕ) (R₁ R₂ : NoteRow) (r : Result (Unit {0}) Refused) (l : i < to)
      (n : (kind K i ≡ 4) × (closer K i ≡ c) × (arrival R₁ i ≡ 0) × KeptOutside R i (suc i) R₁)
      (resolved : Resolving text K T (i + 1) c R₁ R₂ r)
    where
      at : BracketAt K i c to
      at = paired_bracket inv.paired l n.0 c n.1

      inner : Resolving text K T (suc i) c R₁ R₂ r
      inner = subst (λ j. Resolving text K T j c R₁ R₂ r) (add-one i) resolved

      bracket_items : items (part i to) ≡ pair (part (suc i) c) ∷ items (part (suc c) to)
      bracket_items = items_bracket text K i c to n.0 at.before at.within at.is_closing at.inner

      bracket_length : i + length (item_tokens (pair (part (suc i) c))) ≡ suc c
      bracket_length = behind_pair text K i c at.before

      enough : (k : ℕ) → to - from ≤ k → c - suc i < k
      enough k l = omega (arith, inv.low, at.before, at.within)

      bracket_kept : (high : ℕ) → suc c ≤ high → KeptOutside R i high R₂
      bracket_kept high h =
          let b = at.before in kept_join i high n.3 inner.kept (omega arith) (omega arith) (omega arith) (omega arith)

      abbrev within : ℕ → Outcome (Unit {0})
      within k = check_blocks k T (suc i) (part (suc i) c)

      inside : r ≡ Ok tt → (k : ℕ) → to - from ≤ k → (within k ≡ passed tt) × Agrees text K R₂ T (suc i) c
      inside z k l =
          says_passed text K R₂ T (suc i) c (within k) (subst (Resolves text K R₂ T (suc i) c (within k)) z (inner.answer k (enough k l)))

      pub bracket_over : r ≡ Ok tt → Progress text K T from to R₀ (c + 1) R₂
      unfolding check_item
      bracket_over z =
          rw (add-one c)
          (passed_over (pair (part (suc i) c)) (suc c) bracket_items bracket_length at.rest R₂ (bracket_kept (suc c) (omega arith))
          (λ k l. (inside z k l).0)
          (λ M s a.
          let b = at.before in
          brackets c n.0 n.1 b at.within at.is_closing
          (arrives (s i (omega arith) (omega arith) ∙ inner.kept.same i (inl (omega arith))) ∙ n.2)
          (agrees_kept (inside z (to - from) (omega arith)).1 (λ j u v. s j (omega arith) (omega arith))) a))

      pub bracket_refused : (f : Refused) → r ≡ Err f → Resolving text K T from to R₀ R₂ (Err f)
      unfolding check_item
      bracket_refused f z =
          refused_at (pair (part (suc i) c)) (suc c) bracket_items bracket_length R₂ f (bracket_kept to at.within)
          (λ k l. says_refused text K R₂ T (suc i) c (within k) f
          (subst (Resolves text K R₂ T (suc i) c (within k)) z (inner.answer k (enough k l))))

  -- A block, with what its declarations and its body answer.
  module _
      (e : ℕ) (R₁ R₂ : NoteRow) (r : Result (Unit {0}) Refused) (l : i < to)
      (n : (kind K i ≡ 7) × (end_of K i ≡ e) × (arrival R₁ i ≡ 0) × KeptOutside R i (suc i) R₁)
      (resolved : BlockResolving text K T i (closer K i) (end_of K i) R₁ R₂ r)
    where
      abbrev c : ℕ
      c = closer K i

      abbrev ds : List Token
      ds = part (suc i) c

      abbrev ts : List Token
      ts = part (suc c) e

      block_at : BlockAt K i c e to
      block_at = paired_block inv.paired l (omega (arith, n.0)) c e refl n.1

      body : BlockResolving text K T i c e R₁ R₂ r
      body = subst (λ e. BlockResolving text K T i c e R₁ R₂ r) n.1 resolved

      block_items : items (part i to) ≡ scope ds ts ∷ items (part (suc e) to)
      block_items =
          let b = block_at in
          items_block text K i c e to n.0 b.before b.between b.within b.is_in b.is_end b.quiet b.body

      block_length : i + length (item_tokens (scope ds ts)) ≡ suc e
      block_length = behind_scope text K i c e block_at.before block_at.between

      abbrev checked_body : ℕ → Outcome (Unit {0})
      checked_body k = and_then (enter (length ds) T (suc i) ds) (λ U. check_blocks k U (suc c) ts)

      check_scope : (k : ℕ) → check_item (check_blocks k) T i (scope ds ts) ≡ checked_body k
      unfolding check_item
      check_scope k =
          let e : suc (suc (i + length ds)) ≡ suc c = omega (arith, length-range text K (suc i) c, block_at.before) in
          ap (λ m. and_then (enter (length ds) T (suc i) ds) (λ U. check_blocks k U m ts)) e

      enough_body : (k : ℕ) → to - from ≤ k → e - suc c < k
      enough_body k l = omega (arith, inv.low, block_at.before, block_at.between, block_at.within)

      block_kept : (high : ℕ) → suc e ≤ high → KeptOutside R i high R₂
      block_kept high h =
          let b = block_at.before in
          let d = block_at.between in
          kept_join i high n.3 body.kept (omega arith) (omega arith) (omega arith) (omega arith)

      inside_body :
          r ≡ Ok tt → (k : ℕ) → to - from ≤ k
          → (checked_body k ≡ passed tt) × (all_tokens (declarations ds) ≡ ds) × Bounded (body_table T ds)
          × Agrees text K R₂ (body_table T ds) (suc c) e
      inside_body z k l =
          block_passed text K R₂ T i c e (checked_body k)
          (subst (BlockResolves text K R₂ T i c e (checked_body k)) z (body.answer k (enough_body k l)))

      pub block_over : r ≡ Ok tt → Progress text K T from to R₀ (e + 1) R₂
      block_over z =
          rw (add-one e)
          (passed_over (scope ds ts) (suc e) block_items block_length block_at.rest R₂ (block_kept (suc e) (omega arith))
          (λ k l. check_scope k ∙ (inside_body z k l).0)
          (λ M s a.
          let b = block_at in
          let x = b.before in
          let y = b.between in
          let (checked, whole, bounded, agreed) = inside_body z (to - from) (omega arith) in
          blocks c e n.0 refl n.1 x y b.within b.is_in b.is_end b.quiet
          (arrives (s i (omega arith) (omega arith) ∙ body.kept.same i (inl (omega arith))) ∙ n.2)
          whole bounded (agrees_kept agreed (λ j u v. s j (omega arith) (omega arith))) a))

      pub block_stops : (f : Refused) → r ≡ Err f → Resolving text K T from to R₀ R₂ (Err f)
      block_stops f z =
          refused_at (scope ds ts) (suc e) block_items block_length R₂ f (block_kept to block_at.within)
          (λ k l. check_scope k ∙ block_says_refused text K R₂ T i c e (checked_body k) f
          (subst (BlockResolves text K R₂ T i c e (checked_body k)) z (body.answer k (enough_body k l))))
