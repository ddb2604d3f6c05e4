-- Checks 8 to 10 and 17 of a text answer with the fault of its first block that has one, by the block's `let`.
-- The checks go through the items of a span from left to right and into each. The blocks with a fault are here told by the same walk, so
-- that a fault is inside the first item or behind it, and what the checks say of both gives what they say of the whole.
use mathlib.Core.Path.{◌≡◌, refl, sym, ap, ◌∙◌}
use mathlib.Core.Logic.{◌↔◌, ◌⊎◌, inl, inr, ⊎_elim}
use mathlib.Core.List.{List, [], ◌∷◌, ◌++◌, append_assoc}
use Prim.Native.Nat.{ℕ, zero, suc, ◌+◌, ◌≤◌, ◌<◌}
use native.Mathlib.Omega.{arith}
use lib.ListN.{length, length-append}
use Rattle.grammar.specs.Bytes.{All}
use Rattle.grammar.specs.Token.{Atom, Token, structure, closing, keyword_in, keyword_end}
use Rattle.grammar.specs.Outcome.{Outcome, refused, passed, and_then}
use Rattle.grammar.specs.Operator.{Table, Distinct}
use Rattle.grammar.specs.Declaration.{Declaration, declare_all, declarations, all_tokens, start_table, enter}
use Rattle.grammar.specs.Nesting.{nesting}
use Rattle.grammar.specs.Span.{Item, single, pair, scope, item_tokens, all_item_tokens, ItemsOf, items}
use Rattle.grammar.specs.Spans.{Span, start_of, number_behind, whole_span, pair_span, body_span, SpanIn, itself, BlockOf}
use Rattle.grammar.specs.Blocks.{check_item, check_items, check_blocks}
use Rattle.grammar.specs.Fault.{current, DeclarationFault, BlockFault}
use Rattle.grammar.proofs.ItemsRelation.{items_of, items-only, items_flat_tokens}
use Rattle.grammar.proofs.Logic.{impossible}
use Rattle.grammar.proofs.Declarations.{enter_sound}
use Rattle.grammar.proofs.DeclarationTokens.{declarations_told}
use Rattle.grammar.proofs.DeclarationFaults.{enter_place, enter_fault, declaration_fault_unique}
use Rattle.grammar.proofs.Operators.{distinct_declared, distinct_start}
use Rattle.grammar.proofs.Nested.{nesting_anywhere}
use Rattle.grammar.proofs.ItemsNested.{append_tokens}
use Rattle.grammar.proofs.TextSound.{Nested, Inside, inside_items, pair_within, scope_within}

-- Among items under the operators `T`, the first at token number `i`, a block whose `let` is token number `j` has a fault.
data FaultIn : Table → ℕ → List Item → ℕ → ℕ → ℕ → Type 0 where
  of_block :
      {T : Table} {i : ℕ} {ds us : List Token} {xs : List Item} {n k : ℕ} → DeclarationFault current T ds n k → FaultIn T i (scope ds us ∷ xs) i n k
  in_pair :
      {T : Table} {i : ℕ} {us : List Token} {xs ks : List Item} {j n k : ℕ} → ItemsOf us ks → FaultIn T (suc i) ks j n k
      → FaultIn T i (pair us ∷ xs) j n k
  in_body :
      {T : Table} {i : ℕ} {ds us : List Token} {xs ks : List Item} {j n k : ℕ} (es : List Declaration) → ds ≡ all_tokens es → ItemsOf us ks
      → FaultIn (declare_all T es) (suc (suc (i + length ds))) ks j n k → FaultIn T i (scope ds us ∷ xs) j n k
  later :
      {T : Table} {i : ℕ} {x : Item} {xs : List Item} {j n k : ℕ} → FaultIn T (i + length (item_tokens x)) xs j n k → FaultIn T i (x ∷ xs) j n k

-- These are the faults of the blocks in a span. Of items behind others:
behind :
    {T : Table} {j n k : ℕ} (i : ℕ) (xs ys : List Item) → FaultIn T (i + length (all_item_tokens xs)) ys j n k → FaultIn T i (xs ++ ys) j n k
unfolding all_item_tokens
behind i [] ys f = let e : i + 0 ≡ i = omega arith in rw e at f
behind i (x ∷ xs) ys f =
    let e : i + length (item_tokens x ++ all_item_tokens xs) ≡ i + length (item_tokens x) + length (all_item_tokens xs) =
    omega (arith, length-append (item_tokens x) (all_item_tokens xs)) in
    later (behind (i + length (item_tokens x)) xs ys (rw e at f))

-- A block of some span in the span, which has a fault, is among them ..
span_fault :
    {s r : Span} {n k : ℕ} → SpanIn s r → (xs : List Item) (ds us : List Token) (ys : List Item) → r.contents ≡ xs ++ scope ds us ∷ ys
    → DeclarationFault current r.table ds n k → FaultIn s.table (start_of s.opener) s.contents (number_behind r xs) n k
span_fault {s} itself xs ds us ys e f = rw e (behind (start_of s.opener) xs (scope ds us ∷ ys) (of_block f))
span_fault {s} (SpanIn.in_pair zs vs ws ks c m h) xs ds us ys e f =
    rw c (behind (start_of s.opener) zs (pair vs ∷ ws) (in_pair m (span_fault h xs ds us ys e f)))
span_fault {s} (SpanIn.in_body zs es vs ws ks c m h) xs ds us ys e f =
    rw c (behind (start_of s.opener) zs (scope (all_tokens es) vs ∷ ws) (in_body es refl m (span_fault h xs ds us ys e f)))

-- .. and each of them is a block of some span in the span.
record Faulty (s : Span) (j n k : ℕ) : Type 0 where
  before : List Item
  part : List Token
  inside : List Token
  after : List Item
  cut : s.contents ≡ before ++ scope part inside ∷ after
  number : j ≡ number_behind s before
  fault : DeclarationFault current s.table part n k

number_behind_lem : {i : ℕ} (s : Span) (xs : List Item) (x : Item) → i ≡ number_behind s xs → i + length (item_tokens x) ≡ number_behind s (xs ++ x ∷ [])
unfolding all_item_tokens
number_behind_lem s xs x e =
    omega (arith, ap length (append_tokens xs (x ∷ [])), length-append (all_item_tokens xs) (item_tokens x ++ []), length-append (item_tokens x) [])

fault_span :
    {T : Table} {i : ℕ} {is : List Item} {j n k : ℕ} (s : Span) (xs : List Item) → T ≡ s.table → i ≡ number_behind s xs → s.contents ≡ xs ++ is
    → FaultIn T i is j n k → (r : Span) × SpanIn s r × Faulty r j n k
unfolding all_item_tokens
fault_span s xs t e c (of_block {ds = ds} {us} {xs = ys} f) =
    (s, itself, record { before = xs; part = ds; inside = us; after = ys; cut = c; number = e; fault = rw t at f })
fault_span s xs t e c (in_pair {us = us} {xs = ys} {ks} m f) =
    let (r, h, g) = fault_span (pair_span s xs ks) [] t (omega arith) refl f in
    (r, SpanIn.in_pair xs us ys ks c m h, g)
fault_span s xs t e c (in_body {us = us} {xs = ys} {ks} es d m f) =
    let (r, h, g) = fault_span (body_span s xs es ks) [] (ap (λ U. declare_all U es) t) (omega (arith, ap length d)) refl f in
    (r, SpanIn.in_body xs es us ys ks (rw d at c) m h, g)
fault_span s xs t e c (later {x = x} {xs = ys} f) =
    fault_span s (xs ++ x ∷ []) t (number_behind_lem s xs x e) (c ∙ sym (append_assoc xs (x ∷ []) ys)) f

-- The tokens of a bracket pair and of a block.
pair_length : (us : List Token) → length (item_tokens (pair us)) ≡ 2 + length us
unfolding item_tokens
pair_length us = omega (arith, length-append us (structure closing ∷ []))

scope_length : (ds us : List Token) → length (item_tokens (scope ds us)) ≡ 3 + (length ds + length us)
unfolding item_tokens
scope_length ds us =
    omega (arith, length-append (ds ++ structure keyword_in ∷ us) (structure keyword_end ∷ []), length-append ds (structure keyword_in ∷ us))

-- The `let` of a block among items is one of their tokens.
within : {T : Table} {i : ℕ} {is : List Item} {j n k : ℕ} → FaultIn T i is j n k → (i ≤ j) × (j < i + length (all_item_tokens is))
unfolding all_item_tokens
within (of_block {ds = ds} {us} {xs} f) =
    (omega arith, omega (arith, length-append (item_tokens (scope ds us)) (all_item_tokens xs), scope_length ds us))
within (in_pair {us = us} {xs} m f) =
    let (l, h) = within f in
    let a = length-append (item_tokens (pair us)) (all_item_tokens xs) in
    (omega arith, omega (arith, ap length (items_flat_tokens _ _ m), pair_length us))
within (in_body {ds = ds} {us} {xs} es d m f) =
    let (l, h) = within f in
    let a = length-append (item_tokens (scope ds us)) (all_item_tokens xs) in
    (omega arith, omega (arith, ap length (items_flat_tokens _ _ m), scope_length ds us))
within (later {x = x} {xs} f) =
    let (l, h) = within f in
    (omega arith, omega (arith, length-append (item_tokens x) (all_item_tokens xs)))

-- A fault of a block with a later `let`, or the same fault.
abbrev LaterOrSame : ℕ → ℕ → ℕ → ℕ → ℕ → ℕ → Type 0
LaterOrSame i n k j m l = (i < j) ⊎ ((i ≡ j) × ((n ≡ m) × (k ≡ l)))

-- What a check of items says: that no block among them has a fault, or the fault of the first one that has, and where it is.
record First (T : Table) (i : ℕ) (is : List Item) (n p : ℕ) : Type 0 where
  number : ℕ
  at : ℕ
  fault : FaultIn T i is number n at
  place : p ≡ suc (number + at)
  only : (j m k : ℕ) → FaultIn T i is j m k → LaterOrSame number n at j m k

abbrev Says : Table → ℕ → List Item → Outcome (Unit {0}) → Type 0
Says T i is (refused n p) = First T i is n p
Says T i is (passed u) = (j n k : ℕ) → FaultIn T i is j n k → ⊥

-- An item with the items `ks` inside and no fault of its own, and the items `xs` behind it: a fault is inside it or behind it, and what is
-- inside comes first.
module _ {T T' : Table} {i i' : ℕ} {x : Item} {xs ks : List Item} (fits : i' + length (all_item_tokens ks) ≤ i + length (item_tokens x))
    (out : (j n k : ℕ) → FaultIn T' i' ks j n k → FaultIn T i (x ∷ xs) j n k)
    (found : (j n k : ℕ) → FaultIn T i (x ∷ xs) j n k → FaultIn T' i' ks j n k ⊎ FaultIn T (i + length (item_tokens x)) xs j n k) where
  item_says :
      (o r : Outcome (Unit {0})) → Says T' i' ks o → Says T (i + length (item_tokens x)) xs r → Says T i (x ∷ xs) (and_then o (λ u. r))
  unfolding and_then
  item_says (refused n p) r f g =
      record {
        number = f.number;
        at = f.at;
        fault = out f.number n f.at f.fault;
        place = f.place;
        only = λ j m k c. which j m k (found j m k c);
      }
    where
      which :
          (j m k : ℕ) → FaultIn T' i' ks j m k ⊎ FaultIn T (i + length (item_tokens x)) xs j m k
          → LaterOrSame f.number n f.at j m k
      which j m k (inl c) = f.only j m k c
      which j m k (inr c) = inl (omega (arith, (within f.fault).1, (within c).0))
  item_says (passed u) (refused n p) f g =
      record {
        number = g.number;
        at = g.at;
        fault = later g.fault;
        place = g.place;
        only = λ j m k c. ⊎_elim (λ a. absurd (f j m k a)) (g.only j m k) (found j m k c);
      }
  item_says (passed u) (passed v) f g = λ j n k c. ⊎_elim (f j n k) (g j n k) (found j n k c)

-- A block with a fault of its own comes before what is in its body and behind it.
block_first :
    {T : Table} {ds us : List Token} {xs : List Item} {n k : ℕ} (i : ℕ) → DeclarationFault current T ds n k
    → First T i (scope ds us ∷ xs) n (suc (i + k))
block_first {T} {ds} {us} {xs} {n} {k} i f = record { number = i; at = k; fault = of_block f; place = refl; only = only }
  where
    only : (j m l : ℕ) → FaultIn T i (scope ds us ∷ xs) j m l → LaterOrSame i n k j m l
    only j m l (of_block g) = inr (refl, declaration_fault_unique T ds n m k l f g)
    only j m l (in_body es d h g) = inl (omega (arith, (within g).0))
    only j m l (later g) = inl (omega (arith, (within g).0, scope_length ds us))

single_says :
    (T : Table) (i : ℕ) (a : Atom) (xs : List Item) (r : Outcome (Unit {0})) → Says T (i + length (item_tokens (single a))) xs r → Says T i (single a ∷ xs) r
unfolding and_then item_tokens all_item_tokens
single_says T i a xs r = item_says {ks = []} (omega arith) (λ j n k c. absurd (nothing j n k c)) found (passed tt) r nothing
  where
    nothing : (j n k : ℕ) → FaultIn T i [] j n k → ⊥
    nothing j n k = elim [ ]

    found : (j n k : ℕ) → FaultIn T i (single a ∷ xs) j n k → FaultIn T i [] j n k ⊎ FaultIn T (i + length (item_tokens (single a))) xs j n k
    found j n k (later c) = inr c

-- The items of a span of nested tokens are those that the checks walk through.
items-length : (us : List Token) → Nested us → length (all_item_tokens (items us)) ≡ length us
items-length us h = ap length (items_flat_tokens us (items us) (items_of us 0 (h 0)))

pair_says :
    (T : Table) (i : ℕ) (us : List Token) (xs : List Item) → Nested us → (o r : Outcome (Unit {0})) → Says T (suc i) (items us) o
    → Says T (i + length (item_tokens (pair us))) xs r → Says T i (pair us ∷ xs) (and_then o (λ u. r))
pair_says T i us xs h =
    item_says (omega (arith, items-length us h, pair_length us)) (λ j n k c. in_pair (items_of us 0 (h 0)) c) found
  where
    found :
        (j n k : ℕ) → FaultIn T i (pair us ∷ xs) j n k
        → FaultIn T (suc i) (items us) j n k ⊎ FaultIn T (i + length (item_tokens (pair us))) xs j n k
    found j n k (in_pair {ks = ks} e c) = inl (rw (items-only us ks e) at c)
    found j n k (later c) = inr c

-- A block that has no fault of its own.
body_says :
    (T : Table) (i : ℕ) (ds us : List Token) (xs : List Item) (es : List Declaration) → ds ≡ all_tokens es → Nested us
    → ((n k : ℕ) → DeclarationFault current T ds n k → ⊥) → (o r : Outcome (Unit {0})) → Says (declare_all T es) (suc (suc (i + length ds))) (items us) o
    → Says T (i + length (item_tokens (scope ds us))) xs r → Says T i (scope ds us ∷ xs) (and_then o (λ u. r))
body_says T i ds us xs es d h fine =
    item_says (omega (arith, items-length us h, scope_length ds us)) (λ j n k c. in_body es d (items_of us 0 (h 0)) c) found
  where
    found :
        (j n k : ℕ) → FaultIn T i (scope ds us ∷ xs) j n k
        → FaultIn (declare_all T es) (suc (suc (i + length ds))) (items us) j n k ⊎ FaultIn T (i + length (item_tokens (scope ds us))) xs j n k
    found j n k (of_block c) = absurd (fine n k c)
    found j n k (in_body {ks = ks} fs g e c) = inl (rw (items-only us ks e, declarations_told fs es (sym g ∙ d)) at c)
    found j n k (later c) = inr c

-- By the checks with less fuel `f`, which are those inside.
module _ (f : ℕ)
    (below : (T : Table) (i : ℕ) (ts : List Token) → Distinct T → Nested ts → length ts < f → Says T i (items ts) (check_blocks f T i ts)) where
  block_says :
      (T : Table) (i : ℕ) (ds us : List Token) (xs : List Item) → Distinct T → Nested us → length us < f → (r : Outcome (Unit {0}))
      → Says T (i + length (item_tokens (scope ds us))) xs r
      → (o : Outcome Table) → enter (length ds) T (suc i) ds ≡ o
      → Says T i (scope ds us ∷ xs) (and_then (and_then o (λ U. check_blocks f U (suc (suc (i + length ds))) us)) (λ u. r))
  unfolding and_then
  block_says T i ds us xs q h l r g (refused n p) e =
      let (k, a) = enter_place T (suc i) ds n p e in
      let b : p ≡ suc (i + k) = omega arith in
      rw b (block_first i ((enter_fault T q (suc i) ds n k).0 (rw a at e)))
  block_says T i ds us xs q h l r g (passed U) e =
      let (w, a, t, c, free) = enter_sound T (suc i) ds U e in
      let es = declarations ds in
      let j = suc (suc (i + length ds)) in
      rw t
      (body_says T i ds us xs es (sym w) h fine (check_blocks f (declare_all T es) j us) r
      (below (declare_all T es) j us (distinct_declared T es q) h l) g)
    where
      fine : (n k : ℕ) → DeclarationFault current T ds n k → ⊥
      fine n k c =
          let z : passed U ≡ refused n (suc i + k) = sym e ∙ (enter_fault T q (suc i) ds n k).1 c in
          impossible cc

  items_say : (T : Table) (i : ℕ) (xs : List Item) → Distinct T → All (Inside f) xs → Says T i xs (check_items (check_blocks f) T i xs)
  unfolding check_items check_item and_then
  items_say T i [] q h = λ j n k. elim [ ]
  items_say T i (single a ∷ xs) q h =
      let j = i + length (item_tokens (single a)) in
      single_says T i a xs (check_items (check_blocks f) T j xs) (items_say T j xs q h.1)
  items_say T i (pair us ∷ xs) q ((n, l), h) =
      let j = i + length (item_tokens (pair us)) in
      let here = below T (suc i) us q n (pair_within f us l) in
      pair_says T i us xs n (check_blocks f T (suc i) us) (check_items (check_blocks f) T j xs) here (items_say T j xs q h)
  items_say T i (scope ds us ∷ xs) q ((n, l), h) =
      let j = i + length (item_tokens (scope ds us)) in
      block_says T i ds us xs q n.1 (scope_within f ds us l) (check_items (check_blocks f) T j xs) (items_say T j xs q h)
      (enter (length ds) T (suc i) ds) refl

blocks_say : (f : ℕ) (T : Table) (i : ℕ) (ts : List Token) → Distinct T → Nested ts → length ts < f → Says T i (items ts) (check_blocks f T i ts)
unfolding check_blocks
blocks_say zero T i ts q h l = absurd (omega arith)
blocks_say (suc f) T i ts q h l = items_say f (blocks_say f) T i (items ts) q (inside_items f ts h (omega arith))

-- The blocks of a text with a fault are those among the items of its tokens.
fault_among :
    (ts : List Token) {T : Table} {j : ℕ} {ds : List Token} {n k : ℕ} → BlockOf ts T j ds → DeclarationFault current T ds n k
    → FaultIn start_table 0 (items ts) j n k
fault_among ts {ds = ds} b f =
    let (is, m, h) = b.among in
    let g = span_fault h b.before ds b.body b.after b.cut (rw b.table at f) in
    rw (b.number, ← items-only ts is m) g

block_of_lem :
    (ts : List Token) → nesting [] 0 ts ≡ passed tt → {j n k : ℕ} → FaultIn start_table 0 (items ts) j n k
    → (T : Table) × (ds : List Token) × BlockOf ts T j ds × DeclarationFault current T ds n k
unfolding all_item_tokens
block_of_lem ts h f =
    let (r, a, g) = fault_span (whole_span (items ts)) [] refl refl refl f in
    let b : BlockOf ts r.table _ g.part =
    record {
      span = r;
      among = (items ts, items_of ts 0 h, a);
      before = g.before;
      body = g.inside;
      after = g.after;
      cut = g.cut;
      table = refl;
      number = g.number;
    } in
    (r.table, g.part, b, g.fault)

-- What the checks say is the first fault.
first_fault : (ts : List Token) → nesting [] 0 ts ≡ passed tt → {n p : ℕ} → First start_table 0 (items ts) n p → BlockFault current ts n p
first_fault ts h f =
    let (T, ds, b, g) = block_of_lem ts h f.fault in
    record {
      table = T;
      number = f.number;
      part = ds;
      at = f.at;
      block = b;
      fault = g;
      place = f.place;
      first = λ U j es m k c d. ⊎_elim (λ l. omega arith) (λ e. omega (arith, e.0)) (f.only j m k (fault_among ts c d));
    }

-- And a first one is no other.
says_fault :
    (ts : List Token) → nesting [] 0 ts ≡ passed tt → {n i : ℕ} → BlockFault current ts n i → (o : Outcome (Unit {0})) → Says start_table 0 (items ts) o
    → o ≡ refused n i
says_fault ts h b (passed u) f = absurd (f b.number _ b.at (fault_among ts b.block b.fault))
says_fault ts h {n} {i} b (refused m p) f =
    let (e, there) = which (f.only b.number n b.at (fault_among ts b.block b.fault)) in
    rw (e, there) refl
  where
    which : LaterOrSame f.number m f.at b.number n b.at → (m ≡ n) × (p ≡ i)
    which (inl l) =
        let (T, ds, c, g) = block_of_lem ts h f.fault in
        absurd (omega (arith, b.first T f.number ds m f.at c g))
    which (inr (j, (e, k))) = (e, omega (arith, f.place, b.place))

-- Rows 8 to 10 and 17 of a text: "then blocks by their `let`".
pub blocks_fault :
    (ts : List Token) → nesting [] 0 ts ≡ passed tt → (n i : ℕ) → (check_blocks (suc (length ts)) start_table 0 ts ≡ refused n i) ↔ BlockFault current ts n i
blocks_fault ts h n i = (λ e. first_fault ts h (rw e at said), λ b. says_fault ts h b (check_blocks (suc (length ts)) start_table 0 ts) said)
  where
    said : Says start_table 0 (items ts) (check_blocks (suc (length ts)) start_table 0 ts)
    said = blocks_say (suc (length ts)) start_table 0 ts distinct_start (λ j. nesting_anywhere ts [] 0 j h) (omega arith)
