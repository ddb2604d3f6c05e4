-- A range without blocks: nothing is declared in it, so its check passes with every fuel that is enough, and a row that has the roles of each
-- token agrees with it. By induction on how the range is paired.
use mathlib.Core.Path.{◌≡◌, refl}
use mathlib.Core.List.{◌∷◌}
use Prim.Native.Nat.{ℕ, zero, suc, ◌+◌, ◌-◌, ◌≤◌, ◌<◌}
use native.Mathlib.Omega.{arith}
use lib.ListN.{length}
use Rattle.std.specs.Prelude.{Ok}
use Rattle.grammar.specs.Bytes.{Bytes}
use Rattle.grammar.specs.Outcome.{passed, and_then}
use Rattle.grammar.specs.Operator.{Table}
use Rattle.grammar.specs.Declaration.{start_table}
use Rattle.grammar.specs.Span.{Item, item_tokens, items}
use Rattle.grammar.specs.Span as Span
use Rattle.grammar.specs.Blocks.{check_item, check_items, check_blocks}
use Rattle.grammar.proofs.Logic.{below}
use Rattle.rows.specs.Fields.{TokenRow, NoteRow, kind, arrival}
use Rattle.rows.specs.Tokens.{atom_in, range, IsAtomKind, Paired, done, single, bracket, block, Unblocked}
use Rattle.rows.specs.Agreeing.{Noted, Agrees, ends, atoms, brackets}
use Rattle.starting_operators.specs.Starting.{Notable, NotesAll}
use Rattle.rows.proofs.PairedItems.{items_done, items_single, items_bracket, behind_pair}
use Rattle.resolving.specs.Resolving.{Ranged, Resolving}

module _ (text : Bytes) (K : TokenRow) (T : Table) where
  -- An item that passes, before items that do.
  passes_first :
      (i j to k : ℕ) (x : Item) → items (range text K i to) ≡ x ∷ items (range text K j to) → i + length (item_tokens x) ≡ j
      → check_item (check_blocks k) T i x ≡ passed tt → check_items (check_blocks k) T j (items (range text K j to)) ≡ passed tt
      → check_items (check_blocks k) T i (items (range text K i to)) ≡ passed tt
  unfolding check_items and_then
  passes_first i j to k x cut e p q = rw (cut, e, p) q

  -- What is passed with fuel `k` is passed behind a bracket with one more.
  passes_inside :
      (i to k : ℕ) → 0 < k → ((m : ℕ) → suc m ≡ k → check_items (check_blocks m) T i (items (range text K i to)) ≡ passed tt)
      → check_blocks k T i (range text K i to) ≡ passed tt
  unfolding check_blocks
  passes_inside i to zero l h = absurd (omega arith)
  passes_inside i to (suc k) l h = h k refl

  module _ (n : ℕ) (unblocked : Unblocked K n) where
    items_pass : {i to : ℕ} → Paired K i to → to ≤ n → (k : ℕ) → to - i ≤ k → check_items (check_blocks k) T i (items (range text K i to)) ≡ passed tt
    unfolding check_items check_item item_tokens
    items_pass (done {to = to}) h k l = rw (items_done text K to)
    items_pass (single {i = i} {to = to} b a p) h k l =
        passes_first i (suc i) to k (Span.single (atom_in text K i)) (items_single text K i to b a) (omega arith) refl
        (items_pass p h k (omega arith))
    items_pass (bracket {i = i} {to = to} c o w b d e p q) h k l =
        passes_first i (suc c) to k (Span.pair (range text K (suc i) c)) (items_bracket text K i c to o b d e p) (behind_pair text K i c b)
        (passes_inside (suc i) c k (omega arith) (λ m z. items_pass p (omega arith) m (omega arith)))
        (items_pass q h k (omega arith))
    items_pass (block c e o w v b d f y z g p q) h k l = absurd (unblocked c (omega arith) y)

    pub blockless_passes : {i to : ℕ} → Paired K i to → to ≤ n → (k : ℕ) → to - i < k → check_blocks k T i (range text K i to) ≡ passed tt
    blockless_passes {i} {to} p h k l = passes_inside i to k (omega arith) (λ m z. items_pass p h m (omega arith))

    -- The row has the roles of each atom, and no bracket is an operator.
    module _
        (R : NoteRow) (noted : (j : ℕ) → j < n → IsAtomKind (kind K j) → Noted T R j (atom_in text K j))
        (quiet : (j : ℕ) → j < n → kind K j ≡ 4 → arrival R j ≡ 0)
      where
        pub blockless_agrees : {i to : ℕ} → Paired K i to → to ≤ n → Agrees text K R T i to
        blockless_agrees done h = ends
        blockless_agrees (single {i = i} b a p) h = atoms b a (noted i (omega arith) a) (blockless_agrees p h)
        blockless_agrees (bracket {i = i} c o w b d e p q) h =
            brackets c o w b d e (quiet i (omega arith) o) (blockless_agrees p (omega arith)) (blockless_agrees q h)
        blockless_agrees (block c e o w v b d f y z g p q) h = absurd (unblocked c (omega arith) y)

-- The tokens of such a range are atoms and brackets.
flat_kinds : {K : TokenRow} {n i to : ℕ} → Unblocked K n → Paired K i to → to ≤ n → (j : ℕ) → i ≤ j → j < to → kind K j ≤ 5
flat_kinds u done h j a b = absurd (omega arith)
flat_kinds {K} u (single {i = i} l k p) h j a b =
    below j (suc i) (λ c. let e : j ≡ i = omega arith in rw e (omega arith)) (λ c. flat_kinds u p h j c b)
flat_kinds {K} u (bracket {i = i} c o w l d e p q) h j a b =
    below j (suc i) (λ x. let z : j ≡ i = omega arith in rw z (omega arith))
    (λ x. below j c (λ y. flat_kinds u p (omega arith) j x y)
    (λ y. below j (suc c) (λ v. let z : j ≡ c = omega arith in rw z (omega arith)) (λ v. flat_kinds u q h j v b)))
flat_kinds u (block c e o w v l d f y z g p q) h j a b = absurd (u c (omega arith) y)

-- Under the starting operators: what the pass over all tokens asks, and that what it leaves is what is asked of the whole text.
module _ {text : Bytes} {K : TokenRow} {R : NoteRow} {n : ℕ} (g : Ranged text K R 0 n) (unblocked : Unblocked K n) where
  pub notable : Notable text K R n
  notable =
      record {
        placed = g.placed;
        stored = g.stored;
        within = g.within;
        flat = λ j l. flat_kinds unblocked g.paired (omega arith) j (omega arith) l;
        tokens = omega (arith, g.within, g.tokens);
        roles = omega (arith, g.within, g.roles);
      }

  pub blockless_resolves : (R' : NoteRow) → NotesAll text K n R R' → Resolving text K start_table 0 n R R' (Ok tt)
  blockless_resolves R' h =
      record {
        answer = λ k l. rw (blockless_passes text K start_table n unblocked g.paired (omega arith) k l) (refl, agrees);
        kept = h.kept;
      }
    where
      agrees : Agrees text K R' start_table 0 n
      agrees =
          blockless_agrees text K start_table n unblocked R' (λ j l a. (h.noted j l).atoms a) (λ j l k. (h.noted j l).opens k)
          g.paired (omega arith)
