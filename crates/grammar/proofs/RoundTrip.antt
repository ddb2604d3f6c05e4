-- Canonical text: it passes checks 1 to 11 and 17 again and reads back to the tree without its spare brackets; two canonical texts are
-- the same bytes exactly where the trees agree.
use mathlib.Core.Path.{◌≡◌, refl, sym, ap, ◌∙◌}
use mathlib.Core.Logic.{◌↔◌}
use mathlib.Core.Bool.{true}
use mathlib.Core.List.{List}
use Prim.Native.Nat.{suc, ◌≤◌}
use native.Mathlib.Omega.{arith}
use lib.ListN.{length}
use Rattle.grammar.specs.Fault.{longest_text, most_tokens}
use Rattle.grammar.specs.Open.{deepest}
use Rattle.grammar.specs.Bytes.{Bytes}
use Rattle.grammar.specs.Token.{are_tokens}
use Rattle.grammar.specs.Outcome.{passed}
use Rattle.grammar.specs.Scan.{Placed}
use Rattle.grammar.specs.Declaration.{start_table}
use Rattle.grammar.specs.Tree.{flat, depth}
use Rattle.grammar.specs.Nodes.{count}
use Rattle.grammar.specs.Abstract.{abstract, Agree}
use Rattle.grammar.specs.Canonical.{canonical, canonical_text, join_tokens}
use Rattle.grammar.specs.Answer.{Reading, PastChecks, tokens_of, read_text, reading_text}
use Rattle.grammar.specs.Claim.{canonical_tree, Faithful}
use Rattle.grammar.proofs.CheckedTrees.{inner_ok}
use Rattle.grammar.proofs.Nested.{nesting-flat, nesting-depth}
use Rattle.grammar.proofs.Operators.{positive_start}
use Rattle.grammar.proofs.Scanned.{length_tokens, scan-joined, join_injective, scan-tokens}
use Rattle.grammar.proofs.CanonicalTree.{canonical_ok, canonical_tight}
use Rattle.grammar.proofs.CanonicalSize.{canonical_shorter, canonical_shallower}
use Rattle.grammar.proofs.CanonicalTokens.{canonical_tokens}
use Rattle.grammar.proofs.CanonicalAgreement.{canonical_agrees, canonical_by_agreement, leaves_ok}
use Rattle.grammar.proofs.ReadingTrees.{IsReading, reading_unique}
use Rattle.grammar.proofs.TreeBlocks.{Enters, checked_enters, enters_checked, canonical_enters}
use Rattle.grammar.proofs.Answers.{count_tokens}
use Rattle.grammar.proofs.Readings.{reading_of_tokens, read_as}

-- What is known of what a text was read as.
pub record Facts (r : Reading) : Type 0 where
  pub is_reading : IsReading (flat r.tree) r.tree
  pub tokens : are_tokens (flat r.tree) ≡ true
  pub few : length (flat r.tree) ≤ most_tokens
  pub shallow : depth r.tree ≤ deepest
  pub enters : Enters start_table r.tree

pub facts : (text : Bytes) (r : Reading) → read_text text ≡ passed r → Facts r
facts text r e =
    let h = reading_of_tokens text r e in
    let ps = r.tokens in
    let i = h.1 in
    let f : flat r.tree ≡ tokens_of ps = i.tokens in
    let s = scan-tokens most_tokens 0 text ps h.0.scanned in
    record {
      is_reading = record { tokens = refl; admitted = i.admitted; inner = i.inner };
      tokens = rw f s.0;
      few = rw (f, length_tokens ps) s.1;
      shallow = nesting-depth r.tree 0 (rw f h.0.nested);
      enters =
          checked_enters (suc (length ps)) start_table 0 r.tree i.inner (rw (f, length_tokens ps) (omega arith)) (rw f h.0.declared);
    }

-- The canonical tree of a text that was read has the same properties.
canonical_facts : (r : Reading) → Facts r → Facts (record { tokens = r.tokens; tree = canonical start_table r.tree })
canonical_facts r f =
    let t = r.tree in
    let a = f.is_reading.admitted in
    let i = f.is_reading.inner in
    let k = canonical_ok start_table t positive_start a i in
    let n = canonical_shorter start_table t positive_start a i in
    let d = canonical_shallower start_table t positive_start a i in
    let b = f.few in
    let c = f.shallow in
    record {
      is_reading = record { tokens = refl; admitted = k.0; inner = k.1 };
      tokens = canonical_tokens start_table t a i f.tokens;
      few = omega arith;
      shallow = omega arith;
      enters = canonical_enters start_table t i f.enters;
    }

-- The canonical text of a text that was read is past checks 1 to 10, if it is not too long.
canonical_past :
    (text : Bytes) (r : Reading) → read_text text ≡ passed r → length (reading_text r) ≤ longest_text
    → (ps : List Placed) × PastChecks (reading_text r) ps × (tokens_of ps ≡ flat (canonical start_table r.tree))
unfolding reading_text canonical_text
canonical_past text r e n =
    let c = canonical start_table r.tree in
    let f = canonical_facts r (facts text r e) in
    let s = scan-joined (flat c) f.tokens most_tokens 0 f.few in
    let q : tokens_of s.0 ≡ flat c = s.2 in (
      s.0,
      record {
        short = n;
        scanned = s.1;
        nested = rw q (nesting-flat c f.shallow 0);
        declared = rw q (enters_checked (suc (length s.0)) start_table c f.is_reading.inner f.enters 0);
      },
      q,
    )

-- The canonical tree agrees with the old one, no bracket of it is spare, and it is no larger.
pub faithful : (text : Bytes) (r : Reading) → read_text text ≡ passed r → Faithful r.tree
faithful text r e =
    let t = r.tree in
    let f = facts text r e in
    let i = f.is_reading.inner in
    let a = f.is_reading.admitted in
    record {
      agrees = canonical_agrees start_table t;
      tight = canonical_tight start_table t positive_start i;
      fewer = canonical_shorter start_table t positive_start a i;
      shallower = canonical_shallower start_table t positive_start a i;
    }

-- The canonical text is read, to the canonical tree.
pub reads_back :
    (text : Bytes) (r : Reading) → read_text text ≡ passed r → length (reading_text r) ≤ longest_text
    → (q : Reading) × (read_text (reading_text r) ≡ passed q) × (q.tree ≡ canonical_tree r.tree)
reads_back text r e n =
    let c = canonical_tree r.tree in
    let h = canonical_past text r e n in
    let g = (canonical_facts r (facts text r e)).is_reading in
    let u : IsReading (tokens_of h.0) c = record { tokens = sym h.2; admitted = g.admitted; inner = g.inner } in
    (record { tokens = h.0; tree = c }, read_as (reading_text r) h.0 h.1 c u, refl)

-- Two canonical texts are the same bytes exactly where the trees, brackets removed, and the blocks' declarations agree.
pub same_text :
    (a b : Bytes) (r q : Reading) → read_text a ≡ passed r → read_text b ≡ passed q → (reading_text r ≡ reading_text q) ↔ Agree r.tree q.tree
unfolding reading_text canonical_text
same_text a b r q d e =
    let f = facts a r d in
    let g = facts b q e in
    let m = canonical_facts r f in
    let n = canonical_facts q g in (
      (λ s.
          let w = join_injective (flat (canonical start_table r.tree)) (flat (canonical start_table q.tree)) m.tokens n.tokens s in
          let k =
          reading_unique (flat (canonical start_table q.tree)) (canonical start_table r.tree) (canonical start_table q.tree)
          (record { tokens = w; admitted = m.is_reading.admitted; inner = m.is_reading.inner }) n.is_reading in
          sym (canonical_agrees start_table r.tree) ∙ ap abstract k ∙ canonical_agrees start_table q.tree),
      (λ s.
          ap (λ t. join_tokens (flat t))
          (canonical_by_agreement start_table r.tree q.tree
          (leaves_ok start_table r.tree (inner_ok start_table r.tree f.is_reading.inner) f.tokens)
          (leaves_ok start_table q.tree (inner_ok start_table q.tree g.is_reading.inner) g.tokens) s)),
    )

-- A text that is read has at most 1,024 nodes.
pub few_nodes : (text : Bytes) (r : Reading) → read_text text ≡ passed r → count r.tree ≤ most_tokens
few_nodes text r e = omega (arith, count_tokens r.tree, (facts text r e).few)
