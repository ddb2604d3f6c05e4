-- What every service leaves before it writes: the refusal of check 1 or of the other checks; of a blank text nothing.
-- Then what each of them leaves of a text that is read.
use mathlib.Core.Path.{◌≡◌, refl}
use mathlib.Core.List.{List, []}
use Prim.Native.Nat.{ℕ, ◌*◌, ◌<◌}
use native.Mathlib.Omega.{arith}
use lib.ListN.{length}
use borrow.Author.Tests.{lt-leb, le-leb}
use Rattle.grammar.specs.Fault.{longest_text}
use Rattle.grammar.specs.Bytes.{Bytes}
use Rattle.grammar.specs.Outcome.{refused, passed, and_then}
use Rattle.grammar.specs.Tree.{flat}
use Rattle.grammar.specs.Nodes.{count, words, words_per_node}
use Rattle.grammar.specs.Blank.{blank_rule}
use Rattle.grammar.specs.Canonical.{canonical, canonical_text, join_pieces, join_tokens}
use Rattle.grammar.specs.Answer as G
use Rattle.grammar.specs.Answer.{Reading, read_text, lost_at, located_text, answered, rejection, success, over}
use Rattle.grammar.specs.Answer.{nodes_into, reading_words, bytes_that, text_into, reading_text, nothing_written}
use Rattle.checks.specs.Checking.{Checking}
use Rattle.std.specs.Prelude.{Ok, Err, None}
use Rattle.std.specs.declared.result.Result.{Result}
use Rattle.refusals.specs.declared.Refused.{Refused}
use Rattle.refusals.specs.Numbers.{number_of, IsRefused}
use Rattle.checks.specs.declared.Unread.{Unread}
use Rattle.checks.specs.declared.Unread.TheVariants as Why
use Rattle.serving.specs.declared.Service.{Service}
use Rattle.serving.specs.declared.Service.TheVariants.{Read, Canonicalize, Locate}
use Rattle.serving.specs.Serving.{result_of, treeless_place, RefusesFor, Reads, Canonicalizes, lent, leaves, Serves}
use Rattle.serving.proofs.Reading.{refused_reads, treeless_reads, blank_reads}
use Rattle.rows.specs.Fields.{TokenRow, NoteRow, RootRow}
use Rattle.serving.proofs.Locating.{located_refused, located_lost, located_read}

module _ (service : Service) (text : Bytes) {N B : List ℕ} where
  -- Where nothing is written.
  unwritten : {s : Result ℕ Refused} → result_of s (lent service N B) ≡ leaves service text N B → Serves service text N N B B s
  unwritten e = record { own = e; same_table = λ d. refl; same_buffer = λ d. refl }

-- A refusal of the checks is that of the service.
refusal :
    (service : Service) (text : Bytes) (N B : List ℕ) (m p q : ℕ) → read_text text ≡ refused m p → located_text text ≡ refused m q
    → (r : Refused) → IsRefused m (treeless_place service p q) r → result_of (Err r) (lent service N B) ≡ leaves service text N B
unfolding result_of lent leaves treeless_place G.read G.canonicalize G.locate answered and_then rejection
refusal Read text N B m p q e f r h = rw (e, h.numbered, h.placed)
refusal Canonicalize text N B m p q e f r h = rw (e, h.numbered, h.placed)
refusal Locate text N B m p q e f r h = rw (f, h.numbered, h.placed)

same_place : (service : Service) (p : ℕ) → p ≡ treeless_place service p p
unfolding treeless_place
same_place Read p = refl
same_place Canonicalize p = refl
same_place Locate p = refl

-- Of a blank text nothing is counted or written.
blank :
    (service : Service) (text : Bytes) (N B : List ℕ) → read_text text ≡ passed (record { tokens = []; tree = blank_rule })
    → result_of (Ok 0) (lent service N B) ≡ leaves service text N B
unfolding
    result_of lent leaves G.read G.canonicalize G.locate answered and_then success over nodes_into reading_words count words bytes_that text_into
    reading_text canonical canonical_text flat join_pieces join_tokens nothing_written
blank Read text N B e = rw e (rw (le-leb (words_per_node * count blank_rule) (length N) (omega arith), nodes_into))
blank Canonicalize text N B e = rw e (rw (le-leb 0 (length B) (omega arith), bytes_that))
blank Locate text N B e = rw (located_read text _ e)

module _ (service : Service) (text : Bytes) {N B : List ℕ} where
  refused_alike :
      (m p : ℕ) → read_text text ≡ refused m p → located_text text ≡ refused m p → (r : Refused) → IsRefused m p r → Serves service text N N B B (Err r)
  refused_alike m p e f r h =
      unwritten service text (refusal service text N B m p p e f r (rw (same_place service p) at h))

  pub serves_long : longest_text < length text → (r : Refused) → IsRefused 1 longest_text r → Serves service text N N B B (Err r)
  unfolding read_text lost_at
  serves_long l r h =
      let e : read_text text ≡ refused 1 longest_text = rw (lt-leb (length text) longest_text l, read_text) in
      refused_alike 1 longest_text e (rw e) r h

  module _ (K : TokenRow) (R : NoteRow) (O : RootRow) where
    pub serves_unread : (u : Unread) → Checking text K R O (Err u) → (r : Refused) → RefusesFor service u r → Serves service text N N B B (Err r)
    serves_unread (Why.Refused a p) h r f =
        let (q, d) = refused_reads text K R O a p h in
        refused_alike (number_of a) p q (located_refused text (number_of a) p q d) r f
    serves_unread (Why.NoTree p l) h r f =
        let (q, d) = treeless_reads text K R O p l h in
        unwritten service text (refusal service text N B 11 p l q (located_lost text p l q d) r f)

    pub serves_blank : Checking text K R O (Ok None) → Serves service text N N B B (Ok 0)
    serves_blank h = unwritten service text (blank service text N B (blank_reads text K R O h))

-- What each writes of a text that is read.
module _ (service : Service) (text : Bytes) where
  pub serves_read : {N N' B : List ℕ} {s : Result ℕ Refused} → service ≡ Read → Reads text N N' s → Serves service text N N' B B s
  unfolding lent leaves
  serves_read e h = record { own = rw e h; same_table = λ d. absurd (d e); same_buffer = λ d. refl }

  pub serves_canonicalize : {N B B' : List ℕ} {s : Result ℕ Refused} → service ≡ Canonicalize → Canonicalizes text B B' s → Serves service text N N B B' s
  unfolding lent leaves
  serves_canonicalize e h = record { own = rw e h; same_table = λ d. refl; same_buffer = λ d. absurd (d e) }

  pub serves_locate : {N B : List ℕ} → service ≡ Locate → (r : Reading) → read_text text ≡ passed r → Serves service text N N B B (Ok 0)
  unfolding result_of lent leaves G.locate answered and_then success over nothing_written
  serves_locate e r h = unwritten service text (rw (e, located_read text r h))
