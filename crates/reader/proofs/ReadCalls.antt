-- Calls of `read`: six words to a node, 12 where they do not fit; what the node table then holds is what the text reads as.
use mathlib.Core.Path.{◌≡◌, refl, sym, ap, subst, ◌∙◌}
use mathlib.Core.Logic.{◌↔◌}
use mathlib.Core.Bool.{Bool, true, false}
use mathlib.Core.List.{List, ◌++◌}
use Prim.Native.Nat.{ℕ, ◌*◌, ◌<◌}
use native.Mathlib.Omega.{arith}
use lib.Dec.{leb}
use lib.ListN.{length, take, drop}
use lib.Seq.{take-append_seam, drop-append_seam}
use borrow.Author.Tests.{leb-true, leb-false}
use Rattle.grammar.specs.Bytes.{Bytes}
use Rattle.grammar.specs.Token.{Token}
use Rattle.grammar.specs.Outcome.{Outcome, refused, passed}
use Rattle.grammar.specs.Declaration.{start_table}
use Rattle.grammar.specs.Tree.{Tree}
use Rattle.grammar.specs.Nodes.{count, words_per_node}
use Rattle.grammar.specs.Claim.{FirstWithout, ReadingOf}
use Rattle.grammar.specs.Answer as G
use Rattle.grammar.specs.Answer.{Reading, Written, offset_of, read_text, nodes_into, reading_words, over}
use Rattle.grammar.specs.Spelling.{TokenAt}
use Rattle.grammar.specs.Fault.{current, Past}
use Rattle.grammar.specs.NodePrecedence.{NodePrecedence}
use Rattle.grammar.proofs.Logic.{impossible}
use Rattle.grammar.proofs.Scanned.{length_tokens}
use Rattle.grammar.proofs.TokenFaults.{token_at}
use Rattle.grammar.proofs.Operands.{words-length}
use Rattle.grammar.proofs.Readings.{reading_of_tokens}
use Rattle.grammar.proofs.ReadingTrees.{reading_operated}
use Rattle.grammar.proofs.Decoding.{decode_tree, nodes_ordered, subtree_together}
use Rattle.grammar.proofs.NodePrecedences as NodePrecedences
use Rattle.grammar.proofs.Rules.{reading_of, same_reading}
use Rattle.grammar.proofs.BlankRules.{reading_tokens}
use Rattle.reader.specs.declared.Answer.{Answer}
use Rattle.reader.specs.Answered.{Reads}
use Rattle.reader.specs.Demands.{RightAnswer, TableTooShort, TableHolds, RightReading}
use Rattle.reader.proofs.NodeCharacters as NodeCharacters
use Rattle.reader.proofs.Calls as Calls
use Rattle.reader.proofs.Calls.{Gives, Call, read_checks}

-- Reading refuses with 12 what does not fit, and else gives the words of the tree.
module _ (text : Bytes) (N : List ℕ) (r : Reading) where
  -- What it gives, and a refusal.
  abbrev nodes : Written
  nodes = record { counted = count r.tree; contents = reading_words text r }

  abbrev short : Outcome Written
  short = refused 12 0

  judged : (n p : ℕ) → (nodes_into text N r ≡ refused n p) ↔ TableTooShort N r.tree n p
  unfolding nodes_into
  judged n p = go (leb (words_per_node * count r.tree) (length N)) refl
    where
      go : (b : Bool) → leb (words_per_node * count r.tree) (length N) ≡ b → (nodes_into text N r ≡ refused n p) ↔ TableTooShort N r.tree n p
      go true e = (
        λ h. let z : passed nodes ≡ refused n p = rw (e, nodes_into) at h in impossible cc,
        λ o. absurd (omega (arith, leb-true (words_per_node * count r.tree) (length N) e)),
      )
      go false e = (
        λ h. let z : short ≡ refused n p = rw (e, nodes_into) at h in (cc, cc, leb-false (words_per_node * count r.tree) (length N) e),
        λ (f, g, l). rw (e, nodes_into) (let z : short ≡ refused n p = cc (f, g) in z),
      )

  given : (w : Written) → nodes_into text N r ≡ passed w → (count r.tree ≡ w.counted) × (reading_words text r ≡ w.contents)
  unfolding nodes_into
  given w = go (leb (words_per_node * count r.tree) (length N)) refl
    where
      go :
          (b : Bool) → leb (words_per_node * count r.tree) (length N) ≡ b → nodes_into text N r ≡ passed w
          → (count r.tree ≡ w.counted) × (reading_words text r ≡ w.contents)
      go true e h =
          let z : passed nodes ≡ passed w = rw (e, nodes_into) at h in
          let y : nodes ≡ w = cc in
          (ap (λ v. v.counted) y, ap (λ v. v.contents) y)
      go false e h = let z : short ≡ passed w = rw (e, nodes_into) at h in impossible cc

gives : (text : Bytes) (N : List ℕ) → Gives (TableTooShort N) (nodes_into text N)
gives text N = record { judged = judged text N; numbers = λ t n p (e, f, l). (omega arith, λ g. omega arith) }

-- Reading is such a service.
module _ (text : Bytes) (N N' : List ℕ) (a : Answer) (h : Reads text N N' a) where
  call : Call FirstWithout (TableTooShort N) (nodes_into text N) text N N' a
  unfolding G.read
  call = record { gives = gives text N; outcome = read_text text; checks = read_checks text; result = h }

  pub answers : RightAnswer (TableTooShort N) text N N' a
  answers = Calls.answers call

-- The table that holds the words of what was read.
module _ (text : Bytes) (N N' : List ℕ) (r : Reading) (e : read_text text ≡ passed r) (w : N' ≡ over (reading_words text r) N) where
  reading_holds : TableHolds text N N' (count r.tree) r.tree
  unfolding over reading_words
  reading_holds =
      let (h, is) = reading_of_tokens text r e in
      let v = drop (length (reading_words text r)) N in
      let size = words-length (offset_of text r.tokens) start_table r.tree 0 0 (reading_operated is) in
      record {
        counted = refl;
        decodes = rw w (decode_tree text r.tokens h r.tree is v);
        ordered = λ k l. rw w (nodes_ordered text r.tokens h r.tree is v k l);
        together = λ k l. rw w (subtree_together text r.tokens h r.tree is v k l);
        offsets = offset_of text r.tokens;
        begins =
            λ i l.
            subst (λ ts. TokenAt text ts i (offset_of text r.tokens i)) (sym is.tokens)
            ((token_at text r.tokens h.scanned i (offset_of text r.tokens i)
            (omega (arith, ap length is.tokens, length_tokens r.tokens))).1 refl);
        written = rw w (subst (λ n. take n (reading_words text r ++ v) ≡ reading_words text r) size (take-append_seam (reading_words text r) v));
        parts = NodeCharacters.node-written text r h is N N' w;
        declarations = NodeCharacters.node_blocks_lem text r h is N N' w;
        precedences =
            λ k l.
            subst (λ ts. NodePrecedence text ts N' k) (sym is.tokens) (rw w (NodePrecedences.node_precedences text r.tokens h r.tree is v k l));
        behind = rw w (subst (λ n. drop n (reading_words text r ++ v) ≡ drop n N) size (drop-append_seam (reading_words text r) v));
      }

pub tree_held :
    (text : Bytes) (N N' : List ℕ) (a : Answer) → Reads text N N' a → a.number ≡ 0 → (t : Tree) → ReadingOf text t → TableHolds text N N' a.count t
tree_held text N N' a h z t i =
    let (r, e, v, g, c, w) = Calls.success-read (call text N N' a h) z in
    let (counted, words) = given text N r v g in
    let same : r.tree ≡ t = same_reading text r.tree t (reading_of text r e) i in
    rw (c ∙ sym counted)
    (subst (λ u. TableHolds text N N' (count r.tree) u) same (reading_holds text N N' r e (w ∙ ap (λ m. over m N) (sym words))))

-- The precedence of each node, by the text's own tokens and their spans.
pub node_precedences :
    (text : Bytes) (N N' : List ℕ) (a : Answer) → Reads text N N' a → a.number ≡ 0 → (ts : List Token) → Past text ts
    → (k : ℕ) → k < a.count → NodePrecedence text ts N' k
node_precedences text N N' a h z ts p k l =
    let (t, i, fits) = (answers text N N' a h).success.0 z in
    subst (λ us. NodePrecedence text us N' k) (reading_tokens text ts t p.spelled i) ((tree_held text N N' a h z t i).precedences k l)

-- All that is asked of it.
pub right : (text : Bytes) (N N' : List ℕ) (a : Answer) → Reads text N N' a → RightReading current text N N' a
right text N N' a h = record { answers = answers text N N' a h; held = tree_held text N N' a h }
