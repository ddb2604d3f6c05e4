-- What reading answers after checks 2 to 11 and 17: a refusal, nothing of a blank text, 12, or the words of the tree.
use mathlib.Core.Path.{◌≡◌, refl, sym, ap, ap₂, ◌∙◌}
use mathlib.Core.List.{List, [], ◌∷◌}
use Prim.Native.Nat.{ℕ, suc, ◌+◌, ◌*◌, ◌≤◌, ◌<◌}
use native.Mathlib.Omega.{arith}
use mathlib.Core.Bool.{false}
use lib.Dec.{eqb}
use lib.ListN.{length}
use borrow.Author.Tests.{le-leb, lt-leb, ne_eqb}
use Rattle.grammar.specs.Fault.{most_tokens}
use Rattle.grammar.specs.Bytes.{Bytes}
use Rattle.grammar.specs.Outcome.{Outcome, refused, passed, and_then}
use Rattle.grammar.specs.Operator.{Table}
use Rattle.grammar.specs.Declaration.{start_table, declare_all, all_tokens}
use Rattle.grammar.specs.Tree.{Tree, nothing, leaf, bracket, block, node, flat}
use Rattle.grammar.specs.Nodes.{count, words_per_node}
use Rattle.grammar.specs.Scan.{Placed, scan}
use Rattle.grammar.specs.Blank.{blank_rule}
use Rattle.grammar.specs.Answer as G
use Rattle.grammar.specs.Answer.{Reading, tokens_of, offset_of, read_text, answered, nodes_into, reading_words, lost_offset, rejection, success}
use Rattle.grammar.proofs.Logic.{impossible}
use Rattle.grammar.proofs.Scanned.{length_tokens}
use Rattle.grammar.proofs.ReadingTrees.{is_blank_lem}
use Rattle.grammar.proofs.Readings.{reading_of_tokens}
use Rattle.grammar.proofs.RoundTrip.{few_nodes}
use Rattle.rows.specs.Codes.{Bounded}
use Rattle.rows.specs.Standing.{Roled}
use Rattle.rows.proofs.Stored.{stored_ascend}
use Rattle.rows.proofs.TreeTokens.{ready_tokened}
use Rattle.canonical_text.specs.Brackets as Brackets
use Rattle.canonical_text.proofs.ReadyTree.{ready_tree}
use Rattle.nodes.specs.Building.{Buildable, Built}
use Rattle.rows.specs.Standing.{rows, Stands}
use Rattle.std.specs.Prelude.{Ok, Err, Some, None}
use Rattle.refusals.specs.declared.Refusal.{Refusal}
use Rattle.refusals.specs.declared.Refused.{Refused}
use Rattle.refusals.specs.Numbers.{number_of, IsRefused}
use Rattle.checks.specs.Checking.{Passes, Outcomes, Checking}
use Rattle.checks.specs.declared.Checked.{Checked}
use Rattle.checks.specs.declared.Unread.TheVariants as Why
use Rattle.serving.specs.Found.{Found}
use Rattle.rows.specs.Fields.{TokenRow, NoteRow, RootRow}
use Rattle.serving.specs.Serving.{result_of, Reads}

module _ (text : Bytes) (K : TokenRow) (R : NoteRow) (O : RootRow) where
  pub found : (c : Checked) → Checking text K R O (Ok (Some c)) → Found text K R O c
  found c h = go (read_text text) refl h
    where
      go : (o : Outcome Reading) → read_text text ≡ o → Outcomes text K R O (Ok (Some c)) o → Found text K R O c
      go (refused m p) f g = absurd g
      go (passed r) f g = there r f r.tokens g
        where
          there : (s : Reading) → read_text text ≡ passed s → (qs : List Placed) → Passes text K R O s qs (Some c) → Found text K R O c
          there s f [] g = impossible cc
          there s f (q ∷ qs) g = record { reading = s; reads = f; has_read = g }

  -- A refusal other than 11, ..
  pub refused_reads :
      (r : Refusal) (at : ℕ) → Checking text K R O (Err (Why.Refused r at))
      → (read_text text ≡ refused (number_of r) at) × (eqb (number_of r) 11 ≡ false)
  refused_reads r at h = go (read_text text) refl h
    where
      go : (o : Outcome Reading) → read_text text ≡ o → Outcomes text K R O (Err (Why.Refused r at)) o
          → (read_text text ≡ refused (number_of r) at) × (eqb (number_of r) 11 ≡ false)
      go (refused x q) f g = (f ∙ ap₂ refused (sym g.0) (sym g.1), ne_eqb (number_of r) 11 (λ e. g.2 (sym g.0 ∙ e)))
      go (passed s) f g = absurd g

  -- .. and 11, with the place at which the text is lost.
  pub treeless_reads :
      (span lost : ℕ) → Checking text K R O (Err (Why.NoTree span lost))
      → (read_text text ≡ refused 11 span) × (lost ≡ lost_offset text (scan most_tokens 0 text))
  treeless_reads span lost h = go (read_text text) refl h
    where
      go : (o : Outcome Reading) → read_text text ≡ o → Outcomes text K R O (Err (Why.NoTree span lost)) o
          → (read_text text ≡ refused 11 span) × (lost ≡ lost_offset text (scan most_tokens 0 text))
      go (refused x q) f g = (f ∙ ap₂ refused g.0 (sym g.1), g.2)
      go (passed s) f g = absurd g

  -- A blank text.
  pub blank_reads : Checking text K R O (Ok None) → read_text text ≡ passed (record { tokens = []; tree = blank_rule })
  unfolding tokens_of
  blank_reads h = go (read_text text) refl h
    where
      go : (o : Outcome Reading) → read_text text ≡ o → Outcomes text K R O (Ok None) o → read_text text ≡ passed (record { tokens = []; tree = blank_rule })
      go (refused m p) f g = absurd g
      go (passed r) f g = there r.tokens refl g
        where
          there : (qs : List Placed) → r.tokens ≡ qs → Passes text K R O r qs None → read_text text ≡ passed (record { tokens = []; tree = blank_rule })
          there [] q g =
              let none : tokens_of r.tokens ≡ [] = ap tokens_of q in
              let blank : r.tree ≡ blank_rule = is_blank_lem (rw none at (reading_of_tokens text r f).1) in
              f ∙ ap₂ (λ ps t. passed (record { tokens = ps; tree = t })) q blank
          there (p ∷ ps) q g = absurd g

-- The roles of a tree that stands in the rows.
tree_roled : (K : TokenRow) (R : NoteRow) (T : Table) (i : ℕ) (t : Tree) → Bounded T → Brackets.Stands K R T i t → Roled R T i t
tree_roled K R T i nothing b h = tt
tree_roled K R T i (leaf a) b h = tt
tree_roled K R T i (bracket t) b h = tree_roled K R T (suc i) t b h.3
tree_roled K R T i (block ds t) b h = tree_roled K R (declare_all T ds) (suc (suc (i + length (all_tokens ds)))) t h.5 h.6
tree_roled K R T i (node l m r) b h =
    (h.1, b m, tree_roled K R T i l b h.2, tree_roled K R T (suc (i + length (flat l))) r b h.3)

module _ {text : Bytes} {K : TokenRow} {R : NoteRow} {O : RootRow} {c : Checked} (f : Found text K R O c) where
  abbrev nodes_known : c.nodes ≡ count f.reading.tree
  nodes_known = f.has_read.1

  -- It has at most 1,024 nodes.
  pub nodes_few : c.nodes ≤ 1024
  nodes_few = omega (arith, nodes_known, few_nodes text f.reading f.reads)

  -- The table is too short.
  pub reads_short : (N : List ℕ) → length N < c.nodes * words_per_node → (e : Refused) → IsRefused 12 0 e → Reads text N N (Err e)
  unfolding G.read answered and_then nodes_into rejection result_of
  reads_short N l e h =
      rw f.reads (rw (h.numbered, h.placed, lt-leb (words_per_node * count f.reading.tree) (length N) (omega (arith, nodes_known)), nodes_into))

  -- What the builder asks.
  stands : Stands (offset_of text f.reading.tokens) start_table (rows K R O) 0 c.root c.tokens f.reading.tree
  stands =
      let r = f.reading in
      record {
        tokened = ready_tokened f.has_read.3;
        roled = let t = ready_tree f.has_read.3 in tree_roled K R start_table 0 r.tree t.bounded t.stands;
        rooted = f.has_read.3.rooted;
        root = f.has_read.2;
        end = omega (arith, f.has_read.0, length_tokens r.tokens, ap length f.has_read.3.is_tree.tokens);
      }

  pub buildable : (N : List ℕ) → c.nodes * words_per_node ≤ length N → Buildable (rows K R O) 0 c.root c.tokens N 0
  buildable N l =
      record {
        tokens = omega (arith, f.has_read.0, f.has_read.3.tokens);
        roles = omega (arith, f.has_read.0, f.has_read.3.roles);
        roots = omega (arith, f.has_read.0, f.has_read.3.roots);
        places = offset_of text f.reading.tokens;
        table = start_table;
        tree = f.reading.tree;
        stands = stands;
        ascend = λ i j a b. stored_ascend f.has_read.3.stored i j a (omega (arith, f.has_read.0));
        room = omega (arith, nodes_known);
        few = omega (arith, nodes_known, nodes_few);
      }

  -- What it leaves is the reading.
  pub reads_words : (N N' : List ℕ) (w : ℕ) → c.nodes * words_per_node ≤ length N → Built (rows K R O) 0 c.root c.tokens N 0 N' w → Reads text N N' (Ok w)
  unfolding G.read answered and_then nodes_into success result_of reading_words
  reads_words N N' w l b =
      let t = f.reading.tree in
      rw f.reads
      (rw (le-leb (words_per_node * count t) (length N) (omega (arith, nodes_known)), nodes_into)
      (ap₂ (λ m B. record { answer = record { number = 0; offset = 0; count = m }; buffer = B }) (b.counted _ _ t stands) (b.written _ _ t stands)))
