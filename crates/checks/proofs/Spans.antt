-- Check 11: what the search of all spans answers is what reading answers, and of a text that is read the rows hold the tree.
use mathlib.Core.Path.{◌≡◌, refl, sym, ap, subst, ◌∙◌}
use mathlib.Core.Bool.{Bool}
use mathlib.Core.List.{List, [], ◌∷◌}
use mathlib.Core.Option.{Option, none, some}
use Prim.Native.Nat.{ℕ, suc, ◌<◌}
use native.Mathlib.Omega.{arith}
use lib.ListN.{length}
use Rattle.grammar.specs.Bytes.{Bytes}
use Rattle.grammar.specs.Outcome.{refused, passed}
use Rattle.grammar.specs.Scan.{Placed}
use Rattle.grammar.specs.Declaration.{start_table}
use Rattle.grammar.specs.Tree.{Tree}
use Rattle.grammar.specs.Blocks.{check_blocks, spans, treeless_opener, lost_token, tree_of}
use Rattle.grammar.specs.Answer.{Reading, tokens_of, read_text, read_spans, offset_of, span_offset, spans_of, lost_offset, PastChecks}
use Rattle.grammar.specs.Nodes.{count}
use Rattle.grammar.proofs.Scanned.{length_tokens}
use Rattle.grammar.proofs.SpanOrder.{treeless-within}
use Rattle.grammar.proofs.Logic.{impossible}
use Rattle.grammar.proofs.CheckedTrees.{checked_tree}
use Rattle.grammar.proofs.ReadingTrees.{is_tree_lem}
use Rattle.grammar.proofs.LostPlaces.{lost_within}
use Rattle.grammar.proofs.Readings.{past_reads, some_tokens, reading_of_tokens}
use Rattle.rows.specs.Fields.{TokenRow, NoteRow, RootRow, Holds}
use Rattle.rows.specs.Tokens.{range}
use Rattle.rows.specs.Agreeing.{Agrees}
use Rattle.rows.proofs.Bounded.{bounded_start}
use Rattle.climb.specs.Searched.{Rows, InForce, opener_in, treeless, treeless_of, Checks}
use Rattle.climb.specs.Searched as Climb
use Rattle.climb.specs.declared.spans.Trees.{Trees}
use Rattle.climb.specs.declared.spans.Treeless.{Treeless}
use Rattle.std.specs.Prelude.{Ok, Err, Some}
use Rattle.std.specs.declared.result.Result.{Result}
use Rattle.checks.specs.declared.Checked.{Checked}
use Rattle.checks.specs.declared.Unread.TheVariants as Why
use Rattle.checks.specs.Checking.{Classified, offset_in, span_in, HasRead, Passes, SpansChecked}
use Rattle.checks.proofs.Stages.{offset_in_lem, own_tokens}

-- What is answered of a text with a token that is read.
passes :
    {text : Bytes} {K : TokenRow} {R : NoteRow} {O : RootRow} (c : Checked) (r : Reading) (qs : List Placed) → 0 < length qs
    → HasRead text K R O r c → Passes text K R O r qs (Some c)
passes c r [] l h = absurd (omega arith)
passes c r (q ∷ qs) l h = h

module _ {text : Bytes} {K : TokenRow} {R : NoteRow} {O : RootRow} {n : ℕ} {nested : Bool} (v : Classified text K R O n nested) where
  abbrev ps : List Placed
  ps = v.matched.scanned.placed

  pub rows : Rows K R O n
  rows = record { tokens = v.matched.scanned.tokens; roles = v.matched.scanned.roles; roots = v.matched.scanned.roots }

  past : PastChecks text ps
  past =
      record {
        short = v.matched.scanned.short;
        scanned = v.matched.scanned.stored.scanned;
        nested = v.matched.nests;
        declared = ap (λ j. check_blocks (suc j) start_table 0 (tokens_of ps)) (sym v.matched.scanned.counted) ∙ v.declared;
      }

  some_placed : 0 < length ps
  some_placed = omega (arith, v.matched.scanned.some, v.matched.scanned.counted)

  pub in_force_lem : InForce text start_table K R 0 n
  in_force_lem = record { bounded = bounded_start; agrees = v.agrees }

  module _ (O' : RootRow) (r : Result Trees Treeless) (h : Climb.Checked K R n O O' r) where
    abbrev whole : Option Tree
    whole = tree_of start_table (tokens_of ps)

    reads_whole : read_text text ≡ read_spans text ps whole
    reads_whole = past_reads text ps past ∙ ap (read_spans text ps) (some_tokens ps some_placed)

    checks : Checks text start_table K n O' whole r
    checks = rw (own_tokens v.matched) at (h.answer text start_table in_force_lem)

    own_spans : spans (suc n) start_table none 0 (range text K 0 n) ≡ spans_of ps
    own_spans =
        ap (spans (suc n) start_table none 0) (own_tokens v.matched)
        ∙ ap (λ j. spans (suc j) start_table none 0 (tokens_of ps)) v.matched.scanned.counted

    -- There is no tree: which span has none, and where it is lost.
    record Lost (t : Treeless) : Type 0 where
      none_there : whole ≡ none
      opener : t.opener ≡ opener_in (treeless_opener (spans_of ps))
      lost : t.lost ≡ lost_token (spans_of ps)

    lost_by : (t : Treeless) → r ≡ Err t → Lost t
    unfolding treeless_of
    lost_by t e = go whole refl checks
      where
        go : (w : Option Tree) → whole ≡ w → Checks text start_table K n O' w r → Lost t
        go none g c =
            let z : Err t ≡ Err (treeless_of (spans_of ps)) = sym e ∙ c ∙ ap (λ ss. Err (treeless_of ss)) own_spans in
            let y : t ≡ treeless_of (spans_of ps) = cc in
            record { none_there = g; opener = ap (λ (w : Treeless). w.opener) y; lost = ap (λ (w : Treeless). w.lost) y }
        go (some u) g c = let z = sym c.0.1 ∙ e in impossible cc

    span_place : (o : Option ℕ) → treeless_opener (spans_of ps) ≡ o → span_in text K n (opener_in o) ≡ span_offset text ps o
    unfolding span_offset opener_in
    span_place none e = refl
    span_place (some i) e =
        let w = treeless-within (suc (length ps)) start_table (tokens_of ps) v.matched.nests i e in
        offset_in_lem v.matched.scanned i (omega (arith, v.matched.scanned.counted, length_tokens ps))

    lost_place : (t : Treeless) → Lost t → offset_in text K n t.lost ≡ offset_of text ps (lost_token (spans_of ps))
    lost_place t l =
        let within = lost_within text ps past l.none_there in
        offset_in_lem v.matched.scanned t.lost (omega (arith, l.lost, v.matched.scanned.counted)) ∙ ap (offset_of text ps) l.lost

    pub no_tree_lem :
        (t : Treeless) → r ≡ Err t → (span lost : ℕ) → span ≡ span_in text K n t.opener → lost ≡ offset_in text K n t.lost
        → SpansChecked text K R O' (Err (Why.NoTree span lost))
    unfolding read_spans lost_offset
    no_tree_lem t e span lost f g =
        let l = lost_by t e in
        let reads : read_text text ≡ refused 11 (span_offset text ps (treeless_opener (spans_of ps))) =
        reads_whole ∙ ap (read_spans text ps) l.none_there in
        rw reads (rw v.matched.scanned.stored.scanned
        (refl, f ∙ ap (span_in text K n) l.opener ∙ span_place _ refl, g ∙ lost_place t l))

    -- There is one.
    pub trees :
        (u : Trees) → r ≡ Ok u → SpansChecked text K R O' (Ok (record { tokens = n; nodes = u.nodes; root = u.root }))
    unfolding read_spans
    trees u e = go whole refl checks
      where
        go : (w : Option Tree) → whole ≡ w → Checks text start_table K n O' w r → SpansChecked text K R O' (Ok (record { tokens = n; nodes = u.nodes; root = u.root }))
        go none g c = let z = sym c ∙ e in impossible cc
        go (some t) g c =
            let reads : read_text text ≡ passed (record { tokens = ps; tree = t }) = reads_whole ∙ ap (read_spans text ps) g in
            let z : Ok (record { nodes = count t; root = c.0.0 }) ≡ Ok u = sym c.0.1 ∙ e in
            let y : record { nodes = count t; root = c.0.0 } ≡ u = cc in
            let some_tree : 0 < length (tokens_of ps) = omega (arith, some_placed, length_tokens ps) in
            rw reads
            (passes (record { tokens = n; nodes = u.nodes; root = u.root }) (record { tokens = ps; tree = t }) ps some_placed (
              v.matched.scanned.counted,
              sym (ap (λ (w : Trees). w.nodes) y),
              ap (λ (w : Trees). suc w.root) (sym y) ∙ c.0.2,
              record {
                short = v.matched.scanned.short;
                stored = v.matched.scanned.stored;
                tokens = subst (λ j. Holds K j) v.matched.scanned.counted v.matched.scanned.tokens;
                roles = subst (λ j. Holds R j) v.matched.scanned.counted v.matched.scanned.roles;
                roots =
                    subst (λ j. Holds O' j) v.matched.scanned.counted
                    (v.matched.scanned.roots.0, omega (arith, v.matched.scanned.roots.1, h.long));
                agrees = subst (λ j. Agrees text K R start_table 0 j) v.matched.scanned.counted v.agrees;
                is_tree = checked_tree (is_tree_lem some_tree (reading_of_tokens text (record { tokens = ps; tree = t }) reads).1);
                rooted = c.1;
              },
            ))
