-- Texts and their trees, with nothing of how they are found: a text is read exactly where it is past checks 1 to 10 and has a tree, or is
-- blank, and what is read is that tree; it is refused with 11 exactly where it is past them, has a token and no tree, at its first span
-- without one.
use mathlib.Core.Path.{◌≡◌, refl, sym, ap, subst, ◌∙◌}
use mathlib.Core.Logic.{◌↔◌}
use mathlib.Core.List.{List, [], ◌∷◌, Memᴰ}
use mathlib.Core.Option.{Option, none, some}
use Prim.Native.Nat.{ℕ, suc, ◌≤◌}
use native.Mathlib.Omega.{arith}
use lib.ListN.{length}
use Rattle.grammar.specs.Bytes.{Bytes}
use Rattle.grammar.specs.Token.{Token}
use Rattle.grammar.specs.Outcome.{refused, passed}
use Rattle.grammar.specs.Scan.{Placed}
use Rattle.grammar.specs.Declaration.{start_table}
use Rattle.grammar.specs.Spans.{Span, start_of, SpanOf}
use Rattle.grammar.specs.Tree.{Tree, IsTree}
use Rattle.grammar.specs.Blank.{blank_rule}
use Rattle.grammar.specs.Blocks.{check_blocks, spans, tree_of}
use Rattle.grammar.specs.Fault.{Past, longest_text}
use Rattle.grammar.specs.Answer.{Reading, PastChecks, tokens_of, span_offset, spans_of, read_text, reading_text}
use Rattle.grammar.specs.Abstract.{Agree}
use Rattle.grammar.specs.Claim.{BlocksLawful, HasNoTree, SpanPlace, FirstWithout, TreeOf, ReadingOf, of_tree, of_blank, canonical_tree, canonical_bytes, Faithful}
use Rattle.grammar.proofs.Scanned.{length_tokens}
use Rattle.grammar.proofs.BlocksLawful.{blocks_lawful}
use Rattle.grammar.proofs.CheckedTrees.{checked_tree}
use Rattle.grammar.proofs.ReadingTrees.{IsReading, of_tree_lem, is_tree_lem, of_none, is_blank_lem}
use Rattle.grammar.proofs.Logic.{impossible}
use Rattle.grammar.proofs.SpanOrder.{opener_within}
use Rattle.grammar.proofs.TokenFaults.{token_at}
use Rattle.grammar.proofs.SpansRelation.{span_listed}
use Rattle.grammar.proofs.OverloadingTest.{permitted-start}
use Rattle.grammar.proofs.ClimbExact.{climb_sound}
use Rattle.grammar.proofs.Lists.{all_member}
use Rattle.grammar.proofs.TextTree.{tree_of_complete}
use Rattle.grammar.proofs.Spans.{HasTree, spans_have}
use Rattle.grammar.proofs.Readings.{span_lawful, text_checked, reading_of_tokens, read_as, FirstListed, treeless_refused, refused_treeless}
use Rattle.grammar.proofs.RoundTrip.{faithful, reads_back, same_text}
use Rattle.grammar.proofs.Faults.{checked_past, past_checked}
use Rattle.grammar.proofs.BlankTexts.{blank_checked, checked_blank}

-- What is read is what the text reads as, ..
pub reading_of : (text : Bytes) (r : Reading) → read_text text ≡ passed r → ReadingOf text r.tree
reading_of text r e = let (h, i) = reading_of_tokens text r e in go (tokens_of r.tokens) refl h i
  where
    go : (ts : List Token) → tokens_of r.tokens ≡ ts → PastChecks text r.tokens → IsReading ts r.tree → ReadingOf text r.tree
    go [] q h i = rw (is_blank_lem i) (of_blank (checked_blank text r.tokens h q))
    go (x ∷ ts) q h i =
        of_tree (record { tokens = x ∷ ts; past = rw q at (checked_past text r.tokens h); is_tree = checked_tree (is_tree_lem (omega arith) i) })

-- .. and the other way round.
pub read_of : (text : Bytes) (t : Tree) → ReadingOf text t → (r : Reading) × (read_text text ≡ passed r) × (r.tree ≡ t)
read_of text t (of_tree h) =
    let (ps, c, q) = past_checked text h.tokens h.past in
    let i : IsTree start_table (tokens_of ps) t = rw q h.is_tree in
    (record { tokens = ps; tree = t }, read_as text ps c t (of_tree_lem (text_checked text ps c t i)), refl)
read_of text t (of_blank b) =
    let (ps, c, q) = blank_checked text b in
    (record { tokens = ps; tree = blank_rule }, read_as text ps c blank_rule (rw q of_none), refl)

-- A text reads as one thing at most, ..
pub same_reading : (text : Bytes) (t u : Tree) → ReadingOf text t → ReadingOf text u → t ≡ u
same_reading text t u h g =
    let (r, e, p) = read_of text t h in
    let (s, f, q) = read_of text u g in
    let w : passed r ≡ passed s = sym e ∙ f in
    let v : r ≡ s = cc in
    sym p ∙ ap (λ x. x.tree) v ∙ q

-- .. so any two trees of it are the same.
pub same_tree : (text : Bytes) (t u : Tree) → TreeOf text t → TreeOf text u → t ≡ u
same_tree text t u h g = same_reading text t u (of_tree h) (of_tree g)

-- Every block of it has allowed declarations and operators that keep the overloading rule.
pub reading_lawful : (text : Bytes) (t : Tree) → ReadingOf text t → BlocksLawful start_table t
reading_lawful text t (of_tree h) =
    let (ps, c, q) = past_checked text h.tokens h.past in
    let f = h.is_tree.tokens ∙ sym q in
    blocks_lawful (suc (length ps)) start_table 0 t (rw (f, length_tokens ps) (omega arith)) (rw f c.declared)
reading_lawful text t (of_blank b) = tt

-- The spans of a text past checks 1 to 10, in the relation and in the list.
module _ (text : Bytes) (ps : List Placed) (h : PastChecks text ps) where
  abbrev ts : List Token
  ts = tokens_of ps

  pub listed : (s : Span) → SpanOf ts s ↔ Memᴰ s (spans_of ps)
  listed s =
      let declared : check_blocks (suc (length ts)) start_table 0 ts ≡ passed tt =
      ap (λ k. check_blocks (suc k) start_table 0 ts) (length_tokens ps) ∙ h.declared in
      subst (λ k. SpanOf ts s ↔ Memᴰ s (spans (suc k) start_table none 0 ts)) (length_tokens ps) (span_listed ts h.nested declared s)

  -- The place of a span is its offset.
  pub place_offset : (s : Span) → Memᴰ s (spans_of ps) → (p : ℕ) → SpanPlace text ts s.opener p ↔ (p ≡ span_offset text ps s.opener)
  unfolding span_offset
  place_offset s m p = go s.opener (opener_within (suc (length ps)) start_table ts h.nested s m)
    where
      go : (o : Option ℕ) → start_of o ≤ length ts → SpanPlace text ts o p ↔ (p ≡ span_offset text ps o)
      go none l = ((λ e. e), λ e. e)
      go (some i) l = token_at text ps h.scanned i p (omega (arith, length_tokens ps))

  abbrev pub first_in_list : (p : ℕ) → FirstListed text ps p → FirstWithout text ts p
  first_in_list p f =
      record {
        span = f.span;
        among = (listed f.span).1 f.among;
        treeless = f.treeless;
        first = λ s m n. f.first s ((listed s).0 m) n;
        place = (place_offset f.span f.among p).1 f.offset;
      }

-- Two first spans start at one token, so they have one opener.
same_start : (o q : Option ℕ) → start_of o ≡ start_of q → o ≡ q
same_start none none e = refl
same_start none (some i) e = absurd (omega arith)
same_start (some i) none e = absurd (omega arith)
same_start (some i) (some j) e = ap some (omega arith)

-- There is one first place.
first_place : (text : Bytes) (ps : List Placed) → PastChecks text ps → (p q : ℕ) → FirstWithout text (tokens_of ps) p → FirstWithout text (tokens_of ps) q → p ≡ q
first_place text ps h p q f g =
    let a = f.first g.span g.among g.treeless in
    let b = g.first f.span f.among f.treeless in
    let o : f.span.opener ≡ g.span.opener = same_start f.span.opener g.span.opener (omega arith) in
    let e = (place_offset text ps h f.span ((listed text ps h f.span).0 f.among) p).0 f.place in
    let d = (place_offset text ps h g.span ((listed text ps h g.span).0 g.among) q).0 g.place in
    e ∙ ap (span_offset text ps) o ∙ sym d

-- A text with a span without a tree has none.
span_treeless :
    (text : Bytes) (ps : List Placed) → PastChecks text ps → (s : Span) → SpanOf (tokens_of ps) s → HasNoTree s
    → (t : Tree) → IsTree start_table (tokens_of ps) t → ⊥
unfolding tree_of
span_treeless text ps h s m never t i =
    let e = tree_of_complete start_table permitted-start (tokens_of ps) t (text_checked text ps h t i) in
    let have = spans_have (suc (length ps)) (suc (length (tokens_of ps))) start_table none 0 (tokens_of ps) t e in
    let (u, q) = all_member HasTree ((listed text ps h s).0 m) have in
    let p = span_lawful text ps h s ((listed text ps h s).0 m) in
    never u (climb_sound s.table p.0 p.1 s.contents u q)

-- A text with a span behind an opener has a token.
pub inside_some :
    (text : Bytes) (ts : List Token) → Past text ts → (s : Span) → SpanOf ts s → (i : ℕ) → s.opener ≡ some i
    → (x : Token) × (us : List Token) × (ts ≡ x ∷ us)
inside_some text ts past s among i opened = go ts refl
  where
    within : suc i ≤ length ts
    within =
        let (ps, h, q) = past_checked text ts past in
        let l = opener_within (suc (length ps)) start_table (tokens_of ps) h.nested s ((listed text ps h s).0 (rw q among)) in
        omega (arith, ap start_of opened, ap length q)

    go : (us : List Token) → ts ≡ us → (x : Token) × (vs : List Token) × (us ≡ x ∷ vs)
    go [] e = absurd (omega (arith, within, ap length e))
    go (x ∷ vs) e = (x, vs, refl)

-- A text past checks 1 to 10 with a span without a tree has none.
pub span_without :
    (text : Bytes) (ts : List Token) → Past text ts → (s : Span) → SpanOf ts s → HasNoTree s → (t : Tree) → IsTree start_table ts t → ⊥
span_without text ts past s among never t i =
    let (ps, h, q) = past_checked text ts past in
    span_treeless text ps h s (rw q among) never t (rw q i)

-- A text past checks 1 to 10 with at least one token.
pub past_some :
    (text : Bytes) (x : Token) (ts : List Token) → Past text (x ∷ ts)
    → (y : Placed) × (ys : List Placed) × PastChecks text (y ∷ ys) × (tokens_of (y ∷ ys) ≡ x ∷ ts)
unfolding tokens_of
past_some text x ts past = let (ps, h, q) = past_checked text (x ∷ ts) past in go ps h q
  where
    go :
        (ps : List Placed) → PastChecks text ps → tokens_of ps ≡ x ∷ ts
        → (y : Placed) × (ys : List Placed) × PastChecks text (y ∷ ys) × (tokens_of (y ∷ ys) ≡ x ∷ ts)
    go [] h q = impossible cc
    go (y ∷ ys) h q = (y, ys, h, q)

-- 11 exactly where such a text has a span without a tree, at the first one.
pub eleven_exactly :
    (text : Bytes) (p : ℕ) → (read_text text ≡ refused 11 p) ↔ ((x : Token) × (ts : List Token) × Past text (x ∷ ts) × FirstWithout text (x ∷ ts) p)
unfolding tokens_of
eleven_exactly text p = (given, back)
  where
    given : read_text text ≡ refused 11 p → (x : Token) × (ts : List Token) × Past text (x ∷ ts) × FirstWithout text (x ∷ ts) p
    given e =
        let (y, ys, h, never, f) = refused_treeless text p e in
        (y.token, tokens_of ys, checked_past text (y ∷ ys) h, first_in_list text (y ∷ ys) h p f)

    back : (x : Token) × (ts : List Token) × Past text (x ∷ ts) × FirstWithout text (x ∷ ts) p → read_text text ≡ refused 11 p
    back (x, ts, past, w) =
        let (y, ys, h, q) = past_some text x ts past in
        let ps = y ∷ ys in
        let f : FirstWithout text (tokens_of ps) p = rw q w in
        let (r, e, l) = treeless_refused text y ys h (span_treeless text ps h f.span f.among f.treeless) in
        e ∙ ap (refused 11) (first_place text ps h r p (first_in_list text ps h r l) f)

-- It has a span without a tree exactly where it has no tree.
pub treeless_exactly :
    (text : Bytes) (x : Token) (ts : List Token) → Past text (x ∷ ts)
    → ((t : Tree) → IsTree start_table (x ∷ ts) t → ⊥) ↔ ((p : ℕ) × FirstWithout text (x ∷ ts) p)
treeless_exactly text x ts past =
    let (y, ys, h, q) = past_some text x ts past in
    let ps = y ∷ ys in (
      λ never.
          let (p, e, l) = treeless_refused text y ys h (λ t i. never t (rw q at i)) in
          (p, rw q at (first_in_list text ps h p l)),
      λ (p, f). span_without text (x ∷ ts) past f.span f.among f.treeless,
    )

-- The canonical text of a rule reads back, if it is not too long.
pub canonical-read :
    (text : Bytes) (t : Tree) → ReadingOf text t → length (canonical_bytes t) ≤ longest_text → ReadingOf (canonical_bytes t) (canonical_tree t)
unfolding reading_text
canonical-read text t h n =
    let (r, e, p) = read_of text t h in
    let (q, d, s) = reads_back text r e (rw p n) in
    rw p at (rw s at (reading_of (reading_text r) q d))

pub canonical_faithful : (text : Bytes) (t : Tree) → ReadingOf text t → Faithful t
canonical_faithful text t h = let (r, e, p) = read_of text t h in rw p at (faithful text r e)

-- Two rules have the same canonical text exactly where their trees agree.
pub canonical-same : (a b : Bytes) (t u : Tree) → ReadingOf a t → ReadingOf b u → (canonical_bytes t ≡ canonical_bytes u) ↔ Agree t u
unfolding reading_text
canonical-same a b t u h g =
    let (r, e, p) = read_of a t h in
    let (s, f, q) = read_of b u g in
    rw (p, q) at (same_text a b r s e f)
