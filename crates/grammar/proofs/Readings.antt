-- Of texts: what is read is a tree of the text's own tokens and the only one, or of none the blank rule; a text past checks 1 to 10 that has
-- tokens is refused with 11 exactly where it has no tree, at its first span that has none.
use mathlib.Core.Path.{◌≡◌, refl, sym, ap, ◌∙◌}
use mathlib.Core.Logic.{◌⊎◌, inl, inr, ⊎_elim}
use mathlib.Core.Bool.{Bool, true, false}
use mathlib.Core.List.Memᴰ
use mathlib.Core.List.{List, [], ◌∷◌, ◌++◌, Memᴰ}
use mathlib.Core.Option.{Option, none, some}
use Prim.Native.Nat.{ℕ, suc, ◌≤◌, ◌<◌}
use native.Mathlib.Omega.{arith}
use lib.Dec.{leb}
use lib.ListN.{length}
use borrow.Author.Tests.{leb-true, le-leb}
use Rattle.grammar.specs.Fault.{longest_text, most_tokens}
use Rattle.grammar.specs.Spans.{Span, start_of}
use Rattle.grammar.specs.Bytes.{Bytes}
use Rattle.grammar.specs.Token.{Token}
use Rattle.grammar.specs.Outcome.{Outcome, refused, passed, and_then, placed}
use Rattle.grammar.specs.Scan.{Placed, scan}
use Rattle.grammar.specs.Declaration.{start_table}
use Rattle.grammar.specs.Nesting.{nesting}
use Rattle.grammar.specs.SpanTree.{SpanTree}
use Rattle.grammar.specs.Tree.{Tree, IsTree}
use Rattle.grammar.specs.Blank.{blank_rule}
use Rattle.grammar.specs.Climb.{stops, search, climb}
use Rattle.grammar.specs.Blocks.{first_without, check_blocks, tree_of, treeless_opener, lost_token, tree_in}
use Rattle.grammar.specs.Answer.{Reading, PastChecks, tokens_of, offset_of, span_offset, reading_tree, read_spans, read_tokens, read_text, spans_of}
use Rattle.grammar.specs.Claim.{HasNoTree}
use Rattle.grammar.proofs.Scanned.{length_tokens}
use Rattle.grammar.proofs.CheckedTrees.{IsCheckedTree, checked_tree}
use Rattle.grammar.proofs.BlocksLawful.{tree_checked}
use Rattle.grammar.proofs.ReadingTrees.{IsReading, of_tree_lem, of_none, reading_complete}
use Rattle.grammar.proofs.Lists.{all_right, all_member}
use Rattle.grammar.proofs.ClimbExact.{climb_sound, climb_complete}
use Rattle.grammar.proofs.Operators.{positive_start}
use Rattle.grammar.proofs.SpanOrder.{first_by_start}
use Rattle.grammar.proofs.ItemLists.{and_then_passed, and_then_refused}
use Rattle.grammar.proofs.RefusalNumbers.{scan_number, nesting_number, blocks_number}
use Rattle.grammar.proofs.OverloadingTest.{permitted-start}
use Rattle.grammar.proofs.Nested.{nesting_anywhere}
use Rattle.grammar.proofs.TextSound.{Nested, tree_in_sound}
use Rattle.grammar.proofs.Spans.{
  first_without_none,
  first_without_all,
  first_without_some,
  lost_behind,
  spans_have,
  spans-hang,
  LawfulSpan,
  spans-lawful,
}
use Rattle.grammar.proofs.Logic.{impossible}

clashing : {A : Type 0} {o : Option A} {a : A} → o ≡ some a → o ≡ none → ⊥
clashing e f = impossible cc

-- A check whose places are put into bytes passes as it does.
pub placed_passed : {A : Type 0} (f : ℕ → ℕ) (o : Outcome A) (a : A) → placed f o ≡ passed a → o ≡ passed a
unfolding placed
placed_passed f (refused n p) a e = impossible cc
placed_passed f (passed b) a e = e

placed_refused : {A : Type 0} (f : ℕ → ℕ) (o : Outcome A) (n p : ℕ) → placed f o ≡ refused n p → (q : ℕ) × (o ≡ refused n q)
unfolding placed
placed_refused f (refused m q) n p e = (q, cc)
placed_refused f (passed b) n p e = impossible cc

-- Past checks 1 to 10 only check 11 is left.
pub past_reads : (text : Bytes) (ps : List Placed) → PastChecks text ps → read_text text ≡ read_spans text ps (reading_tree (tokens_of ps))
unfolding read_text read_tokens and_then placed
past_reads text ps h =
    let b = h.nested in
    let c = h.declared in
    rw (le-leb (length text) longest_text h.short, h.scanned, read_text) (rw (b, c))

read_spans_found :
    (text : Bytes) (ps : List Placed) (o : Option Tree) (r : Reading) → read_spans text ps o ≡ passed r → (r.tokens ≡ ps) × (o ≡ some r.tree)
unfolding read_spans
read_spans_found text ps none r e = impossible cc
read_spans_found text ps (some t) r e =
    let g : record { tokens = ps; tree = t } ≡ r = cc in
    (ap (λ x. x.tokens) (sym g), ap (λ x. some x.tree) g)

read_tokens_past :
    (text : Bytes) (ps : List Placed) (r : Reading) → length text ≤ longest_text → scan most_tokens 0 text ≡ passed ps → read_tokens text ps ≡ passed r
    → PastChecks text ps × (read_spans text ps (reading_tree (tokens_of ps)) ≡ passed r)
unfolding read_tokens
read_tokens_past text ps r n q e =
    let f = offset_of text ps in
    let a =
    and_then_passed (placed f (nesting [] 0 (tokens_of ps)))
    (λ u. and_then (placed f (check_blocks (suc (length ps)) start_table 0 (tokens_of ps))) (λ v. read_spans text ps (reading_tree (tokens_of ps)))) r e in
    let b =
    and_then_passed (placed f (check_blocks (suc (length ps)) start_table 0 (tokens_of ps)))
    (λ v. read_spans text ps (reading_tree (tokens_of ps))) r a.2 in (
      record {
        short = n;
        scanned = q;
        nested = placed_passed f (nesting [] 0 (tokens_of ps)) a.0 a.1;
        declared = placed_passed f (check_blocks (suc (length ps)) start_table 0 (tokens_of ps)) b.0 b.1;
      },
      b.2,
    )

-- A text that is read is past checks 1 to 10.
read_past : (text : Bytes) (r : Reading) → read_text text ≡ passed r → (ps : List Placed) × PastChecks text ps × (read_spans text ps (reading_tree (tokens_of ps)) ≡ passed r)
unfolding read_text
read_past text r e = go (leb (length text) longest_text) refl
  where
    go : (b : Bool) → leb (length text) longest_text ≡ b → (ps : List Placed) × PastChecks text ps × (read_spans text ps (reading_tree (tokens_of ps)) ≡ passed r)
    go true q =
        let a = and_then_passed (scan most_tokens 0 text) (read_tokens text) r (rw (q, read_text) at e) in
        let h = read_tokens_past text a.0 r (leb-true (length text) longest_text q) a.1 a.2 in
        (a.0, h.0, h.1)
    go false q = let f : refused 1 longest_text ≡ passed r = rw (q, read_text) at e in impossible cc

-- Nested tokens are nested wherever they begin.
pub nested_tokens : (text : Bytes) (ps : List Placed) → PastChecks text ps → Nested (tokens_of ps)
nested_tokens text ps h i = nesting_anywhere (tokens_of ps) [] 0 i h.nested

-- Every tree of a text past checks 1 to 10 is one whose blocks are checked.
pub text_checked :
    (text : Bytes) (ps : List Placed) → PastChecks text ps → (t : Tree) → IsTree start_table (tokens_of ps) t → IsCheckedTree start_table (tokens_of ps) t
text_checked text ps h t = tree_checked (suc (length ps)) start_table 0 (tokens_of ps) t (rw (length_tokens ps) (omega arith)) h.declared

-- What is read is of the text's own tokens: of some a tree, of none the blank rule.
reading_sound :
    (text : Bytes) (ps : List Placed) → PastChecks text ps → (ts : List Token) → tokens_of ps ≡ ts → (t : Tree) → reading_tree ts ≡ some t
    → IsReading ts t
unfolding reading_tree tree_of
reading_sound text ps h [] q t e = let b : t ≡ blank_rule = cc in rw b of_none
reading_sound text ps h (x ∷ ts) q t e =
    let found : tree_of start_table (tokens_of ps) ≡ some t = rw q e in
    rw q at
    (of_tree_lem
    (tree_in_sound (suc (length (tokens_of ps))) (suc (length ps)) start_table (permitted-start, positive_start) 0 (tokens_of ps) t (nested_tokens text ps h)
    (rw (length_tokens ps) (omega arith)) h.declared found))

pub reading_of_tokens : (text : Bytes) (r : Reading) → read_text text ≡ passed r → PastChecks text r.tokens × IsReading (tokens_of r.tokens) r.tree
reading_of_tokens text r e =
    let (ps, h, f) = read_past text r e in
    let (p, q) = read_spans_found text ps (reading_tree (tokens_of ps)) r f in
    (rw p h, rw p (reading_sound text ps h (tokens_of ps) refl r.tree q))

pub some_tokens : (ps : List Placed) → 0 < length ps → reading_tree (tokens_of ps) ≡ tree_of start_table (tokens_of ps)
unfolding tokens_of reading_tree
some_tokens [] l = absurd (omega arith)
some_tokens (p ∷ ps) l = refl

-- A text past checks 1 to 10 that can be read as `t` is read so.
pub read_as :
    (text : Bytes) (ps : List Placed) → PastChecks text ps → (t : Tree) → IsReading (tokens_of ps) t
    → read_text text ≡ passed (record { tokens = ps; tree = t })
unfolding read_spans
read_as text ps h t i = past_reads text ps h ∙ ap (read_spans text ps) (reading_complete (tokens_of ps) t i)

-- A text past checks 1 to 10 that has no tree is refused with 11, at the first of its spans that has none.
span_among : (ss xs ys : List Span) (s : Span) → ss ≡ xs ++ s ∷ ys → Memᴰ s ss
span_among ss xs ys s e = rw e (Memᴰ.append_right xs (Memᴰ.head refl))

not_found : (s : Span) → LawfulSpan s → HasNoTree s → climb s.table s.contents ≡ none
not_found s p h = go (climb s.table s.contents) refl
  where
    go : (o : Option SpanTree) → climb s.table s.contents ≡ o → climb s.table s.contents ≡ none
    go none e = e
    go (some t) e = absurd (h t (climb_sound s.table p.0 p.1 s.contents t e))

-- The first span without a tree, by the list of spans, and its place.
pub record FirstListed (text : Bytes) (ps : List Placed) (p : ℕ) : Type 0 where
  pub span : Span
  pub among : Memᴰ span (spans_of ps)
  pub treeless : HasNoTree span
  pub first : (s : Span) → Memᴰ s (spans_of ps) → HasNoTree s → start_of span.opener ≤ start_of s.opener
  pub offset : p ≡ span_offset text ps span.opener
  -- The search of it stops at the token at which the text is lost.
  pub stopped : search span.table (start_of span.opener) span.contents ≡ stops (lost_token (spans_of ps))

-- Every span of a text past checks 1 to 10 has operators that keep the overloading rule, of a precedence of at least 1.
pub span_lawful : (text : Bytes) (ps : List Placed) → PastChecks text ps → (s : Span) → Memᴰ s (spans_of ps) → LawfulSpan s
span_lawful text ps h s m =
    all_member LawfulSpan m
    (spans-lawful (suc (length ps)) (suc (length ps)) start_table none 0 0 (tokens_of ps) (permitted-start, positive_start) (nested_tokens text ps h)
    (rw (length_tokens ps) (omega arith)) h.declared)

pub refusal_at :
    (text : Bytes) (ps : List Placed) → PastChecks text ps → (o : Option ℕ) → first_without (spans_of ps) ≡ some o
    → FirstListed text ps (span_offset text ps o)
refusal_at text ps h o e =
    let f = first_without_some (spans_of ps) o e in
    let l =
    spans-lawful (suc (length ps)) (suc (length ps)) start_table none 0 0 (tokens_of ps) (permitted-start, positive_start) (nested_tokens text ps h)
    (rw (length_tokens ps) (omega arith)) h.declared in
    let k : LawfulSpan f.span = (all_right LawfulSpan f.before (f.span ∷ f.after) (rw f.cut at l)).0 in
    let q : f.span.opener ≡ o = f.opened in
    record {
      span = f.span;
      among = span_among (spans_of ps) f.before f.after f.span f.cut;
      treeless =
          λ s i.
          let w = climb_complete f.span.table k.0 f.span.contents s i in
          clashing w f.without;
      first = λ s m n. rw q (first_by_start (suc (length ps)) start_table (tokens_of ps) h.nested o e s m (not_found s (span_lawful text ps h s m) n));
      offset = ap (span_offset text ps) (sym q);
      stopped = lost_behind f.before f.span f.after f.earlier f.without ∙ ap (λ ss. stops (lost_token ss)) (sym f.cut);
    }

-- Where each span has a tree the text has one, ..
pub spans_pass :
    (text : Bytes) (ps : List Placed) → PastChecks text ps → first_without (spans_of ps) ≡ none
    → (t : Tree) × (tree_of start_table (tokens_of ps) ≡ some t)
unfolding tree_of
spans_pass text ps h e =
    let n : length (tokens_of ps) < suc (length ps) = rw (length_tokens ps) (omega arith) in
    let t = spans-hang (suc (length ps)) start_table none 0 (tokens_of ps) (nested_tokens text ps h) n (first_without_none (spans_of ps) e) in
    (t.0, ap (λ k. tree_in (suc k) start_table (tokens_of ps)) (length_tokens ps) ∙ t.1)

-- .. and where one has none the text has none.
pub spans_refuse :
    (ps : List Placed) (o : Option ℕ) → first_without (spans_of ps) ≡ some o → tree_of start_table (tokens_of ps) ≡ none
unfolding tree_of
spans_refuse ps o e = go (tree_of start_table (tokens_of ps)) refl
  where
    go : (f : Option Tree) → tree_of start_table (tokens_of ps) ≡ f → tree_of start_table (tokens_of ps) ≡ none
    go none q = q
    go (some t) q =
        absurd
        (clashing e
        (first_without_all (spans_of ps) (spans_have (suc (length ps)) (suc (length (tokens_of ps))) start_table none 0 (tokens_of ps) t q)))

pub treeless_refused :
    (text : Bytes) (x : Placed) (xs : List Placed) → PastChecks text (x ∷ xs) → ((t : Tree) → IsTree start_table (tokens_of (x ∷ xs)) t → ⊥)
    → (p : ℕ) × (read_text text ≡ refused 11 p) × FirstListed text (x ∷ xs) p
unfolding read_spans treeless_opener tree_of reading_tree tokens_of
treeless_refused text x xs h never = go (first_without (spans_of ps)) refl
  where
    ps : List Placed
    ps = x ∷ xs

    go : (o : Option (Option ℕ)) → first_without (spans_of ps) ≡ o → (p : ℕ) × (read_text text ≡ refused 11 p) × FirstListed text ps p
    go none e =
        let t = spans_pass text ps h e in
        absurd
        (never t.0
        (checked_tree
        (tree_in_sound (suc (length (tokens_of ps))) (suc (length ps)) start_table (permitted-start, positive_start) 0 (tokens_of ps) t.0 (nested_tokens text ps h)
        (rw (length_tokens ps) (omega arith)) h.declared t.1)))
    go (some o) e = (
      span_offset text ps o,
      past_reads text ps h ∙ ap (read_spans text ps) (spans_refuse ps o e) ∙ ap (λ w. refused 11 (span_offset text ps w)) (rw (e, treeless_opener)),
      refusal_at text ps h o e,
    )

-- A refusal with 11 comes past checks 1 to 10 only: the other checks have other numbers.
eleven_tokens :
    (text : Bytes) (ps : List Placed) (p : ℕ) → length text ≤ longest_text → scan most_tokens 0 text ≡ passed ps → read_tokens text ps ≡ refused 11 p
    → PastChecks text ps
unfolding read_tokens
eleven_tokens text ps p n q e =
    go
    (and_then_refused (placed f (nesting [] 0 (tokens_of ps)))
    (λ u. and_then (placed f (check_blocks (suc (length ps)) start_table 0 (tokens_of ps))) (λ v. read_spans text ps (reading_tree (tokens_of ps)))) 11 p e)
  where
    f : ℕ → ℕ
    f = offset_of text ps

    checked :
        nesting [] 0 (tokens_of ps) ≡ passed tt
        → (placed f (check_blocks (suc (length ps)) start_table 0 (tokens_of ps)) ≡ refused 11 p)
        ⊎ ((u : Unit {0}) × (placed f (check_blocks (suc (length ps)) start_table 0 (tokens_of ps)) ≡ passed u) × (read_spans text ps (reading_tree (tokens_of ps)) ≡ refused 11 p))
        → PastChecks text ps
    checked h (inl b) =
        let c = placed_refused f (check_blocks (suc (length ps)) start_table 0 (tokens_of ps)) 11 p b in
        absurd (⊎_elim (λ b. omega arith) (λ b. omega arith) (blocks_number (suc (length ps)) start_table 0 (tokens_of ps) 11 c.0 c.1))
    checked h (inr b) =
        record { short = n; scanned = q; nested = h; declared = placed_passed f (check_blocks (suc (length ps)) start_table 0 (tokens_of ps)) b.0 b.1 }

    go :
        (placed f (nesting [] 0 (tokens_of ps)) ≡ refused 11 p)
        ⊎ ((u : Unit {0}) × (placed f (nesting [] 0 (tokens_of ps)) ≡ passed u)
        × (and_then (placed f (check_blocks (suc (length ps)) start_table 0 (tokens_of ps))) (λ v. read_spans text ps (reading_tree (tokens_of ps))) ≡ refused 11 p))
        → PastChecks text ps
    go (inl a) =
        let c = placed_refused f (nesting [] 0 (tokens_of ps)) 11 p a in
        absurd (omega (arith, nesting_number [] 0 (tokens_of ps) 11 c.0 c.1))
    go (inr a) =
        checked (placed_passed f (nesting [] 0 (tokens_of ps)) a.0 a.1)
        (and_then_refused (placed f (check_blocks (suc (length ps)) start_table 0 (tokens_of ps))) (λ v. read_spans text ps (reading_tree (tokens_of ps))) 11 p a.2)

eleven_past : (text : Bytes) (p : ℕ) → read_text text ≡ refused 11 p → (ps : List Placed) × PastChecks text ps
unfolding read_text
eleven_past text p e = go (leb (length text) longest_text) refl
  where
    scanned :
        length text ≤ longest_text
        → (scan most_tokens 0 text ≡ refused 11 p) ⊎ ((ps : List Placed) × (scan most_tokens 0 text ≡ passed ps) × (read_tokens text ps ≡ refused 11 p))
        → (ps : List Placed) × PastChecks text ps
    scanned n (inl a) = absurd (omega (arith, scan_number most_tokens 0 text 11 p a))
    scanned n (inr a) = (a.0, eleven_tokens text a.0 p n a.1 a.2)

    go : (b : Bool) → leb (length text) longest_text ≡ b → (ps : List Placed) × PastChecks text ps
    go true q =
        scanned (leb-true (length text) longest_text q)
        (and_then_refused (scan most_tokens 0 text) (read_tokens text) 11 p (rw (q, read_text) at e))
    go false q =
        let f : ◌≡◌ {A = Outcome Reading} (refused 1 longest_text) (refused 11 p) = rw (q, read_text) at e in
        impossible cc

refused_place : {o : Outcome Reading} {n m p q : ℕ} → o ≡ refused n p → o ≡ refused m q → p ≡ q
refused_place d e = cc

-- A text refused with 11 has a token and no tree, and the place is that of its first span without one.
pub refused_treeless :
    (text : Bytes) (p : ℕ) → read_text text ≡ refused 11 p
    → (x : Placed) × (xs : List Placed) × PastChecks text (x ∷ xs) × ((t : Tree) → IsTree start_table (tokens_of (x ∷ xs)) t → ⊥)
    × FirstListed text (x ∷ xs) p
unfolding tokens_of
refused_treeless text p e = let (ps, h) = eleven_past text p e in go ps h
  where
    go :
        (ps : List Placed) → PastChecks text ps
        → (x : Placed) × (xs : List Placed) × PastChecks text (x ∷ xs) × ((t : Tree) → IsTree start_table (tokens_of (x ∷ xs)) t → ⊥)
        × FirstListed text (x ∷ xs) p
    go [] h = let g = read_as text [] h blank_rule of_none in impossible cc
    go (x ∷ xs) h =
        let never : (t : Tree) → IsTree start_table (tokens_of (x ∷ xs)) t → ⊥ =
        λ t i. let g = read_as text (x ∷ xs) h t (of_tree_lem (text_checked text (x ∷ xs) h t i)) in impossible cc in
        let (q, f, first) = treeless_refused text x xs h never in
        let same : q ≡ p = refused_place f e in
        (x, xs, h, never, rw same at first)
