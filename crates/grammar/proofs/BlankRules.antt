-- Document 02, §7: blank rules agree with each other and with no other rule, and no other rule has no nodes or an empty canonical text; a
-- text with a token reads as its tree; and what is empty inside a text still has no tree.
use mathlib.Core.Path.{◌≡◌, refl, sym, ap, ◌∙◌}
use mathlib.Core.Logic.{◌↔◌}
use mathlib.Core.Bool.{true, true≢false}
use mathlib.Core.List.{List, [], ◌∷◌}
use Prim.Native.Nat.{ℕ}
use native.Mathlib.Omega.{arith}
use lib.ListN.{length, length-append}
use Rattle.grammar.specs.Bytes.{Bytes, every}
use Rattle.grammar.specs.Token.{Token, symbol}
use Rattle.grammar.specs.Spelling.{Spells}
use Rattle.grammar.specs.Operator.{Table}
use Rattle.grammar.specs.Declaration.{start_table}
use Rattle.grammar.specs.Span.{single}
use Rattle.grammar.specs.Spans.{Span}
use Rattle.grammar.specs.SpanTree.{SpanTree, missing, operand, apply, yield, present}
use Rattle.grammar.specs.Tree.{Tree, nothing, leaf, bracket, block, node, flat, span_tree, InnerOk}
use Rattle.grammar.specs.Blank.{Blank, blank_rule}
use Rattle.grammar.specs.Nodes.{count}
use Rattle.grammar.specs.Canonical.{canonical, canonical_text, join_pieces, join_tokens}
use Rattle.grammar.specs.Abstract.{absent, abstract, Agree}
use Rattle.grammar.specs.Fault.{Past}
use Rattle.grammar.specs.Claim.{HasNoTree, FirstWithout, EmptyInside, TreeOf, ReadingOf, of_tree, of_blank, canonical_bytes}
use Rattle.grammar.proofs.Scanned.{spells_unique}
use Rattle.grammar.proofs.Logic.{impossible}
use Rattle.grammar.proofs.Present.{counted}
use Rattle.grammar.proofs.BlankTexts.{blank_past}
use Rattle.grammar.proofs.Rules.{same_reading, canonical-same, treeless_exactly, inside_some, span_without}

-- What a text reads as has the text's own tokens, a blank rule none.
pub reading_spelled : (text : Bytes) (t : Tree) → ReadingOf text t → Spells text (flat t)
unfolding flat
reading_spelled text t (of_tree h) = rw h.is_tree.tokens h.past.spelled
reading_spelled text t (of_blank b) = ((blank_past text).0 b).spelled

pub reading_tokens : (text : Bytes) (ts : List Token) (t : Tree) → Spells text ts → ReadingOf text t → flat t ≡ ts
reading_tokens text ts t s h = spells_unique (reading_spelled text t h) s

-- A tree that is there agrees with no blank rule: under its brackets stands something.
something : (T : Table) (t : Tree) → InnerOk T t → present (span_tree t) ≡ true → abstract t ≡ absent → ⊥
unfolding abstract present span_tree
something T nothing i p e = true≢false (sym p)
something T (leaf a) i p e = impossible cc
something T (bracket t) i p e = something T t i.1 i.0.1 e
something T (block ds t) i p e = impossible cc
something T (node l m r) i p e = impossible cc

pub blank_agreement :
    (text other : Bytes) (t u : Tree) → ReadingOf text t → ReadingOf other u → Blank text → Agree t u ↔ Blank other
unfolding abstract
blank_agreement text other t u h g b =
    let blank : t ≡ blank_rule = same_reading text t blank_rule h (of_blank b) in (
      λ e. go u g (sym e ∙ ap abstract blank),
      λ c. ap abstract (blank ∙ sym (same_reading other u blank_rule g (of_blank c))),
    )
  where
    go : (v : Tree) → ReadingOf other v → abstract v ≡ absent → Blank other
    go v (of_tree k) e = absurd (something start_table v k.is_tree.inner k.is_tree.outer.1 e)
    go v (of_blank c) e = c

-- No other rule has no nodes, or an empty canonical text.
pub blank_nodes : (text : Bytes) (t : Tree) → ReadingOf text t → count t ≡ 0 → Blank text
blank_nodes text t (of_tree h) e = absurd (omega (arith, counted t h.is_tree.outer.1))
blank_nodes text t (of_blank b) e = b

pub blank-canonical : (text : Bytes) (t : Tree) → ReadingOf text t → length (canonical_bytes t) ≡ 0 → Blank text
unfolding canonical canonical_text flat join_pieces join_tokens every
blank-canonical text t h e =
    let none : Blank [] = record { short = omega arith; blank = refl } in
    let same : [] ≡ canonical_bytes t = sym (go (canonical_bytes t) e) in
    (blank_agreement [] text blank_rule t (of_blank none) h none).0 ((canonical-same [] text blank_rule t (of_blank none) h).0 same)
  where
    go : (s : Bytes) → length s ≡ 0 → s ≡ []
    go [] q = refl
    go (b ∷ s) q = absurd (omega arith)

-- Of a text with at least one token, what it reads as is its tree.
pub reading_exactly : (text : Bytes) (x : Token) (ts : List Token) → Past text (x ∷ ts) → (t : Tree) → ReadingOf text t ↔ TreeOf text t
reading_exactly text x ts past t = (go t, of_tree)
  where
    go : (u : Tree) → ReadingOf text u → TreeOf text u
    go u (of_tree h) = h
    go u (of_blank b) =
        let same : [] ≡ x ∷ ts = spells_unique ((blank_past text).0 b).spelled past.spelled in
        impossible cc

-- "Nothing at all has no tree": an empty bracket pair or block body.
empty_treeless : (s : Span) → s.contents ≡ [] → HasNoTree s
unfolding yield present
empty_treeless s none t h = go t (h.yields ∙ none) h.there
  where
    go : (u : SpanTree) → yield u ≡ [] → present u ≡ true → ⊥
    go missing e p = true≢false (sym p)
    go (operand i) e p = impossible cc
    go (apply l m r) e p = omega (arith, ap length e, length-append (yield l) (single (symbol m) ∷ yield r))

-- So a text with one is refused with 11.
pub empty_inside :
    (text : Bytes) → EmptyInside text → (x : Token) × (us : List Token) × (p : ℕ) × Past text (x ∷ us) × FirstWithout text (x ∷ us) p
empty_inside text e =
    let (x, us, q) = inside_some text e.tokens e.past e.span e.among e.opener e.opened in
    let past : Past text (x ∷ us) = rw q at e.past in
    let never = span_without text (x ∷ us) past e.span (rw q at e.among) (empty_treeless e.span e.empty) in
    let (p, first) = (treeless_exactly text x us past).0 never in
    (x, us, p, past, first)
