-- A canonical text has the fewest tokens of all texts whose trees agree with its own: these trees have one canonical tree, and that has no
-- more tokens than any of them. So no pair of its brackets can be dropped: two tokens fewer are too few for a tree that agrees.
use mathlib.Core.Path.{◌≡◌, sym, ap, ◌∙◌}
use mathlib.Core.Bool.{true}
use mathlib.Core.List.{List, ◌∷◌, ◌++◌}
use mathlib.Core.Option.{Option}
use Prim.Native.Nat.{◌+◌, ◌≤◌}
use native.Mathlib.Omega.{arith}
use lib.ListN.{length, length-append}
use Rattle.grammar.specs.Bytes.{Bytes}
use Rattle.grammar.specs.Token.{Token, structure, opening, closing, is_token, are_tokens}
use Rattle.grammar.specs.Spelling.{Spells}
use Rattle.grammar.specs.Outcome.{passed}
use Rattle.grammar.specs.Operator.{Role, Table}
use Rattle.grammar.specs.Declaration.{declare_all, start_table}
use Rattle.grammar.specs.SpanTree.{Position, on_left, on_right}
use Rattle.grammar.specs.Tree.{Tree, nothing, leaf, bracket, block, node, flat, InnerOk, IsTree}
use Rattle.grammar.specs.Abstract.{abstract, Agree}
use Rattle.grammar.specs.Canonical.{fitted, canonical}
use Rattle.grammar.specs.MatchingPair.{MatchingPair, remaining}
use Rattle.grammar.specs.Answer.{Reading, read_text}
use Rattle.grammar.specs.Claim.{ReadingOf, canonical_tree}
use Rattle.grammar.proofs.Operators.{positive_start}
use Rattle.grammar.proofs.Scanned.{spells_tokens}
use Rattle.grammar.proofs.CheckedTrees.{InnerChecked, inner_ok}
use Rattle.grammar.proofs.StripDeclarations.{declare-strip, strip-declarations}
use Rattle.grammar.proofs.CanonicalTree.{fitted_by, canonical_ok}
use Rattle.grammar.proofs.CanonicalSize.{canonical_shorter}
use Rattle.grammar.proofs.CanonicalTokens.{tokens_join, tokens_split}
use Rattle.grammar.proofs.CanonicalAgreement.{canonical_agrees, canonical_by_agreement, leaves_ok}
use Rattle.grammar.proofs.RoundTrip.{facts}
use Rattle.grammar.proofs.Rules.{read_of, same_reading}
use Rattle.grammar.proofs.BlankRules.{reading_tokens}

-- The remaining tokens are two fewer, and tokens as before.
remaining-length : {ts : List Token} (pair : MatchingPair ts) → 2 + length (remaining pair) ≡ length ts
remaining-length pair = rw pair.cut (simp length-append (omega arith))

remaining_tokens : {ts : List Token} (pair : MatchingPair ts) → are_tokens ts ≡ true → are_tokens (remaining pair) ≡ true
unfolding are_tokens is_token
remaining_tokens pair e =
    let (front, behind) = tokens_split (pair.before ++ structure opening ∷ pair.inside) (structure closing ∷ pair.behind) (rw pair.cut at e) in
    let (before, inside) = tokens_split pair.before (structure opening ∷ pair.inside) front in
    tokens_join (pair.before ++ pair.inside) pair.behind (tokens_join pair.before pair.inside before inside) behind

-- What holds of the blocks of a fitted operand holds of those of the operand.
fitted_checked :
    (T : Table) (s : Position) (o : Option Role) (t : Tree) → InnerChecked T (fitted T s o t) → InnerChecked T t
fitted_checked T s o t = fitted_by (λ u. InnerChecked T u → InnerChecked T t) T s o t (λ e i. i) (λ e i. i.1)

-- The blocks of a tree pass the checks of blocks where those of its canonical tree do: they declare the same.
checked_by_canonical : (T : Table) (t : Tree) → InnerOk T t → InnerChecked T (canonical T t) → InnerChecked T t
unfolding canonical
checked_by_canonical T nothing h i = tt
checked_by_canonical T (leaf a) h i = tt
checked_by_canonical T (bracket t) h i = (h.0, checked_by_canonical T t h.1 i)
checked_by_canonical T (block ds t) h i = (
  sym (strip-declarations ds) ∙ i.0,
  rw (declare-strip T ds) at i.1,
  h.0,
  checked_by_canonical (declare_all T ds) t h.1 (rw (declare-strip T ds) at i.3),
)
checked_by_canonical T (node l m r) h i = (
  checked_by_canonical T l h.0 (fitted_checked T on_left _ (canonical T l) i.0),
  checked_by_canonical T r h.1 (fitted_checked T on_right _ (canonical T r) i.1),
)

-- A tree `u` of tokens that agrees with what a text was read as has the canonical tree of that, and no fewer tokens than it.
no_fewer :
    (text : Bytes) (r : Reading) → read_text text ≡ passed r → (us : List Token) (u : Tree) → are_tokens us ≡ true → IsTree start_table us u
    → Agree r.tree u → length (flat (canonical_tree r.tree)) ≤ length us
no_fewer text r e us u tokens h agree =
    let t = r.tree in
    let f = facts text r e in
    let i = f.is_reading.inner in
    let leaves = leaves_ok start_table u h.inner (rw h.tokens tokens) in
    let one : canonical_tree t ≡ canonical_tree u =
    canonical_by_agreement start_table t u (leaves_ok start_table t (inner_ok start_table t i) f.tokens) leaves agree in
    let checked : InnerChecked start_table u =
    checked_by_canonical start_table u h.inner (rw one at (canonical_ok start_table t positive_start f.is_reading.admitted i).1) in
    rw (one, ← h.tokens) (canonical_shorter start_table u positive_start h.outer.0 checked)

-- A canonical text with the tokens `ts`, which reads as `t`: the canonical tree of what some text reads as.
pub record CanonicalOf (ts : List Token) (t : Tree) : Type 0 where
  pub text : Bytes
  pub rule : Tree
  pub read : ReadingOf text rule
  pub written : Bytes
  pub back : ReadingOf written (canonical_tree rule)
  pub spelled : Spells written ts
  pub reading : ReadingOf written t

-- No tokens with a tree that agrees with its own are fewer, ..
pub fewest_tokens :
    {ts : List Token} {t : Tree} → CanonicalOf ts t → (us : List Token) (u : Tree) → are_tokens us ≡ true → IsTree start_table us u → Agree t u
    → length ts ≤ length us
fewest_tokens {ts} {t} c us u tokens h agree =
    let r = c.rule in
    let (q, e, p) = read_of c.text r c.read in
    let same : t ≡ canonical_tree r = same_reading c.written t (canonical_tree r) c.reading c.back in
    let agrees : Agree r u = sym (canonical_agrees start_table r) ∙ ap abstract (sym same) ∙ agree in
    let n : length (flat (canonical_tree r)) ≤ length us = rw p at (no_fewer c.text q e us u tokens h (rw p agrees)) in
    rw (← reading_tokens c.written ts t c.spelled c.reading, same) n

-- .. so without one of its bracket pairs no tree agrees.
pub bracket_needed :
    {ts : List Token} {t : Tree} → CanonicalOf ts t → (pair : MatchingPair ts) (u : Tree) → IsTree start_table (remaining pair) u → Agree t u → ⊥
bracket_needed c pair u h agree =
    omega (arith, fewest_tokens c (remaining pair) u (remaining_tokens pair (spells_tokens c.spelled)) h agree, remaining-length pair)
