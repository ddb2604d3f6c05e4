-- Document 02, §7, of the calls: both services read a blank text and write nothing, do so of no other text, and refuse a text with an empty
-- inside with 11.
use mathlib.Core.Path.{◌≡◌, sym, ap, subst, ◌∙◌}
use mathlib.Core.Logic.{◌↔◌, ⊎_elim}
use mathlib.Core.List.{List}
use Prim.Native.Nat.{ℕ, ◌*◌}
use native.Mathlib.Omega.{arith}
use lib.ListN.{drop}
use Rattle.grammar.specs.Bytes.{Bytes}
use Rattle.grammar.specs.Fault.{current}
use Rattle.grammar.specs.Tree.{Tree, flat}
use Rattle.grammar.specs.Nodes.{count, words_per_node}
use Rattle.grammar.specs.Canonical.{canonical, canonical_text, join_pieces, join_tokens}
use Rattle.grammar.specs.Blank.{Blank, blank_rule}
use Rattle.grammar.specs.Claim.{EmptyInside, FirstWithout, ReadingOf, of_blank}
use Rattle.grammar.proofs.BlankRules.{blank_nodes, blank-canonical, empty_inside}
use Rattle.reader.specs.declared.Answer.{Answer}
use Rattle.reader.specs.Answered.{written, Reads, Canonicalizes}
use Rattle.reader.specs.Demands.{Right}
use Rattle.reader.proofs.ReadCalls as ReadCalls
use Rattle.reader.proofs.CanonicalCalls as CanonicalCalls

-- Of either service: it refuses no blank rule, what holds of the buffer then says that nothing was written, and of no other text does it say so.
module _
    {Own : Tree → ℕ → ℕ → Type 0} {Holds : List ℕ → ℕ → Tree → Type 0} {text : Bytes} {B B' : List ℕ} {a : Answer}
    (right : Right current FirstWithout Own Holds text B B' a) where
  blank_call :
      ((n p : ℕ) → Own blank_rule n p → ⊥) → (Holds B' a.count blank_rule → (a.count ≡ 0) × (B' ≡ B))
      → ((t : Tree) → ReadingOf text t → Holds B' a.count t → a.count ≡ 0 → Blank text) → Blank text ↔ ((a ≡ written 0) × (B' ≡ B))
  blank_call none-own empty only = (
    λ b.
        let read = right.answers.success.1 (blank_rule, of_blank b, none-own) in
        let place = right.answers.place_zero read in
        let (none, same) = empty (right.held read blank_rule (of_blank b)) in
        ((λ i. record { number = read i; offset = place i; count = none i }), same),
    λ (e, same).
        let read : a.number ≡ 0 = ap (λ x. x.number) e in
        let (t, reading, f) = right.answers.success.0 read in
        only t reading (right.held read t reading) (ap (λ x. x.count) e),
  )

  empty_call : EmptyInside text → a.number ≡ 11
  empty_call e =
      let (x, us, p, past, first) = empty_inside text e in
      ((right.answers.eleven p).1 (x, us, past, first)).0

pub blank-read : (text : Bytes) (N N' : List ℕ) (a : Answer) → Reads text N N' a → Blank text ↔ ((a ≡ written 0) × (N' ≡ N))
unfolding count
blank-read text N N' a h =
    blank_call (ReadCalls.right text N N' a h) (λ n p o. omega arith)
    (λ held. (held.counted, subst (λ k. drop (words_per_node * k) N' ≡ drop (words_per_node * k) N) held.counted held.behind))
    (λ t reading held none. blank_nodes text t reading (sym held.counted ∙ none))

pub blank_canonicalized :
    (text : Bytes) (B B' : List ℕ) (a : Answer) → Canonicalizes text B B' a → Blank text ↔ ((a ≡ written 0) × (B' ≡ B))
unfolding canonical canonical_text flat join_pieces join_tokens
blank_canonicalized text B B' a h =
    blank_call (CanonicalCalls.right text B B' a h) (λ n p o. ⊎_elim (λ l. omega arith) (λ l. omega arith) o.2)
    (λ held. (held.counted, subst (λ k. drop k B' ≡ drop k B) held.counted held.behind))
    (λ t reading held none. blank-canonical text t reading (sym held.counted ∙ none))

pub empty_inside_read : (text : Bytes) → EmptyInside text → (N N' : List ℕ) (a : Answer) → Reads text N N' a → a.number ≡ 11
empty_inside_read text e N N' a h = empty_call (ReadCalls.right text N N' a h) e

pub empty_inside_canonicalized :
    (text : Bytes) → EmptyInside text → (B B' : List ℕ) (a : Answer) → Canonicalizes text B B' a → a.number ≡ 11
empty_inside_canonicalized text e B B' a h = empty_call (CanonicalCalls.right text B B' a h) e
