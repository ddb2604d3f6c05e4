-- Every opening bracket of a text past checks 1 to 10 is that of one matching pair. It has a closer, since each bracket among the items of
-- a span has one; and only one, since the walk that finds the items ends a pair at its first closer.
use mathlib.Core.Path.{◌≡◌, refl, sym, ap, ◌∙◌}
use mathlib.Core.Logic.{◌⊎◌, inl, inr}
use mathlib.Core.Bool.{false}
use mathlib.Core.List.{List, [], ◌∷◌, ◌++◌, append_assoc, tail-eq_of_cons-eq}
use lib.ListN.{length, drop}
use lib.Seq.{drop-append_seam}
use Rattle.grammar.specs.Bytes.{Bytes}
use Rattle.grammar.specs.Token.{Token, atom, structure, opening, closing, keyword_let, keyword_in, keyword_end}
use Rattle.grammar.specs.Fault.{Past}
use Rattle.grammar.specs.Span.{Item, pair, ItemsOf, empty, own, inner, body, effect, item, outside, items_from}
use Rattle.grammar.specs.MatchingPair.{MatchingPair}
use Rattle.grammar.proofs.Logic.{impossible}
use Rattle.grammar.proofs.Items.{AllQuiet, quiet_cases, outside_pair}
use Rattle.grammar.proofs.ItemsRelation.{items_of, items_collected}
use Rattle.grammar.proofs.Faults.{past_checked}

-- Behind an opening bracket: what is up to its closer, and what is behind that.
record Closer (rest : List Token) : Type 0 where
  inside : List Token
  behind : List Token
  cut : rest ≡ inside ++ structure closing ∷ behind
  closed : (is : List Item) × ItemsOf inside is

closer_further : {rest : List Token} (more : List Token) → Closer rest → Closer (rest ++ more)
closer_further more c =
    record {
      inside = c.inside;
      behind = c.behind ++ more;
      cut = rw c.cut (append_assoc c.inside (structure closing ∷ c.behind) more);
      closed = c.closed;
    }

-- Each opening bracket among the tokens has a closer among them.
abbrev Closes : List Token → Type 0
Closes ts = (before rest : List Token) → ts ≡ before ++ structure opening ∷ rest → Closer rest

closes_none : Closes []
closes_none [] rest e = impossible cc
closes_none (x ∷ before) rest e = impossible cc

-- Behind a token that is no opening bracket.
closes-other : (t : Token) (ts : List Token) → (t ≡ structure opening → ⊥) → Closes ts → Closes (t ∷ ts)
closes-other t ts other h [] rest e = absurd (other cc)
closes-other t ts other h (x ∷ before) rest e = h before rest (tail-eq_of_cons-eq e)

-- Of a list in two parts an element stands in the first or in the second.
divided :
    {A : Type 0} (xs ys before : List A) (a : A) (rest : List A) → xs ++ ys ≡ before ++ a ∷ rest
    → ((r : List A) × (xs ≡ before ++ a ∷ r) × (rest ≡ r ++ ys)) ⊎ ((c : List A) × (ys ≡ c ++ a ∷ rest))
divided [] ys before a rest e = inr (before, e)
divided (x ∷ xs) ys [] a rest e = inl (xs, cc, sym (tail-eq_of_cons-eq e))
divided {A = A} (x ∷ xs) ys (b ∷ before) a rest e = go (divided xs ys before a rest (tail-eq_of_cons-eq e))
  where
    go :
        ((r : List A) × (xs ≡ before ++ a ∷ r) × (rest ≡ r ++ ys)) ⊎ ((c : List A) × (ys ≡ c ++ a ∷ rest))
        → ((r : List A) × (x ∷ xs ≡ b ∷ before ++ a ∷ r) × (rest ≡ r ++ ys)) ⊎ ((c : List A) × (ys ≡ c ++ a ∷ rest))
    go (inl (r, p, q)) = inl (r, cc, q)
    go (inr h) = inr h

-- Tokens in a row, an opening bracket with its closer, and declarations.
closes-append : (xs ys : List Token) → Closes xs → Closes ys → Closes (xs ++ ys)
closes-append xs ys h g before rest e = go (divided xs ys before (structure opening) rest e)
  where
    go :
        ((r : List Token) × (xs ≡ before ++ structure opening ∷ r) × (rest ≡ r ++ ys))
        ⊎ ((c : List Token) × (ys ≡ c ++ structure opening ∷ rest))
        → Closer rest
    go (inl (r, p, q)) = rw q (closer_further ys (h before r p))
    go (inr (c, p)) = g c rest p

closes_pair : (us ts : List Token) (is : List Item) → ItemsOf us is → Closes us → Closes ts → Closes (structure opening ∷ us ++ structure closing ∷ ts)
closes_pair us ts is i h g [] rest e = record { inside = us; behind = ts; cut = sym (tail-eq_of_cons-eq e); closed = (is, i) }
closes_pair us ts is i h g (x ∷ before) rest e =
    closes-append us (structure closing ∷ ts) h (closes-other (structure closing) ts (λ d. impossible cc) g) before rest (tail-eq_of_cons-eq e)

closes_quiet : (ds : List Token) → AllQuiet ds → Closes ds
closes_quiet [] q = closes_none
closes_quiet (d ∷ ds) q =
    closes-other d ds (quiet_cases (λ t. t ≡ structure opening → ⊥) (λ a e. impossible cc) (λ e. impossible cc) d q.0) (closes_quiet ds q.1)

-- So it is in a span.
items_close : {ts : List Token} {is : List Item} → ItemsOf ts is → Closes ts
items_close empty = closes_none
items_close (own {a} {ts} h) = closes-other (atom a) ts (λ e. impossible cc) (items_close h)
items_close (inner {us} {ts} {ks} h g) = closes_pair us ts ks h (items_close h) (items_close g)
items_close (body {ds} {us} {ts} q h g) =
    closes-append (structure keyword_let ∷ ds ++ structure keyword_in ∷ us) (structure keyword_end ∷ ts)
    (closes-append (structure keyword_let ∷ ds) (structure keyword_in ∷ us)
    (closes-other (structure keyword_let) ds (λ e. impossible cc) (closes_quiet ds q))
    (closes-other (structure keyword_in) us (λ e. impossible cc) (items_close h)))
    (closes-other (structure keyword_end) ts (λ e. impossible cc) (items_close g))

-- Two closers of one opening bracket are the same.
one_closer :
    (us xs vs ys : List Token) {is ks : List Item} → ItemsOf us is → ItemsOf vs ks
    → us ++ structure closing ∷ xs ≡ vs ++ structure closing ∷ ys → us ≡ vs
unfolding effect item
one_closer us xs vs ys h g e =
    let p = outside_pair false (structure opening) (structure closing) refl refl us xs (items_collected h) in
    let q = outside_pair false (structure opening) (structure closing) refl refl vs ys (items_collected g) in
    let same : pair us ∷ items_from outside xs ≡ pair vs ∷ items_from outside ys =
    sym p ∙ ap (λ ts. items_from outside (structure opening ∷ ts)) e ∙ q in
    cc

-- What stands behind the opening bracket of a pair.
behind_opening :
    {ts : List Token} (p : MatchingPair ts) → drop (length p.before) ts ≡ structure opening ∷ (p.inside ++ structure closing ∷ p.behind)
behind_opening p =
    ap (drop (length p.before)) (p.cut ∙ append_assoc p.before (structure opening ∷ p.inside) (structure closing ∷ p.behind))
    ∙ drop-append_seam p.before _

-- Two pairs of one opening bracket are the same.
same_inside : {ts : List Token} (p q : MatchingPair ts) → p.before ≡ q.before → p.inside ≡ q.inside
same_inside {ts} p q e =
    one_closer p.inside p.behind q.inside q.behind p.closed.1 q.closed.1
    (tail-eq_of_cons-eq (sym (behind_opening p) ∙ ap (λ b. drop (length b) ts) e ∙ behind_opening q))

-- The opening bracket behind `before` is that of one pair.
pub one_pair :
    (text : Bytes) (ts : List Token) → Past text ts → (before rest : List Token) → ts ≡ before ++ structure opening ∷ rest
    → (p : MatchingPair ts) × (p.before ≡ before) × ((q : MatchingPair ts) → q.before ≡ before → q.inside ≡ p.inside)
one_pair text ts past before rest e =
    let (ps, checked, known) = past_checked text ts past in
    let c = items_close (items_of ts 0 (rw known at checked.nested)) before rest e in
    let found : MatchingPair ts =
    record {
      before = before;
      inside = c.inside;
      behind = c.behind;
      cut =
          e ∙ ap (λ r. before ++ structure opening ∷ r) c.cut
          ∙ sym (append_assoc before (structure opening ∷ c.inside) (structure closing ∷ c.behind));
      closed = c.closed;
    } in
    (found, refl, λ q same. same_inside q found same)
