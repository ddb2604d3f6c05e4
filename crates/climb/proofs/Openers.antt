-- The spans that tokens open in a range, and what a search behind one of them keeps: its stores stand within one item of every span
-- round it, and the roots of that span are at its own tokens.
use mathlib.Core.Path.{◌≡◌, refl, ap, ◌∙◌}
use mathlib.Core.Logic.{◌⊎◌, inl, inr}
use mathlib.Core.List.{List, [], ◌∷◌, ◌++◌}
use Prim.Native.Nat.{ℕ, suc, ◌+◌, ◌≤◌, ◌<◌}
use native.Mathlib.Omega.{arith}
use lib.ListN.{length, length-append}
use Rattle.grammar.specs.Bytes.{Bytes}
use Rattle.grammar.specs.Token.{Atom, symbol}
use Rattle.grammar.specs.Operator.{Table}
use Rattle.grammar.specs.Span.{Item, single, pair, scope, item_tokens, all_item_tokens, items}
use Rattle.grammar.specs.SpanTree.{SpanTree, missing, operand, apply, yield}
use Rattle.grammar.proofs.Logic.{below}
use Rattle.rows.specs.Fields.{TokenRow, NoteRow, RootRow, operands, kind, closer}
use Rattle.rows.specs.Tokens.{range, IsAtomKind}
use Rattle.rows.proofs.PairedItems.{items_done, items_single}
use Rattle.climb.specs.Searched.{width, SpanRooted, InForce}
use Rattle.climb.proofs.Spare.{Opens, atom_opens_none}
use Rattle.climb.proofs.Waiting.{Same, same_left, same_right}
use Rattle.climb.proofs.Parts.{Opened, Parts, done, own, inner}

-- What holds of each of the items that begin at token `p`, with the token at which it begins.
abbrev pub Along : (ℕ → Item → Type 0) → ℕ → List Item → Type 0
Along P p [] = Unit {0}
Along P p (x ∷ xs) = P p x × Along P (p + length (item_tokens x)) xs

module _ (P : ℕ → Item → Type 0) where
  behind : (p : ℕ) (x : Item) (xs : List Item) → p + length (item_tokens x) + length (all_item_tokens xs) ≡ p + length (all_item_tokens (x ∷ xs))
  unfolding all_item_tokens
  behind p x xs = omega (arith, length-append (item_tokens x) (all_item_tokens xs))

  pub along_left : (xs ys : List Item) (p : ℕ) → Along P p (xs ++ ys) → Along P p xs
  along_left [] ys p h = tt
  along_left (x ∷ xs) ys p h = (h.0, along_left xs ys (p + length (item_tokens x)) h.1)

  pub along_right : (xs ys : List Item) (p : ℕ) → Along P p (xs ++ ys) → Along P (p + length (all_item_tokens xs)) ys
  unfolding all_item_tokens
  along_right [] ys p h = let e : p + 0 ≡ p = omega arith in rw e h
  along_right (x ∷ xs) ys p h = rw (behind p x xs) at (along_right xs ys (p + length (item_tokens x)) h.1)

-- The row has the same at the tokens of a span's own.
abbrev pub OwnKept : RootRow → RootRow → ℕ → Item → Type 0
OwnKept O O' p x = (a : Atom) → x ≡ single a → operands O' p ≡ operands O p

pub own_rooted : (O O' : RootRow) (s : SpanTree) (p : ℕ) → Along (OwnKept O O') p (yield s) → SpanRooted O p s → SpanRooted O' p s
unfolding yield item_tokens
own_rooted O O' missing p h r = tt
own_rooted O O' (operand (single a)) p h r =
    (same_left (h.0 a refl) ∙ r.0, same_right (h.0 a refl) ∙ r.1)
own_rooted O O' (operand (pair ts)) p h r = tt
own_rooted O O' (operand (scope ds ts)) p h r = tt
own_rooted O O' (apply l m r) p h g =
    let here = along_right (OwnKept O O') (yield l) (single (symbol m) ∷ yield r) p h in
    let next : p + width l + 1 ≡ suc (p + width l) = omega arith in (
      same_left (here.0 (symbol m) refl) ∙ g.0,
      same_right (here.0 (symbol m) refl) ∙ g.1,
      own_rooted O O' l p (along_left (OwnKept O O') (yield l) (single (symbol m) ∷ yield r) p h) g.2,
      own_rooted O O' r (suc (p + width l)) (rw next at here.1) g.3,
    )

-- Outside the tokens from `i` to `e` the row is as it was.
abbrev pub Outside : ℕ → ℕ → RootRow → RootRow → Type 0
Outside i e O O' = (j : ℕ) → (j < i) ⊎ (e ≤ j) → operands O' j ≡ operands O j

-- The span that token `j` opens.
pub record SpanAt (text : Bytes) (K : TokenRow) (R : NoteRow) (j to : ℕ) : Type 0 where
  pub table : Table
  pub known : InForce text table K R (suc j) (closer K j)
  pub before : j < closer K j
  pub within : closer K j < to

-- An opener behind a token of the span's own.
pub behind_own : {X : Type 0} (K : TokenRow) (i j : ℕ) → IsAtomKind (kind K i) → i ≤ j → Opens K j → (suc i ≤ j → X) → X
behind_own K i j k a op f =
    below i j f (λ h. let same : j ≡ i = omega arith in absurd (atom_opens_none K i k.1 (rw same at op)))

-- An opener of an item that holds a span is that span's, or one of those in it.
pub within-item :
    {text : Bytes} {K : TokenRow} {T U : Table} {i o e to : ℕ} {X : Type 0} → Opened text K T i o e to U → (j : ℕ) → i ≤ j → Opens K j
    → (j ≡ o → X) → (suc o ≤ j → j < e → X) → (suc e ≤ j → X) → X
within-item {o = o} {e = e} x j a op f g h =
    below e j h (λ l. let t = x.only j a l op in below o j (λ m. g m t.1) (λ m. f (omega arith)))

module _ {text : Bytes} {K : TokenRow} {R : NoteRow} where
  pub span_at : {T : Table} {i to : ℕ} → Parts text K R T i to → (j : ℕ) → i ≤ j → j < to → Opens K j → SpanAt text K R j to
  span_at done j a b op = absurd (omega arith)
  span_at (own {i = i} l k p) j a b op = behind_own K i j k a op (λ h. span_at p j h b op)
  span_at (inner o e U x f p q) j a b op =
      within-item x j a op
      (λ s. rw s (record { table = U; known = rw x.closes f; before = rw x.closes x.inside; within = rw x.closes x.within }))
      (λ h g.
      let t = span_at p j h g op in
      record { table = t.table; known = t.known; before = t.before; within = omega (arith, t.within, x.within) })
      (λ h. span_at q j h b op)

  module _ (O O' : RootRow) where
    -- Stores behind the first token of a range keep its own tokens; so do stores behind an opener of it.
    pub kept_behind : {T : Table} {i to : ℕ} → Parts text K R T i to → Same O O' i to
        → Along (OwnKept O O') i (items (range text K i to))
    unfolding item_tokens
    kept_behind (done {to = to}) f = rw (items_done text K to) tt
    kept_behind (own {i = i} {to = to} l k p) f =
        let next : i + 1 ≡ suc i = omega arith in
        rw (items_single text K i to l k, next)
        (λ a e. f i (omega arith) l, kept_behind p (λ j a b. f j (omega arith) b))
    kept_behind (inner {i = i} o e U x g p q) f =
        rw (x.comes, x.long)
        (λ a e. absurd (x.not_one a e), kept_behind q (λ j a b. f j (omega (arith, x.before, x.inside)) b))

    pub kept_within :
        {T : Table} {i to : ℕ} → Parts text K R T i to → (j : ℕ) → i ≤ j → j < to → Opens K j → Outside j (closer K j) O O'
        → Along (OwnKept O O') i (items (range text K i to))
    unfolding item_tokens
    kept_within done j a b op f = absurd (omega arith)
    kept_within (own {i = i} {to = to} l k p) j a b op f =
        behind_own K i j k a op
        (λ h.
        let next : i + 1 ≡ suc i = omega arith in
        rw (items_single text K i to l k, next) (λ x e. f i (inl h), kept_within p j h b op f))
    kept_within (inner {i = i} o e U x g p q) j a b op f =
        rw (x.comes, x.long) (
          λ y e. absurd (x.not_one y e),
          within-item x j a op
              (λ s. kept_behind q (λ m c d. f m (inr (omega (arith, ap (closer K) s, x.closes)))))
              (λ h l. kept_behind q (λ m c d. f m (inr (omega (arith, (span_at p j h l op).within)))))
              (λ h. kept_within q j h b op f),
        )
