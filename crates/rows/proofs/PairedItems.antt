-- The items of a paired range, token by token: what loops over items go by.
-- The walk that finds items collects a paired range as a whole where it stands inside a bracket pair or block, so the closer that it
-- meets next with nothing more open is the one that the range stops before.
use mathlib.Core.Path.{◌≡◌, refl, ap, ◌∙◌}
use mathlib.Core.Bool.{Bool, true, false}
use mathlib.Core.List.{List, [], ◌∷◌, ◌++◌, append_assoc}
use Prim.Native.Nat.{ℕ, suc, ◌+◌, ◌<◌}
use native.Mathlib.Omega.{arith}
use lib.ListN.{length, length-append}
use Rattle.grammar.specs.Bytes.{Bytes}
use Rattle.grammar.specs.Token.{Token, atom, structure, opening, closing, keyword_let, keyword_in, keyword_end}
use Rattle.grammar.specs.Span.{single, pair, scope, item_tokens, opens_one, closes_one, neither, effect, item, items_from, items}
use Rattle.grammar.proofs.Items.{
  item_block,
  collects,
  outside_atom,
  Collected,
  collected_none,
  collected_append,
  collected_block,
  collected_pair,
  outside_pair,
}
use Rattle.rows.specs.Fields.{TokenRow, kind}
use Rattle.rows.specs.Tokens.{atom_in, range, IsAtomKind, IsQuietKind, Paired, done, single as one_atom, bracket, block}
use Rattle.rows.proofs.Ranges.{length-range, range_none, range_atom, range_quiet, range_bracket, range_block}

collected_one : (t : Token) → effect t ≡ neither → Collected (t ∷ [])
collected_one t e b d us rest = collects b d us t rest e

-- What the span itself has of such a pair.
outside_items :
    (b : Bool) (o e : Token) → effect o ≡ opens_one b → effect e ≡ closes_one → (ts rest : List Token) → Collected ts
    → items (o ∷ ts ++ e ∷ rest) ≡ item b ts ∷ items rest
unfolding items
outside_items b o e p q ts rest c = outside_pair b o e p q ts rest c

pair_behind :
    (b : Bool) (o e : Token) → effect o ≡ opens_one b → effect e ≡ closes_one → (ts more rest : List Token) → Collected ts
    → items (more ++ rest) ≡ items more ++ items rest
    → items ((o ∷ ts ++ e ∷ more) ++ rest) ≡ items (o ∷ ts ++ e ∷ more) ++ items rest
pair_behind b o e p q ts more rest c h =
    rw (append_assoc ts (e ∷ more) rest, outside_items b o e p q ts more c)
    (outside_items b o e p q ts (more ++ rest) c ∙ ap (λ xs. item b ts ∷ xs) h)

module _ (text : Bytes) (K : TokenRow) where
  -- A paired range is collected as a whole.
  pub collected_range : {i to : ℕ} → Paired K i to → Collected (range text K i to)
  unfolding effect
  collected_range (done {to = to}) = rw (range_none text K to) collected_none
  collected_range (one_atom {i = i} {to = to} l k p) =
      rw (range_atom text K i to l k)
      (collected_append (atom (atom_in text K i) ∷ []) (range text K (suc i) to)
      (collected_one (atom (atom_in text K i)) refl) (collected_range p))
  collected_range (bracket {i = i} {to = to} c k w l m y p q) =
      rw (range_bracket text K i c to l m k y)
      (collected_pair false (structure opening) (structure closing) refl refl (range text K (suc i) c) (range text K (suc c) to)
      (collected_range p) (collected_range q))
  collected_range (block {i = i} {to = to} c e k w v l m n y z f p q) =
      rw (range_block text K i c e to l m n k y z)
      (collected_pair true (structure keyword_let) (structure keyword_end) refl refl
      (range text K (suc i) c ++ structure keyword_in ∷ range text K (suc c) e) (range text K (suc e) to)
      (collected_block (range text K (suc i) c) (range text K (suc c) e) (range_quiet text K (suc i) c f) (collected_range p))
      (collected_range q))

  -- Outside every pair its items are there before those of what stands behind it.
  pub items-behind :
      {i to : ℕ} → Paired K i to → (rest : List Token) → items (range text K i to ++ rest) ≡ items (range text K i to) ++ items rest
  unfolding items items_from effect
  items-behind (done {to = to}) rest = rw (range_none text K to)
  items-behind (one_atom {i = i} {to = to} l k p) rest =
      let a = atom_in text K i in
      let more = range text K (suc i) to in
      rw (range_atom text K i to l k, outside_atom a more)
      (outside_atom a (more ++ rest) ∙ ap (λ xs. single a ∷ xs) (items-behind p rest))
  items-behind (bracket {i = i} {to = to} c k w l m y p q) rest =
      rw (range_bracket text K i c to l m k y)
      (pair_behind false (structure opening) (structure closing) refl refl _ _ rest (collected_range p) (items-behind q rest))
  items-behind (block {i = i} {to = to} c e k w v l m n y z f p q) rest =
      rw (range_block text K i c e to l m n k y z)
      (pair_behind true (structure keyword_let) (structure keyword_end) refl refl _ _ rest
      (collected_block (range text K (suc i) c) (range text K (suc c) e) (range_quiet text K (suc i) c f) (collected_range p))
      (items-behind q rest))

  -- The items of a paired range, by its first token. None:
  pub items_done : (to : ℕ) → items (range text K to to) ≡ []
  unfolding items items_from
  items_done to = rw (range_none text K to)

  -- An atom;
  pub items_single :
      (i to : ℕ) → i < to → IsAtomKind (kind K i) → items (range text K i to) ≡ single (atom_in text K i) ∷ items (range text K (suc i) to)
  unfolding items
  items_single i to l k = rw (range_atom text K i to l k) (outside_atom (atom_in text K i) (range text K (suc i) to))

  -- A bracket pair;
  pub items_bracket :
      (i c to : ℕ) → kind K i ≡ 4 → i < c → c < to → kind K c ≡ 5 → Paired K (suc i) c
      → items (range text K i to) ≡ pair (range text K (suc i) c) ∷ items (range text K (suc c) to)
  unfolding effect item
  items_bracket i c to k l m y p =
      rw (range_bracket text K i c to l m k y)
      (outside_items false (structure opening) (structure closing) refl refl
      (range text K (suc i) c) (range text K (suc c) to) (collected_range p))

  -- A block.
  pub items_block :
      (i c e to : ℕ) → kind K i ≡ 7 → i < c → c < e → e < to → kind K c ≡ 8 → kind K e ≡ 9
      → ((j : ℕ) → i < j → j < c → IsQuietKind (kind K j)) → Paired K (suc c) e
      → items (range text K i to) ≡ scope (range text K (suc i) c) (range text K (suc c) e) ∷ items (range text K (suc e) to)
  unfolding effect
  items_block i c e to k l m n y z f p =
      let ds = range text K (suc i) c in
      let ts = range text K (suc c) e in
      let q = range_quiet text K (suc i) c f in
      rw (range_block text K i c e to l m n k y z, ← item_block ds ts q)
      (outside_items true (structure keyword_let) (structure keyword_end) refl refl
      (ds ++ structure keyword_in ∷ ts) (range text K (suc e) to)
      (collected_block ds ts q (collected_range p)))

  -- The token behind a bracket pair and behind a block.
  pub behind_pair : (i c : ℕ) → i < c → i + length (item_tokens (pair (range text K (suc i) c))) ≡ suc c
  unfolding item_tokens
  behind_pair i c l =
      omega (arith, length-append (range text K (suc i) c) (structure closing ∷ []), length-range text K (suc i) c)

  pub behind_scope :
      (i c e : ℕ) → i < c → c < e → i + length (item_tokens (scope (range text K (suc i) c) (range text K (suc c) e))) ≡ suc e
  unfolding item_tokens
  behind_scope i c e l m =
      let ds = range text K (suc i) c in
      let ts = range text K (suc c) e in
      omega (
        arith,
        length-append (ds ++ structure keyword_in ∷ ts) (structure keyword_end ∷ []),
        length-append ds (structure keyword_in ∷ ts),
        length-range text K (suc i) c,
        length-range text K (suc c) e,
      )
