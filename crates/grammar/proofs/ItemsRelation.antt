-- The items that the walk finds are the items of a span: of tokens that passed check 6 they are items, and no others are.
-- Items are finished one behind the other, and what is inside them passes too and is shorter; and what are items is collected as a whole.
use mathlib.Core.Path.{◌≡◌, refl, sym, ap, ap₂, ◌∙◌}
use mathlib.Core.Bool.{true, false}
use mathlib.Core.List.{List, [], ◌∷◌, ◌++◌, append_assoc}
use Prim.Native.Nat.{ℕ, zero, suc, ◌<◌}
use native.Mathlib.Omega.{arith}
use lib.ListN.{length}
use Rattle.grammar.specs.Token.{Token, atom, structure, opening, closing, keyword_let, keyword_in, keyword_end}
use Rattle.grammar.specs.Outcome.{passed}
use Rattle.grammar.specs.Nesting.{nesting}
use Rattle.grammar.specs.Span.{
  Item,
  single,
  pair,
  scope,
  item_tokens,
  all_item_tokens,
  ItemsOf,
  empty,
  own,
  inner,
  body,
  effect,
  item,
  outside,
  items_from,
  items,
}
use Rattle.grammar.proofs.Items.{
  Collected,
  collected_none,
  collected_append,
  collected_all_quiet,
  collected_pair,
  collected_block,
  item_block,
  outside_pair,
  outside_atom,
}
use Rattle.grammar.proofs.Nested.{nesting_anywhere}
use Rattle.grammar.proofs.ItemsNested.{Passes, AllNested, Shorter, items_tokens, items_nested, items_inside_shorter}

-- The tokens of items of which the first is a bracket pair or a block.
pair_first : (us : List Token) (is : List Item)
    → all_item_tokens (pair us ∷ is) ≡ structure opening ∷ us ++ structure closing ∷ all_item_tokens is
unfolding all_item_tokens item_tokens
pair_first us is = append_assoc (structure opening ∷ us) (structure closing ∷ []) (all_item_tokens is)

scope_first : (ds us : List Token) (is : List Item)
    → all_item_tokens (scope ds us ∷ is) ≡ structure keyword_let ∷ ds ++ structure keyword_in ∷ us ++ structure keyword_end ∷ all_item_tokens is
unfolding all_item_tokens item_tokens
scope_first ds us is = append_assoc (structure keyword_let ∷ ds ++ structure keyword_in ∷ us) (structure keyword_end ∷ []) (all_item_tokens is)

-- The tokens of items that are nested are told apart into them, if what is inside is.
module _ (n : ℕ) (within : (us : List Token) → length us < n → Passes [] us → ItemsOf us (items us)) where
  items_apart : (is : List Item) → AllNested is → Shorter n is → ItemsOf (all_item_tokens is) is
  unfolding all_item_tokens item_tokens
  items_apart [] h s = empty
  items_apart (single a ∷ is) h s = own (items_apart is h.1 s.1)
  items_apart (pair us ∷ is) h s =
      rw (pair_first us is) (inner (within us s.0 h.0) (items_apart is h.1 s.1))
  items_apart (scope ds us ∷ is) h s =
      rw (scope_first ds us is) (body h.0.0 (within us s.0 h.0.1) (items_apart is h.1 s.1))

items_below : (n : ℕ) (ts : List Token) → length ts < n → Passes [] ts → ItemsOf ts (items ts)
items_below zero ts l h = absurd (omega arith)
items_below (suc n) ts l h =
    let nested = items_nested ts 0 (h 0) in
    let shorter = items_inside_shorter ts 0 (h 0) in
    rw (items_tokens ts 0 (h 0)) at (items_apart (length ts) (λ us s. items_below n us (omega arith)) (items ts) nested shorter)

-- Tokens that passed have the items that the walk finds.
pub items_of : (ts : List Token) (i : ℕ) → nesting [] i ts ≡ passed tt → ItemsOf ts (items ts)
items_of ts i h = items_below (suc (length ts)) ts (omega arith) (λ j. nesting_anywhere ts [] i j h)

-- The tokens of items are collected as a whole inside a pair, and the walk finds the items.
pub items_collected : {ts : List Token} {is : List Item} → ItemsOf ts is → Collected ts
unfolding effect
items_collected empty = collected_none
items_collected (own {a} {ts} h) = collected_append (atom a ∷ []) ts (collected_all_quiet (atom a ∷ []) (tt, tt)) (items_collected h)
items_collected (inner {us} {ts} h g) =
    collected_pair false (structure opening) (structure closing) refl refl us ts (items_collected h) (items_collected g)
items_collected (body {ds} {us} {ts} q h g) =
    collected_pair true (structure keyword_let) (structure keyword_end) refl refl (ds ++ structure keyword_in ∷ us) ts
    (collected_block ds us q (items_collected h)) (items_collected g)

items_found : {ts : List Token} {is : List Item} → ItemsOf ts is → items_from outside ts ≡ is
unfolding items_from effect item
items_found empty = refl
items_found (own {a} {ts} h) = outside_atom a ts ∙ ap (◌∷◌ (single a)) (items_found h)
items_found (inner {us} {ts} h g) =
    outside_pair false (structure opening) (structure closing) refl refl us ts (items_collected h) ∙ ap (◌∷◌ (pair us)) (items_found g)
items_found (body {ds} {us} {ts} q h g) =
    outside_pair true (structure keyword_let) (structure keyword_end) refl refl (ds ++ structure keyword_in ∷ us) ts
    (collected_block ds us q (items_collected h))
    ∙ ap₂ ◌∷◌ (item_block ds us q) (items_found g)

-- So no other items are items of the tokens.
pub items-only : (ts : List Token) (is : List Item) → ItemsOf ts is → is ≡ items ts
unfolding items
items-only ts is h = sym (items_found h)

-- The tokens of the items are the tokens.
pub items_flat_tokens : (ts : List Token) (is : List Item) → ItemsOf ts is → all_item_tokens is ≡ ts
unfolding all_item_tokens item_tokens
items_flat_tokens _ _ empty = refl
items_flat_tokens _ _ (own {a} {ts} {is} h) = ap (◌∷◌ (atom a)) (items_flat_tokens ts is h)
items_flat_tokens _ _ (inner {us} {ts} {ks} {is} h g) = rw (pair_first us is, items_flat_tokens ts is g)
items_flat_tokens _ _ (body {ds} {us} {ts} {ks} {is} q h g) = rw (scope_first ds us is, items_flat_tokens ts is g)
