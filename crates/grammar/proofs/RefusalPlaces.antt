-- Where checks 6 to 10 and 17 can refuse: 6 and 7 at a token or behind the last one, 8 to 10 and 17 at a token.
-- One bound `m` on the places serves a whole check: the tokens left end below `m` where the check may refuse behind the last one,
-- and at `m` at most where it does not.
use mathlib.Core.Path.{◌≡◌, refl, ap, ◌∙◌}
use mathlib.Core.List.{List, [], ◌∷◌, ◌++◌}
use mathlib.Core.Option.{Option, none, some}
use Prim.Native.Nat.{ℕ, zero, suc, ◌+◌, ◌≤◌, ◌<◌}
use native.Mathlib.Omega.{arith}
use lib.Dec.{ltb}
use lib.ListN.{length, length-append}
use Rattle.grammar.specs.Open.{Open, deepest}
use Rattle.grammar.specs.Bytes.{Bytes, same}
use Rattle.grammar.specs.Token.{structure, Token, closing, keyword_in, keyword_end}
use Rattle.grammar.specs.Outcome.{Outcome, refused, passed}
use Rattle.grammar.specs.Operator.{Fixity, Associativity, Table, permitted}
use Rattle.grammar.specs.Nesting.{Move, stays, broken, enters, becomes, leaves, move, close_innermost, nesting}
use Rattle.grammar.specs.Declaration.{
  Declaration,
  declares,
  clears,
  declare,
  plain_word,
  declaration_tokens,
  Parsed,
  unfit,
  parsed,
  symbol_of,
  precedence_of,
  is_semicolon,
  fixity_named,
  closed,
  operator_part,
  precedence_part,
  associativity_for,
  associativity_part,
  first_word,
  declaration,
  operator_place,
  operator_of,
  is_reserved,
  has_room,
  checked_at,
  enter_with,
  enter,
}
use Rattle.grammar.specs.Span.{Item, single, pair, scope, item_tokens, items, all_item_tokens}
use Rattle.grammar.specs.Blocks.{check_item, check_items, check_blocks}
use Rattle.grammar.proofs.Nested.{nesting_anywhere}
use Rattle.grammar.proofs.ItemsNested.{Passes, ItemNested, AllNested, items_tokens, items_nested}
use Rattle.grammar.proofs.Declarations.{declaration_sound}
use Rattle.grammar.proofs.RefusalNumbers.{Refuses, refuses_holds, refuses-and_then, choice}

-- A choice by what was found, whatever it is.
choice_found : {A B : Type 0} (P : B → Type 0) (o : Option A) (x : B) (f : A → B) → P x → ((a : A) → P (f a))
    → P (elim o [ none ↦ x | some a ↦ f a ])
choice_found P none x f p q = p
choice_found P (some a) x f p q = q a

-- The first token that does not fit a declaration is at most number `m`.
abbrev UnfitWithin : ℕ → Parsed → Type 0
UnfitWithin m (unfit n) = n ≤ m
UnfitWithin m (parsed d rest) = Unit {0}

module _ (m : ℕ) where
  -- The parts of the reader of declarations, last first; what is left to read ends at token number `m` at most.
  closed-within : (k : ℕ) (d : Declaration) (ts : List Token) → k + length ts ≤ m → UnfitWithin m (closed k d ts)
  unfolding closed
  closed-within k d [] h = omega arith
  closed-within k d (t ∷ ts) h = choice (UnfitWithin m) (is_semicolon t) _ _ tt (omega arith)

  operator_within : (k : ℕ) (make : Bytes → Declaration) (ts : List Token) → k + length ts ≤ m → UnfitWithin m (operator_part k make ts)
  unfolding operator_part
  operator_within k make [] h = omega arith
  operator_within k make (t ∷ ts) h =
      choice_found (UnfitWithin m) (symbol_of t) _ _ (omega arith) (λ w. closed-within (suc k) (make w) ts (omega arith))

  precedence_within : (f : Fixity) (a : Associativity) (ts : List Token) → 2 + length ts ≤ m → UnfitWithin m (precedence_part f a ts)
  unfolding precedence_part
  precedence_within f a [] h = omega arith
  precedence_within f a (t ∷ ts) h =
      choice_found (UnfitWithin m) (precedence_of t) _ _ (omega arith) (λ d. operator_within 3 (declares f a d) ts (omega arith))

  associativity_within : (f : Fixity) (ts : List Token) → 1 + length ts ≤ m → UnfitWithin m (associativity_part f ts)
  unfolding associativity_part
  associativity_within f [] h = omega arith
  associativity_within f (t ∷ ts) h =
      choice_found (UnfitWithin m) (associativity_for f t) _ _ (omega arith) (λ a. precedence_within f a ts (omega arith))

  first_within : (w : Bytes) (ts : List Token) → 1 + length ts ≤ m → UnfitWithin m (first_word w ts)
  unfolding first_word
  first_within w ts h =
      choice (UnfitWithin m) (same w plain_word) _ _ (operator_within 1 clears ts h)
      (choice_found (UnfitWithin m) (fixity_named w) _ _ (omega arith) (λ f. associativity_within f ts h))

  -- A declaration that does not fit does so at one of the tokens or behind the last one.
  declaration-within : (ts : List Token) → length ts ≤ m → UnfitWithin m (declaration ts)
  unfolding declaration
  declaration-within [] h = omega arith
  declaration-within (t ∷ ts) h = choice_found (UnfitWithin m) (symbol_of t) _ _ (omega arith) (λ w. first_within w ts (omega arith))

-- The operator is one of the declaration's tokens.
operator_inside : (d : Declaration) → operator_place d < length (declaration_tokens d)
unfolding operator_place declaration_tokens
operator_inside (declares f a d w) = omega arith
operator_inside (clears w) = omega arith

-- Every refusal of the outcome stands before `m`.
abbrev Below : {A : Type 0} → ℕ → Outcome A → Type 0
Below m = Refuses (λ n p. p < m)

module _ (m : ℕ) where
  -- One token of checks 6 and 7.
  nesting_step : (os : List Open) (i : ℕ) (t : Token) (ts : List Token) → ((os : List Open) → Below m (nesting os (suc i) ts))
      → i < m → (o : Move) → move os t ≡ o → Below m (nesting os i (t ∷ ts))
  unfolding nesting
  nesting_step os i t ts rest h stays e = rw (e, nesting) (rest os)
  nesting_step os i t ts rest h broken e = rw (e, nesting) h
  nesting_step os i t ts rest h (enters o) e = rw (e, nesting) (choice (Below m) (ltb (length os) deepest) _ _ (rest (o ∷ os)) h)
  nesting_step os i t ts rest h (becomes o) e = rw (e, nesting) (rest (o ∷ close_innermost os))
  nesting_step os i t ts rest h leaves e = rw (e, nesting) (rest (close_innermost os))

  -- Checks 6 and 7 of tokens that end below `m`.
  nesting_below : (os : List Open) (i : ℕ) (ts : List Token) → i + length ts < m → Below m (nesting os i ts)
  unfolding nesting
  nesting_below [] i [] h = tt
  nesting_below (o ∷ os) i [] h = omega arith
  nesting_below os i (t ∷ ts) h = nesting_step os i t ts (λ us. nesting_below us (suc i) ts (omega arith)) (omega arith) (move os t) refl

  -- Check 10.
  checked_at_below : (i : ℕ) (T : Table) → i < m → Below m (checked_at i T)
  unfolding checked_at
  checked_at_below i T h = choice (Below m) (permitted T) _ _ tt h

  -- One declaration of checks 8 to 10 and 17.
  enter_step : (k : ℕ) (T : Table) (i : ℕ) (t : Token) (ts : List Token)
      → ((T : Table) (i : ℕ) (ts : List Token) → i + length ts < m → Below m (enter k T i ts)) → i + length (t ∷ ts) < m
      → (d : Parsed) → declaration (t ∷ ts) ≡ d → Below m (enter (suc k) T i (t ∷ ts))
  unfolding enter_with
  enter_step k T i t ts rest h (unfit n) e =
      let b : n ≤ length (t ∷ ts) = rw e at (declaration-within (length (t ∷ ts)) (t ∷ ts) (omega arith)) in
      rw (e, enter_with) (omega arith)
  enter_step k T i t ts rest h (parsed d us) e =
      let j = length (declaration_tokens d) in
      let n : length (t ∷ ts) ≡ j + length us = ap length (declaration_sound (t ∷ ts) d us e).0 ∙ length-append (declaration_tokens d) us in
      let o : i + operator_place d < m = omega (arith, operator_inside d) in
      rw (e, enter_with)
      (choice (Below m) (is_reserved (operator_of d)) _ _ o (choice (Below m) (has_room T d) _ _ (rest (declare T d) (i + j) us (omega arith)) o))

  -- Checks 8 to 10 and 17 of declarations refuse at one of their tokens or behind the last one, at the `in`.
  enter_below : (k : ℕ) (T : Table) (i : ℕ) (ts : List Token) → i + length ts < m → Below m (enter k T i ts)
  unfolding enter_with
  enter_below zero T i [] h = checked_at_below i T (omega arith)
  enter_below zero T i (t ∷ ts) h = omega arith
  enter_below (suc k) T i [] h = checked_at_below i T (omega arith)
  enter_below (suc k) T i (t ∷ ts) h = enter_step k T i t ts (enter_below k) h (declaration (t ∷ ts)) refl

  module _ (inner : Table → ℕ → List Token → Outcome (Unit {0}))
      (below : (T : Table) (i : ℕ) (ts : List Token) → Passes [] ts → i + length ts ≤ m → Below m (inner T i ts)) where
    -- Checks 8 to 10 and 17 of an item that ends at `m` at most: behind the declarations of a block its `in` still follows.
    check_item_below : (T : Table) (i : ℕ) (x : Item) → ItemNested x → i + length (item_tokens x) ≤ m → Below m (check_item inner T i x)
    unfolding check_item item_tokens
    check_item_below T i (single t) n h = tt
    check_item_below T i (pair ts) n h = below T (suc i) ts n (omega (arith, length-append ts (structure closing ∷ [])))
    check_item_below T i (scope ds ts) n h =
        let e = length-append (ds ++ structure keyword_in ∷ ts) (structure keyword_end ∷ []) in
        let f = length-append ds (structure keyword_in ∷ ts) in
        refuses-and_then (λ n p. p < m) (enter (length ds) T (suc i) ds) _ (enter_below (length ds) T (suc i) ds (omega arith))
        (λ U. below U (suc (suc (i + length ds))) ts n.1 (omega arith))

    -- Item by item.
    check_items_below : (T : Table) (i : ℕ) (xs : List Item) → AllNested xs → i + length (all_item_tokens xs) ≤ m
        → Below m (check_items inner T i xs)
    unfolding check_items all_item_tokens
    check_items_below T i [] n h = tt
    check_items_below T i (x ∷ xs) n h =
        let e = length-append (item_tokens x) (all_item_tokens xs) in
        refuses-and_then (λ n p. p < m) (check_item inner T i x) _ (check_item_below T i x n.0 (omega arith))
        (λ u. check_items_below T (i + length (item_tokens x)) xs n.1 (omega arith))

  -- Checks 8 to 10 and 17 of nested tokens that end at `m` at most.
  blocks_below : (k : ℕ) (T : Table) (i : ℕ) (ts : List Token) → Passes [] ts → i + length ts ≤ m → Below m (check_blocks k T i ts)
  unfolding check_blocks
  blocks_below zero T i ts n h = tt
  blocks_below (suc k) T i ts n h =
      check_items_below (check_blocks k) (blocks_below k) T i (items ts) (items_nested ts 0 (n 0)) (rw (items_tokens ts 0 (n 0)) h)

-- Checks 6 and 7 refuse at a token or behind the last one.
pub nesting_place : (ts : List Token) (n p : ℕ) → nesting [] 0 ts ≡ refused n p → p ≤ length ts
nesting_place ts n p e =
    let m = suc (length ts) in
    omega (arith, refuses_holds (λ n p. p < m) (nesting [] 0 ts) (nesting_below m [] 0 ts (omega arith)) n p e)

-- Checks 8 to 10 and 17 refuse at a token.
pub blocks_place : (k : ℕ) (T : Table) (ts : List Token) (n p : ℕ) → nesting [] 0 ts ≡ passed tt → check_blocks k T 0 ts ≡ refused n p
    → p < length ts
blocks_place k T ts n p h e =
    let m = length ts in
    refuses_holds (λ n p. p < m) (check_blocks k T 0 ts) (blocks_below m k T 0 ts (λ i. nesting_anywhere ts [] 0 i h) (omega arith)) n p e
