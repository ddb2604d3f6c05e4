-- Document 01, "Trees": "A span is the whole text, the inside of a bracket pair, or a block's body. In a span, an inner bracket
-- pair or block is one operand."
use Rattle.std.specs.Prelude.{◌≡◌, Bool, true, false, List, [], ◌∷◌, ◌++◌, ℕ, zero, suc}
use Rattle.grammar.specs.Bytes.{All}
use Rattle.grammar.specs.Token.{Atom, opening, closing, semicolon, keyword_let, keyword_in, keyword_end}
use Rattle.grammar.specs.Token.{Token, atom, structure, is_structure}

-- What a span is made of: names, numbers and operators of its own, bracket pairs with what is inside, blocks with their declarations
-- and body.
pub data Item : Type 0 where
  single : Atom → Item
  pair : List Token → Item
  scope : List Token → List Token → Item

unfoldable pub item_tokens : Item → List Token
item_tokens (single a) = atom a ∷ []
item_tokens (pair ts) = structure opening ∷ ts ++ structure closing ∷ []
item_tokens (scope ds ts) = structure keyword_let ∷ ds ++ structure keyword_in ∷ ts ++ structure keyword_end ∷ []

unfoldable pub all_item_tokens : List Item → List Token
all_item_tokens [] = []
all_item_tokens (i ∷ is) = item_tokens i ++ all_item_tokens is

-- The tokens that can stand in a declaration part: names, operators, numbers and `;` (of structure, the others are refused with 6, and
-- `in` ends it).
abbrev pub InDeclarations : Token → Type 0
InDeclarations (atom a) = Unit {0}
InDeclarations (structure s) = s ≡ semicolon

-- The items of a span, from its tokens: "In a span, an inner bracket pair or block is one operand." What is inside a pair or a body is
-- a span again.
pub data ItemsOf : List Token → List Item → Type 0 where
  empty : ItemsOf [] []
  own : {a : Atom} {ts : List Token} {is : List Item} → ItemsOf ts is → ItemsOf (atom a ∷ ts) (single a ∷ is)
  inner :
      {us ts : List Token} {ks is : List Item} → ItemsOf us ks → ItemsOf ts is
      → ItemsOf (structure opening ∷ us ++ structure closing ∷ ts) (pair us ∷ is)
  body :
      {ds us ts : List Token} {ks is : List Item} → All InDeclarations ds → ItemsOf us ks → ItemsOf ts is
      → ItemsOf (structure keyword_let ∷ ds ++ structure keyword_in ∷ us ++ structure keyword_end ∷ ts) (scope ds us ∷ is)

-- What a token does: it opens a bracket pair (false) or a block (true), it closes one, or neither.
pub data Effect : Type 0 where
  opens_one : Bool → Effect
  closes_one : Effect
  neither : Effect

unfoldable pub effect : Token → Effect
effect (atom a) = neither
effect (structure opening) = opens_one false
effect (structure closing) = closes_one
effect (structure semicolon) = neither
effect (structure keyword_let) = opens_one true
effect (structure keyword_in) = neither
effect (structure keyword_end) = closes_one

-- The item that a token of the span itself is.
unfoldable pub own_item : Token → List Item
own_item (atom a) = single a ∷ []
own_item (structure s) = []

unfoldable pub is_in : Token → Bool
is_in t = is_structure keyword_in t

unfoldable pub before_in : List Token → List Token
before_in [] = []
before_in (t ∷ ts) = elim (is_in t) [ true ↦ [] | false ↦ t ∷ before_in ts ]

unfoldable pub after_in : List Token → List Token
after_in [] = []
after_in (t ∷ ts) = elim (is_in t) [ true ↦ ts | false ↦ after_in ts ]

unfoldable pub item : Bool → List Token → Item
item false ts = pair ts
item true ts = scope (before_in ts) (after_in ts)

-- Where a walk over tokens stands: in the span itself, or in an inner pair (`true`: a block) with the number of
-- openers still open in it and its tokens so far.
pub data Walk : Type 0 where
  outside : Walk
  inside : Bool → ℕ → List Token → Walk

unfoldable pub items_from : Walk → List Token → List Item
items_from w [] = []
items_from outside (t ∷ ts) =
    elim (effect t) [
      | opens_one b ↦ items_from (inside b 0 []) ts
      | closes_one ↦ items_from outside ts
      | neither ↦ own_item t ++ items_from outside ts
    ]
items_from (inside b zero us) (t ∷ ts) =
    elim (effect t) [
      | opens_one c ↦ items_from (inside b 1 (us ++ t ∷ [])) ts
      | closes_one ↦ item b us ∷ items_from outside ts
      | neither ↦ items_from (inside b 0 (us ++ t ∷ [])) ts
    ]
items_from (inside b (suc d) us) (t ∷ ts) =
    elim (effect t) [
      | opens_one c ↦ items_from (inside b (suc (suc d)) (us ++ t ∷ [])) ts
      | closes_one ↦ items_from (inside b d (us ++ t ∷ [])) ts
      | neither ↦ items_from (inside b (suc d) (us ++ t ∷ [])) ts
    ]

-- The items of a span, from its tokens. (Of tokens that passed check 6 nothing is lost.)
unfoldable pub items : List Token → List Item
items ts = items_from outside ts
