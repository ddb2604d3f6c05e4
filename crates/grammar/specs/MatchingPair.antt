-- Document 02, §14: "drop any one matching pair of brackets". Of tokens alone: no tree is in it.
use Rattle.std.specs.Prelude.{◌≡◌, List, ◌∷◌, ◌++◌}
use Rattle.grammar.specs.Token.{Token, structure, opening, closing}
use Rattle.grammar.specs.Span.{Item, ItemsOf}

-- An opening bracket, its closer, what is between them, and what is around. It is the bracket's own closer: between them stand the tokens
-- of a span, in which every bracket and block is closed.
pub record MatchingPair (ts : List Token) : Type 0 where
  pub before : List Token
  pub inside : List Token
  pub behind : List Token
  pub cut : ts ≡ before ++ structure opening ∷ inside ++ structure closing ∷ behind
  pub closed : (is : List Item) × ItemsOf inside is

-- "the remaining tokens"
abbrev pub remaining : {ts : List Token} → MatchingPair ts → List Token
remaining pair = pair.before ++ pair.inside ++ pair.behind
