-- Document 01, refusals 6 and 7: brackets and blocks, and how deep they stand. Places are token numbers.
use Rattle.std.specs.Prelude.{true, false, List, [], ◌∷◌, ℕ, suc, ltb, length}
use Rattle.grammar.specs.Token.{Structure, opening, closing, semicolon, keyword_let, keyword_in, keyword_end}
use Rattle.grammar.specs.Token.{Token, atom, structure}
use Rattle.grammar.specs.Open.{Open, in_bracket, in_declarations, in_body, deepest}
use Rattle.grammar.specs.Outcome.{Outcome, refused, passed}

-- What a token does to what is open, innermost first.
pub data Move : Type 0 where
  stays : Move
  broken : Move
  enters : Open → Move
  becomes : Open → Move
  leaves : Move

-- "Refusal 6: `;` outside declarations; `(`, `)`, `let` or `end` inside them; a closer or `in` that doesn't match the innermost
-- opener; a block's second `in`." Outside every bracket and block nothing can be closed.
unfoldable pub outermost : Structure → Move
outermost opening = enters in_bracket
outermost closing = broken
outermost semicolon = broken
outermost keyword_let = enters in_declarations
outermost keyword_in = broken
outermost keyword_end = broken

unfoldable pub within : Open → Structure → Move
within in_bracket opening = enters in_bracket
within in_bracket closing = leaves
within in_bracket semicolon = broken
within in_bracket keyword_let = enters in_declarations
within in_bracket keyword_in = broken
within in_bracket keyword_end = broken
within in_declarations opening = broken
within in_declarations closing = broken
within in_declarations semicolon = stays
within in_declarations keyword_let = broken
within in_declarations keyword_in = becomes in_body
within in_declarations keyword_end = broken
within in_body opening = enters in_bracket
within in_body closing = broken
within in_body semicolon = broken
within in_body keyword_let = enters in_declarations
within in_body keyword_in = broken
within in_body keyword_end = leaves

unfoldable pub move : List Open → Token → Move
move os (atom a) = stays
move [] (structure s) = outermost s
move (o ∷ os) (structure s) = within o s

unfoldable pub close_innermost : List Open → List Open
close_innermost [] = []
close_innermost (o ∷ os) = os

-- "6 and 7 token by token, 6 first"; what is open at the end is 6 behind the last token. `i` is the number of the next token.
unfoldable pub nesting : List Open → ℕ → List Token → Outcome (Unit {0})
nesting [] i [] = passed tt
nesting (o ∷ os) i [] = refused 6 i
nesting os i (t ∷ ts) =
    elim (move os t) [
      | stays ↦ nesting os (suc i) ts
      | broken ↦ refused 6 i
      | enters o ↦ elim (ltb (length os) deepest) [ true ↦ nesting (o ∷ os) (suc i) ts | false ↦ refused 7 i ]
      | becomes o ↦ nesting (o ∷ close_innermost os) (suc i) ts
      | leaves ↦ nesting (close_innermost os) (suc i) ts
    ]
