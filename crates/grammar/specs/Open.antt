-- Document 01, refusals 6 and 7: what is open after some tokens. Nothing here says how that is found.
use Rattle.std.specs.Prelude.{List, [], ◌∷◌, ◌++◌, ℕ, ◌≤◌, length}
use Rattle.grammar.specs.Token.{Atom, opening, closing, semicolon, keyword_let, keyword_in, keyword_end, Token, atom, structure}

-- What is open: a bracket pair, a block before its `in`, a block after it.
pub data Open : Type 0 where
  in_bracket in_declarations in_body : Open

-- Where a bracket pair or a block can begin: not in a declaration part.
abbrev pub OutsideDeclarations : List Open → Type 0
OutsideDeclarations [] = Unit {0}
OutsideDeclarations (in_bracket ∷ os) = Unit {0}
OutsideDeclarations (in_declarations ∷ os) = ⊥
OutsideDeclarations (in_body ∷ os) = Unit {0}

-- What is open before a token and behind it, innermost first. "Refusal 6: `;` outside declarations; `(`, `)`, `let` or `end` inside
-- them; a closer or `in` that doesn't match the innermost opener; a block's second `in`": none of these is here.
pub data Fits : List Open → Token → List Open → Type 0 where
  an_atom : {os : List Open} {a : Atom} → Fits os (atom a) os
  opens : {os : List Open} → OutsideDeclarations os → Fits os (structure opening) (in_bracket ∷ os)
  closes : {os : List Open} → Fits (in_bracket ∷ os) (structure closing) os
  separates : {os : List Open} → Fits (in_declarations ∷ os) (structure semicolon) (in_declarations ∷ os)
  begins : {os : List Open} → OutsideDeclarations os → Fits os (structure keyword_let) (in_declarations ∷ os)
  declared : {os : List Open} → Fits (in_declarations ∷ os) (structure keyword_in) (in_body ∷ os)
  ends : {os : List Open} → Fits (in_body ∷ os) (structure keyword_end) os

-- "depth 32 .. pass; one more is refused."
abbrev pub deepest : ℕ
deepest = 32

-- What is open after some tokens, of which each fits and none goes deeper than 32.
pub data OpenAfter : List Token → List Open → Type 0 where
  at_first : OpenAfter [] []
  behind_token :
      {ts : List Token} {t : Token} {os ps : List Open} → OpenAfter ts os → Fits os t ps → length ps ≤ deepest → OpenAfter (ts ++ t ∷ []) ps
