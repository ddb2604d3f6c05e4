-- Checks 6 and 7 over a row of tokens, and the closers that it gets.
use Rattle.std.specs.Prelude.{◌≡◌, Bool, true, false, List, [], ◌∷◌, ℕ, zero, suc, eqb, length}
use Rattle.std.specs.declared.result.Result.{Result}
use Rattle.std.specs.declared.result.Result.TheVariants.{Ok}
use Rattle.grammar.specs.Open.{Open, in_bracket, in_declarations, in_body}
use Rattle.grammar.specs.Token.{Token}
use Rattle.grammar.specs.Outcome.{Outcome, refused, passed}
use Rattle.grammar.specs.Nesting.{Move, stays, broken, enters, becomes, leaves, nesting}
use Rattle.grammar.specs.Coded.{token_of}
use Rattle.refusals.specs.declared.Refused.{Refused}
use Rattle.refusals.specs.Numbers.{Refuses}
use Rattle.rows.specs.Fields.{TokenRow, kind, start, size}
use Rattle.rows.specs.Tokens as Tokens
use Rattle.pairing.specs.declared.Innermost.{Innermost}
use Rattle.pairing.specs.declared.Innermost.TheVariants.{Nothing, Bracket, Declarations, Body}
use Rattle.pairing.specs.declared.Move as Declared
use Rattle.pairing.specs.declared.Move.TheVariants.{Stay, Break, Open as Opens, Turn, Close}

-- What is open innermost, as the code has it.
unfoldable pub innermost_of : List Open → Innermost
innermost_of [] = Nothing
innermost_of (in_bracket ∷ os) = Bracket
innermost_of (in_declarations ∷ os) = Declarations
innermost_of (in_body ∷ os) = Body

-- What a token does, as the code answers it. No token enters a body, and what a block becomes is its body.
unfoldable pub coded_move : Move → Declared.Move
coded_move stays = Stay
coded_move broken = Break
coded_move (enters o) = Opens (innermost_of (o ∷ []))
coded_move (becomes o) = Turn
coded_move leaves = Close

-- `n` tokens by their kinds alone, from number `i` on.
unfoldable pub tokens_by : TokenRow → ℕ → ℕ → List Token
tokens_by K i zero = []
tokens_by K i (suc n) = token_of (kind K i) [] ∷ tokens_by K (suc i) n

-- One of `n` tokens is the `in` of a block.
unfoldable pub has_block : TokenRow → ℕ → Bool
has_block K zero = false
has_block K (suc n) = elim (eqb (kind K n) 8) [ true ↦ true | false ↦ has_block K n ]

-- What is answered, where there are blocks or none.
abbrev pub Answers : Bool → Outcome (Unit {0}) → Result Bool Refused → Type 0
Answers blocks (refused n p) r = Refuses n p r
Answers blocks (passed u) r = r ≡ Ok blocks

-- Token number `j` is as it was, but for its closer.
pub record KeptToken (K K' : TokenRow) (j : ℕ) : Type 0 where
  pub kinds : kind K' j ≡ kind K j
  pub starts : start K' j ≡ start K j
  pub sizes : size K' j ≡ size K j

-- What the check answers and writes: only closers, and where it passes the tokens are paired.
pub record Pairing (K : TokenRow) (count : ℕ) (K' : TokenRow) (r : Result Bool Refused) : Type 0 where
  pub answer : Answers (has_block K count) (nesting [] 0 (tokens_by K 0 count)) r
  pub long : length K' ≡ length K
  pub kept : (j : ℕ) → KeptToken K K' j
  pub closed : (blocks : Bool) → r ≡ Ok blocks → Tokens.Paired K' 0 count
