-- What a token of structure does to what is open, by what is open innermost, as `move_of` finds it.
-- The answer tells the token and what is open innermost, except where the token is refused.
use mathlib.Core.Path.{◌≡◌, refl, sym}
use mathlib.Core.List.{List, [], ◌∷◌}
use Prim.Native.Nat.{ℕ, ◌≤◌, ◌<◌}
use native.Mathlib.Omega.{arith}
use Rattle.grammar.specs.Open.{Open, in_bracket, in_declarations, in_body, OutsideDeclarations}
use Rattle.grammar.specs.Token.{Structure, structure, structure_number, opening, closing, semicolon, keyword_let, keyword_in, keyword_end}
use Rattle.grammar.specs.Nesting.{stays, broken, outermost, within, move}
use Rattle.grammar.specs.Coded.{kind_of, token_of}
use Rattle.grammar.proofs.Logic.{below}
use Rattle.grammar.proofs.Offsets.{structure_coded}
use Rattle.rows.specs.declared.token.Kind.{Kind}
use Rattle.rows.specs.declared.token.Kind.TheVariants as Kinds
use Rattle.rows.specs.Kinds.{kind_code}
use Rattle.rows.specs.Tokens.{IsAtomKind}
use Rattle.pairing.specs.declared.Innermost.{Innermost}
use Rattle.pairing.specs.declared.Innermost.TheVariants.{Bracket, Declarations, Body}
use Rattle.pairing.specs.declared.Move.{Move}
use Rattle.pairing.specs.declared.Move.TheVariants.{Stay, Break, Open as Opens, Turn, Close}
use Rattle.pairing.specs.Pairing.{innermost_of, coded_move}

-- By what is open innermost.
unfoldable pub move_by : Kind → Innermost → Move
move_by Kinds.Semicolon Declarations = Stay
move_by Kinds.In Declarations = Turn
move_by k Declarations = Break
move_by Kinds.Opening n = Opens Bracket
move_by Kinds.Let n = Opens Declarations
move_by Kinds.Closing Bracket = Close
move_by Kinds.End Body = Close
move_by k n = Break

moves_by : (k : Kind) (os : List Open) → 3 < kind_code k → move_by k (innermost_of os) ≡ coded_move (move os (token_of (kind_code k) []))
unfolding move_by innermost_of coded_move move outermost within token_of
moves_by Kinds.Symbol os h = absurd (omega arith)
moves_by Kinds.Number os h = absurd (omega arith)
moves_by Kinds.Quoted os h = absurd (omega arith)
moves_by Kinds.Opening [] h = refl
moves_by Kinds.Opening (in_bracket ∷ os) h = refl
moves_by Kinds.Opening os h = refl
moves_by Kinds.Closing [] h = refl
moves_by Kinds.Closing (in_bracket ∷ os) h = refl
moves_by Kinds.Closing os h = refl
moves_by Kinds.Semicolon [] h = refl
moves_by Kinds.Semicolon (in_bracket ∷ os) h = refl
moves_by Kinds.Semicolon os h = refl
moves_by Kinds.Let [] h = refl
moves_by Kinds.Let (in_bracket ∷ os) h = refl
moves_by Kinds.Let os h = refl
moves_by Kinds.In [] h = refl
moves_by Kinds.In (in_bracket ∷ os) h = refl
moves_by Kinds.In os h = refl
moves_by Kinds.End [] h = refl
moves_by Kinds.End (in_bracket ∷ os) h = refl
moves_by Kinds.End os h = refl

pub moves : (k : Kind) (n : Innermost) (os : List Open) → 3 < kind_code k → n ≡ innermost_of os → coded_move (move os (token_of (kind_code k) [])) ≡ move_by k n
moves k n os h e = rw e (sym (moves_by k os h))

-- By what is open: each answer but `Break` is one of these.
pub data Does : List Open → Structure → Move → Type 0 where
  opens : {os : List Open} → OutsideDeclarations os → Does os opening (Opens Bracket)
  closes : {os : List Open} → Does (in_bracket ∷ os) closing Close
  separates : {os : List Open} → Does (in_declarations ∷ os) semicolon Stay
  begins : {os : List Open} → OutsideDeclarations os → Does os keyword_let (Opens Declarations)
  turns : {os : List Open} → Does (in_declarations ∷ os) keyword_in Turn
  ends : {os : List Open} → Does (in_body ∷ os) keyword_end Close
  breaks : {os : List Open} {s : Structure} → move os (structure s) ≡ broken → Does os s Break

does : (os : List Open) (s : Structure) → Does os s (coded_move (move os (structure s)))
unfolding coded_move innermost_of move outermost within
does [] opening = opens tt
does [] closing = breaks refl
does [] semicolon = breaks refl
does [] keyword_let = begins tt
does [] keyword_in = breaks refl
does [] keyword_end = breaks refl
does (in_bracket ∷ os) opening = opens tt
does (in_bracket ∷ os) closing = closes
does (in_bracket ∷ os) semicolon = breaks refl
does (in_bracket ∷ os) keyword_let = begins tt
does (in_bracket ∷ os) keyword_in = breaks refl
does (in_bracket ∷ os) keyword_end = breaks refl
does (in_declarations ∷ os) opening = breaks refl
does (in_declarations ∷ os) closing = breaks refl
does (in_declarations ∷ os) semicolon = separates
does (in_declarations ∷ os) keyword_let = breaks refl
does (in_declarations ∷ os) keyword_in = turns
does (in_declarations ∷ os) keyword_end = breaks refl
does (in_body ∷ os) opening = opens tt
does (in_body ∷ os) closing = breaks refl
does (in_body ∷ os) semicolon = breaks refl
does (in_body ∷ os) keyword_let = begins tt
does (in_body ∷ os) keyword_in = breaks refl
does (in_body ∷ os) keyword_end = ends

pub move_does : (os : List Open) (s : Structure) (r : Move) → r ≡ coded_move (move os (structure s)) → Does os s r
move_does os s r e = rw e (does os s)

-- The kinds of structure are those of six tokens.
pub structure_kind : (k : ℕ) → 3 < k → k ≤ 9 → (s : Structure) × (k ≡ structure_number s)
unfolding structure_number
structure_kind k l h =
    below k 5 (λ a. (opening, omega arith)) (λ a.
    below k 6 (λ b. (closing, omega arith)) (λ b.
    below k 7 (λ c. (semicolon, omega arith)) (λ c.
    below k 8 (λ d. (keyword_let, omega arith)) (λ d.
    below k 9 (λ e. (keyword_in, omega arith)) (λ e. (keyword_end, omega arith))))))

pub structure_token : (k : ℕ) (s : Structure) → k ≡ structure_number s → token_of k [] ≡ structure s
unfolding kind_of
structure_token k s e = rw e (structure_coded s [])

-- Tokens of the kinds of atoms change nothing.
pub atom_kind-stays : (os : List Open) (k : ℕ) → IsAtomKind k → move os (token_of k []) ≡ stays
unfolding token_of move
atom_kind-stays os k h =
    below k 2 (λ a. let e : k ≡ 1 = omega (arith, h.0) in rw e) (λ a.
    below k 3 (λ b. let e : k ≡ 2 = omega arith in rw e) (λ b. let e : k ≡ 3 = omega (arith, h.1) in rw e))
