-- Checks 6 and 7 look at the kinds of tokens alone: a token and one of its kind without bytes make the same move.
use mathlib.Core.Path.{◌≡◌, refl, ap, ◌∙◌}
use mathlib.Core.Bool.{true, false}
use mathlib.Core.List.{List, [], ◌∷◌, map}
use Prim.Native.Nat.{ℕ, suc, ◌+◌, ◌<◌}
use native.Mathlib.Omega.{arith}
use lib.Dec.{ltb}
use lib.ListN.{length, get_or}
use Rattle.grammar.specs.Open.{Open, deepest}
use Rattle.grammar.specs.Bytes.{Bytes}
use Rattle.grammar.specs.Token.{Token, atom, structure, symbol, number, quoted}
use Rattle.grammar.specs.Outcome.{Outcome, refused}
use Rattle.grammar.specs.Scan.{Placed}
use Rattle.grammar.specs.Nesting.{Move, stays, broken, enters, becomes, leaves, move, close_innermost, nesting}
use Rattle.grammar.specs.Coded.{kind_of, token_of}
use Rattle.grammar.specs.Answer.{tokens_of}
use Rattle.grammar.proofs.Offsets.{structure_coded}
use Rattle.rows.specs.Fields.{TokenRow, kind}
use Rattle.rows.specs.Tokens.{kind_at, Stored}
use Rattle.pairing.specs.Pairing.{tokens_by}

move_by_kind : (os : List Open) (t : Token) → move os (token_of (kind_of t) []) ≡ move os t
unfolding move token_of kind_of
move_by_kind os (atom (symbol w)) = refl
move_by_kind os (atom (number d)) = refl
move_by_kind os (atom (quoted c)) = refl
move_by_kind os (structure s) = ap (move os) (structure_coded s [])

-- Two tokens that make the same move, before tokens that come to the same.
nesting_alike :
    (os : List Open) (i : ℕ) (t u : Token) (ts us : List Token) (m : Move) → move os t ≡ m → move os u ≡ m
    → ((qs : List Open) → nesting qs (suc i) ts ≡ nesting qs (suc i) us) → nesting os i (t ∷ ts) ≡ nesting os i (u ∷ us)
unfolding nesting
nesting_alike os i t u ts us stays d e h = rw (d, e, nesting) (h os)
nesting_alike os i t u ts us broken d e h = rw (d, e, nesting)
nesting_alike os i t u ts us (enters o) d e h =
    rw (d, e, nesting)
    (ap (λ (r : Outcome (Unit {0})). elim (ltb (length os) deepest) as (λ b. Outcome (Unit {0})) [ true ↦ r | false ↦ refused 7 i ])
    (h (o ∷ os)))
nesting_alike os i t u ts us (becomes o) d e h = rw (d, e, nesting) (h (o ∷ close_innermost os))
nesting_alike os i t u ts us leaves d e h = rw (d, e, nesting) (h (close_innermost os))

-- The tokens `ps` of which the row has the kinds, from entry `k` on.
by_kinds :
    (K : TokenRow) (ps : List Placed) (k : ℕ) → ((j : ℕ) → j < length ps → kind K (k + j) ≡ get_or (map kind_at ps) j 0)
    → (os : List Open) (i : ℕ) → nesting os i (tokens_by K k (length ps)) ≡ nesting os i (tokens_of ps)
unfolding tokens_by tokens_of
by_kinds K [] k h os i = refl
by_kinds K (p ∷ ps) k h os i =
    let z : kind K k ≡ kind_at p = ap (kind K) (omega arith) ∙ h 0 (omega arith) in
    nesting_alike os i _ _ _ _ (move os p.token) (rw z (move_by_kind os p.token)) refl
    (λ qs. by_kinds K ps (suc k) (λ j l. ap (kind K) (omega arith) ∙ h (suc j) (omega arith)) qs (suc i))

pub nesting_by_kinds :
    (text : Bytes) (ps : List Placed) (K : TokenRow) → Stored text ps K
    → nesting [] 0 (tokens_by K 0 (length ps)) ≡ nesting [] 0 (tokens_of ps)
nesting_by_kinds text ps K v = by_kinds K ps 0 (λ j l. ap (kind K) (omega arith) ∙ v.kinds j l) [] 0
