-- What the search reads off the rows: what opens a span, the token behind an item, and whether an operator may come.
use Rattle.std.specs.Prelude.{Bool, true, false, ◌||◌, ℕ, suc, leb, eqb}
use Rattle.std.proofs.Math.Option.{Option, none, some}
use Rattle.grammar.specs.Operator.{Role}
use Rattle.grammar.specs.Climb.{first_role, admits_prefix, fits_left}
use Rattle.rows.specs.Fields.{TokenRow, NoteRow, kind, closer, prefix, infixed, postfix}
use Rattle.rows.specs.Codes.{role_of}

-- A token of this kind opens a span: `(` or `in`.
unfoldable pub opens_span : ℕ → Bool
opens_span k = eqb k 4 || eqb k 8

-- The token behind the item that begins at token `i`: an atom, a bracket pair or a block.
unfoldable pub item_end : TokenRow → ℕ → ℕ
item_end K i =
    elim (leb (kind K i) 3) [
      | true ↦ suc i
      | false ↦
          elim (eqb (kind K i) 4) [ true ↦ suc (closer K i) | false ↦ suc (closer K (closer K i)) ]
    ]

-- A prefix operator in the role `c`, if any, may stand on the right of one in the role `q`, if any.
unfoldable pub fits_prefix : Option Role → Option Role → Bool
fits_prefix none q = false
fits_prefix (some c) q = admits_prefix q c

-- The operator at token `i` may come: `l` is 0 where no operand stands before it, `q` the number of the operand's role, `k` that of the role
-- in which the operator that waits takes an operand.
unfoldable pub arrives_at : NoteRow → ℕ → ℕ → ℕ → ℕ → Bool
arrives_at R i l q k =
    elim (eqb l 0) [
      | true ↦ fits_prefix (role_of (prefix R i)) (role_of k)
      | false ↦ fits_left (first_role (role_of (infixed R i)) (role_of (postfix R i))) (role_of q)
    ]
