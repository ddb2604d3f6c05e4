-- What is built first below a token: what a bracket pair or a block holds, or the left operand of an operator.
use Rattle.std.specs.Prelude.{true, false, List, Option, Some, None, ℕ, ◌+◌, ◌-◌, ◌≤◌, ◌<◌, ltb, eqb}
use Rattle.rows.specs.Fields.{TokenRow, RootRow, kind, closer, left, Within}
use Rattle.rows.specs.declared.token.Token.{Token}
use Rattle.rows.specs.declared.operands.Operands.{Operands}
use Rattle.nodes.specs.declared.build.Part.{Part}

-- The token that opens the span of the bracket pair or block at token `i`: the `(`, or the block's `in`.
unfoldable pub opener_of : List Token → ℕ → ℕ
opener_of K i = elim (eqb (kind K i) 4) [ true ↦ i | false ↦ closer K i ]

-- A part by its first token, its root and the token behind it.
abbrev pub part : ℕ → ℕ → ℕ → Option Part
part from root to = Some (record { from = from; root = root; to = to })

-- The span that token number `o` opens.
abbrev pub span_part : List Token → List Operands → ℕ → Option Part
span_part K O o = part (o + 1) (left O o - 1) (closer K o)

-- The operand from `from` to `to`, if the row of roots has one more than its root, `m`, and not 0.
unfoldable pub operand_part : ℕ → ℕ → ℕ → Option Part
operand_part m from to = elim (eqb m 0) [ true ↦ None | false ↦ part from (m - 1) to ]

-- Below token number `i`; the tokens of its tree begin at `from`.
unfoldable pub first_part : List Token → List Operands → ℕ → ℕ → Option Part
first_part K O from i = elim (ltb 3 (kind K i)) [ true ↦ span_part K O (opener_of K i) | false ↦ operand_part (left O i) from i ]

-- What is asked: token number `i` stands in the rows, and so does the opener of a bracket pair or a block, with a root.
pub record HasFirst (K : TokenRow) (O : RootRow) (i : ℕ) : Type 0 where
  pub tokens : Within K i
  pub roots : Within O i
  pub opens : 3 < kind K i → Within K (opener_of K i) × Within O (opener_of K i) × (1 ≤ left O (opener_of K i))
