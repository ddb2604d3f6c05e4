-- The parts of a declaration as the code reads them off a row of tokens.
use Rattle.std.specs.Prelude.{Bool, true, false, List, ℕ, ◌+◌, ◌-◌, ◌≤◌, eqb, leb, length, take, drop, Option, None, Some, Result, Ok, Err}
use Rattle.grammar.specs.Bytes.{Bytes}
use Rattle.rows.specs.declared.token.Token.{Token}
use Rattle.rows.specs.Fields.{kind}
use Rattle.declaration_part.specs.declared.walk.Span.{Span}
use Rattle.declaration_part.specs.Named.{precedence_read}

-- A token of that kind stands at number `at`, before number `to`.
unfoldable pub stands : ℕ → List Token → ℕ → ℕ → Bool
stands k K at to = elim (leb to at) [ true ↦ false | false ↦ eqb (kind K at) k ]

-- A part of a text, and its bytes.
abbrev pub IsPart : Bytes → Span → Type 0
IsPart text place = (place.start ≤ place.end) × (place.end ≤ length text)

abbrev pub part : Bytes → Span → Bytes
part text place = take (place.end - place.start) (drop place.start text)

-- The bytes of that token, which stand at a place; none where no such token stands.
unfoldable pub written_from : ℕ → Bytes → List Token → ℕ → ℕ → Span → Option Bytes
written_from k text K at to place = elim (stands k K at to) [ true ↦ Some (part text place) | false ↦ None ]

-- The precedence that the number there names, if one stands there.
unfoldable pub precedence_from : Bytes → List Token → ℕ → ℕ → Span → Option ℕ
precedence_from text K at to place = elim (stands 2 K at to) [ true ↦ precedence_read (part text place) | false ↦ None ]

-- The place of the operator at number `at`, with a `;` behind it; or the number of the first of them that does not stand there.
unfoldable pub operator_at : List Token → ℕ → ℕ → Span → Result Span ℕ
operator_at K at to place =
    elim (stands 1 K at to) [
      | true ↦ elim (stands 6 K (at + 1) to) [ true ↦ Ok place | false ↦ Err (at + 1) ]
      | false ↦ Err at
    ]
