-- How many bytes a character has as written, by its first byte.
use Rattle.std.specs.Prelude.{true, false, ℕ}
use Rattle.grammar.specs.Token.{is_quote}

unfoldable pub width_of : ℕ → ℕ
width_of b = elim (is_quote b) [ true ↦ 2 | false ↦ 1 ]
