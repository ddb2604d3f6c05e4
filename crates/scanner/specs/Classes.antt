-- Runs of bytes of a class.
use Rattle.std.specs.Prelude.{Bool, ℕ, eqb}
use Rattle.grammar.specs.Token.{class}

unfoldable pub in_class : ℕ → ℕ → Bool
in_class c b = eqb (class b) c
