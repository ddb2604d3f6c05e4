-- What the code has of what a word or digits name.
use Rattle.std.specs.Prelude.{true, false, ℕ, Option, None, Some}
use Rattle.std.proofs.Math.Option as G
use Rattle.grammar.specs.Bytes.{Bytes}
use Rattle.grammar.specs.Declaration.{is_precedence, value}

module _ {A B : Type 0} where
  -- An option of the code as one of the grammar, by what its value stands for.
  abbrev pub found : (A → B) → Option A → G.Option B
  found of None = G.none
  found of (Some x) = G.some (of x)

-- The value of digits, if it is a precedence.
unfoldable pub precedence_read : Bytes → Option ℕ
precedence_read d = elim (is_precedence d) [ true ↦ Some (value d) | false ↦ None ]
