-- Every role in force has a precedence of at least 1, so that an operand of one token, bracket pair or block fits everywhere.
use mathlib.Core.Path.{◌≡◌}
use mathlib.Core.Option.{some}
use Prim.Native.Nat.{◌≤◌}
use Rattle.grammar.specs.Bytes.{Bytes}
use Rattle.grammar.specs.Operator.{Fixity, Role, Table, role}

abbrev pub Positive : Table → Type 0
Positive T = (m : Bytes) (f : Fixity) (r : Role) → role T m f ≡ some r → 1 ≤ r.precedence
