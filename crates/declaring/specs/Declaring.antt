-- A declaration part: refusals 8, 17 and 9, and the operators that its declarations leave in force.
use Rattle.std.specs.Prelude.{◌≡◌, Bool, true, false, ◌&&◌, List, ℕ, suc, ◌≤◌, ◌<◌, leb, length, Option, is_none, Result, Ok, IsOkAnd}
use Rattle.grammar.specs.Fault.{longest_text}
use Rattle.grammar.specs.Bytes.{Bytes}
use Rattle.grammar.specs.Outcome.{Outcome, refused, passed}
use Rattle.grammar.specs.Scan.{Placed}
use Rattle.grammar.specs.Operator.{permitted}
use Rattle.grammar.specs.Operator as G
use Rattle.grammar.specs.Declaration.{most_operators, enter_part}
use Rattle.refusals.specs.declared.Refused.{Refused}
use Rattle.refusals.specs.Numbers.{Refuses}
use Rattle.rows.specs.Fields.{TokenRow, kind, Holds}
use Rattle.rows.specs.Tokens.{range, Stored}
use Rattle.operators.specs.Entries.{table_of, Sound}
use Rattle.operators.specs.declared.table.Table.{Table}

-- Whether there is no room for a name that was looked for.
abbrev pub is_full : ℕ → Option ℕ → Bool
is_full count found = is_none found && leb most_operators count

-- A test answers with the refusal of that number and that place, or nothing.
abbrev pub RefusedIf : Bool → ℕ → ℕ → Result (Unit {0}) Refused → Type 0
RefusedIf true n p r = Refuses n p r
RefusedIf false n p r = r ≡ Ok tt

-- What is asked: tokens of the text, a `let` at number `from`, and a token at number `to` behind it, up to which the declarations go.
pub record PartAt (text : Bytes) (K : TokenRow) (from to : ℕ) : Type 0 where
  pub placed : List Placed
  pub stored : Stored text placed K
  pub short : length text ≤ longest_text
  pub room : Holds K (length placed)
  pub is_let : kind K from ≡ 7
  pub ordered : from < to
  pub within : to < length placed

-- What the declarations there answer under the operators `T`.
abbrev pub part_of : Bytes → TokenRow → ℕ → ℕ → G.Table → Outcome G.Table
part_of text K from to T = let ds = range text K (suc from) to in enter_part (length ds) T (suc from) ds

-- A table that stands for the operators `U`. Where none of those that were listed in `T` got a role, they keep the overloading rule if `T` does.
pub record Leaves (text : Bytes) (T U : G.Table) (replaced : Bool) (u : Table) : Type 0 where
  pub sound : Sound text u
  pub table : table_of text u ≡ U
  pub kept : replaced ≡ false → permitted T ≡ true → permitted U ≡ true

-- What the code answers, and the table `u` that it leaves of `t`: 01's number and the token of a refusal, and the table is as before; or
-- whether an operator that was listed got a role, and the operators behind the declarations.
abbrev pub Declares : Bytes → Table → Outcome G.Table → Table → Result Bool Refused → Type 0
Declares text t (refused n p) u r = Refuses n p r × (u ≡ t)
Declares text t (passed U) u r = IsOkAnd r (λ replaced. Leaves text (table_of text t) U replaced u)
