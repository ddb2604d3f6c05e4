-- The loop's invariant: the value with the digits that are left stands for the same precedence as all digits. A value above the widest
-- precedence stands for none, whatever follows.
use Rattle.std.proofs.Common.{◌≡◌, ◌≤◌, drop}
use Rattle.grammar.specs.Declaration.{value_from}
use Rattle.declaration_part.specs.Named.{precedence_read}
use Rattle.declaration_part.proofs.Precedences.{coded}
use Rattle.declaration_part.proofs.parse.precedence.Given as goal

abbrev pub invariant-loop-b : goal.invariant-loop-b
invariant-loop-b l = (l.value ≤ 1201) × (precedence_read l.digits ≡ coded (value_from l.value (drop l.b-index l.digits)))
