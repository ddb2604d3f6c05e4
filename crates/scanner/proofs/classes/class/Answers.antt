-- The test of all 256 entries of the table is computed, and the match gives the class of an entry's number.
use mathlib.Core.Path.{◌≡◌, refl, sym, ◌∙◌}
use Prim.Native.Nat.{ℕ, ◌≤◌, ◌<◌}
use native.Mathlib.Omega.{arith}
use lib.ListN.{get_or}
use Rattle.grammar.specs.Bytes.{member}
use Rattle.grammar.specs.Token.{class, other}
use Rattle.scanner.specs.declared.classes.TheConstants.{TABLE}
use Rattle.scanner.proofs.Table.{whole_table, all_known}
use Rattle.scanner.proofs.classes.class.Goals as goal

entry : (b : ℕ) → b < 256 → get_or TABLE b 0 ≡ class b
unfolding class member
entry = whole_table TABLE refl

entry_known : (b : ℕ) → b < 256 → get_or TABLE b 0 ≤ other
entry_known = all_known TABLE refl

pub returns-in-0 : goal.returns-in-0
returns-in-0 c = sym c.in-0.is ∙ entry c.args.b (omega arith)

pub returns-in-1 : goal.returns-in-1
returns-in-1 c = sym c.in-1.is ∙ entry c.args.b (omega arith)

pub returns-in-2 : goal.returns-in-2
returns-in-2 c = sym c.in-2.is ∙ entry c.args.b (omega arith)

pub returns-in-3 : goal.returns-in-3
returns-in-3 c = sym c.in-3.is ∙ entry c.args.b (omega arith)

pub returns-in-4 : goal.returns-in-4
returns-in-4 c = sym c.in-4.is ∙ entry c.args.b (omega arith)

pub returns-in-5 : goal.returns-in-5
returns-in-5 c = sym c.in-5.is ∙ entry c.args.b (omega arith)

pub returns-in-6 : goal.returns-in-6
returns-in-6 c = sym c.in-6.is ∙ entry c.args.b (omega arith)

pub returns-in-7 : goal.returns-in-7
returns-in-7 c = sym c.in-7.is ∙ entry c.args.b (omega arith)

pub returns-in-8 : goal.returns-in-8
returns-in-8 c = sym c.in-8.is ∙ entry c.args.b (omega arith)

pub returns-in-9 : goal.returns-in-9
returns-in-9 c = sym c.in-9.is ∙ entry c.args.b (omega arith)

pub unreachable-requires : goal.unreachable-requires
unreachable-requires c = omega (arith, entry_known c.args.b (omega arith))
