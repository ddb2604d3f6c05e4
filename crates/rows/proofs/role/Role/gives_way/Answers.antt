-- Within one associativity the order of numbers is that of precedences.
use native.Mathlib.Omega.{arith}
use Rattle.rows.proofs.Codes.{role_valid, gives_left, gives_non, gives_right}
use Rattle.rows.proofs.role.Role.gives_way.Goals as goal

pub returns-then-is_left : goal.returns-then-is_left
returns-then-is_left c = grind (arith, gives_left c.args.self.code c.args.arrival (role_valid c.args.self))

pub returns-then-is_right : goal.returns-then-is_right
returns-then-is_right c = grind (arith, gives_right c.args.self.code c.args.arrival)

pub returns : goal.returns
returns c = grind (arith, gives_non c.args.self.code c.args.arrival (role_valid c.args.self))
