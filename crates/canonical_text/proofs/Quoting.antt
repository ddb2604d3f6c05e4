-- With the roles in force noted of a quoted name, whether it has roles is whether its bytes are an operator.
use mathlib.Core.Path.{◌≡◌, refl, ap}
use mathlib.Core.Bool.{not}
use mathlib.Core.Option.{Option, none, some}
use Prim.Native.Nat.{ℕ}
use native.Mathlib.Omega.{arith}
use lib.Dec.{eqb}
use borrow.Author.Tests.{ne_eqb}
use Rattle.grammar.specs.Bytes.{Bytes}
use Rattle.grammar.specs.Token.{quoted, doubled}
use Rattle.grammar.specs.Operator.{Prefix, Infix, Postfix, Role, Table, role, is_some, has_role, in_force}
use Rattle.rows.specs.Fields.{NoteRow, note}
use Rattle.rows.specs.Codes.{role_code}
use Rattle.rows.specs.Agreeing.{roles_for, Noted}
use Rattle.canonical_text.specs.Trimming.{has_roles}
use Rattle.canonical_text.proofs.Operand.{code_some}

-- The number of a role is 0 for none alone.
code_there : (o : Option Role) → not (eqb (role_code o) 0) ≡ is_some o
unfolding is_some role_code
code_there none = refl
code_there (some r) = ap not (ne_eqb (role_code (some r)) 0 (λ e. omega (arith, code_some r)))

pub roles_noted : (T : Table) (R : NoteRow) (i : ℕ) (c : Bytes) → Noted T R i (quoted c) → has_roles (note R i).roles ≡ in_force T (doubled c)
unfolding has_roles in_force has_role roles_for
roles_noted T R i c n =
    rw (
      n.prefixed,
      n.between,
      n.postfixed,
      has_roles,
      code_there (role T (doubled c) Prefix),
      code_there (role T (doubled c) Infix),
      code_there (role T (doubled c) Postfix),
    )
