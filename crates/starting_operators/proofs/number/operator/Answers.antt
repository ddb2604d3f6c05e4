-- Each line is computed: the name, and the numbers of the roles. The last line is for a number that no operator has.
use mathlib.Core.List.{[]}
use mathlib.Core.Path.{◌≡◌, refl, sym, ◌∙◌}
use Prim.Native.Nat.{ℕ, ◌≤◌}
use native.Mathlib.Omega.{arith}
use Rattle.grammar.specs.Bytes.{Bytes}
use Rattle.grammar.specs.Operator.{Prefix, Infix}
use Rattle.rows.specs.Codes.{side_code, role_code}
use Rattle.starting_operators.specs.Starting.{name_of, roles_at, start_name, start_roles, start_count, IsOperator}
use Rattle.starting_operators.specs.declared.number.StartingOperator.{StartingOperator}
use Rattle.starting_operators.proofs.Numbers.{computed_count, beyond_name}
use Rattle.starting_operators.proofs.Roles.{no_postfix, no_role_beyond}
use Rattle.starting_operators.proofs.number.operator.Goals as goal

-- What `of` makes of a line.
abbrev Made : Bytes → ℕ → ℕ → StartingOperator → Type 0
Made w p i o =
    (o.name.now ≡ w) × (o.roles.prefix.code ≡ p) × (o.roles.«infix».code ≡ i) × (o.roles.postfix.code ≡ 0)

line :
    {n : ℕ} (k : ℕ) {w : Bytes} {p i : ℕ} {o : StartingOperator} → n ≡ k → Made w p i o → w ≡ start_name k
    → p ≡ role_code (start_roles k Prefix) → i ≡ role_code (start_roles k Infix) → IsOperator n o
line k e (a, b, c, d) x y z =
    rw e
    (record {
      named = a ∙ x;
      roled = record { prefixed = b ∙ y; between = c ∙ z; postfixed = d ∙ no_postfix k };
    })

pub returns-in-0 : goal.returns-in-0
unfolding computed_count start_name name_of start_roles roles_at side_code role_code
returns-in-0 c = line 0 c.in-0.is c.of.ensures refl refl c.new.ensures

pub returns-in-1 : goal.returns-in-1
unfolding computed_count start_name name_of start_roles roles_at side_code role_code
returns-in-1 c = line 1 c.in-1.is c.of-in-1.ensures refl refl c.new-in-1.ensures

pub returns-in-2 : goal.returns-in-2
unfolding computed_count start_name name_of start_roles roles_at side_code role_code
returns-in-2 c = line 2 c.in-2.is c.of-in-2.ensures refl c.new-in-2.ensures refl

pub returns-in-3 : goal.returns-in-3
unfolding computed_count start_name name_of start_roles roles_at side_code role_code
returns-in-3 c = line 3 c.in-3.is c.of-in-3.ensures refl refl c.new-in-3.ensures

pub returns-in-4 : goal.returns-in-4
unfolding computed_count start_name name_of start_roles roles_at side_code role_code
returns-in-4 c = line 4 c.in-4.is c.of-in-4.ensures refl refl c.new-in-4.ensures

pub returns-in-5 : goal.returns-in-5
unfolding computed_count start_name name_of start_roles roles_at side_code role_code
returns-in-5 c = line 5 c.in-5.is c.of-in-5.ensures refl refl c.new-in-5.ensures

pub returns-in-6 : goal.returns-in-6
unfolding computed_count start_name name_of start_roles roles_at side_code role_code
returns-in-6 c = line 6 c.in-6.is c.of-in-6.ensures refl c.new-in-6.ensures c.new-in-6-2.ensures

pub returns-in-7 : goal.returns-in-7
unfolding computed_count start_name name_of start_roles roles_at side_code role_code
returns-in-7 c = line 7 c.in-7.is c.of-in-7.ensures refl refl c.new-in-7.ensures

-- The last line: a number that none of the lines before has is no less than there are operators.
none_made : {n : ℕ} {o : StartingOperator} → start_count ≤ n → Made [] 0 0 o → IsOperator n o
none_made {n} h m =
    line n refl m (sym (beyond_name n h)) (no_role_beyond n h Prefix) (no_role_beyond n h Infix)

pub returns-in_default : goal.returns-in_default
unfolding computed_count
returns-in_default c = none_made (omega arith) c.of-in_default.ensures
