-- The roles of the starting operators as numbers: each fits, as every declared role does, and none is postfix, which is computed.
use mathlib.Core.Path.{◌≡◌, refl, ◌∙◌}
use mathlib.Core.Bool.{true}
use mathlib.Core.Option.{Option, none, some}
use Prim.Native.Nat.{ℕ, ◌≤◌}
use Rattle.grammar.specs.Operator.{Fixity, Prefix, Infix, Postfix, Role, absent_role}
use Rattle.grammar.specs.Climb.{first_role}
use Rattle.grammar.proofs.Logic.{below, impossible}
use Rattle.rows.specs.Codes.{role_code, Fit, arrival_of}
use Rattle.rows.specs.InUse.{roles_by}
use Rattle.rows.specs.declared.roles.Roles as Coded
use Rattle.rows.proofs.Codes.{arrival_coded}
use Rattle.rows.proofs.Bounded.{bounded_start}
use Rattle.starting_operators.specs.Starting.{start_name, start_roles, start_count, HasRoles}
use Rattle.starting_operators.proofs.Numbers.{every_number, computed_count, each_start, beyond_roles, start_number_lem, start_roles_lem}

absent_none : (r : Option Role) → absent_role r ≡ true → r ≡ none
unfolding absent_role
absent_none none e = refl
absent_none (some r) e = impossible cc

module _ (n : ℕ) where
  pub start_fit : (f : Fixity) → Fit (start_roles n f)
  start_fit f =
      below n start_count
      (λ h. rw (← start_number_lem n h, start_roles_lem (start_name n) f) (bounded_start (start_name n) f))
      (λ h. rw (beyond_roles n h) tt)

  no_postfix_role : start_roles n Postfix ≡ none
  unfolding computed_count every_number absent_role
  no_postfix_role =
      below n start_count
      (λ h. absent_none _ (each_start (λ k o. absent_role (o.roles Postfix)) refl n h))
      (λ h. rw (beyond_roles n h))

  pub no_postfix : 0 ≡ role_code (start_roles n Postfix)
  unfolding role_code
  no_postfix = rw no_postfix_role

  -- What it is when it comes, by its roles as they stand in the code.
  pub has_arrival : {r : Coded.Roles} → HasRoles n r → arrival_of (roles_by r) ≡ arrival_of (start_roles n)
  has_arrival h = rw (h.prefixed, h.between, h.postfixed) (arrival_coded (start_roles n) start_fit)

-- A number from `start_count` on has no roles.
module _ (n : ℕ) (h : start_count ≤ n) where
  pub no_role_beyond : (f : Fixity) → 0 ≡ role_code (start_roles n f)
  unfolding role_code
  no_role_beyond f = rw (beyond_roles n h)

  pub no_arrival_beyond : 0 ≡ arrival_of (start_roles n)
  unfolding arrival_of first_role
  no_arrival_beyond = rw (beyond_roles n h)

  pub no_roles_coded : {r : Coded.Roles} → r.prefix.code ≡ 0 → r.«infix».code ≡ 0 → r.postfix.code ≡ 0 → HasRoles n r
  no_roles_coded p i q =
      record {
        prefixed = p ∙ no_role_beyond Prefix;
        between = i ∙ no_role_beyond Infix;
        postfixed = q ∙ no_role_beyond Postfix;
      }
