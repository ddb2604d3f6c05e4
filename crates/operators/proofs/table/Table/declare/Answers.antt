-- The place is that of the entry that was found, or of one more; a role stored there is what is asked.
use mathlib.Core.Path.{◌≡◌, refl, ap, ◌∙◌}
use Prim.Native.Nat.{◌<◌}
use native.Mathlib.Omega.{arith}
use borrow.Author.Rules.{rules}
use lib.ListN.{length, length-set}
use Rattle.operators.specs.declared.table.Table.{Table}
use Rattle.operators.proofs.Declaring.{found_small, declared_found_at, declared_new_at}
use Rattle.operators.proofs.table.Table.declare.Goals as goal
use Rattle.operators.proofs.table.Table.declare.Goals.{Joined-found, in-Some, in-None}

place-below : (c : Joined-found) → c.match-found.entry < 64
place-below c =
    let (text, d) = c.requires in
    elim c.match-found.branch [
      | in-Some w ↦ omega (arith, w.entry-is, found_small text _ _ _ _ _ _ _ d _ w.in-Some.is)
      | in-None w ↦ omega (arith, w.entry-is, d.room w.in-None.is)
    ]

-- The entries stay as many.
long : (c : Joined-found) → length c.match-found.self.entries ≡ 64
long c =
    let n : length c.args.self.entries ≡ 64 = search rules in
    let entries : (t : Table) → c.match-found.self ≡ t → length c.match-found.self.entries ≡ length t.entries = λ t e. ap (λ (u : Table). length u.entries) e in
    elim c.match-found.branch [
      | in-Some w ↦ entries _ w.self-is ∙ n
      | in-None w ↦ entries _ w.self-is ∙ length-set c.args.self.entries c.args.self.count _ ∙ n
    ]

pub offset_bounds-self-entry : goal.offset_bounds-self-entry
offset_bounds-self-entry c = omega (arith, place-below (goal.at.offset_bounds-self-entry c).Joined-found)

pub listed-2 : goal.listed-2
listed-2 c = let j = (goal.at.listed-2 c).Joined-found in omega (arith, place-below j, long j)

pub bounds-self-entry : goal.bounds-self-entry
bounds-self-entry c = omega (arith, place-below (goal.at.bounds-self-entry c).Joined-found)

pub offset_bounds-self-entry-2 : goal.offset_bounds-self-entry-2
offset_bounds-self-entry-2 c = omega (arith, place-below (goal.at.offset_bounds-self-entry-2 c).Joined-found)

pub listed-3 : goal.listed-3
listed-3 c = let j = (goal.at.listed-3 c).Joined-found in omega (arith, place-below j, long j)

pub bounds-self-entry-2 : goal.bounds-self-entry-2
bounds-self-entry-2 c = omega (arith, place-below (goal.at.bounds-self-entry-2 c).Joined-found)

pub returns : goal.returns
returns c text d =
    elim c.match-found.branch [
      | in-Some w ↦
          declared_found_at text _ _ _ _ _ _ _ d _ w.in-Some.is c.match-found.self c.match-found.entry _ _ _ (search rules) w.self-is w.entry-is
          c.with_role.ensures
      | in-None w ↦
          declared_new_at text _ _ _ _ _ _ _ d w.in-None.is _ refl refl refl refl refl c.match-found.self c.match-found.entry _ _ _ (search rules) (search rules)
          w.self-is w.entry-is c.with_role.ensures
    ]
