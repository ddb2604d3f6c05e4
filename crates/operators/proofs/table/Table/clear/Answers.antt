-- The entries behind the one that was found move one place down, one after another. A name that the table does not have has no roles to
-- remove.
use mathlib.Core.Path.{◌≡◌, sym, ap, ◌∙◌}
use Prim.Native.Nat.{ℕ, suc, ◌+◌, ◌-◌, ◌≤◌, ◌<◌}
use native.Mathlib.Omega.{arith}
use lib.ListN.{get_or, set, length-set}
use lib.Seq.{get_or-set_same, get_or-set_other}
use Rattle.std.proofs.lemmas.List.{get_or_default}
use Rattle.grammar.proofs.Logic.{below}
use Rattle.operators.specs.Entries.{entry, no_entry}
use Rattle.operators.specs.declared.table.Entry.{Entry}
use Rattle.operators.specs.declared.table.Table.{Table}
use Rattle.operators.proofs.Clearing.{cleared}
use Rattle.operators.proofs.Lookups.{found_below, found_name, cleared_none}
use Rattle.operators.proofs.table.Table.clear.Invariants.{Turned}
use Rattle.operators.proofs.table.Table.clear.Goals as goal
use Rattle.operators.proofs.table.Table.clear.Goals.{In-Some}

-- The entry that was found is one of the table's.
own : (c : In-Some) → (c.in-Some.entry < c.args.self.count) × (c.args.self.count ≤ 64)
own c =
    let (text, name, d) = c.requires in (found_below text c.args.self name (sym d.looked ∙ c.in-Some.is), d.sound.sized)

pub overflow_sub-last : goal.overflow_sub-last
overflow_sub-last c = omega (arith, own (goal.at.overflow_sub-last c).In-Some)

-- One entry more.
turned_on :
    (t : Table) (at : ℕ) (u : Table) (k : ℕ) (d : Entry) → Turned t at u k → at ≤ k → k + 1 < 64
    → Turned t at (record { entries = set u.entries k (get_or u.entries (k + 1) d); hints = u.hints; count = u.count }) (k + 1)
turned_on t at u k d h a l =
    let E = u.entries in
    let x = get_or E (k + 1) d in
    let moved_here : x ≡ entry t.entries (suc k) =
    get_or_default E (k + 1) d no_entry (omega (arith, h.long)) ∙ h.rest (k + 1) (omega arith) ∙ ap (entry t.entries) (omega arith) in
    record {
      long = length-set E k x ∙ h.long;
      moved =
          record {
            front = λ j b. get_or-set_other E k j x no_entry (λ e. omega arith) ∙ h.moved.front j b;
            moved = λ j b c.
                below j k
                (λ m. get_or-set_other E k j x no_entry (λ e. omega arith) ∙ h.moved.moved j b m)
                (λ m. let s : j ≡ k = omega arith in rw s (get_or-set_same E k x no_entry (omega (arith, h.long)) ∙ moved_here));
          };
      rest = λ j b. get_or-set_other E k j x no_entry (λ e. omega arith) ∙ h.rest j (omega arith);
      hints = h.hints;
      counted = h.counted;
    }

pub loop-k-preserved : goal.loop-k-preserved
loop-k-preserved c =
    let o = own (goal.at.loop-k-preserved c).In-Some in
    turned_on _ _ _ _ _ c.loop-k.invariant c.loop-k.auto.k (omega (arith, o, c.loop-k-test.true))

pub returns-after-loop-k : goal.returns-after-loop-k
returns-after-loop-k c text name d =
    let (w, z) = own (goal.at.returns-after-loop-k c).In-Some in
    let h = c.loop-k.invariant in
    let t = c.args.self in
    let k : c.loop-k.k ≡ t.count - 1 = omega (arith, c.loop-k-test.false, c.loop-k.auto.k-end) in
    cleared text t c.in-Some.entry _ d.sound w (rw k at h.moved) h.hints (omega arith)
    name
    (found_name text t name (sym d.looked ∙ c.in-Some.is))

pub returns-in_default : goal.returns-in_default
returns-in_default c text name d =
    record { sound = d.sound; table = sym (cleared_none text _ name (sym d.looked ∙ c.in_default.is)) }
