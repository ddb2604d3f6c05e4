-- A quoted name has the roles of its entry, if it has one; any other has none.
use Rattle.std.proofs.Common.{◌≡◌, ◌<◌, refl, sym, ◌∙◌, arith, Some, None, rules}
use Rattle.operators.specs.Entries.{coded_find}
use Rattle.operators.proofs.Lookups.{found_below}
use Rattle.rows.proofs.Noting.{words_stored}
use Rattle.resolving.proofs.Noting.{name_noted, listed_noted, unlisted_noted}
use Rattle.resolving.proofs.store_name.Goals as goal
use Rattle.resolving.proofs.store_name.Goals.{In-Some, then-quoted+in_default, else-quoted}

-- The entry that is found.
found : (c : In-Some) → let a = c.args in coded_find a.text.now a.table.now.entries a.name.now 0 a.table.now.count ≡ Some c.in-Some.entry
found c = sym c.find.ensures ∙ c.in-Some.is

below : (c : In-Some) → c.in-Some.entry < 64
below c = omega (arith, found_below _ c.args.table.now _ (found c), c.requires.1.sized)

pub offset_bounds-table-entry : goal.offset_bounds-table-entry
offset_bounds-table-entry c = omega (arith, below (goal.at.offset_bounds-table-entry c).In-Some)

pub listed : goal.listed
listed c = omega (arith, below (goal.at.listed c).In-Some)

pub bounds-table-entry : goal.bounds-table-entry
bounds-table-entry c = below (goal.at.bounds-table-entry c).In-Some

pub returns-in-Some : goal.returns-in-Some
returns-in-Some c =
    let s = (goal.at.returns-in-Some c).In-Some in
    rw c.if-quoted.true (listed_noted _ _ _ c.args.text.now c.args.table.now _ _ (found s) (omega (arith, below s)) _ c.requires.0 refl)

pub returns : goal.returns
returns c =
    elim c.if-quoted.branch [
      | then-quoted+in_default b ↦
          let n : b.find.result ≡ None = search rules in
          rw b.if-quoted.true
          (unlisted_noted _ _ _ c.args.text.now c.args.table.now _ (sym b.find.ensures ∙ n) (words_stored _ _ c.requires.0 refl refl refl refl refl))
      | else-quoted b ↦
          rw b.if-quoted.false
          (λ f. name_noted _ _ _ c.args.text.now c.args.table.now _ f (words_stored _ _ c.requires.0 refl refl refl refl refl))
    ]
