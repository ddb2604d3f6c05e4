-- A quoted name has the roles of the operator with its number; any other has no role if it has no number.
use mathlib.Core.Path.{refl, sym, ◌∙◌}
use Rattle.starting_operators.proofs.Numbers.{some_number, none_number_is}
use Rattle.starting_operators.proofs.NotedTokens.{quoted_noted, unnumbered_noted, unnumbered_quoted}
use Rattle.starting_operators.proofs.notes.note_name.Goals as goal
use Rattle.starting_operators.proofs.notes.note_name.Goals.{then-quoted+in_default, else-quoted}

pub returns-in-Some : goal.returns-in-Some
returns-in-Some c =
    rw c.if-quoted.true
    (quoted_noted _ _ _ _ c.requires _ (some_number _ _ (sym c.number.ensures ∙ c.in-Some.is)).1 c.roles.ensures refl refl)

pub returns : goal.returns
returns c =
    elim c.if-quoted.branch [
      | then-quoted+in_default w ↦
          rw w.if-quoted.true
          (unnumbered_quoted _ _ _ _ c.requires (none_number_is _ (sym w.number.ensures ∙ w.in_default.is)) _ (record { prefixed = refl; between = refl; postfixed = refl; arrives = refl }) refl)
      | else-quoted w ↦ rw w.if-quoted.false (λ u. unnumbered_noted _ _ _ _ c.requires u _ (record { prefixed = refl; between = refl; postfixed = refl; arrives = refl }) refl)
    ]
