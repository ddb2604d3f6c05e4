-- The class says what the token is, and what is stored is what the operator with the number of its bytes has; a number and a bracket
-- have no roles.
use mathlib.Core.Path.{◌≡◌, refl, subst, ◌∙◌}
use Prim.Native.Nat.{ℕ}
use lib.ListN.{set}
use Rattle.grammar.specs.Bytes.{Bytes}
use Rattle.rows.specs.Fields.{TokenRow, NoteRow, Within}
use Rattle.rows.specs.declared.roles.Note.{Note}
use Rattle.rows.specs.declared.class.Class.{Class}
use Rattle.rows.specs.declared.class.Class.TheVariants.{Name, Number, Operator, Bracket, Block}
use Rattle.rows.proofs.Stored.{stored_within, stored_doubled}
use Rattle.rows.proofs.Noting.{symbol_item, name_item}
use Rattle.starting_operators.specs.Starting.{IsClass, Unnumbered, NotesToken}
use Rattle.starting_operators.proofs.Roles.{has_arrival}
use Rattle.starting_operators.proofs.NotedTokens.{
  IsBlank,
  stands,
  roles_within,
  symbol_noted,
  atom_notes,
  number_notes,
  bracket_notes,
  is_quoted,
}
use Rattle.starting_operators.proofs.notes.note.Goals as goal
use Rattle.starting_operators.proofs.notes.note.Goals.{After-classify}

-- What the class says.
says : (c : After-classify) (x : Class) → c.classify.result ≡ x → IsClass c.args.text.now c.args.tokens.now c.args.i x
says c x e = subst (IsClass c.args.text.now c.args.tokens.now c.args.i) e c.classify.ensures

pub written-requires : goal.written-requires
written-requires c = let (n, g, h) = c.requires.0 in stored_within g.stored _ (stands g h)

pub returns-in-Operator : goal.returns-in-Operator
returns-in-Operator c =
    let s = says (goal.at.returns-in-Operator c).After-classify _ c.in-Operator.is in
    let (n, g, h) = c.requires.0 in
    atom_notes _ _ _ _ _
    (symbol_item _ _ _ _ _ _ s.0
    (symbol_noted _ _ _ _ (roles_within g h) _ s.1 c.roles-roles.ensures refl (c.arrival.ensures ∙ has_arrival _ c.roles-roles.ensures)))

pub returns-in-Name : goal.returns-in-Name
returns-in-Name c =
    let s = says (goal.at.returns-in-Name c).After-classify _ c.in-Name.is in
    let (n, g, h) = c.requires.0 in
    atom_notes _ _ _ _ _
    (name_item _ _ _ _ _ _ Unnumbered refl c.written.ensures s.2 (stored_doubled g.stored _ (stands g h))
    (rw (c.eq.ensures ∙ is_quoted _) at c.note_name.ensures))

-- What is neither a name nor an operator has no roles: a number, or a bracket.
no-roles :
    (text : Bytes) (K : TokenRow) (R R' : NoteRow) (i : ℕ) (x : Class) → ((s n : ℕ) → x ≡ Name s n → ⊥) → ((n : ℕ) → x ≡ Operator n → ⊥)
    → IsClass text K i x → Within R i → (y : Note) → IsBlank y → R' ≡ set R i y → NotesToken text K R i R'
no-roles text K R R' i (Name s n) a b h w y z e = absurd (a s n refl)
no-roles text K R R' i (Operator n) a b h w y z e = absurd (b n refl)
no-roles text K R R' i Number a b h w y z e = number_notes text K R i R' w y z e h
no-roles text K R R' i (Bracket c) a b h w y z e = bracket_notes text K R i R' w y z e h.0
no-roles text K R R' i (Block c) a b h w y z e = absurd h

pub returns-in_default : goal.returns-in_default
returns-in_default c =
    let (n, g, h) = c.requires.0 in
    no-roles _ _ _ _ _ c.classify.result c.in_default.not-Name c.in_default.not-Operator c.classify.ensures (roles_within g h) _
    (record { prefixed = refl; between = refl; postfixed = refl; arrives = refl }) refl
