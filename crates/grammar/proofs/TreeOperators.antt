-- The operators of an admitted tree are the words and signs of its items that have a role in force, in their order: an operand has none, and
-- an admitted operator has the role in which it stands.
use mathlib.Core.Path.{◌≡◌, refl, sym, ap, ap₂, ◌∙◌}
use mathlib.Core.Bool.{true}
use mathlib.Core.List.{List, [], ◌∷◌, ◌++◌, append_assoc}
use borrow.Author.Tests.{not-true}
use Rattle.grammar.specs.Bytes.{Bytes}
use Rattle.grammar.specs.Token.{symbol, number, quoted}
use Rattle.grammar.specs.Operator.{Table, role, in_force}
use Rattle.grammar.specs.Span.{Item, single, pair, scope}
use Rattle.grammar.specs.SpanTree.{SpanTree, missing, operand, apply, yield, is_operand_atom, is_operand, Admitted}
use Rattle.grammar.specs.Climb.{symbol_at}
use Rattle.grammar.specs.Claim.{in_force_at, operators_among, operators_of}
use Rattle.grammar.proofs.Operators.{has_role_lem}
use Rattle.grammar.proofs.AdmittingRole.{admitting_role}

among_append : (T : Table) (xs ys : List Item) → operators_among T (xs ++ ys) ≡ operators_among T xs ++ operators_among T ys
unfolding operators_among
among_append T [] ys = refl
among_append T (x ∷ xs) ys =
    ap (◌++◌ (in_force_at T x)) (among_append T xs ys) ∙ sym (append_assoc (in_force_at T x) (operators_among T xs) (operators_among T ys))

-- An operand is no operator.
operand_none : (T : Table) (i : Item) → is_operand T i ≡ true → in_force_at T i ≡ []
unfolding in_force_at symbol_at is_operand is_operand_atom
operand_none T (single (symbol w)) e = rw (not-true (in_force T w) e, in_force_at)
operand_none T (single (number d)) e = refl
operand_none T (single (quoted c)) e = refl
operand_none T (pair ts) e = refl
operand_none T (scope ds ts) e = refl

operator_one : (T : Table) (m : Bytes) → in_force T m ≡ true → in_force_at T (single (symbol m)) ≡ m ∷ []
unfolding in_force_at symbol_at
operator_one T m e = rw (e, in_force_at)

pub tree_operators : (T : Table) (s : SpanTree) → Admitted T s → operators_of s ≡ operators_among T (yield s)
unfolding operators_of operators_among yield in_force
tree_operators T missing a = refl
tree_operators T (operand i) a = rw (operand_none T i a)
tree_operators T (apply l m r) a =
    let c = admitting_role T l m r a in
    let here : in_force_at T (single (symbol m)) ≡ m ∷ [] = operator_one T m (has_role_lem (role T m) c.form c.own c.known) in
    let right : m ∷ operators_of r ≡ operators_among T (single (symbol m) ∷ yield r) = rw here (ap (◌∷◌ m) (tree_operators T r a.1)) in
    ap₂ ◌++◌ (tree_operators T l a.0) right ∙ sym (among_append T (yield l) (single (symbol m) ∷ yield r))
