-- The items that the operators of a stack and their left operands have: nothing that has come is lost.
use mathlib.Core.Path.{◌≡◌, refl, ap, ◌∙◌}
use mathlib.Core.Bool.{Bool, true, false}
use mathlib.Core.List.{List, ◌∷◌, ◌++◌, append_assoc}
use mathlib.Core.Option.{some}
use Rattle.grammar.proofs.Logic.{clash}
use Rattle.grammar.specs.Bytes.{Bytes}
use Rattle.grammar.specs.Token.{symbol, number, quoted}
use Rattle.grammar.specs.Operator.{Table}
use Rattle.grammar.specs.Span.{Item, single, pair, scope}
use Rattle.grammar.specs.SpanTree.{SpanTree, missing, operand, apply, yield, present, role_over}
use Rattle.grammar.specs.Climb.{symbol_at, Stack, empty, waiting, left_role, gives_way, pushed, closed}

-- An item that reads as a symbol is one.
pub symbol_is : (i : Item) (w : Bytes) → symbol_at i ≡ some w → i ≡ single (symbol w)
unfolding symbol_at
symbol_is (single (symbol v)) w e = cc
symbol_is (single (number d)) w e = cc
symbol_is (single (quoted c)) w e = cc
symbol_is (pair ts) w e = cc
symbol_is (scope ds ts) w e = cc

-- The items of a stack, with those behind it.
unfoldable pub stack_items : Stack → List Item → List Item
stack_items empty is = is
stack_items (waiting l t w) is = stack_items w (yield l ++ single (symbol t) ∷ is)

pub closed-yield : (w : Stack) (o : SpanTree) → yield (closed w o) ≡ stack_items w (yield o)
unfolding closed stack_items yield
closed-yield empty o = refl
closed-yield (waiting l t w) o = closed-yield w (apply l t o)

pub pushed-yield :
    (T : Table) (m : Bytes) (w : Stack) (o : SpanTree) (is : List Item)
    → stack_items (pushed T m w o) is ≡ stack_items w (yield o ++ single (symbol m) ∷ is)
unfolding pushed stack_items yield
pushed-yield T m empty o is = refl
pushed-yield T m (waiting l t w) o is = go (gives_way (role_over T l t o) (left_role T m)) refl (pushed-yield T m w (apply l t o) is)
  where
    go :
        (b : Bool) → gives_way (role_over T l t o) (left_role T m) ≡ b
        → stack_items (pushed T m w (apply l t o)) is ≡ stack_items w (yield (apply l t o) ++ single (symbol m) ∷ is)
        → stack_items (pushed T m (waiting l t w) o) is ≡ stack_items w (yield l ++ single (symbol t) ∷ (yield o ++ single (symbol m) ∷ is))
    go true e ih = rw (e, pushed) (ih ∙ ap (stack_items w) (append_assoc (yield l) (single (symbol t) ∷ yield o) (single (symbol m) ∷ is)))
    go false e ih = rw (e, pushed)

-- More items behind.
pub stack_append : (w : Stack) (is js : List Item) → stack_items w is ++ js ≡ stack_items w (is ++ js)
unfolding stack_items
stack_append empty is js = refl
stack_append (waiting l t w) is js =
    stack_append w (yield l ++ single (symbol t) ∷ is) js ∙ ap (stack_items w) (append_assoc (yield l) (single (symbol t) ∷ is) js)

pub absent_missing : (o : SpanTree) → present o ≡ false → o ≡ missing
unfolding present
absent_missing missing e = refl
absent_missing (operand i) e = absurd (clash refl e)
absent_missing (apply l m r) e = absurd (clash refl e)
