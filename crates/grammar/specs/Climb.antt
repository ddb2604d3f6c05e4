-- The tree of a span, found in one pass over its items from left to right: document 01, "The root of a span is sought among its marks
-- of the widest level". Each operator closes the narrower ones before it, so one of the widest precedence is closed last: the root.
use Rattle.std.specs.Prelude.{Bool, true, false, ◌&&◌, ◌||◌, not, List, [], ◌∷◌, ℕ, ◌+◌, ltb, eqb, length}
use Rattle.std.proofs.Math.Option.{Option, none, some}
use Rattle.grammar.specs.Bytes.{Bytes}
use Rattle.grammar.specs.Token.{symbol, number, quoted}
use Rattle.grammar.specs.Operator.{Prefix, Infix, Postfix, Role, Table, role, is_some}
use Rattle.grammar.specs.Span.{Item, single, pair, scope, item_tokens}
use Rattle.grammar.specs.SpanTree.{
  SpanTree,
  missing,
  operand,
  apply,
  present,
  fixity_by,
  role_of_fixity,
  role_over,
  root,
  is_right,
  on_left,
  on_right,
  admits,
  is_operand,
}

-- The word or sign that an item is, if it is one.
unfoldable pub symbol_at : Item → Option Bytes
symbol_at (single (symbol w)) = some w
symbol_at (single (number d)) = none
symbol_at (single (quoted c)) = none
symbol_at (pair ts) = none
symbol_at (scope ds ts) = none

-- The first of two roles that is there.
unfoldable pub first_role : Option Role → Option Role → Option Role
first_role none b = b
first_role (some a) b = some a

-- The operators that wait for what stands on their right, the innermost first, each with its left operand.
pub data Stack : Type 0 where
  empty : Stack
  waiting : SpanTree → Bytes → Stack → Stack

-- The role by which an operator comes behind an operand: infix, else postfix. It says the precedence only. Which of the two the operator
-- is shows when it closes, by what stands on its right: "Telling infix from postfix by the token before" is a wrong reading.
unfoldable pub left_role : Table → Bytes → Option Role
left_role T m = first_role (role T m Infix) (role T m Postfix)

-- An operator in the role `q` gives way to one that comes in the role `d`: as far as it says itself, its tree may stand on the left of
-- that one. "An operand may have a lower level than its operator", or the same "on the left of a left-sided infix or postfix mark, where
-- the operand's own root is not right-sided". Else the one that comes stands within its right operand.
unfoldable pub gives_way : Option Role → Option Role → Bool
gives_way none d = false
gives_way (some q) none = false
gives_way (some q) (some d) =
    ltb q.precedence d.precedence || (eqb q.precedence d.precedence && not (is_right q.associativity))

-- The operator `m` comes behind `o`, perhaps nothing: the waiting operators that give way to it close, each with what has been read as its
-- right operand; then it waits itself, with what has been read as its left one.
unfoldable pub pushed : Table → Bytes → Stack → SpanTree → Stack
pushed T m empty o = waiting o m empty
pushed T m (waiting l t w) o =
    elim (gives_way (role_over T l t o) (left_role T m)) [
      | true ↦ pushed T m w (apply l t o)
      | false ↦ waiting o m (waiting l t w)
    ]

-- Nothing more comes: all that wait close.
unfoldable pub closed : Stack → SpanTree → SpanTree
closed empty o = o
closed (waiting l t w) o = closed w (apply l t o)

-- How far the pass has come: what waits, and the operand that has just ended, or `missing`.
pub record Progress : Type 0 where
  pub stack : Stack
  pub last : SpanTree

-- Nothing has come.
unfoldable pub unread : Progress
unread = record { stack = empty; last = missing }

-- What comes is tested as it comes, so that nothing has to be tested when an operator closes.

-- The role in which an operator that waits takes an operand on its right.
unfoldable pub taking : Table → SpanTree → Bytes → Option Role
taking T l t = role_of_fixity T t (fixity_by (present l) true)

-- An operand may come behind an operator, if that takes one.
unfoldable pub takes : Table → Stack → Bool
takes T empty = true
takes T (waiting l t w) = is_some (taking T l t)

-- A prefix operator in the role `c` may come behind one that waits, if the waiting one takes an operand and admits it.
unfoldable pub admits_prefix : Option Role → Role → Bool
admits_prefix none c = false
admits_prefix (some q) c = admits on_right q (some c)

unfoldable pub bears : Table → Stack → Role → Bool
bears T empty c = true
bears T (waiting l t w) c = admits_prefix (taking T l t) c

unfoldable pub fits_below : Table → Option Role → Stack → Bool
fits_below T none w = false
fits_below T (some c) w = bears T w c

-- An operator may come behind an operand, whose root has the role `o`, if it admits that on its left.
unfoldable pub fits_left : Option Role → Option Role → Bool
fits_left none o = false
fits_left (some d) o = admits on_left d o

-- The operator `m` has come behind `o`, and those that give way to it have closed; `w` waits below it.
unfoldable pub arrives : Table → SpanTree → Bytes → Stack → Bool
arrives T o m w =
    elim (present o) [
      | true ↦ fits_left (left_role T m) (root T o)
      | false ↦ fits_below T (role T m Prefix) w
    ]

unfoldable pub arrived : Table → Stack → Option Progress
arrived T empty = none
arrived T (waiting o m w) = elim (arrives T o m w) [ true ↦ some (record { stack = waiting o m w; last = missing }) | false ↦ none ]

-- An item comes: what waits behind it, or none where it may not come.
unfoldable pub operand_step : Table → Progress → Item → Option Progress
operand_step T u i =
    elim (present u.last) [
      | true ↦ none
      | false ↦ elim (takes T u.stack) [ true ↦ some (record { stack = u.stack; last = operand i }) | false ↦ none ]
    ]

unfoldable pub operator_step : Table → Progress → Option Bytes → Option Progress
operator_step T u none = none
operator_step T u (some m) = arrived T (pushed T m u.stack u.last)

unfoldable pub advance : Table → Progress → Item → Option Progress
advance T u i = elim (is_operand T i) [ true ↦ operand_step T u i | false ↦ operator_step T u (symbol_at i) ]

-- Nothing more comes. If an operator came last, it has to be postfix.
unfoldable pub postfix_last : Table → Stack → Option SpanTree
postfix_last T empty = none
postfix_last T (waiting l t w) = elim (is_some (role_over T l t missing)) [ true ↦ some (closed w (apply l t missing)) | false ↦ none ]

unfoldable pub finish : Table → Progress → Option SpanTree
finish T u = elim (present u.last) [ true ↦ some (closed u.stack u.last) | false ↦ postfix_last T u.stack ]

-- How the pass ends: with the tree, or at the first token of the item that may not come; where something is missing at the end, at the token
-- behind the last item.
pub data Ending : Type 0 where
  found : SpanTree → Ending
  stops : ℕ → Ending

unfoldable pub ending : ℕ → Option SpanTree → Ending
ending n none = stops n
ending n (some s) = found s

-- The pass over the items that begin at token number `n`.
unfoldable pub climb_from : Table → ℕ → Progress → List Item → Ending
climb_from T n u [] = ending n (finish T u)
climb_from T n u (i ∷ is) = elim (advance T u i) [ none ↦ stops n | some v ↦ climb_from T (n + length (item_tokens i)) v is ]

unfoldable pub search : Table → ℕ → List Item → Ending
search T n is = climb_from T n unread is

-- The tree of a span, if there is one.
unfoldable pub tree_found : Ending → Option SpanTree
tree_found (found s) = some s
tree_found (stops n) = none

unfoldable pub climb : Table → List Item → Option SpanTree
climb T is = tree_found (search T 0 is)
