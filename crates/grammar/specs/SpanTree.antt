-- Document 01, "Trees": what is a tree of a span. Nothing here says how one is found.
use Rattle.std.specs.Prelude.{◌≡◌, Bool, true, false, ◌&&◌, ◌||◌, not, List, [], ◌∷◌, ◌++◌, ℕ, ltb, eqb}
use Rattle.std.proofs.Math.Option.{Option, none, some}
use Rattle.grammar.specs.Bytes.{Bytes}
use Rattle.grammar.specs.Token.{Atom, symbol, number, quoted}
use Rattle.grammar.specs.Operator.{Fixity, Prefix, Infix, Postfix, Associativity, left, right, non, Role, Table, role, in_force}
use Rattle.grammar.specs.Span.{Item, single, pair, scope}

-- A tree of a span. An operator stands between its operands; where it has none on a side, that operand is `missing`.
pub data SpanTree : Type 0 where
  missing : SpanTree
  operand : Item → SpanTree
  apply : SpanTree → Bytes → SpanTree → SpanTree

-- The items of a tree of a span, in order: "an infix mark over the tokens before it and those after it, a prefix mark at the
-- front over those after it, a postfix mark at the end over those before it".
unfoldable pub yield : SpanTree → List Item
yield missing = []
yield (operand i) = i ∷ []
yield (apply l m r) = yield l ++ single (symbol m) ∷ yield r

unfoldable pub present : SpanTree → Bool
present missing = false
present (operand i) = true
present (apply l m r) = true

-- Which fixity an operator has, by the operands that it has: (on the left, on the right). Without operands it has none.
unfoldable pub fixity_by : Bool → Bool → Option Fixity
fixity_by true true = some Infix
fixity_by true false = some Postfix
fixity_by false true = some Prefix
fixity_by false false = none

unfoldable pub fixity : SpanTree → SpanTree → Option Fixity
fixity l r = fixity_by (present l) (present r)

-- The role of an operator of that fixity, where it has one.
unfoldable pub role_of_fixity : Table → Bytes → Option Fixity → Option Role
role_of_fixity T m none = none
role_of_fixity T m (some f) = role T m f

-- The role in which an operator stands over these operands.
unfoldable pub role_over : Table → SpanTree → Bytes → SpanTree → Option Role
role_over T l m r = role_of_fixity T m (fixity l r)

-- The role of a tree's root. A tree that is one operand has none.
unfoldable pub root : Table → SpanTree → Option Role
root T missing = none
root T (operand i) = none
root T (apply l m r) = role_over T l m r

-- "Names, numbers, brackets and blocks have level 0"; 02, §2: "An operator's tree then has the level of its role".
unfoldable pub root_precedence : Option Role → ℕ
root_precedence none = 0
root_precedence (some r) = r.precedence

unfoldable pub is_left : Associativity → Bool
is_left left = true
is_left right = false
is_left non = false

unfoldable pub is_right : Associativity → Bool
is_right left = false
is_right right = true
is_right non = false

unfoldable pub right_root : Option Role → Bool
right_root none = false
right_root (some r) = is_right r.associativity

-- Where an operand stands (not what 01 calls a side, which is an associativity).
pub data Position : Type 0 where
  on_left on_right : Position

-- "It may have the same level only as the operand on the right of a right-sided prefix or infix mark; or as the operand on the
-- left of a left-sided infix or postfix mark, where the operand's own root is not right-sided."
unfoldable pub admits_equal : Position → Role → Option Role → Bool
admits_equal on_right r o = is_right r.associativity
admits_equal on_left r o = is_left r.associativity && not (right_root o)

-- "An operand may have a lower level than its operator." `r` is the operator's role, `o` that of the operand's root.
unfoldable pub admits : Position → Role → Option Role → Bool
admits s r o = ltb (root_precedence o) r.precedence || (eqb (root_precedence o) r.precedence && admits_equal s r o)

-- A role in force that admits the operands, where they are there.
unfoldable pub admits_both : Option Role → Option Role → Option Role → Bool
admits_both none l r = false
admits_both (some p) l r = admits on_left p l && admits on_right p r

-- "A word or sign without a role in force is a name."
unfoldable pub is_operand_atom : Table → Atom → Bool
is_operand_atom T (symbol w) = not (in_force T w)
is_operand_atom T (number d) = true
is_operand_atom T (quoted c) = true

unfoldable pub is_operand : Table → Item → Bool
is_operand T (single a) = is_operand_atom T a
is_operand T (pair ts) = true
is_operand T (scope ds ts) = true

-- "A tree of a span, or of a part of one, is a single name, number, bracket pair or block, or a mark of it in a role in force
-- there over trees of what is left .. each operand admitted as above. .. no mark is an operand by itself."
abbrev pub Admitted : Table → SpanTree → Type 0
Admitted T missing = Unit {0}
Admitted T (operand i) = is_operand T i ≡ true
Admitted T (apply l m r) =
    Admitted T l × Admitted T r × (admits_both (role_over T l m r) (root T l) (root T r) ≡ true)

-- "Nothing at all has no tree".
pub record IsSpanTree (T : Table) (is : List Item) (s : SpanTree) : Type 0 where
  pub yields : yield s ≡ is
  pub admitted : Admitted T s
  pub there : present s ≡ true
