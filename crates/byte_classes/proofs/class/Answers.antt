-- The class of a byte is computed at each number of an arm of the match: an arm lists numbers or is an interval.
use mathlib.Core.Path.{◌≡◌, refl}
use mathlib.Core.Bool.{true, ◌||◌}
use mathlib.Core.List.{List, [], ◌∷◌}
use Prim.Native.Nat.{ℕ, ◌+◌, ◌≤◌, ◌<◌}
use native.Mathlib.Omega.{arith}
use borrow.Author.Rules.{rules}
use Rattle.grammar.specs.Bytes.{member}
use Rattle.grammar.specs.Token.{class as class_of}
use Rattle.byte_classes.proofs.Intervals.{all, NoneOf, gives, listed, at_key, in-interval}
use Rattle.byte_classes.proofs.class.Goals as goal

abbrev sign_keys : List ℕ
sign_keys = 33 ∷ 45 ∷ 47 ∷ 58 ∷ 94 ∷ 124 ∷ 126 ∷ []

-- The numbers that arms list, the last arm's first.
abbrev arms : List (List ℕ)
arms = (59 ∷ []) ∷ (41 ∷ []) ∷ (40 ∷ []) ∷ (39 ∷ []) ∷ sign_keys ∷ (95 ∷ []) ∷ (13 ∷ 32 ∷ []) ∷ []

interval
    : (k low w b : ℕ) → all (λ x. gives class_of k x || listed arms x) low w ≡ true → NoneOf arms b → low ≤ b → b < low + w → k ≡ class_of b
interval k low w b t n = in-interval class_of k arms low w t b n

pub returns-in-95 : goal.returns-in-95
unfolding class_of member
returns-in-95 c = at_key class_of 3 (95 ∷ []) c.args.b c.in-95.is refl

pub returns-in-39 : goal.returns-in-39
unfolding class_of member
returns-in-39 c = at_key class_of 5 (39 ∷ []) c.args.b c.in-39.is refl

pub returns-in-40 : goal.returns-in-40
unfolding class_of member
returns-in-40 c = at_key class_of 6 (40 ∷ []) c.args.b c.in-40.is refl

pub returns-in-41 : goal.returns-in-41
unfolding class_of member
returns-in-41 c = at_key class_of 7 (41 ∷ []) c.args.b c.in-41.is refl

pub returns-in-59 : goal.returns-in-59
unfolding class_of member
returns-in-59 c = at_key class_of 8 (59 ∷ []) c.args.b c.in-59.is refl

pub returns-in-35-to-38 : goal.returns-in-35-to-38
unfolding class_of member
returns-in-35-to-38 c = interval 4 35 4 c.args.b refl (search rules) (omega arith) (omega arith)

pub returns-in-48-to-57 : goal.returns-in-48-to-57
unfolding class_of member
returns-in-48-to-57 c = interval 2 47 11 c.args.b refl (search rules) (omega arith) (omega arith)

pub returns-in-35-to-38-2 : goal.returns-in-35-to-38-2
unfolding class_of member
returns-in-35-to-38-2 c = interval 4 58 7 c.args.b refl (search rules) (omega arith) (omega arith)

pub returns-in-65-to-90 : goal.returns-in-65-to-90
unfolding class_of member
returns-in-65-to-90 c = interval 1 65 26 c.args.b refl (search rules) (omega arith) (omega arith)

pub returns-in-65-to-90-2 : goal.returns-in-65-to-90-2
unfolding class_of member
returns-in-65-to-90-2 c = interval 1 97 26 c.args.b refl (search rules) (omega arith) (omega arith)

pub returns-in_default : goal.returns-in_default
unfolding class_of member
returns-in_default c = interval 9 0 9 c.args.b refl (search rules) (omega arith) (omega arith)

pub returns-in_default-2 : goal.returns-in_default-2
unfolding class_of member
returns-in_default-2 c = interval 9 11 24 c.args.b refl (search rules) (omega arith) (omega arith)

pub returns-in_default-3 : goal.returns-in_default-3
unfolding class_of member
returns-in_default-3 c = interval 9 44 3 c.args.b refl (search rules) (omega arith) (omega arith)

pub returns-in_default-4 : goal.returns-in_default-4
unfolding class_of member
returns-in_default-4 c = interval 9 91 6 c.args.b refl (search rules) (omega arith) (omega arith)

pub returns-in_default-5 : goal.returns-in_default-5
unfolding class_of member
returns-in_default-5 c = interval 9 123 133 c.args.b refl (search rules) (omega arith) (omega arith)

pub returns-in-33 : goal.returns-in-33
unfolding class_of member
returns-in-33 c = at_key class_of 4 sign_keys c.args.b c.in-33.is refl

pub returns-in-33-2 : goal.returns-in-33-2
unfolding class_of member
returns-in-33-2 c = interval 4 39 5 c.args.b refl (search rules) (omega arith) (omega arith)

pub returns-in-9 : goal.returns-in-9
unfolding class_of member
returns-in-9 c = at_key class_of 0 (13 ∷ 32 ∷ []) c.args.b c.in-9.is refl

pub returns-in-9-2 : goal.returns-in-9-2
unfolding class_of member
returns-in-9-2 c = interval 0 9 2 c.args.b refl (search rules) (omega arith) (omega arith)
