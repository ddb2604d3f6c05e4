-- Tables under which a span has at most one tree. The pass from left to right takes an operator behind an operand by one precedence and
-- never goes back, so the roles of an operator that is both infix and postfix must agree as far as the pass goes by them.
use mathlib.Core.Path.{◌≡◌, refl, ◌∙◌}
use mathlib.Core.Bool.{true}
use mathlib.Core.Option.{Option, none, some}
use Prim.Native.Nat.{ℕ, ◌≤◌}
use native.Mathlib.Omega.{arith}
use Rattle.grammar.specs.Bytes.{Bytes}
use Rattle.grammar.specs.Operator.{Prefix, Infix, Postfix, Associativity, left, right, non, Role, Table, role, Conditions, Apart, Permitted, apart, conditions}
use Rattle.grammar.specs.SpanTree.{is_right}
use Rattle.grammar.specs.Climb.{first_role, left_role}
use Rattle.grammar.proofs.Logic.{clash, impossible}

-- An operand of the precedence `p` may stand on the right of an operator in the role `q`.
abbrev pub Keeps : Role → ℕ → Type 0
Keeps q p = (p ≤ q.precedence) × (p ≡ q.precedence → is_right q.associativity ≡ true)

-- Of an operator `m` that is both infix and postfix: the two roles have one precedence; and where a prefix operator `n` may stand on the
-- right of the infix one, and could also stand behind an operand, it does not close the postfix one. (Else two trees may be there: with B
-- prefix right 1, infix left 2 and postfix left 2, `a B B b` is a B (B b) and (a B) B b.)
pub record Unambiguous (T : Table) : Type 0 where
  pub one_precedence : (m : Bytes) (a b : Role) → role T m Infix ≡ some a → role T m Postfix ≡ some b → a.precedence ≡ b.precedence
  pub settled :
      (m n : Bytes) (a b c d : Role) → role T m Infix ≡ some a → role T m Postfix ≡ some b → role T n Prefix ≡ some c
      → left_role T n ≡ some d → Keeps a c.precedence → Keeps b d.precedence

right-right : (a : Associativity) → is_right a ≡ true → a ≡ right
unfolding is_right
right-right left e = absurd (clash e refl)
right-right right e = refl
right-right non e = absurd (clash e refl)

-- A table that meets the four conditions is such a table: by the fourth no infix role of the sort is right-associative.
module _ (T : Table) (h : Conditions T) where
  never_right : (m : Bytes) (a b : Role) → role T m Infix ≡ some a → role T m Postfix ≡ some b → is_right a.associativity ≡ true → ⊥
  never_right m a b e f x =
      let y = ((h m).infix_right a e (right-right a.associativity x)).1 in
      impossible cc

  one_precedence_lem : (n : Bytes) (c d : Role) → role T n Prefix ≡ some c → left_role T n ≡ some d → c.precedence ≡ d.precedence
  unfolding left_role first_role
  one_precedence_lem n c d g k = go (role T n Infix) refl
    where
      go : (o : Option Role) → role T n Infix ≡ o → c.precedence ≡ d.precedence
      go none e = (h n).one_precedence Prefix Postfix c d g (rw e at k)
      go (some a) e = (h n).one_precedence Prefix Infix c d g (e ∙ rw e at k)

  conditions_unambiguous : Unambiguous T
  conditions_unambiguous =
      record {
        one_precedence = λ m a b e f. (h m).one_precedence Infix Postfix a b e f;
        settled = λ m n a b c d e f g k s.
            let p = (h m).one_precedence Infix Postfix a b e f in
            let q = one_precedence_lem n c d g k in
            (omega arith, λ x. absurd (never_right m a b e f (s.1 (omega arith))));
      }

-- So is one in which no operator is both infix and postfix (02, §2).
apart_unambiguous : (T : Table) → Apart T → Unambiguous T
apart_unambiguous T h =
    record { one_precedence = λ m a b e f. absurd (h m a b e f); settled = λ m n a b c d e f g k s. absurd (h m a b e f) }

pub permitted_unambiguous : (T : Table) → Permitted T → Unambiguous T
permitted_unambiguous T (apart h) = apart_unambiguous T h
permitted_unambiguous T (conditions h) = conditions_unambiguous T h
