-- Tables under which an operator can be tested as it arrives: whether it turns out infix or postfix, it admits the same on its left.
use mathlib.Core.Path.{◌≡◌, refl, sym, ap₂, ◌∙◌}
use mathlib.Core.Bool.{Bool, true, false, ◌&&◌, ◌||◌, not}
use lib.Dec.{ltb, eqb}
use mathlib.Core.Option.{Option, none, some}
use Rattle.grammar.specs.Bytes.{Bytes}
use Rattle.grammar.specs.Operator.{Prefix, Infix, Postfix, Associativity, left, right, non, Role, Table, role, Conditions, Permitted, apart, conditions}
use Rattle.grammar.specs.SpanTree.{fixity_by, role_of_fixity, is_left, root_precedence, right_root, on_left, admits_equal, admits}
use Rattle.grammar.specs.Climb.{first_role, left_role}
use Rattle.grammar.proofs.Logic.{impossible}
use Rattle.grammar.proofs.Unambiguous.{Unambiguous}

abbrev pub OneSide : Table → Type 0
OneSide T =
    (m : Bytes) (a b : Role) → role T m Infix ≡ some a → role T m Postfix ≡ some b → is_left a.associativity ≡ is_left b.associativity

conditions_one_side : (T : Table) → Conditions T → OneSide T
unfolding is_left
conditions_one_side T h m a b e f = go a.associativity refl
  where
    go : (s : Associativity) → a.associativity ≡ s → is_left a.associativity ≡ is_left b.associativity
    go left g = rw (g, ((h m).infix_left a e g).1 b f)
    go right g = let n = ((h m).infix_right a e g).1 in impossible cc
    go non g = rw (g, (h m).infix_non a e g Postfix b f)

pub permitted_one_side : (T : Table) → Permitted T → OneSide T
permitted_one_side T (apart h) = λ m a b e f. absurd (h m a b e f)
permitted_one_side T (conditions h) = conditions_one_side T h

-- The role by which an operator comes: behind an operand, or behind none.
unfoldable pub coming : Table → Bool → Bytes → Option Role
coming T true m = left_role T m
coming T false m = role T m Prefix

-- Roles that admit the same on the left.
pub record Alike (q d : Role) : Type 0 where
  pub precedence : q.precedence ≡ d.precedence
  pub side : is_left q.associativity ≡ is_left d.associativity

pub admits_alike : (q d : Role) (o : Option Role) → Alike q d → admits on_left q o ≡ admits on_left d o
unfolding admits admits_equal
admits_alike q d o h =
    ap₂ (λ p left. ltb (root_precedence o) p || (eqb (root_precedence o) p && (left && not (right_root o)))) h.precedence h.side

same_alike : (q d : Role) → some q ≡ some d → Alike q d
same_alike q d e = let f : q ≡ d = cc in rw f (record { precedence = refl; side = refl })

-- The role that an operator turns out to have is like that by which it comes.
pub comes_alike :
    (T : Table) → Unambiguous T → OneSide T → (m : Bytes) (b x : Bool) (q d : Role) → role_of_fixity T m (fixity_by b x) ≡ some q
    → coming T b m ≡ some d → Alike q d
unfolding fixity_by role_of_fixity coming left_role first_role
comes_alike T clear side m true true q d e f = same_alike q d (rw e at f)
comes_alike T clear side m true false q d e f = go (role T m Infix) refl
  where
    go : (o : Option Role) → role T m Infix ≡ o → Alike q d
    go none g = same_alike q d (sym e ∙ rw g at f)
    go (some a) g =
        let h : some a ≡ some d = rw g at f in
        let k : a ≡ d = cc in
        rw (← k) (record { precedence = sym (clear.one_precedence m a q g e); side = sym (side m a q g e) })
comes_alike T clear side m false true q d e f = same_alike q d (sym e ∙ f)
comes_alike T clear side m false false q d e f = impossible cc

-- An operator that comes in some role turns out to have one.
pub comes_some :
    (T : Table) (m : Bytes) (b : Bool) (d : Role) → coming T b m ≡ some d → role_of_fixity T m (fixity_by b false) ≡ none
    → role_of_fixity T m (fixity_by b true) ≡ some d
unfolding fixity_by role_of_fixity coming left_role first_role
comes_some T m true d f e = go (role T m Infix) refl
  where
    go : (o : Option Role) → role T m Infix ≡ o → role T m Infix ≡ some d
    go none g = let h : role T m Postfix ≡ some d = rw g at f in impossible cc
    go (some a) g = g ∙ rw g at f
comes_some T m false d f e = f
