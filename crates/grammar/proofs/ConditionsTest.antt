-- The test `lawful` of the roles of one name is the four conditions: each condition of two roles is compared with its test.
use mathlib.Core.Path.{◌≡◌, refl, sym}
use mathlib.Core.Bool.{Bool, true, ◌&&◌}
use mathlib.Core.Option.{Option, none, some}
use borrow.Author.Tests.{eqb-true, eq-eqb}
use Rattle.grammar.specs.Operator.{
  Fixity,
  Prefix,
  Infix,
  Postfix,
  Associativity,
  left,
  right,
  non,
  Role,
  Roles,
  same_associativity,
  Lawful,
  one_precedence_test,
  only,
  absent_role,
  beside_infix,
  lawful_associativities,
  lawful,
}
use Rattle.grammar.proofs.Logic.{and_left, and_right, and_intro, clash}

-- The parts of the test.
record Parts (r : Roles) : Type 0 where
  prefix_infix : one_precedence_test (r Prefix) (r Infix) ≡ true
  infix_postfix : one_precedence_test (r Infix) (r Postfix) ≡ true
  prefix_postfix : one_precedence_test (r Prefix) (r Postfix) ≡ true
  associativities : lawful_associativities (r Prefix) (r Infix) (r Postfix) ≡ true

parts : (r : Roles) → lawful r ≡ true → Parts r
unfolding lawful
parts r e =
    let a : Bool = one_precedence_test (r Prefix) (r Infix) in
    let b : Bool = one_precedence_test (r Infix) (r Postfix) in
    let c : Bool = one_precedence_test (r Prefix) (r Postfix) in
    let d : Bool = lawful_associativities (r Prefix) (r Infix) (r Postfix) in
    let abc : a && b && c ≡ true = and_left (a && b && c) d e in
    let ab : a && b ≡ true = and_left (a && b) c abc in
    record {
      prefix_infix = and_left a b ab;
      infix_postfix = and_right a b ab;
      prefix_postfix = and_right (a && b) c abc;
      associativities = and_right (a && b && c) d e;
    }

-- Condition 1 of two roles.
precedence_sound :
    (x y : Option Role) → one_precedence_test x y ≡ true → (a b : Role) → x ≡ some a → y ≡ some b → a.precedence ≡ b.precedence
unfolding one_precedence_test
precedence_sound x y e a b p q = eqb-true a.precedence b.precedence (rw (p, q) at e)

precedence_complete :
    (x y : Option Role) → ((a b : Role) → x ≡ some a → y ≡ some b → a.precedence ≡ b.precedence) → one_precedence_test x y ≡ true
unfolding one_precedence_test
precedence_complete none none h = refl
precedence_complete none (some b) h = refl
precedence_complete (some a) none h = refl
precedence_complete (some a) (some b) h = eq-eqb a.precedence b.precedence (h a b refl refl)

-- A role, where there is one, has the associativity.
same_associativity_lem : (a b : Associativity) → same_associativity a b ≡ true → b ≡ a
unfolding same_associativity
same_associativity_lem left left e = refl
same_associativity_lem left right e = absurd (clash e refl)
same_associativity_lem left non e = absurd (clash e refl)
same_associativity_lem right left e = absurd (clash e refl)
same_associativity_lem right right e = refl
same_associativity_lem right non e = absurd (clash e refl)
same_associativity_lem non left e = absurd (clash e refl)
same_associativity_lem non right e = absurd (clash e refl)
same_associativity_lem non non e = refl

associativity_refl : (a : Associativity) → same_associativity a a ≡ true
unfolding same_associativity
associativity_refl left = refl
associativity_refl right = refl
associativity_refl non = refl

only_sound : (c : Associativity) (x : Option Role) → only c x ≡ true → (b : Role) → x ≡ some b → b.associativity ≡ c
unfolding only
only_sound c x e b p = same_associativity_lem c b.associativity (rw p at e)

only_complete : (c : Associativity) (x : Option Role) → ((b : Role) → x ≡ some b → b.associativity ≡ c) → only c x ≡ true
unfolding only
only_complete c none h = refl
only_complete c (some b) h = rw (h b refl) (associativity_refl c)

absent_sound : (x : Option Role) → absent_role x ≡ true → x ≡ none
unfolding absent_role
absent_sound none e = refl
absent_sound (some b) e = absurd (clash e refl)

absent_complete : (x : Option Role) → x ≡ none → absent_role x ≡ true
unfolding absent_role
absent_complete x e = rw e

-- Conditions 2 to 4, with an infix role.
beside_sound :
    (r : Roles) → lawful r ≡ true → (a : Role) → r Infix ≡ some a → (c : Associativity) → a.associativity ≡ c
    → beside_infix c (r Prefix) (r Postfix) ≡ true
unfolding lawful_associativities
beside_sound r e a p c s = rw (p, s) at (parts r e).associativities

beside_complete :
    (r : Roles) → Lawful r → (a : Role) → r Infix ≡ some a → (c : Associativity) → a.associativity ≡ c
    → beside_infix c (r Prefix) (r Postfix) ≡ true
unfolding beside_infix
beside_complete r l a p left s =
    and_intro (only_complete non (r Prefix) (l.infix_left a p s).0) (only_complete left (r Postfix) (l.infix_left a p s).1)
beside_complete r l a p right s =
    and_intro (only_complete right (r Prefix) (l.infix_right a p s).0) (absent_complete (r Postfix) (l.infix_right a p s).1)
beside_complete r l a p non s =
    and_intro (only_complete non (r Prefix) (l.infix_non a p s Prefix)) (only_complete non (r Postfix) (l.infix_non a p s Postfix))

associativities_complete : (r : Roles) → Lawful r → lawful_associativities (r Prefix) (r Infix) (r Postfix) ≡ true
unfolding lawful_associativities
associativities_complete r l = go (r Infix) refl
  where
    go : (x : Option Role) → r Infix ≡ x → lawful_associativities (r Prefix) x (r Postfix) ≡ true
    go none e = refl
    go (some a) e = beside_complete r l a e a.associativity refl

-- The test of the roles of one name is sound ..
pub lawful_sound : (r : Roles) → lawful r ≡ true → Lawful r
unfolding beside_infix
lawful_sound r e = record { one_precedence = equal; infix_non = beside_non; infix_left = beside_left; infix_right = beside_right }
  where
    equal : (f g : Fixity) (a b : Role) → r f ≡ some a → r g ≡ some b → a.precedence ≡ b.precedence
    equal Prefix Prefix a b p q = cc
    equal Prefix Infix a b p q = precedence_sound (r Prefix) (r Infix) (parts r e).prefix_infix a b p q
    equal Prefix Postfix a b p q = precedence_sound (r Prefix) (r Postfix) (parts r e).prefix_postfix a b p q
    equal Infix Prefix a b p q = sym (precedence_sound (r Prefix) (r Infix) (parts r e).prefix_infix b a q p)
    equal Infix Infix a b p q = cc
    equal Infix Postfix a b p q = precedence_sound (r Infix) (r Postfix) (parts r e).infix_postfix a b p q
    equal Postfix Prefix a b p q = sym (precedence_sound (r Prefix) (r Postfix) (parts r e).prefix_postfix b a q p)
    equal Postfix Infix a b p q = sym (precedence_sound (r Infix) (r Postfix) (parts r e).infix_postfix b a q p)
    equal Postfix Postfix a b p q = cc

    beside_non :
        (a : Role) → r Infix ≡ some a → a.associativity ≡ non → (f : Fixity) (b : Role) → r f ≡ some b → b.associativity ≡ non
    beside_non a p s Prefix b q =
        only_sound non (r Prefix) (and_left (only non (r Prefix)) (only non (r Postfix)) (beside_sound r e a p non s)) b q
    beside_non a p s Infix b q = cc
    beside_non a p s Postfix b q =
        only_sound non (r Postfix) (and_right (only non (r Prefix)) (only non (r Postfix)) (beside_sound r e a p non s)) b q

    beside_left :
        (a : Role) → r Infix ≡ some a → a.associativity ≡ left
        → ((b : Role) → r Prefix ≡ some b → b.associativity ≡ non) × ((b : Role) → r Postfix ≡ some b → b.associativity ≡ left)
    beside_left a p s =
        let h : only non (r Prefix) && only left (r Postfix) ≡ true = beside_sound r e a p left s in
        (only_sound non (r Prefix) (and_left _ (only left (r Postfix)) h), only_sound left (r Postfix) (and_right (only non (r Prefix)) _ h))

    beside_right :
        (a : Role) → r Infix ≡ some a → a.associativity ≡ right
        → ((b : Role) → r Prefix ≡ some b → b.associativity ≡ right) × (r Postfix ≡ none)
    beside_right a p s =
        let h : only right (r Prefix) && absent_role (r Postfix) ≡ true = beside_sound r e a p right s in
        (only_sound right (r Prefix) (and_left _ (absent_role (r Postfix)) h), absent_sound (r Postfix) (and_right (only right (r Prefix)) _ h))

-- .. and complete.
pub lawful_complete : (r : Roles) → Lawful r → lawful r ≡ true
unfolding lawful
lawful_complete r l = and_intro (and_intro (and_intro (equal Prefix Infix) (equal Infix Postfix)) (equal Prefix Postfix)) (associativities_complete r l)
  where
    equal : (f g : Fixity) → one_precedence_test (r f) (r g) ≡ true
    equal f g = precedence_complete (r f) (r g) (l.one_precedence f g)
