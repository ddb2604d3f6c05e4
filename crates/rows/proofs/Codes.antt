-- Roles as numbers: which role a number stands for, by where it lies; that a role's number stands for that role; and what the tests of
-- `role` come to. Each law is by cases on the tests of the number.
use mathlib.Core.Path.{◌≡◌, refl, sym, ap, subst, ◌∙◌}
use mathlib.Core.Bool.{Bool, true, false, ◌&&◌, ◌||◌, not, and-true, and-false, or-true, or-false, Bool-set}
use mathlib.Core.Logic.{inl, inr}
use mathlib.Core.Option.{Option, none, some}
use Prim.Native.Nat.{ℕ, suc, ◌+◌, ◌-◌, ◌≤◌, ◌<◌}
use native.Mathlib.Omega.{arith}
use lib.Dec.{eqb, ltb, leb}
use borrow.Author.Tests.{ltb-false, eqb-true, leb-true, leb-false, lt-ltb, le-ltb, le-leb, lt-leb, eq-eqb, ne_eqb}
use Rattle.grammar.specs.Operator.{Fixity, Prefix, Infix, Postfix, Associativity, left, right, non, Role, Roles}
use Rattle.grammar.specs.SpanTree.{root_precedence, is_left, is_right, right_root, on_left, on_right, admits_equal, admits}
use Rattle.grammar.specs.Climb.{first_role}
use Rattle.grammar.proofs.Logic.{below, impossible, and_left, and_right, or_cases}
use Rattle.rows.specs.declared.role.Role as Coded
use Rattle.rows.specs.declared.roles.Note.{Note}
use Rattle.rows.specs.Codes.{side_code, role_code, role_of, roles_of, Fit, IsRole, between, is_role, arrival_of, gives_way_to}

-- The role of a number, by where it lies.
pub no_role : (c : ℕ) → c ≡ 0 → role_of c ≡ none
unfolding role_of
no_role c e = rw (eq-eqb c 0 e, role_of)

pub left-role : (c : ℕ) → (c ≡ 0 → ⊥) → c < 4096 → role_of c ≡ some (record { precedence = c - 2048; associativity = left })
unfolding role_of
left-role c h k = rw (ne_eqb c 0 h, lt-ltb c 4096 k, role_of)

pub non_role : (c : ℕ) → 4096 ≤ c → c < 6144 → role_of c ≡ some (record { precedence = c - 4096; associativity = non })
unfolding role_of
non_role c h k = rw (ne_eqb c 0 (λ e. omega arith), le-ltb c 4096 h, lt-ltb c 6144 k, role_of)

pub right-role : (c : ℕ) → 6144 ≤ c → role_of c ≡ some (record { precedence = c - 6144; associativity = right })
unfolding role_of
right-role c h = rw (ne_eqb c 0 (λ e. omega arith), le-ltb c 4096 (omega arith), le-ltb c 6144 h, role_of)

-- The four places of a number.
pub number_cases :
    {X : Type 0} (c : ℕ) → (c ≡ 0 → X) → ((c ≡ 0 → ⊥) → c < 4096 → X) → (4096 ≤ c → c < 6144 → X) → (6144 ≤ c → X) → X
number_cases c o l n r =
    below 0 c (λ p. below c 4096 (l (λ e. omega arith)) (λ h. below c 6144 (n h) r)) (λ z. o (omega arith))

-- A number of a role lies within its precedences.
pub left_bounds : (c : ℕ) → IsRole c → (c ≡ 0 → ⊥) → c < 4096 → (2049 ≤ c) × (c ≤ 3248)
left_bounds c f h k = let b = rw (left-role c h k) at f.1 in omega arith

pub non_bounds : (c : ℕ) → IsRole c → 4096 ≤ c → c < 6144 → (4097 ≤ c) × (c ≤ 5296)
non_bounds c f h k = let b = rw (non_role c h k) at f.1 in omega arith

pub right_bounds : (c : ℕ) → IsRole c → 6144 ≤ c → (6145 ≤ c) × (c ≤ 7344)
right_bounds c f h = let b = rw (right-role c h) at f.1 in omega arith

pub code_bound : (c : ℕ) → IsRole c → c ≤ 7344
code_bound c f =
    number_cases c (λ e. omega arith) (λ h k. omega (arith, left_bounds c f h k)) (λ h k. omega arith) (λ h. (right_bounds c f h).1)

-- A role's number stands for the role ..
abbrev a_role : ℕ → Associativity → Option Role
a_role p a = some (record { precedence = p; associativity = a })

sided : (a : Associativity) {c p : ℕ} → c ≡ p → a_role c a ≡ a_role p a
sided a e = ap (λ n. a_role n a) e

code_sided :
    (p : ℕ) (a : Associativity) → 1 ≤ p → p ≤ 1200
    → role_of (side_code a + p) ≡ some (record { precedence = p; associativity = a })
unfolding side_code
code_sided p left h k = left-role (2048 + p) (omega arith) (omega arith) ∙ sided left (omega arith)
code_sided p non h k = non_role (4096 + p) (omega arith) (omega arith) ∙ sided non (omega arith)
code_sided p right h k = right-role (6144 + p) (omega arith) ∙ sided right (omega arith)

pub role-code : (o : Option Role) → Fit o → role_of (role_code o) ≡ o
unfolding role_code
role-code none f = no_role 0 refl
role-code (some r) f = code_sided r.precedence r.associativity f.0 f.1

-- .. and is the number of it; 0 is that of none alone.
pub code-role : (o : Option Role) → Fit o → IsRole (role_code o)
code-role o f = (ap role_code (role-code o f), rw (role-code o f) f)

pub none_code : (o : Option Role) → Fit o → role_code o ≡ 0 → o ≡ none
none_code o f e = sym (role-code o f) ∙ no_role (role_code o) e

pub no_role_code : role_of 0 ≡ none
no_role_code = no_role 0 refl

-- A number that is not 0 stands for a role.
pub some_role : {X : Type 0} (c : ℕ) → (c ≡ 0 → ⊥) → ((q : Role) → role_of c ≡ some q → X) → X
some_role c d f =
    number_cases c (λ e. absurd (d e)) (λ h k. f _ (left-role c h k)) (λ h k. f _ (non_role c h k)) (λ h. f _ (right-role c h))

-- The precedence, at most 1,200.
pub no_precedence : (c : ℕ) → c ≡ 0 → root_precedence (role_of c) ≡ 0
unfolding root_precedence
no_precedence c e = ap root_precedence (no_role c e)

pub left_precedence : (c : ℕ) → (c ≡ 0 → ⊥) → c < 4096 → root_precedence (role_of c) ≡ c - 2048
unfolding root_precedence
left_precedence c h k = ap root_precedence (left-role c h k)

pub non_precedence : (c : ℕ) → 4096 ≤ c → c < 6144 → root_precedence (role_of c) ≡ c - 4096
unfolding root_precedence
non_precedence c h k = ap root_precedence (non_role c h k)

pub right_precedence : (c : ℕ) → 6144 ≤ c → root_precedence (role_of c) ≡ c - 6144
unfolding root_precedence
right_precedence c h = ap root_precedence (right-role c h)

pub precedence_bound : (c : ℕ) → IsRole c → root_precedence (role_of c) ≤ 1200
precedence_bound c f =
    number_cases
    c
    (λ e. omega (arith, no_precedence c e))
    (λ h k. omega (arith, left_precedence c h k, left_bounds c f h k))
    (λ h k. omega (arith, non_precedence c h k, non_bounds c f h k))
    (λ h. omega (arith, right_precedence c h, right_bounds c f h))

-- What an operator is when it comes, by the numbers of its roles.
module _ (p i q : ℕ) where
  pub arrival_infix : (i ≡ 0 → ⊥) → arrival_of (roles_of p i q) ≡ suc (root_precedence (role_of i))
  unfolding arrival_of roles_of first_role root_precedence
  arrival_infix d = some_role i d (λ r e. rw (arrival_of, e))

  pub arrival-postfix : i ≡ 0 → (q ≡ 0 → ⊥) → arrival_of (roles_of p i q) ≡ suc (root_precedence (role_of q))
  unfolding arrival_of roles_of first_role root_precedence
  arrival-postfix z d = some_role q d (λ r e. rw (arrival_of, no_role i z, e))

  pub arrival-prefix : i ≡ 0 → q ≡ 0 → (p ≡ 0 → ⊥) → arrival_of (roles_of p i q) ≡ 1
  unfolding arrival_of roles_of first_role
  arrival-prefix z y d = some_role p d (λ r e. rw (arrival_of, no_role i z, no_role q y, e))

  pub arrival_none : i ≡ 0 → q ≡ 0 → p ≡ 0 → arrival_of (roles_of p i q) ≡ 0
  unfolding arrival_of roles_of first_role
  arrival_none z y x = rw (arrival_of, no_role i z, no_role q y, no_role p x)

-- The same by the roles themselves: by their numbers they come to it, and it is at most one more than the widest precedence.
arrival_by : Option Role → Option Role → Option Role → ℕ
arrival_by p i q = elim (first_role i q) [ some r ↦ suc r.precedence | none ↦ elim p [ some r ↦ 1 | none ↦ 0 ] ]

by_roles : (r : Roles) → arrival_of r ≡ arrival_by (r Prefix) (r Infix) (r Postfix)
unfolding arrival_of arrival_by
by_roles r = refl

by_bound : (p i q : Option Role) → Fit i → Fit q → arrival_by p i q ≤ 1201
unfolding arrival_by first_role
by_bound p (some i) q f g = omega (arith, f.1)
by_bound p none (some q) f g = omega (arith, g.1)
by_bound (some p) none none f g = omega arith
by_bound none none none f g = omega arith

pub arrival_bound : (r : Roles) → ((f : Fixity) → Fit (r f)) → arrival_of r ≤ 1201
arrival_bound r f = rw (by_roles r) (by_bound (r Prefix) (r Infix) (r Postfix) (f Infix) (f Postfix))

pub arrival_coded :
    (r : Roles) → ((f : Fixity) → Fit (r f))
    → arrival_of (roles_of (role_code (r Prefix)) (role_code (r Infix)) (role_code (r Postfix))) ≡ arrival_of r
unfolding roles_of
arrival_coded r f =
    by_roles (roles_of (role_code (r Prefix)) (role_code (r Infix)) (role_code (r Postfix)))
    ∙ rw (role-code (r Prefix) (f Prefix), role-code (r Infix) (f Infix), role-code (r Postfix) (f Postfix)) (sym (by_roles r))

-- Two tests that hold of the same numbers.
same_test : (a b c d : ℕ) → (a ≤ b → c ≤ d) → (c ≤ d → a ≤ b) → leb a b ≡ leb c d
same_test a b c d f g = go (leb a b) refl
  where
    go : (t : Bool) → leb a b ≡ t → leb a b ≡ leb c d
    go true e = e ∙ sym (le-leb c d (f (leb-true a b e)))
    go false e = let h = leb-false a b e in e ∙ sym (lt-leb c d (below d c (λ k. k) (λ k. absurd (omega (arith, g k)))))

-- Below, or the same where that is admitted.
at_most : (a b : ℕ) (t : Bool) → t ≡ true → ltb a b || (eqb a b && t) ≡ leb a b
at_most a b t e = rw (e, and-true) (go (leb a b) refl)
  where
    within : a ≤ b → (u : Bool) → ltb a b ≡ u → ltb a b || eqb a b ≡ true
    within h true e = rw e
    within h false e = rw e (eq-eqb a b (omega (arith, ltb-false a b e)))

    go : (u : Bool) → leb a b ≡ u → ltb a b || eqb a b ≡ leb a b
    go true e = within (leb-true a b e) (ltb a b) refl ∙ sym e
    go false e =
        let h = leb-false a b e in rw (le-ltb a b (omega arith), ne_eqb a b (λ q. omega arith), e)

only_below : (a b : ℕ) (t : Bool) → t ≡ false → ltb a b || (eqb a b && t) ≡ ltb a b
only_below a b t e = rw (e, and-false, or-false)

-- A waiting operator gives way: what its number says of what comes.
module _ (c a : ℕ) where
  pub gives_none : c ≡ 0 → gives_way_to (role_of c) a ≡ false
  unfolding gives_way_to
  gives_none e = rw (no_role c e)

  pub gives_left : IsRole c → (c ≡ 0 → ⊥) → c < 4096 → gives_way_to (role_of c) a ≡ ltb c (a + 2048)
  unfolding gives_way_to is_right
  gives_left f h k =
      let b = left_bounds c f h k in
      rw (left-role c h k, at_most (suc (c - 2048)) a true refl)
      (same_test (suc (c - 2048)) a (suc c) (a + 2048) (λ l. omega arith) (λ l. omega arith))

  pub gives_non : IsRole c → 4096 ≤ c → c < 6144 → gives_way_to (role_of c) a ≡ ltb c (a + 4096)
  unfolding gives_way_to is_right
  gives_non f h k =
      rw (non_role c h k, at_most (suc (c - 4096)) a true refl)
      (same_test (suc (c - 4096)) a (suc c) (a + 4096) (λ l. omega arith) (λ l. omega arith))

  pub gives_right : 6144 ≤ c → gives_way_to (role_of c) a ≡ ltb (c + 1) (a + 6144)
  unfolding gives_way_to is_right
  gives_right h =
      rw (right-role c h, only_below (suc (c - 6144)) a false refl)
      (same_test (suc (suc (c - 6144))) a (suc (c + 1)) (a + 6144) (λ l. omega arith) (λ l. omega arith))

-- The associativity of a number's role.
pub right-root : (c : ℕ) → right_root (role_of c) ≡ leb 6144 c
unfolding right_root is_right
right-root c =
    number_cases
    c
    (λ e. rw (no_role c e, lt-leb 6144 c (omega arith)))
    (λ h k. rw (left-role c h k, lt-leb 6144 c (omega arith)))
    (λ h k. rw (non_role c h k, lt-leb 6144 c k))
    (λ h. rw (right-role c h, le-leb 6144 c h))

module _ (c : ℕ) (q : Role) (e : role_of c ≡ some q) where
  pub is_right-role : is_right q.associativity ≡ leb 6144 c
  unfolding right_root
  is_right-role = sym (ap right_root e) ∙ right-root c

  pub is_left-role : is_left q.associativity ≡ ltb c 4096
  unfolding is_left
  is_left-role =
      number_cases
      c
      (λ z. impossible (cc (no_role c z)))
      (λ h k. ap is_left (sym (same (left-role c h k))) ∙ sym (lt-ltb c 4096 k))
      (λ h k. ap is_left (sym (same (non_role c h k))) ∙ sym (le-ltb c 4096 h))
      (λ h. ap is_left (sym (same (right-role c h))) ∙ sym (le-ltb c 4096 (omega arith)))
    where
      same : {p : ℕ} {a : Associativity} → role_of c ≡ some (record { precedence = p; associativity = a }) → a ≡ q.associativity
      same d = cc

  pub role_precedence : q.precedence ≡ root_precedence (role_of c)
  unfolding root_precedence
  role_precedence = sym (ap root_precedence e)

-- An operand is admitted up to the operator's precedence, or below it.
module _ (c o : ℕ) (q : Role) (e : role_of c ≡ some q) where
  pub admits-left-same :
      c < 4096 → o < 6144 → admits on_left q (role_of o) ≡ leb (root_precedence (role_of o)) (root_precedence (role_of c))
  unfolding admits admits_equal
  admits-left-same h k =
      let t : is_left q.associativity && not (right_root (role_of o)) ≡ true =
      rw (is_left-role c q e, right-root o, lt-ltb c 4096 h, lt-leb 6144 o k) in
      rw (← role_precedence c q e) (at_most (root_precedence (role_of o)) q.precedence _ t)

  left_below :
      ltb c 4096 && not (leb 6144 o) ≡ false → admits on_left q (role_of o) ≡ ltb (root_precedence (role_of o)) (root_precedence (role_of c))
  unfolding admits admits_equal
  left_below h =
      let t : is_left q.associativity && not (right_root (role_of o)) ≡ false = rw (is_left-role c q e, right-root o) h in
      rw (← role_precedence c q e) (only_below (root_precedence (role_of o)) q.precedence _ t)

  pub admits_left_below : 4096 ≤ c → admits on_left q (role_of o) ≡ ltb (root_precedence (role_of o)) (root_precedence (role_of c))
  admits_left_below h = left_below (rw (le-ltb c 4096 h))

  pub admits-left-right : 6144 ≤ o → admits on_left q (role_of o) ≡ ltb (root_precedence (role_of o)) (root_precedence (role_of c))
  admits-left-right h = left_below (rw (le-leb 6144 o h, and-false))

  pub admits-right-same : 6144 ≤ c → admits on_right q (role_of o) ≡ leb (root_precedence (role_of o) + 6144) c
  unfolding admits admits_equal
  admits-right-same h =
      let p = role_precedence c q e ∙ right_precedence c h in
      at_most (root_precedence (role_of o)) q.precedence _ (is_right-role c q e ∙ le-leb 6144 c h)
      ∙ same_test (root_precedence (role_of o)) q.precedence (root_precedence (role_of o) + 6144) c (λ l. omega arith) (λ l. omega arith)

  pub admits_right_below : c < 6144 → admits on_right q (role_of o) ≡ ltb (root_precedence (role_of o)) (root_precedence (role_of c))
  unfolding admits admits_equal
  admits_right_below h =
      rw (← role_precedence c q e) (only_below (root_precedence (role_of o)) q.precedence _ (is_right-role c q e ∙ lt-leb 6144 c h))

-- The test of a number says whether it is that of a role.
between_true : (low high c : ℕ) → low ≤ c → c ≤ high → between low high c ≡ true
between_true low high c h k = rw (le-leb low c h, le-leb c high k)

between_bounds : (low high c : ℕ) → between low high c ≡ true → (low ≤ c) × (c ≤ high)
between_bounds low high c e = (leb-true low c (and_left _ _ e), leb-true c high (and_right _ _ e))

pub is_role_test : (c : ℕ) → IsRole c → is_role c ≡ true
is_role_test c f =
    number_cases
    c
    (λ e. rw (eq-eqb c 0 e))
    (λ h k. let b = left_bounds c f h k in rw (between_true 2049 3248 c b.0 b.1) (or-true (eqb c 0)))
    (λ h k.
    let b = non_bounds c f h k in
    rw (between_true 4097 5296 c b.0 b.1, or-true (between 2049 3248 c)) (or-true (eqb c 0)))
    (λ h.
    let b = right_bounds c f h in
    rw (between_true 6145 7344 c b.0 b.1, or-true (between 4097 5296 c), or-true (between 2049 3248 c)) (or-true (eqb c 0)))

sided_role : (a : Associativity) (c : ℕ) → side_code a < c → c ≤ side_code a + 1200 → IsRole c
unfolding role_code
sided_role a c h k =
    let p = c - side_code a in
    let e : side_code a + p ≡ c = omega arith in
    subst IsRole e (code-role (a_role p a) (omega arith, omega arith))

pub test_is_role : (c : ℕ) → is_role c ≡ true → IsRole c
unfolding side_code role_code
test_is_role c e = elim (or_cases _ _ e) [ inl z ↦ rw (eqb-true c 0 z) (code-role none tt) | inr f ↦ some_side f ]
  where
    in_side : (a : Associativity) → between (side_code a + 1) (side_code a + 1200) c ≡ true → IsRole c
    in_side a e = let b = between_bounds (side_code a + 1) (side_code a + 1200) c e in sided_role a c (omega arith) b.1

    some_side : between 2049 3248 c || (between 4097 5296 c || between 6145 7344 c) ≡ true → IsRole c
    some_side e =
        elim (or_cases _ _ e) [ inl z ↦ in_side left z | inr f ↦ elim (or_cases _ _ f) [ inl z ↦ in_side non z | inr z ↦ in_side right z ] ]

-- So the number of a role of the code is that of a role.
pub role_valid : (r : Coded.Role) → IsRole r.code
role_valid r = test_is_role r.code r.valid

pub code_small : (r : Coded.Role) → r.code ≤ 7344
code_small r = code_bound r.code (role_valid r)

pub precedence_small : (r : Coded.Role) → root_precedence (role_of r.code) ≤ 1200
precedence_small r = precedence_bound r.code (role_valid r)

-- Roles with one number are one role.
role_with : (c : ℕ) → is_role c ≡ true → Coded.Role
role_with c v = record { code = c; valid = v }

pub same_role : (r s : Coded.Role) → r.code ≡ s.code → r ≡ s
unfolding role_with
same_role r s e =
    subst (λ c. (v : is_role c ≡ true) → r ≡ role_with c v) e (λ v. ap (role_with r.code) (Bool-set (is_role r.code) true r.valid v)) s.valid

-- Notes with the same numbers and the same arrival are one note.
note_with : Coded.Role → Coded.Role → Coded.Role → ℕ → Note
note_with p i q a = record { roles = record { prefix = p; «infix» = i; postfix = q }; arrival = a }

with_same : {p i q p' i' q' : Coded.Role} {a a' : ℕ} → p ≡ p' → i ≡ i' → q ≡ q' → a ≡ a' → note_with p i q a ≡ note_with p' i' q' a'
with_same e f g h = cc

pub same_note :
    (m n : Note) → m.roles.prefix.code ≡ n.roles.prefix.code → m.roles.«infix».code ≡ n.roles.«infix».code
    → m.roles.postfix.code ≡ n.roles.postfix.code → m.arrival ≡ n.arrival → m ≡ n
unfolding note_with
same_note m n p i q a = with_same (same_role _ _ p) (same_role _ _ i) (same_role _ _ q) a

-- What the methods of a role and of the roles of an operator are proved by.
pub ruleset precedences = (role_valid, no_precedence, left_precedence, non_precedence, right_precedence)

pub ruleset arrivals = (precedence_small, arrival_infix, arrival-postfix, arrival-prefix, arrival_none)
