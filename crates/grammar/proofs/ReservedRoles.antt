-- The reserved operators have, in every span of a text past checks 1 to 10 and 17, the roles that they start with. A declaration that the
-- checks let pass names another operator, and it changes the roles of that one alone; so the bodies of blocks keep them, from the outermost in.
-- As they are always in force, a declaration of one of them could not be one too many: rows 17 and 9 never meet in one declaration.
use mathlib.Core.Path.{◌≡◌, refl, sym, ap, ◌∙◌}
use mathlib.Core.Bool.{Bool, true, false, ◌||◌}
use mathlib.Core.Logic.{◌⊎◌, inl, inr, ⊎_elim}
use mathlib.Core.List.{List, [], ◌∷◌}
use Prim.Native.Nat.{ℕ, zero, suc, ◌≤◌}
use native.Mathlib.Omega.{arith}
use lib.ListN.{length}
use Rattle.grammar.specs.Bytes.{Bytes, bytes, same, All}
use Rattle.grammar.specs.Token.{Token}
use Rattle.grammar.specs.Operator.{
  Fixity,
  Prefix,
  Infix,
  Postfix,
  Role,
  Table,
  role,
  is_some,
  has_role,
  in_force,
  same_fixity,
  replaced,
  declare_role,
  remove_roles,
  listed,
}
use Rattle.grammar.specs.Declaration.{
  Declaration,
  declares,
  clears,
  declare,
  declare_all,
  declarations,
  all_tokens,
  start_declarations,
  start_table,
  value,
  operator_of,
  is_reserved,
  Free,
}
use Rattle.grammar.specs.Span.{pair, scope, items}
use Rattle.grammar.specs.Spans.{Span, pair_span, body_span, SpanIn, itself, in_pair, in_body, SpanOf}
use Rattle.grammar.specs.Blocks.{body_table}
use Rattle.grammar.specs.Fault.{Past}
use Rattle.grammar.specs.Answer.{tokens_of}
use Rattle.grammar.proofs.Logic.{clash, same_eq, or_cases}
use Rattle.grammar.proofs.Scanned.{length_tokens}
use Rattle.grammar.proofs.Operators.{role-declared-other, role_removed_other, alive_start, alive_declared, listed_in_force}
use Rattle.grammar.proofs.DeclarationTokens.{declarations_told}
use Rattle.grammar.proofs.Nested.{nesting_anywhere}
use Rattle.grammar.proofs.ItemsRelation.{items-only}
use Rattle.grammar.proofs.SpansRelation.{PastUnder, past_at}
use Rattle.grammar.proofs.Faults.{past_checked}

module _ (m : Bytes) (reserved : is_reserved m ≡ true) (f : Fixity) where
  -- A declaration of another operator.
  other_operator : (d : Declaration) → Free d → same m (operator_of d) ≡ false
  other_operator d free = go (same m (operator_of d)) refl
    where
      go : (b : Bool) → same m (operator_of d) ≡ b → b ≡ false
      go true e = absurd (clash (sym (ap is_reserved (same_eq m (operator_of d) e)) ∙ reserved) free)
      go false e = refl

  declare_keeps : (T : Table) (d : Declaration) → Free d → role (declare T d) m f ≡ role T m f
  unfolding declare operator_of
  declare_keeps T (declares g a c n) free = role-declared-other n m g f _ T (other_operator (declares g a c n) free)
  declare_keeps T (clears n) free = role_removed_other n m T f (other_operator (clears n) free)

  declarations_keep : (T : Table) (ds : List Declaration) → All Free ds → role (declare_all T ds) m f ≡ role T m f
  unfolding declare_all
  declarations_keep T [] free = refl
  declarations_keep T (d ∷ ds) free = declarations_keep (declare T d) ds free.1 ∙ declare_keeps T d free.0

  -- A span in a span, and so every span of a text.
  span_keeps :
      {s r : Span} → SpanIn s r → (k : ℕ) (ts : List Token) → s.contents ≡ items ts → PastUnder k s.table ts
      → role r.table m f ≡ role s.table m f
  unfolding body_table
  span_keeps h zero ts c p = absurd (omega arith)
  span_keeps itself (suc k) ts c p = refl
  span_keeps {s} (in_pair xs us ys ks e i h) (suc k) ts c p =
      span_keeps {s = pair_span s xs ks} h k us (items-only us ks i) (past_at k s.table ts xs (pair us) ys p (sym c ∙ e))
  span_keeps {s} (in_body xs ds us ys ks e i h) (suc k) ts c p =
      let (d, q, free) = past_at k s.table ts xs (scope (all_tokens ds) us) ys p (sym c ∙ e) in
      let t = declarations_told (declarations (all_tokens ds)) ds d in
      span_keeps {s = body_span s xs ds ks} h k us (items-only us ks i) (rw t at q) ∙ declarations_keep s.table ds (rw t at free)

  pub reserved_roles : (text : Bytes) (ts : List Token) → Past text ts → (s : Span) → SpanOf ts s → role s.table m f ≡ role start_table m f
  reserved_roles text ts past s (is, i, h) =
      let (ps, c, e) = past_checked text ts past in
      let l = length_tokens ps in
      let under : PastUnder (suc (length ps)) start_table (tokens_of ps) =
      ((λ j. nesting_anywhere (tokens_of ps) [] 0 j c.nested), omega arith, (0, c.declared)) in
      span_keeps h (suc (length ps)) ts (items-only ts is i) (rw e at under)

-- A declaration of an operator that is listed leaves no more operators than there were.
declared-length : (m : Bytes) (f : Fixity) (r : Role) (T : Table) → listed m T ≡ true → length (declare_role m f r T) ≡ length T
unfolding listed declare_role
declared-length m f r [] h = absurd (clash h refl)
declared-length m f r (o ∷ T) h = go (same m o.name) refl (declared-length m f r T)
  where
    go :
        (b : Bool) → same m o.name ≡ b → (listed m T ≡ true → length (declare_role m f r T) ≡ length T)
        → length (declare_role m f r (o ∷ T)) ≡ length (o ∷ T)
    go true e k = rw (e, declare_role)
    go false e k = rw (e, declare_role) (ap suc (k (rw (e, listed) at h)))

removed_length : (m : Bytes) (T : Table) → length (remove_roles m T) ≤ length T
unfolding remove_roles
removed_length m [] = omega arith
removed_length m (o ∷ T) = go (same m o.name) refl (removed_length m T)
  where
    go : (b : Bool) → same m o.name ≡ b → length (remove_roles m T) ≤ length T → length (remove_roles m (o ∷ T)) ≤ length (o ∷ T)
    go true e k = rw (e, remove_roles) (omega arith)
    go false e k = rw (e, remove_roles) (omega arith)

-- The reserved operators are these three, ..
abbrev Named : Bytes → Type 0
Named m = (m ≡ bytes "and") ⊎ ((m ≡ bytes "or") ⊎ (m ≡ bytes "not"))

pub names_reserved_lem : (m : Bytes) → Named m → is_reserved m ≡ true
unfolding is_reserved same
names_reserved_lem m = ⊎_elim (λ h. rw h refl) (⊎_elim (λ h. rw h refl) (λ h. rw h refl))

-- .. and no other.
pub reserved_names : (m : Bytes) → is_reserved m ≡ true → Named m
unfolding is_reserved
reserved_names m e =
    let and = same m (bytes "and") in
    let or = same m (bytes "or") in
    ⊎_elim
    (λ d. ⊎_elim (λ h. inl (same_eq m (bytes "and") h)) (λ h. inr (inl (same_eq m (bytes "or") h))) (or_cases and or d))
    (λ h. inr (inr (same_eq m (bytes "not") h)))
    (or_cases (and || or) (same m (bytes "not")) e)

-- They are in force at the start, and behind declarations of others.
reserved_starts : (m : Bytes) → is_reserved m ≡ true → in_force start_table m ≡ true
unfolding in_force has_role is_some role start_table start_declarations declare_all declare declare_role replaced same_fixity same
reserved_starts m e = ⊎_elim (λ h. rw h refl) (⊎_elim (λ h. rw h refl) (λ h. rw h refl)) (reserved_names m e)

reserved_listed : (m : Bytes) → is_reserved m ≡ true → (ds : List Declaration) → All Free ds → listed m (declare_all start_table ds) ≡ true
unfolding in_force has_role
reserved_listed m e ds free =
    let T = declare_all start_table ds in
    let keeps : (f : Fixity) → role T m f ≡ role start_table m f = λ f. declarations_keep m e f start_table ds free in
    listed_in_force T (alive_declared start_table ds alive_start) m
    ∙ rw (keeps Prefix, keeps Infix, keeps Postfix) refl
    ∙ reserved_starts m e

-- Behind declarations that pass check 17, a declaration of a reserved operator is never the 65th operator.
pub reserved_adds_none :
    (ds : List Declaration) → All Free ds → (d : Declaration) → is_reserved (operator_of d) ≡ true
    → length (declare (declare_all start_table ds) d) ≤ length (declare_all start_table ds)
unfolding declare operator_of
reserved_adds_none ds free (declares f a c m) e =
    omega (arith, declared-length m f (record { precedence = value c; associativity = a }) (declare_all start_table ds) (reserved_listed m e ds free))
reserved_adds_none ds free (clears m) e = removed_length m (declare_all start_table ds)
