-- Declarations as document 01 allows them declare precedences from 1 to 1,200, so every role in force has one.
use mathlib.Core.Path.{◌≡◌, refl, subst}
use mathlib.Core.Bool.{true}
use mathlib.Core.Logic.{◌⊎◌, inl, inr}
use mathlib.Core.List.{List, [], ◌∷◌}
use mathlib.Core.Option.{Option, none, some}
use lib.Dec.{leb}
use borrow.Author.Tests.{leb-true}
use Rattle.grammar.specs.Bytes.{Bytes}
use Rattle.grammar.specs.Operator.{Fixity, Role, Table, role, allowed}
use Rattle.grammar.specs.Declaration.{
  Declaration,
  declares,
  clears,
  value,
  value_from,
  declare,
  declare_all,
  is_precedence,
  is_declaration,
  are_declarations,
  start_declarations,
  start_table,
  widest_precedence,
}
use Rattle.grammar.proofs.Logic.{and_left, and_right}
use Rattle.grammar.proofs.Operators.{both, role-after-declared, role_after_removed}
use Rattle.rows.specs.Codes.{Fit, Bounded}

-- A table is bounded if each role that is there fits.
by_roles : (T : Table) → ((m : Bytes) (f : Fixity) (r : Role) → role T m f ≡ some r → Fit (some r)) → Bounded T
by_roles T h m f = go (role T m f) refl
  where
    go : (o : Option Role) → role T m f ≡ o → Fit (role T m f)
    go none e = rw e tt
    go (some r) e = rw e (h m f r e)

bounded_role : (T : Table) → Bounded T → (m : Bytes) (f : Fixity) (r : Role) → role T m f ≡ some r → Fit (some r)
bounded_role T b m f r e = subst Fit e (b m f)

bounded_declare : (T : Table) (d : Declaration) → Bounded T → is_declaration d ≡ true → Bounded (declare T d)
unfolding declare is_declaration is_precedence
bounded_declare T (declares f a d m) p e = by_roles _ λ n g b h.
    go n g b (role-after-declared m n f g (record { precedence = value d; associativity = a }) b T h)
  where
    level : is_precedence d ≡ true
    level = and_right (allowed f a) _ e

    go : (n : Bytes) (g : Fixity) (b : Role) → (record { precedence = value d; associativity = a } ≡ b) ⊎ (role T n g ≡ some b) → Fit (some b)
    go n g b (inl k) =
        rw (← k) (
          leb-true 1 (value d) (and_left (leb 1 (value d)) _ level),
          leb-true (value d) widest_precedence (and_right (leb 1 (value d)) _ level),
        )
    go n g b (inr k) = bounded_role T p n g b k
bounded_declare T (clears m) p e = by_roles _ λ n g b h. bounded_role T p n g b (role_after_removed m n g b T h)

pub bounded_declared : (T : Table) (ds : List Declaration) → Bounded T → are_declarations ds ≡ true → Bounded (declare_all T ds)
unfolding declare_all are_declarations
bounded_declared T [] p e = p
bounded_declared T (d ∷ ds) p e =
    let (h, k) = both (is_declaration d) (are_declarations ds) e in
    bounded_declared (declare T d) ds (bounded_declare T d p h) k

pub bounded_start : Bounded start_table
unfolding role start_table start_declarations are_declarations is_declaration allowed is_precedence value value_from
bounded_start = bounded_declared [] start_declarations (λ m f. tt) refl
