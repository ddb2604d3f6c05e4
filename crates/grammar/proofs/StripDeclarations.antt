-- Declarations without the zeros of their digits mean the same: they change the operators in force as before and pass checks 8 to 10
-- and 17 as before, since these look at the value of the digits and at the operator alone. Declarations that mean the same are the same without these zeros.
use mathlib.Core.Path.{◌≡◌, refl, ap}
use mathlib.Core.Logic.{◌↔◌}
use mathlib.Core.Bool.{true}
use mathlib.Core.List.{List, [], ◌∷◌, map, tail-eq_of_cons-eq}
use Prim.Native.Nat.{ℕ}
use native.Mathlib.Omega.{arith}
use lib.ListN.{length}
use Rattle.grammar.specs.Bytes.{Bytes}
use Rattle.grammar.specs.Token.{is_number}
use Rattle.grammar.specs.Operator.{Fixity, Associativity, Table}
use Rattle.grammar.specs.Outcome.{passed}
use Rattle.grammar.specs.Declaration.{
  Declaration,
  declares,
  clears,
  value,
  declare,
  declare_all,
  all_tokens,
  is_precedence,
  is_declaration,
  are_declarations,
  operator_of,
  enter,
}
use Rattle.grammar.specs.Canonical.{strip_declaration}
use Rattle.grammar.specs.Abstract.{takes, change}
use Rattle.grammar.proofs.Numbers.{value-strip, strip_equal, same_digits}
use Rattle.grammar.proofs.Declarations.{declare-map, allow_map, enter-map}

-- A declaration without the zeros of its digits: allowed as before, of the same operator, and it changes what is in force as before.
strip_allows : (d : Declaration) → is_declaration (strip_declaration d) ≡ is_declaration d
unfolding is_declaration strip_declaration is_precedence
strip_allows (declares f a c m) = cc (value-strip c)
strip_allows (clears m) = refl

strip_names : (d : Declaration) → operator_of (strip_declaration d) ≡ operator_of d
unfolding operator_of strip_declaration
strip_names (declares f a c m) = refl
strip_names (clears m) = refl

strip_changes : (T : Table) (d : Declaration) → declare T (strip_declaration d) ≡ declare T d
unfolding declare strip_declaration
strip_changes T (declares f a c m) = cc (value-strip c)
strip_changes T (clears m) = refl

pub declare-strip : (T : Table) (ds : List Declaration) → declare_all T (map strip_declaration ds) ≡ declare_all T ds
declare-strip = declare-map strip_declaration strip_allows strip_names strip_changes

pub strip-declarations : (ds : List Declaration) → are_declarations (map strip_declaration ds) ≡ are_declarations ds
strip-declarations = allow_map strip_declaration strip_allows strip_names strip_changes

-- Declarations that passed checks 8 to 10 and 17 pass them without the zeros of their digits, wherever they stand.
pub enter-strip :
    (T : Table) (i j : ℕ) (ds : List Declaration) (U : Table) → are_declarations ds ≡ true
    → enter (length (all_tokens ds)) T i (all_tokens ds) ≡ passed U
    → enter (length (all_tokens (map strip_declaration ds))) T j (all_tokens (map strip_declaration ds)) ≡ passed U
enter-strip T i j ds U a e =
    let k = length (all_tokens ds) in
    let l = length (all_tokens (map strip_declaration ds)) in
    enter-map strip_declaration strip_allows strip_names strip_changes k l T i j ds U a (omega arith) e

-- They mean the same.
pub change-strip : (ds : List Declaration) → map change (map strip_declaration ds) ≡ map change ds
unfolding change strip_declaration
change-strip [] = refl
change-strip (declares f a c m ∷ ds) = cc (value-strip c, change-strip ds)
change-strip (clears m ∷ ds) = ap (◌∷◌ (takes m)) (change-strip ds)

-- The precedences of declarations are written in digits.
abbrev pub NumbersOk : List Declaration → Type 0
NumbersOk [] = Unit {0}
NumbersOk (declares f a c m ∷ ds) = (is_number c ≡ true) × NumbersOk ds
NumbersOk (clears m ∷ ds) = NumbersOk ds

-- Declarations that mean the same are the same without the zeros of their digits.
pub strip_by_change :
    (ds es : List Declaration) → NumbersOk ds → NumbersOk es → map change ds ≡ map change es
    → map strip_declaration ds ≡ map strip_declaration es
unfolding change strip_declaration
strip_by_change [] [] p q h = refl
strip_by_change [] (e ∷ es) p q h = cc
strip_by_change (d ∷ ds) [] p q h = cc
strip_by_change (declares f a c m ∷ ds) (declares g b d n ∷ es) p q h =
    cc (strip_equal c d p.0 q.0 (cc), strip_by_change ds es p.1 q.1 (tail-eq_of_cons-eq h))
strip_by_change (declares f a c m ∷ ds) (clears n ∷ es) p q h = cc
strip_by_change (clears m ∷ ds) (declares g b d n ∷ es) p q h = cc
strip_by_change (clears m ∷ ds) (clears n ∷ es) p q h = cc (strip_by_change ds es p q (tail-eq_of_cons-eq h))

-- Two declarations that differ at most in the digits of their precedence are the same without the zeros of these exactly where the
-- precedences are equal.
pub same_precedences :
    (f : Fixity) (a : Associativity) (m d e : Bytes) → is_number d ≡ true → is_number e ≡ true
    → (value d ≡ value e) ↔ (strip_declaration (declares f a d m) ≡ strip_declaration (declares f a e m))
unfolding strip_declaration
same_precedences f a m d e p q =
    (λ h. ap (λ x. declares f a x m) ((same_digits d e p q).0 h), λ h. (same_digits d e p q).1 (cc h))
