-- Laws of a table's entries, each for one turn of a loop: the name at an entry, the search of a name, a test of every operator.
-- They unfold the definitions of `Entries` once.
use Rattle.starting_operators.proofs.Numbers.{found_some, found_none, beyond_unnumbered, named_start}
use Rattle.std.specs.Option.{option_eq}
use mathlib.Core.Path.{◌≡◌, refl, sym, ap, ◌∙◌}
use mathlib.Core.Bool.{Bool, true, false}
use mathlib.Core.List.{List, [], ◌∷◌}
use Rattle.std.specs.List.{list_all}
use Prim.Native.Nat.{ℕ, zero, suc, ◌+◌, ◌-◌, ◌≤◌, ◌<◌}
use native.Mathlib.Numerals.{add-one}
use native.Mathlib.Omega.{arith}
use Rattle.std.specs.Prelude.{Some, None, nat_eq}
use lib.ListN.{length, take, drop, length-take, length-drop}
use borrow.Author.Tests.{lt-ltb, le-ltb, ne_eqb}
use Rattle.grammar.specs.Fault.{longest_text}
use Rattle.grammar.specs.Bytes.{Bytes, same}
use Rattle.grammar.specs.Operator.{Roles, Table, is_apart, lawful, every_operator, permitted}
use Rattle.grammar.proofs.Logic.{below}
use Rattle.rows.specs.InUse.{roles_by}
use Rattle.starting_operators.specs.Starting.{start_number, start_name, start_count, found_number}
use Rattle.operators.specs.Entries.{entry, name_in, name_at, Stands, coded_find, operator_of, operators_from, table_of}
use Rattle.operators.specs.declared.table.Entry.{Entry}
use Rattle.operators.specs.declared.table.Table as Coded

-- A name is a part of the text, or that of a starting operator, with as many bytes as it is said to have.
module _ (text : Bytes) (start size : ℕ) where
  pub name_in_text : start < longest_text → name_in text start size ≡ take size (drop start text)
  unfolding name_in
  name_in_text h = rw (lt-ltb start longest_text h, name_in)

  pub name_at_start : longest_text ≤ start → name_in text start size ≡ start_name (start - longest_text)
  unfolding name_in
  name_at_start h = rw (le-ltb start longest_text h, name_in)

  pub name_length : Stands text start size → length (name_in text start size) ≡ size
  name_length (p, q) =
      below start longest_text
      (λ h. rw (name_in_text h) (simp (length-take, length-drop) (omega (arith, p h))))
      (λ h. rw (name_at_start h) (sym (q h).1))

-- A name is that of the starting operator whose number it has.
pub named_test : (name : Bytes) (k : ℕ) → k < start_count → option_eq nat_eq (found_number name) (Some k) ≡ same name (start_name k)
named_test name k h =
    below (start_number name) start_count
    (λ l. ap (λ f. option_eq nat_eq f (Some k)) (found_some name l) ∙ named_start name k h)
    (λ l.
    ap (λ f. option_eq nat_eq f (Some k)) (found_none name (beyond_unnumbered name l))
    ∙ sym (ne_eqb (start_number name) k (λ e. omega arith))
    ∙ named_start name k h)

-- Looking for a name: from the first entry on ..
pub find_all : (text : Bytes) (E : List Entry) (name : Bytes) (n : ℕ) → coded_find text E name 0 n ≡ coded_find text E name 0 (n - 0)
find_all text E name n = ap (coded_find text E name 0) (omega arith)

-- Looking for a name: there is none behind the last entry; ..
pub find_none : (text : Bytes) (E : List Entry) (name : Bytes) (i n : ℕ) → n ≤ i → coded_find text E name i (n - i) ≡ None
unfolding coded_find
find_none text E name i n h = let k : n - i ≡ 0 = omega arith in rw (k, coded_find)

-- .. at entry `i` of `n`, it is this one, or one behind it, or there is none.
module _ (text : Bytes) (E : List Entry) (name : Bytes) (i n : ℕ) (h : i < n) where
  pub find_here : same name (name_at text E i) ≡ true → coded_find text E name i (n - i) ≡ Some i
  unfolding coded_find
  find_here e = let k : n - i ≡ suc (n - (i + 1)) = omega arith in rw (k, coded_find, e)

  pub find_next :
      same name (name_at text E i) ≡ false → coded_find text E name i (n - i) ≡ coded_find text E name (i + 1) (n - (i + 1))
  unfolding coded_find
  find_next e =
      let k : n - i ≡ suc (n - (i + 1)) = omega arith in
      rw (k, coded_find, e) (ap (λ j. coded_find text E name j (n - (i + 1))) (sym (add-one i)))

-- A test of every operator is one of every entry.
module _ (q : Roles → Bool) (text : Bytes) where
  abbrev pub tested : Entry → Bool
  tested e = q (roles_by e.roles)

  operators_behind : (e : Entry) (E : List Entry) (i n : ℕ) → operators_from text (e ∷ E) (suc i) n ≡ operators_from text E i n
  unfolding operators_from
  operators_behind e E i zero = refl
  operators_behind e E i (suc n) = ap (λ T. operator_of text (entry E i) ∷ T) (operators_behind e E (suc i) n)

  every_first : (n : ℕ) (E : List Entry) → n ≤ length E → list_all tested (take n E) ≡ every_operator q (operators_from text E 0 n)
  unfolding every_operator operators_from
  every_first zero E h = refl
  every_first (suc n) [] h = absurd (omega arith)
  every_first (suc n) (e ∷ E) h = go (tested e) refl (every_first n E (omega arith) ∙ ap (every_operator q) (sym (operators_behind e E 0 n)))
    where
      go :
          (b : Bool) → tested e ≡ b → list_all tested (take n E) ≡ every_operator q (operators_from text (e ∷ E) 1 n)
          → list_all tested (take (suc n) (e ∷ E)) ≡ every_operator q (operators_from text (e ∷ E) 0 (suc n))
      go true d u = rw (d, operators_from, every_operator) u
      go false d u = rw (d, operators_from, every_operator)

  pub every_entry : (t : Coded.Table) → t.count ≤ length t.entries → list_all tested (take t.count t.entries) ≡ every_operator q (table_of text t)
  unfolding table_of
  every_entry t h = every_first t.count t.entries h

-- The overloading rule, where one operator has both an infix and a postfix role, and where none has.
pub by_conditions : (T : Table) → every_operator is_apart T ≡ false → permitted T ≡ every_operator lawful T
unfolding permitted
by_conditions T e = rw e

pub by_apart : (T : Table) → every_operator is_apart T ≡ true → permitted T ≡ true
unfolding permitted
by_apart T e = rw e
