-- What the search of a name finds in a sound table, where no two operators have one name: the entry that has the name, or none.
-- The entries are compared one by one; what that means for the list is in `Numbered`.
use mathlib.Core.Path.{◌≡◌, refl, sym, ap, ◌∙◌}
use mathlib.Core.Bool.{Bool, true, false}
use mathlib.Core.List.{List, ◌∷◌}
use Prim.Native.Nat.{ℕ, zero, suc, ◌+◌, ◌-◌, ◌<◌}
use native.Mathlib.Omega.{arith}
use Rattle.std.specs.Prelude.{Option, Some, None}
use lib.ListN.{get_or}
use borrow.Author.Tests.{eq-eqb}
use Rattle.grammar.specs.Fault.{longest_text}
use Rattle.grammar.specs.Bytes.{Bytes, same}
use Rattle.grammar.specs.Operator.{Operator}
use Rattle.grammar.proofs.Logic.{same_eq}
use Rattle.starting_operators.specs.Starting.{start_number, start_name}
use Rattle.starting_operators.proofs.Numbers.{named_start}
use Rattle.operators.specs.Entries.{entry, name_start, name_size, name_at, coded_find, operator_of, operators_from, table_of, hash_of, Sound}
use Rattle.operators.specs.declared.table.Entry.{Entry}
use Rattle.operators.specs.declared.table.Table.{Table}
use Rattle.operators.proofs.Numbered.{from, place, place_within, place_none, place_at}
use Rattle.operators.proofs.TableEntries.{name_at_start}

-- The operator at an entry; a table's operators and the search of a name, by number.
module _ (text : Bytes) (E : List Entry) where
  abbrev pub operator_at : ℕ → Operator
  operator_at j = operator_of text (entry E j)

  pub entries_from : (i n : ℕ) → operators_from text E i n ≡ from operator_at i n
  unfolding operators_from from
  entries_from i zero = refl
  entries_from i (suc n) = ap (λ T. operator_at i ∷ T) (entries_from (suc i) n)

  pub find_place : (m : Bytes) (i n : ℕ) → coded_find text E m i n ≡ place m operator_at i n
  unfolding coded_find place
  find_place m i zero = refl
  find_place m i (suc n) = ap (λ x. elim (same m (operator_at i).name) [ true ↦ Some i | false ↦ x ]) (find_place m (suc i) n)

  -- What is found is one of them.
  pub found_within : (m : Bytes) (n k : ℕ) → coded_find text E m 0 n ≡ Some k → k < n
  found_within m n k e = let w = place_within m operator_at 0 n k (sym (find_place m 0 n) ∙ e) in omega arith

module _ (text : Bytes) (t : Table) where
  pub table_entries : table_of text t ≡ from (operator_at text t.entries) 0 t.count
  unfolding table_of
  table_entries = entries_from text t.entries 0 t.count

  -- The search of a name in a table.
  abbrev pub Finds : Bytes → Option ℕ → Type 0
  Finds name a = coded_find text t.entries name 0 t.count ≡ a

  pub placed : (name : Bytes) {a : Option ℕ} → Finds name a → place name (operator_at text t.entries) 0 t.count ≡ a
  placed name e = sym (find_place text t.entries name 0 t.count) ∙ e

  module _ (sound : Sound text t) where
    -- The entry that has the name is found ..
    pub found_named : (name : Bytes) (k : ℕ) → k < t.count → same name (name_at text t.entries k) ≡ true → Finds name (Some k)
    found_named name k h e =
        find_place text t.entries name 0 t.count
        ∙ place_at name (operator_at text t.entries) 0 t.count k (rw table_entries at sound.distinct) (omega arith) (omega arith) e

    -- .. and a name for whose hash there is no hint is not.
    pub unhinted : (name : Bytes) → get_or t.hints (hash_of name) 0 ≡ 0 → Finds name None
    unhinted name z =
        find_place text t.entries name 0 t.count
        ∙ place_none name (operator_at text t.entries) 0 t.count (λ j h. other j (omega arith) (same name (name_at text t.entries j)) refl)
      where
        other : (j : ℕ) → j < t.count → (b : Bool) → same name (name_at text t.entries j) ≡ b → b ≡ false
        other j h true e =
            let p = rw (← same_eq name (name_at text t.entries j) e) at (sound.hinted j h) in absurd (omega arith)
        other j h false e = refl

    -- A starting operator is at its own number, if its name is still there; no name stands at the number of none.
    pub found_start :
        (name : Bytes) (k : ℕ) → k < t.count → k ≡ start_number name → name_start t.entries k ≡ longest_text + k → Finds name (Some k)
    found_start name k h e s =
        let (b, z) = sound.at_start k h (omega arith) in
        let at : name_start t.entries k - longest_text ≡ k = omega arith in
        let q : start_name k ≡ name_at text t.entries k =
        ap start_name (sym at) ∙ sym (name_at_start text (name_start t.entries k) (name_size t.entries k) (omega arith)) in
        found_named name k h
        (ap (same name) (sym q) ∙ sym (named_start name k (omega arith)) ∙ eq-eqb (start_number name) k (sym e))
