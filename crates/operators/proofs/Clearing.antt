-- An operator taken out: the entries behind it stand one place further down. So each entry is one that was there, and the list is the
-- former one without the operator.
use mathlib.Core.Path.{◌≡◌, sym, ap, ◌∙◌}
use mathlib.Core.List.{List, [], ◌∷◌}
use Prim.Native.Nat.{ℕ, suc, ◌+◌, ◌≤◌, ◌<◌}
use native.Mathlib.Omega.{arith}
use Rattle.grammar.specs.Bytes.{Bytes}
use Rattle.grammar.specs.Operator.{remove_roles, Distinct, Alive}
use Rattle.grammar.specs.Operator as G
use Rattle.grammar.specs.Declaration.{clears, declare, declare_all}
use Rattle.grammar.proofs.Logic.{below, same_refl}
use Rattle.grammar.proofs.Operators.{distinct_declared, alive_declared}
use Rattle.operators.specs.Entries.{entry, name_at, operator_of, table_of, Sound, Cleared}
use Rattle.operators.specs.declared.table.Entry.{Entry}
use Rattle.operators.specs.declared.table.Table.{Table}
use Rattle.operators.proofs.Numbered.{from, place, removed_found}
use Rattle.operators.proofs.Searches.{operator_at, table_entries, placed, found_named}
use Rattle.operators.proofs.SoundEntries.{SoundAt, sound_at, all_sound}

-- The entries from `at` up to `n` are those that stood one place behind; those before are as they were.
pub record Moved (E : List Entry) (at n : ℕ) (E' : List Entry) : Type 0 where
  pub front : (j : ℕ) → j < at → entry E' j ≡ entry E j
  pub moved : (j : ℕ) → at ≤ j → j < n → entry E' j ≡ entry E (suc j)

-- The laws of declarations, of one that clears.
distinct_removed : (m : Bytes) (T : G.Table) → Distinct T → Distinct (remove_roles m T)
unfolding declare_all declare
distinct_removed m T d = distinct_declared T (clears m ∷ []) d

alive_removed : (m : Bytes) (T : G.Table) → Alive T → Alive (remove_roles m T)
unfolding declare_all declare
alive_removed m T d = alive_declared T (clears m ∷ []) d

-- A table whose entries have moved so, with one entry less.
module _
    (text : Bytes) (t : Table) (at : ℕ) (u : Table) (sound : Sound text t) (within : at < t.count)
    (moved : Moved t.entries at u.count u.entries) (hints : u.hints ≡ t.hints) (count : u.count + 1 ≡ t.count)
  where
    abbrev own : Bytes
    own = name_at text t.entries at

    removed : table_of text u ≡ remove_roles own (table_of text t)
    removed =
        let c : t.count ≡ suc u.count = omega arith in
        let l : table_of text t ≡ from (operator_at text t.entries) 0 (suc u.count) =
        table_entries text t ∙ ap (from (operator_at text t.entries) 0) c in
        let p = placed text t own (found_named text t sound own at within (same_refl own)) in
        table_entries text u
        ∙ sym (removed_found own (operator_at text t.entries) (operator_at text u.entries) at
        (λ j a. sym (ap (operator_of text) (moved.front j a)))
        0 u.count (rw l at sound.distinct) (ap (place own (operator_at text t.entries) 0) (sym c) ∙ p)
        (λ j a b. sym (ap (operator_of text) (moved.moved j a (omega arith)))))
        ∙ ap (remove_roles own) (sym l)

    entries_sound : (j : ℕ) → j < u.count → SoundAt text u j
    entries_sound j h =
        rw hints
        (below j at
        (λ a. rw (moved.front j a) (sound_at text t sound j (omega arith)))
        (λ a. rw (moved.moved j a h) (sound_at text t sound (suc j) (omega arith))))

    pub cleared : (name : Bytes) → own ≡ name → Cleared text t name u
    cleared name e =
        record {
          sound =
              let n = sound.sized in
              all_sound text u (omega arith) entries_sound
              (rw removed (distinct_removed own (table_of text t) sound.distinct))
              (rw removed (alive_removed own (table_of text t) sound.alive));
          table = removed ∙ ap (λ m. remove_roles m (table_of text t)) e;
        }
