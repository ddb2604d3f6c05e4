-- The table of the starting operators, entry by entry: an entry is stored and the others are kept, and so are the hints.
-- With all entries it stands for the starting operators, and it is sound.
use mathlib.Core.Path.{◌≡◌, refl, ap, ◌∙◌}
use mathlib.Core.List.{[], ◌∷◌}
use Prim.Native.Nat.{ℕ, ◌+◌, ◌-◌, ◌<◌}
use native.Mathlib.Omega.{arith}
use lib.Dec.{ltb}
use lib.ListN.{length, get_or, length-set}
use lib.Seq.{get_or-set_same}
use borrow.Author.Tests.{ltb-true}
use Rattle.grammar.specs.Fault.{longest_text}
use Rattle.grammar.specs.Bytes.{Bytes}
use Rattle.grammar.specs.Operator.{Fixity, Prefix, Infix, Postfix, Operator}
use Rattle.grammar.specs.Operator as G
use Rattle.grammar.specs.Declaration.{start_table}
use Rattle.grammar.proofs.Logic.{below}
use Rattle.grammar.proofs.Operators.{distinct_start, alive_start}
use Rattle.rows.specs.Codes.{role_code, role_of, roles_of}
use Rattle.rows.proofs.Codes.{role-code}
use Rattle.starting_operators.specs.Starting.{name_of, roles_at, start_name, start_roles, start_count}
use Rattle.starting_operators.proofs.Numbers.{every_number, computed_count, each_start, start_few}
use Rattle.starting_operators.proofs.NameSizes.{name_sizes}
use Rattle.starting_operators.proofs.Roles.{start_fit}
use Rattle.operators.specs.Entries.{
  entry,
  name_in,
  operator_of,
  table_of,
  less_by,
  last_two,
  hash_of,
  IsStart,
  PutsStart,
  Starting,
}
use Rattle.operators.specs.declared.table.Entry.{Entry}
use Rattle.operators.specs.declared.table.Table.{Table}
use Rattle.operators.proofs.Hashes.{hint_kept}
use Rattle.operators.proofs.Numbered.{roles_equal, operators_equal, from, from_suc, from_equal}
use Rattle.operators.proofs.Changed.{Changed, set_changed}
use Rattle.operators.proofs.TableEntries.{name_at_start}
use Rattle.operators.proofs.Searches.{operator_at, table_entries}
use Rattle.operators.proofs.SoundEntries.{SoundEntry, all_sound}

-- The entry of the starting operator with a number, and the hint for its hash.
pub record Started (t : Table) (j : ℕ) : Type 0 where
  pub is_start : IsStart j (entry t.entries j)
  pub hinted : 0 < get_or t.hints (hash_of (start_name j)) 0

-- Those of the first `n`, in a table that counts them all.
pub record StartedTo (n : ℕ) (t : Table) : Type 0 where
  pub long : length t.entries ≡ 64
  pub hints : length t.hints ≡ 128
  pub counted : t.count ≡ start_count
  pub started : (j : ℕ) → j < n → Started t j

pub none_started : (t : Table) → length t.entries ≡ 64 → length t.hints ≡ 128 → t.count ≡ start_count → StartedTo 0 t
none_started t e h c = record { long = e; hints = h; counted = c; started = λ j l. absurd (omega arith) }

-- The hash of every starting name is below 128, which is computed.
start_hash : (k : ℕ) → k < start_count → hash_of (start_name k) < 128
unfolding computed_count every_number hash_of less_by last_two
start_hash k h = ltb-true _ _ (each_start (λ k o. ltb (hash_of o.name) 128) refl k h)

-- One more entry.
pub next_started : {n : ℕ} {t u : Table} → StartedTo n t → n < start_count → PutsStart t n u → StartedTo (n + 1) u
next_started {n} {t} {u} s h p =
    record {
      long = changed.long ∙ s.long;
      hints = ap length p.hints ∙ length-set t.hints (hash_of (start_name n)) (n + 1) ∙ s.hints;
      counted = p.counted ∙ s.counted;
      started = λ j l. below j n (λ b. old j (λ e. omega arith) (s.started j b)) (λ b. let e : j ≡ n = omega arith in rw e new);
    }
  where
    changed : Changed t.entries n p.new_entry u.entries
    changed = rw p.entries (set_changed t.entries n p.new_entry (omega (arith, start_few, s.long)))

    new : Started u n
    new =
        record {
          is_start = rw changed.here p.is_start;
          hinted = rw (p.hints, get_or-set_same t.hints (hash_of (start_name n)) (n + 1) 0 (omega (arith, start_hash n h, s.hints))) (omega arith);
        }

    old : (j : ℕ) → (j ≡ n → ⊥) → Started t j → Started u j
    old j d a =
        record {
          is_start = rw (changed.others j d) a.is_start;
          hinted = rw p.hints (hint_kept t.hints (hash_of (start_name n)) n _ (omega (arith, start_hash n h, s.hints)) a.hinted);
        }

-- A table is the list of its operators by number.
from_table : (T : G.Table) → from (λ k. record { name = name_of T k; roles = roles_at T k }) 0 (length T) ≡ T
unfolding from name_of roles_at
from_table [] = refl
from_table (o ∷ T) = ap (λ U. o ∷ U) (from_suc _ 0 (length T) ∙ from_table T)

abbrev numbered : ℕ → Operator
numbered k = record { name = start_name k; roles = start_roles k }

from_start : from numbered 0 start_count ≡ start_table
unfolding start_name start_roles start_count
from_start = from_table start_table

-- All entries.
module _ {t : Table} (s : StartedTo start_count t) (text : Bytes) where
  module _ (j : ℕ) (h : j < start_count) where
    abbrev e : Entry
    e = entry t.entries j

    abbrev is : IsStart j e
    is = (s.started j h).is_start

    number : e.start - longest_text ≡ j
    number = let p = is.placed in omega arith

    start-spelled : name_in text e.start e.size ≡ start_name j
    start-spelled = name_at_start text e.start e.size (omega (arith, is.placed)) ∙ ap start_name number

    start_entry : operator_of text e ≡ numbered j
    unfolding roles_of
    start_entry =
        operators_equal start-spelled
        (roles_equal _ _ (coded Prefix is.roled.prefixed) (coded Infix is.roled.between) (coded Postfix is.roled.postfixed))
      where
        coded : {c : ℕ} (f : Fixity) → c ≡ role_code (start_roles j f) → role_of c ≡ start_roles j f
        coded f e = ap role_of e ∙ role-code (start_roles j f) (start_fit j f)

    start_sound : SoundEntry text t.hints e
    start_sound =
        record {
          in_text = λ l. absurd (omega (arith, is.placed));
          at_start = λ l. rw number (h, is.sized);
          named = omega (arith, is.sized, name_sizes j h);
          hinted = rw start-spelled (s.started j h).hinted;
        }

  start-table : table_of text t ≡ start_table
  start-table =
      table_entries text t
      ∙ ap (from (operator_at text t.entries) 0) s.counted
      ∙ from_equal (operator_at text t.entries) numbered 0 start_count (λ j a b. start_entry j (omega arith))
      ∙ from_start

pub starting : {t : Table} → StartedTo start_count t → Starting t
starting {t} s text =
    let e = start-table s text in (
      all_sound text t (omega (arith, start_few, s.counted)) (λ j h. start_sound s text j (omega (arith, s.counted)))
          (rw e distinct_start)
          (rw e alive_start),
      e,
    )
