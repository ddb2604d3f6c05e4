-- What a sound table says of one entry; a table whose entries all have it is sound.
use Prim.Native.Nat.{ℕ, ◌≤◌, ◌<◌}
use mathlib.Core.List.{List}
use lib.ListN.{get_or}
use Rattle.grammar.specs.Bytes.{Bytes}
use Rattle.grammar.specs.Operator as G
use Rattle.grammar.specs.Declaration.{most_operators}
use Rattle.operators.specs.Entries.{entry, name_in, InText, AtStart, table_of, hash_of, Sound}
use Rattle.operators.specs.declared.table.Entry.{Entry}
use Rattle.operators.specs.declared.table.Table.{Table}

pub record SoundEntry (text : Bytes) (H : List ℕ) (e : Entry) : Type 0 where
  pub in_text : InText text e.start e.size
  pub at_start : AtStart e.start e.size
  pub named : 1 ≤ e.size
  pub hinted : 0 < get_or H (hash_of (name_in text e.start e.size)) 0

abbrev pub SoundAt : Bytes → Table → ℕ → Type 0
SoundAt text t j = SoundEntry text t.hints (entry t.entries j)

module _ (text : Bytes) (t : Table) where
  pub sound_at : Sound text t → (j : ℕ) → j < t.count → SoundAt text t j
  sound_at s j h =
      record {
        in_text = s.in_text j h;
        at_start = s.at_start j h;
        named = s.named j h;
        hinted = s.hinted j h;
      }

  pub all_sound :
      t.count ≤ most_operators → ((j : ℕ) → j < t.count → SoundAt text t j) → G.Distinct (table_of text t)
      → G.Alive (table_of text t) → Sound text t
  all_sound n s d a =
      record {
        sized = n;
        in_text = λ j h. (s j h).in_text;
        at_start = λ j h. (s j h).at_start;
        named = λ j h. (s j h).named;
        hinted = λ j h. (s j h).hinted;
        distinct = d;
        alive = a;
      }

-- An entry with other hints is sound too, if there is one for its hash.
pub other_hints :
    {text : Bytes} {H : List ℕ} {e : Entry} (H' : List ℕ) → SoundEntry text H e
    → 0 < get_or H' (hash_of (name_in text e.start e.size)) 0 → SoundEntry text H' e
other_hints H' s h = record { in_text = s.in_text; at_start = s.at_start; named = s.named; hinted = h }
