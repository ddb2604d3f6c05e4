-- One entry changed: it is there, and the others are kept. What is changed twice is changed once.
use mathlib.Core.Path.{◌≡◌, ◌∙◌}
use mathlib.Core.List.{List}
use Prim.Native.Nat.{ℕ, ◌<◌}
use lib.ListN.{length, set, length-set}
use lib.Seq.{get_or-set_same, get_or-set_other}
use Rattle.operators.specs.Entries.{no_entry, entry}
use Rattle.operators.specs.declared.table.Entry.{Entry}

pub record Changed (E : List Entry) (k : ℕ) (e : Entry) (E' : List Entry) : Type 0 where
  pub long : length E' ≡ length E
  pub here : entry E' k ≡ e
  pub others : (j : ℕ) → (j ≡ k → ⊥) → entry E' j ≡ entry E j

pub set_changed : (E : List Entry) (k : ℕ) (e : Entry) → k < length E → Changed E k e (set E k e)
set_changed E k e h =
    record {
      long = length-set E k e;
      here = get_or-set_same E k e no_entry h;
      others = λ j d. get_or-set_other E k j e no_entry d;
    }

pub changed_again :
    {E E' E'' : List Entry} {k : ℕ} {e e' : Entry} → Changed E k e E' → Changed E' k e' E'' → Changed E k e' E''
changed_again a b =
    record { long = b.long ∙ a.long; here = b.here; others = λ j d. b.others j d ∙ a.others j d }

pub changed_to : {E E' : List Entry} {k : ℕ} {e e' : Entry} → e ≡ e' → Changed E k e E' → Changed E k e' E'
changed_to q c = record { long = c.long; here = c.here ∙ q; others = c.others }
