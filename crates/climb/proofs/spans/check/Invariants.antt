-- The whole text, then the spans in the order of their openers: what is known of those searched before, and what makes no node is counted.
use mathlib.Core.Path.{◌≡◌}
use mathlib.Core.Logic.{◌⊎◌}
use Prim.Native.Nat.{ℕ, suc, ◌+◌, ◌-◌, ◌≤◌, ◌<◌}
use lib.ListN.{length}
use Rattle.rows.specs.Fields.{TokenRow, NoteRow, RootRow, closer}
use Rattle.climb.proofs.Spare.{Opens, spare_to}
use Rattle.climb.proofs.Found.{SpanFound, Before}
use Rattle.climb.proofs.spans.check.Given as goal

-- The spans behind the openers before token `i` and the whole text have been searched, and what makes no node is counted up to there.
pub record State (K : TokenRow) (R : NoteRow) (n whole : ℕ) (O : RootRow) (nodes i : ℕ) : Type 0 where
  pub before : Before K R O i
  pub whole-text : SpanFound K R O 0 n (suc whole)
  pub counted : nodes + spare_to K 0 i ≡ n
  pub in_text_lem : i ≤ n

-- The span from `from` to `to` comes next: the whole text, or the span behind an opener.
pub record Whole (n nodes from to : ℕ) : Type 0 where
  pub first : from ≡ 0
  pub all : to ≡ n
  pub uncounted : nodes ≡ n

pub record Behind (K : TokenRow) (R : NoteRow) (n whole : ℕ) (O : RootRow) (nodes from to : ℕ) : Type 0 where
  pub opener : ℕ
  pub begins : from ≡ suc opener
  pub ends : to ≡ closer K opener
  pub opens : Opens K opener
  pub inside : opener < n
  pub state : State K R n whole O nodes opener

abbrev pub invariant-loop-i : goal.invariant-loop-i
invariant-loop-i l = State l.tokens l.notes l.count l.whole l.roots l.nodes l.i × (l.from ≤ l.i)

abbrev pub decreases-loop-i : goal.decreases-loop-i
decreases-loop-i l = l.count - l.i

abbrev pub invariant-spans : goal.invariant-spans
invariant-spans l =
    (Whole l.count l.nodes l.from l.to ⊎ Behind l.tokens l.notes l.count l.whole l.roots l.nodes l.from l.to)
    × (length l.roots ≡ length l.initial.roots)

abbrev pub decreases-spans : goal.decreases-spans
decreases-spans l = l.count - l.from
