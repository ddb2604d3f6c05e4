-- What a block answers: the refusal of its declarations, or of check 10 at its `in`, or what its body answers under the operators that they
-- leave in force.
use mathlib.Core.Path.{◌≡◌, refl, sym, ap, ap₂, subst, ◌∙◌}
use mathlib.Core.Bool.{Bool, true, false}
use mathlib.Core.List.{List}
use Prim.Native.Nat.{ℕ, suc, ◌+◌, ◌-◌, ◌<◌}
use native.Mathlib.Omega.{arith}
use native.Mathlib.Numerals.{add-one}
use lib.ListN.{length}
use Rattle.std.specs.Prelude.{Result, Ok, Err}
use Rattle.grammar.specs.Bytes.{Bytes}
use Rattle.grammar.specs.Token.{Token}
use Rattle.grammar.specs.Outcome.{Outcome, refused, passed, and_then}
use Rattle.grammar.specs.Operator.{permitted}
use Rattle.grammar.specs.Operator as G
use Rattle.grammar.specs.Declaration.{checked_at, declarations, all_tokens}
use Rattle.grammar.specs.Blocks.{body_table, check_blocks}
use Rattle.grammar.proofs.Declarations.{enter_checks, enter_sound}
use Rattle.rows.specs.Codes.{Bounded}
use Rattle.rows.specs.Tokens.{range}
use Rattle.rows.specs.Agreeing.{KeptOutside, Agrees}
use Rattle.grammar.proofs.Logic.{impossible}
use Rattle.rows.proofs.Ranges.{length-range}
use Rattle.rows.proofs.Noting.{kept_none}
use Rattle.refusals.specs.declared.Refused.{Refused}
use Rattle.refusals.specs.Numbers.{number_of, IsRefused, Refuses}
use Rattle.operators.specs.Entries.{table_of, Sound}
use Rattle.operators.specs.declared.table.Table.{Table}
use Rattle.operators.proofs.Lookups.{table_bounded}
use Rattle.declaring.specs.Declaring.{part_of, Declares}
use Rattle.declaring.proofs.PartAnswers.{part_refused, part_passed}
use Rattle.rows.specs.Fields.{TokenRow, NoteRow}
use Rattle.resolving.specs.Resolving.{Ranged, PermittedTable, Resolves, Resolving, block_entered, Enters}

-- The outcome that the code answers with a refusal.
abbrev pub refused_by : {A : Type 0} → Refused → Outcome A
refused_by f = refused (number_of f.refusal) f.at

pub refusal_is : {A : Type 0} {n p : ℕ} {f : Refused} → IsRefused n p f → ◌≡◌ {A = Outcome A} (refused n p) (refused_by f)
refusal_is h = ap₂ refused (sym h.numbered) (sym h.placed)

pub refused_so : (f : Refused) → IsRefused (number_of f.refusal) f.at f
refused_so f = record { numbered = refl; placed = refl }

-- What a block's declarations and its body answer, with its `let` at `i`, its `in` at `c` and its `end` at `e`.
abbrev pub BlockResolves : Bytes → TokenRow → NoteRow → G.Table → ℕ → ℕ → ℕ → Outcome (Unit {0}) → Result (Unit {0}) Refused → Type 0
BlockResolves text K R T i c e (refused n p) r = Refuses n p r
BlockResolves text K R T i c e (passed u) r =
    let ds = range text K (suc i) c in
    (r ≡ Ok tt) × (all_tokens (declarations ds) ≡ ds) × Bounded (body_table T ds) × Agrees text K R (body_table T ds) (suc c) e

pub record BlockResolving (text : Bytes) (K : TokenRow) (T : G.Table) (i c e : ℕ) (R R' : NoteRow) (r : Result (Unit {0}) Refused) : Type 0 where
  pub answer :
      (k : ℕ) → e - suc c < k
      → BlockResolves text K R' T i c e
      (and_then (block_entered text K T i c) (λ U. check_blocks k U (suc c) (range text K (suc c) e)))
      r
  pub kept : KeptOutside R (suc c) e R'

-- The body of a block, as the code passes it on.
pub body_ranged :
    {text : Bytes} {K : TokenRow} {R : NoteRow} {c e b d : ℕ} → b ≡ c → d ≡ e → Ranged text K R (suc c) e → Ranged text K R (b + 1) d
body_ranged {c = c} x y g = rw (x, y, add-one c) g

-- What an answer of the code says of the declarations with check 10.
module _ (text : Bytes) (u : Table) where
  pub entered_refused : (o : Outcome G.Table) (f : Refused) → Enters text o u (Err f) → o ≡ refused_by f
  entered_refused (refused n p) f h = refusal_is h
  entered_refused (passed U) f h = impossible (cc h.0)

  pub entered_passed : (o : Outcome G.Table) → Enters text o u (Ok tt) → (o ≡ passed (table_of text u)) × PermittedTable text u
  entered_passed (refused n p) h = absurd h
  entered_passed (passed U) h = (ap passed (sym h.2), h.1)

module _ (text : Bytes) (K : TokenRow) (i c : ℕ) (t : Table) where
  abbrev ds : List Token
  ds = range text K (suc i) c

  abbrev outer : G.Table
  outer = table_of text t

  -- Checks 8 to 10 and 17.
  abbrev answer : Outcome G.Table
  answer = block_entered text K outer i c

  -- Check 10 is the last.
  answer_checks : i < c → answer ≡ and_then (part_of text K i c outer) (checked_at c)
  answer_checks l =
      let j : suc i + length ds ≡ c = omega (arith, length-range text K (suc i) c) in
      enter_checks checked_at (length ds) outer (suc i) ds ∙ ap (λ j. and_then (part_of text K i c outer) (checked_at j)) j

  -- The table that declarations leave, of which check 10 is asked.
  pub record Leaving (u : Table) (replaced : Bool) : Type 0 where
    pub sound : Sound text u
    pub kept : replaced ≡ false → permitted outer ≡ true → permitted (table_of text u) ≡ true
    pub checked : answer ≡ checked_at c (table_of text u)

  -- What the code answers of the declarations alone, and so the checks.
  module _ (l : i < c) (u : Table) where
    pub answer_refused : (f : Refused) → Declares text t (part_of text K i c outer) u (Err f) → answer ≡ refused_by f
    unfolding and_then
    answer_refused f d = answer_checks l ∙ ap (λ o. and_then o (checked_at c)) (part_refused text t u (part_of text K i c outer) f d)

    pub leaving : (replaced : Bool) → Declares text t (part_of text K i c outer) u (Ok replaced) → Leaving u replaced
    unfolding and_then
    leaving replaced d =
        let (passes, leaves) = part_passed text t u (part_of text K i c outer) replaced d in
        record {
          sound = leaves.sound;
          kept = leaves.kept;
          checked = answer_checks l ∙ ap (λ o. and_then o (checked_at c)) passes;
        }

  module _ {u : Table} {replaced : Bool} (leaves : Leaving u replaced) where
    pub answer_kept : permitted (table_of text u) ≡ true → answer ≡ passed (table_of text u)
    unfolding checked_at
    answer_kept z = leaves.checked ∙ rw (z, checked_at)

    pub answer_broken : permitted (table_of text u) ≡ false → answer ≡ refused 10 c
    unfolding checked_at
    answer_broken z = leaves.checked ∙ rw (z, checked_at)

  -- And so what the code answers of the declarations with check 10.
  pub enters_refused : (u : Table) (f : Refused) → answer ≡ refused_by f → Enters text answer u (Err f)
  enters_refused u f h = rw h (refused_so f)

  pub enters_passed :
      (u : Table) {replaced : Bool} → Leaving u replaced → permitted (table_of text u) ≡ true → Enters text answer u (Ok tt)
  enters_passed u leaves z = rw (answer_kept leaves z) (refl, record { sound = leaves.sound; kept = z }, refl)

  -- And so the block.
  pub block_refused : (e : ℕ) (R : NoteRow) (f : Refused) → answer ≡ refused_by f → BlockResolving text K outer i c e R R (Err f)
  unfolding and_then
  block_refused e R f h = record { answer = λ k l. rw h (refused_so f); kept = kept_none R (suc c) e }

  module _ (u : Table) (h : answer ≡ passed (table_of text u)) (e : ℕ) (R R' : NoteRow) (r : Result (Unit {0}) Refused) where
    body_table_lem : table_of text u ≡ body_table outer ds
    unfolding body_table
    body_table_lem = (enter_sound outer (suc i) ds (table_of text u) h).2

    body_says : (o : Outcome (Unit {0})) → Resolves text K R' (table_of text u) (suc c) e o r → BlockResolves text K R' outer i c e o r
    body_says (refused n p) s = s
    body_says (passed v) s = (
      s.0,
      (enter_sound outer (suc i) ds (table_of text u) h).0,
      subst Bounded body_table_lem (table_bounded text u),
      subst (λ U. Agrees text K R' U (suc c) e) body_table_lem s.1,
    )

    pub block_answered :
        {b d : ℕ} → b ≡ c → d ≡ e → Resolving text K (table_of text u) (b + 1) d R R' r → BlockResolving text K outer i c e R R' r
    unfolding and_then
    block_answered x y resolved =
        let body : Resolving text K (table_of text u) (suc c) e R R' r = rw (x, y, add-one c) at resolved in
        record {
          answer = λ k l. rw h (body_says (check_blocks k (table_of text u) (suc c) (range text K (suc c) e)) (body.answer k l));
          kept = body.kept;
        }
