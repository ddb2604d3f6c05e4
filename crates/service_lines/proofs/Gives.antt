-- What is printed for parts of the input that follow one another.
use mathlib.Core.Path.{◌≡◌, refl, sym, ap, ◌∙◌}
use mathlib.Core.Bool.{true, false}
use mathlib.Core.List.{List, [], ◌∷◌, ◌++◌, append_assoc, append-nil}
use Prim.Native.Nat.{ℕ, ◌+◌, ◌<◌}
use native.Mathlib.Numerals.{add-one}
use borrow.Author.Tests.{eq-eqb, ne_eqb}
use lib.ListN.{length, take, get_or}
use lib.Seq.{take-suc}
use Rattle.grammar.specs.Bytes.{Bytes}
use Rattle.grammar.specs.Answer as G
use Rattle.reader.specs.declared.Answer.{Answer}
use Rattle.reader.specs.Answered.{result_of}
use Rattle.calls.specs.declared.Format.{Format}
use Rattle.calls.specs.declared.Call.{Call}
use Rattle.calls.specs.Calls.{begun_by, taken, text_taken, taken_all, text_taken_all}
use Rattle.service_lines.specs.Printed.{located, at_line_end}
use Rattle.service_lines.specs.Parts.{line_gives, character_gives, part_gives, end_gives, rest_gives}

pub handed_out : (a : Answer) (t : Bytes) → result_of a [] ≡ G.locate t → a ≡ located t
unfolding result_of located
handed_out a t e =
    ap (λ (r : G.Result). let b : Answer = record { number = r.answer.number; offset = r.answer.offset; count = r.answer.count } in b) e

module _ (b : ℕ) (x y : Bytes) where
  pub at_end : b ≡ 10 → at_line_end b x y ≡ x
  unfolding at_line_end
  at_end h = rw (eq-eqb b 10 h, at_line_end) refl

  pub within : (b ≡ 10 → ⊥) → at_line_end b x y ≡ y
  unfolding at_line_end
  within h = rw (ne_eqb b 10 h, at_line_end) refl

module _ (text : List ℕ) (call : Call) where
  pub begun_end : begun_by call ≡ true → end_gives text call ≡ line_gives text call
  unfolding end_gives
  begun_end h = rw (h, end_gives) refl

  pub empty_end : begun_by call ≡ false → end_gives text call ≡ []
  unfolding end_gives
  empty_end h = rw (h, end_gives) refl

given_push
    : (f : Format) (text : List ℕ) (call : Call) (s : List ℕ) (b : ℕ)
    → part_gives f text call (s ++ b ∷ [])
    ≡ part_gives f text call s ++ character_gives (text_taken_all f text call s) (taken_all f text call s) b
unfolding part_gives taken_all text_taken_all
given_push f text call [] b = append-nil (character_gives text call b)
given_push f text call (x ∷ s) b =
    ap (λ (r : Bytes). character_gives text call x ++ r) (given_push f (text_taken text call x) (taken f text call x) s b)
    ∙ sym (append_assoc (character_gives text call x) _ _)

-- The line `c` and its text `t` are what the first `i` characters leave.
pub given_step
    : (f : Format) (text : List ℕ) (call : Call) (s : List ℕ) (i : ℕ) (c : Call) (t : List ℕ) → i < length s
    → c ≡ taken_all f text call (take i s) → t ≡ text_taken_all f text call (take i s)
    → part_gives f text call (take i s) ++ character_gives t c (get_or s i 0) ≡ part_gives f text call (take (i + 1) s)
given_step f text call s i c t h p q =
    rw (add-one i, take-suc s i 0 h, given_push f text call (take i s) (get_or s i 0), ← p, ← q) refl

pub rest_behind
    : (f : Format) (text : List ℕ) (call : Call) (s t : List ℕ)
    → rest_gives f text call (s ++ t)
    ≡ part_gives f text call s ++ rest_gives f (text_taken_all f text call s) (taken_all f text call s) t
unfolding part_gives rest_gives taken_all text_taken_all
rest_behind f text call [] t = refl
rest_behind f text call (x ∷ s) t =
    ap (λ (r : Bytes). character_gives text call x ++ r) (rest_behind f (text_taken text call x) (taken f text call x) s t)
    ∙ sym (append_assoc (character_gives text call x) _ _)

pub rest_none : (f : Format) (text : List ℕ) (call : Call) → rest_gives f text call [] ≡ end_gives text call
unfolding rest_gives
rest_none f text call = refl
