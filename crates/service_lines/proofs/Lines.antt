-- What is printed for the input, by the line and its text so far, is what its lines ask for.
use mathlib.Core.Path.{◌≡◌, refl, sym, ap, ◌∙◌}
use mathlib.Core.Bool.{Bool, true, false, not}
use mathlib.Core.List.{List, [], ◌∷◌, ◌++◌, append_assoc, append-nil}
use Prim.Native.Nat.{ℕ, ◌+◌, ◌*◌}
use native.Mathlib.Omega.{arith}
use borrow.Author.Tests.{eqb-true, eqb-false, ltb-true, ltb-false, ne_eqb}
use lib.Dec.{eqb, ltb}
use lib.ListN.{length, set, length-set}
use Rattle.std.specs.Prelude.{None, Some}
use Rattle.std.specs.declared.option.Option.{Option}
use Rattle.grammar.specs.Bytes.{Bytes}
use Rattle.hex_lines.specs.declared.lines.Line.{Line}
use Rattle.hex_lines.specs.Hexadecimal as hex
use Rattle.calls.specs.declared.Service.{Service}
use Rattle.calls.specs.declared.Format.{Format}
use Rattle.calls.specs.declared.Format.TheVariants.{Texts, Calls}
use Rattle.calls.specs.declared.Call.{Call}
use Rattle.calls.specs.declared.Call.TheVariants.{Name, Start, Dash, Digits, Bad}
use Rattle.calls.specs.Calls.{fresh, begun_by, service_of, start, after, text_after, taken, text_taken}
use Rattle.calls.specs.Asked.{asked_behind, line_asks, first_bytes}
use Rattle.calls.proofs.Steps.{space_after, kept_after, full_after, dash_step, first_step, line_end, line-goes-on}
use Rattle.calls.proofs.Whole.{whole_line}
use Rattle.service_lines.specs.Printed.{kept_bytes, given, given_for, last_given, at_line_end, printed_lines, answered}
use Rattle.service_lines.specs.Parts.{line_gives, character_gives, end_gives, rest_gives}
use Rattle.service_lines.proofs.Gives.{at_end, within, begun_end, empty_end}

-- Behind a digit the line has a character, and the text its length.
module _ (text : List ℕ) (l : Line) (b : ℕ) where
  digit_length : length (hex.text_after text l b) ≡ length text
  unfolding hex.text_after
  digit_length = go (hex.digit_value b) refl l.high refl
    where
      go : (x : Option ℕ) → hex.digit_value b ≡ x → (y : Option ℕ) → l.high ≡ y → length (hex.text_after text l b) ≡ length text
      go None e y f = rw (e, hex.text_after) refl
      go (Some low) e None f = rw (e, f, hex.text_after) refl
      go (Some low) e (Some high) f = rw (e, f, hex.text_after) (length-set text l.kept (high * 16 + low))

  digit_begun : (hex.after (length text) l b).begun ≡ true
  unfolding hex.after
  digit_begun = go (hex.digit_value b) refl l.high refl
    where
      go : (x : Option ℕ) → hex.digit_value b ≡ x → (y : Option ℕ) → l.high ≡ y → (hex.after (length text) l b).begun ≡ true
      go None e y f = rw (e, hex.after) refl
      go (Some low) e None f = rw (e, f, hex.after) refl
      go (Some low) e (Some high) f = rw (e, f, hex.after) refl

start_begun : (o : Option Service) → begun_by (start o) ≡ true
start_begun None = refl
start_begun (Some s) = refl

more_begun : (n : ℕ) → begun_by (Name (n + 1)) ≡ true
more_begun n = ap not (ne_eqb (n + 1) 0 (λ h. omega arith))

kept_by
    : (text : List ℕ) (call : Call) (b : ℕ) (r : Call) (t : List ℕ) → (r ≡ after text call b) × (t ≡ text_after text call b)
    → begun_by r ≡ true → length t ≡ length text
    → (begun_by (after text call b) ≡ true) × (length (text_after text call b) ≡ length text)
kept_by text call b r t e p q = (ap begun_by (sym e.0) ∙ p, ap length (sym e.1) ∙ q)

-- Behind any character the line has a character, and the text its length.
kept
    : (text : List ℕ) (call : Call) (b : ℕ) → (begun_by (after text call b) ≡ true) × (length (text_after text call b) ≡ length text)
kept text (Name n) b = go (eqb b 32) refl (ltb n (length text)) refl
  where
    go
        : (x : Bool) → eqb b 32 ≡ x → (y : Bool) → ltb n (length text) ≡ y
        → (begun_by (after text (Name n) b) ≡ true) × (length (text_after text (Name n) b) ≡ length text)
    go true e y f = kept_by text (Name n) b _ text (space_after text n b (eqb-true b 32 e)) (start_begun (service_of _)) refl
    go false e true f =
        kept_by text (Name n) b (Name (n + 1)) (set text n b) (kept_after text n b (eqb-false b 32 e) (ltb-true n (length text) f)) (more_begun n)
        (length-set text n b)
    go false e false f = kept_by text (Name n) b Bad text (full_after text n b (eqb-false b 32 e) (ltb-false n (length text) f)) refl refl
kept text (Start s) b = go (eqb b 45) refl
  where
    go
        : (x : Bool) → eqb b 45 ≡ x
        → (begun_by (after text (Start s) b) ≡ true) × (length (text_after text (Start s) b) ≡ length text)
    go true e = kept_by text (Start s) b (Dash s) text (dash_step text (Start s) b s refl (eqb-true b 45 e)) refl refl
    go false e =
        kept_by text (Start s) b _ _ (first_step text (Start s) b s hex.fresh _ _ refl (eqb-false b 45 e) refl refl refl)
        (digit_begun text hex.fresh b) (digit_length text hex.fresh b)
kept text (Dash s) b = (refl, refl)
kept text (Digits s l) b = (digit_begun text l b, digit_length text l b)
kept text Bad b = (refl, refl)

abbrev has_character : Bytes → Bool
has_character [] = false
has_character (b ∷ line) = true

one_more : (line : Bytes) (b : ℕ) → has_character (line ++ b ∷ []) ≡ true
one_more [] b = refl
one_more (x ∷ line) b = refl

fresh_begun : (f : Format) → begun_by (fresh f) ≡ false
fresh_begun Texts = refl
fresh_begun Calls = refl

last_is
    : (f : Format) (line : Bytes) (text : List ℕ) (call : Call) → begun_by call ≡ has_character line → line_gives text call ≡ given_for f line
    → end_gives text call ≡ last_given f line
last_is f [] text call e h = empty_end text call e
last_is f (b ∷ line) text call e h = begun_end text call e ∙ h

-- The call and the text are what the characters of the line leave of a fresh line with the text `first`.
record Stands (f : Format) (first text line : List ℕ) (call : Call) : Type 0 where
  size : length first ≡ kept_bytes
  room : length text ≡ kept_bytes
  asks : (s : List ℕ) → asked_behind text call s ≡ asked_behind first (fresh f) (line ++ s)
  begun : begun_by call ≡ has_character line

fresh_stands : (f : Format) (text : List ℕ) → length text ≡ kept_bytes → Stands f text text [] (fresh f)
fresh_stands f text h = record { size = h; room = h; asks = λ s. refl; begun = fresh_begun f }

line_is
    : (f : Format) (first text line : List ℕ) (call : Call) → Stands f first text line call → line_gives text call ≡ given_for f line
unfolding given_for asked_behind
line_is f first text line call h =
    ap given
    (h.asks [] ∙ ap (asked_behind first (fresh f)) (append-nil line) ∙ whole_line f first line (omega (arith, h.size))
    ∙ ap (λ (r : ℕ). first_bytes r (line_asks f line)) h.size)

goes_on
    : (text : List ℕ) (call : Call) (b : ℕ) (s : List ℕ)
    → asked_behind (text_after text call b) (after text call b) s ≡ asked_behind text call (b ∷ s)
unfolding asked_behind
goes_on text call b s = refl

next_stands
    : (f : Format) (first text line : List ℕ) (call : Call) (b : ℕ) → Stands f first text line call
    → Stands f first (text_after text call b) (line ++ b ∷ []) (after text call b)
next_stands f first text line call b h =
    record {
      size = h.size;
      room = (kept text call b).1 ∙ h.room;
      asks = λ s. goes_on text call b s ∙ h.asks (b ∷ s) ∙ ap (asked_behind first (fresh f)) (sym (append_assoc line (b ∷ []) s));
      begun = (kept text call b).0 ∙ sym (one_more line b);
    }

module _ (f : Format) (text : List ℕ) (call : Call) (b : ℕ) (s : List ℕ) where
  rest_step
      : (r : Call) (t : List ℕ) → (r ≡ taken f text call b) × (t ≡ text_taken text call b)
      → rest_gives f text call (b ∷ s) ≡ character_gives text call b ++ rest_gives f t r s
  unfolding rest_gives
  rest_step r t e = rw (e.0, e.1) refl

  rest_ended : b ≡ 10 → rest_gives f text call (b ∷ s) ≡ line_gives text call ++ rest_gives f text (fresh f) s
  rest_ended h =
      rest_step (fresh f) text (line_end f text call b (fresh f) refl h)
      ∙ ap (λ (r : Bytes). r ++ rest_gives f text (fresh f) s) (at_end b (line_gives text call) [] h)

  rest_within : (b ≡ 10 → ⊥) → rest_gives f text call (b ∷ s) ≡ rest_gives f (text_after text call b) (after text call b) s
  rest_within h =
      rest_step (after text call b) (text_after text call b) (line-goes-on f text call b _ _ h refl refl)
      ∙ ap (λ (r : Bytes). r ++ rest_gives f (text_after text call b) (after text call b) s) (within b (line_gives text call) [] h)

lines
    : (s : List ℕ) (f : Format) (first text line : List ℕ) (call : Call) → Stands f first text line call
    → rest_gives f text call s ≡ printed_lines f line s
unfolding rest_gives printed_lines
lines [] f first text line call h = last_is f line text call h.begun (line_is f first text line call h)
lines (b ∷ s) f first text line call h =
    go (lines s f text text [] (fresh f) (fresh_stands f text h.room))
    (lines s f first (text_after text call b) (line ++ b ∷ []) (after text call b) (next_stands f first text line call b h)) (eqb b 10) refl
  where
    go
        : rest_gives f text (fresh f) s ≡ printed_lines f [] s
        → rest_gives f (text_after text call b) (after text call b) s ≡ printed_lines f (line ++ b ∷ []) s → (x : Bool) → eqb b 10 ≡ x
        → rest_gives f text call (b ∷ s)
        ≡ at_line_end b (given_for f line ++ printed_lines f [] s) (printed_lines f (line ++ b ∷ []) s)
    go ended more true e =
        let i = eqb-true b 10 e in
        rest_ended f text call b s i
        ∙ ap (λ (r : Bytes). r ++ rest_gives f text (fresh f) s) (line_is f first text line call h)
        ∙ ap (λ (r : Bytes). given_for f line ++ r) ended ∙ sym (at_end b _ (printed_lines f (line ++ b ∷ []) s) i)
    go ended more false e =
        let i = eqb-false b 10 e in
        rest_within f text call b s i ∙ more ∙ sym (within b (given_for f line ++ printed_lines f [] s) _ i)

pub whole_input : (f : Format) (text bs : List ℕ) → length text ≡ kept_bytes → rest_gives f text (fresh f) bs ≡ answered f bs
whole_input f text bs h = lines bs f text text [] (fresh f) (fresh_stands f text h)
