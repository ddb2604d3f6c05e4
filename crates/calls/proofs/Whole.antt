-- A whole line asks for what its characters say, with as many bytes of the text as there is room for.
use mathlib.Core.Path.{◌≡◌, refl, sym, ap, ◌∙◌}
use mathlib.Core.Bool.{Bool, true, false}
use mathlib.Core.List.{List, [], ◌∷◌, ◌++◌}
use Prim.Native.Nat.{ℕ, ◌+◌, ◌≤◌, ◌<◌}
use native.Mathlib.Numerals.{add-one}
use native.Mathlib.Omega.{arith}
use borrow.Author.Tests.{eqb-true, eqb-false, ltb-true, ltb-false}
use lib.Dec.{eqb, ltb}
use lib.ListN.{length, take, set, length-set, length-append}
use lib.Seq.{take_all, take-suc-set}
use Rattle.std.specs.Prelude.{None, Some}
use Rattle.std.specs.declared.option.Option.{Option}
use Rattle.grammar.specs.Bytes.{Bytes, bytes, same}
use Rattle.grammar.proofs.Logic.{same_eq}
use Rattle.hex_lines.specs.declared.lines.Line.{Line}
use Rattle.hex_lines.specs.Hexadecimal as hex
use Rattle.hex_lines.proofs.Whole as hexes
use Rattle.calls.specs.declared.Service.{Service}
use Rattle.calls.specs.declared.Service.TheVariants.{Listing}
use Rattle.calls.specs.declared.Format.{Format}
use Rattle.calls.specs.declared.Format.TheVariants.{Texts, Calls}
use Rattle.calls.specs.declared.Call.{Call}
use Rattle.calls.specs.declared.Call.TheVariants.{Name, Start, Dash, Digits, Bad}
use Rattle.calls.specs.Calls.{fresh, service_of, longest_name, start, named, after, text_after, requested}
use Rattle.calls.specs.Asked.{
  Asked,
  asked,
  asked_behind,
  dashed,
  argument,
  of_text,
  of_name,
  at_space,
  call_behind,
  line_asks,
  first_bytes,
}
use Rattle.calls.proofs.Steps.{space_after, kept_after, full_after, dash_step, first_step, text_ended, no_text_ended}

-- One character more.
step
    : (text : List ℕ) (c : Call) (b : ℕ) (s t : List ℕ) (r : Call) → (r ≡ after text c b) × (t ≡ text_after text c b)
    → asked_behind text c (b ∷ s) ≡ asked_behind t r s
unfolding asked_behind
step text c b s t r e = rw (e.0, e.1) refl

bad_behind : (s text : List ℕ) → asked_behind text Bad s ≡ None
unfolding asked_behind
bad_behind [] text = refl
bad_behind (b ∷ s) text = bad_behind s text

-- Digits are a line of `hex_lines`.
digits-end
    : (text : List ℕ) (v : Service) (l : Line) (x : Bool) → hex.is_text l ≡ x
    → asked text (requested (Digits v l)) ≡ of_text v (hex.given text l)
unfolding hex.given
digits-end text v l true e = rw (← text_ended (Digits v l) v l refl e, e, hex.given) refl
digits-end text v l false e = rw (← no_text_ended (Digits v l) v l refl e, e, hex.given) refl

digits_behind : (s text : List ℕ) (v : Service) (l : Line) → asked_behind text (Digits v l) s ≡ of_text v (hex.given_behind text l s)
unfolding asked_behind hex.given_behind
digits_behind [] text v l = digits-end text v l (hex.is_text l) refl
digits_behind (b ∷ s) text v l = digits_behind s (hex.text_after text l b) v (hex.after (length text) l b)

first_text : (room : ℕ) (v : Service) (o : Option Bytes) → of_text v (hex.behind room [] o) ≡ first_bytes room (of_text v o)
first_text room v None = refl
first_text room v (Some t) = refl

text-behind
    : (text s : List ℕ) (v : Service) → asked_behind text (Digits v hex.fresh) s ≡ first_bytes (length text) (of_text v (hex.text_of s))
text-behind text s v =
    digits_behind s text v hex.fresh ∙ ap (of_text v) (hexes.whole_line text s) ∙ first_text (length text) v (hex.text_of s)

-- The text behind a space.
dash_behind : (s text : List ℕ) (v : Service) → asked_behind text (Dash v) s ≡ first_bytes (length text) (of_text v (dashed s))
unfolding asked_behind dashed
dash_behind [] text v = ap (λ (t : Bytes). Some (v, t)) (sym (take_all (length text) [] (omega arith)))
dash_behind (b ∷ s) text v = bad_behind s text

module _ (b : ℕ) (s : List ℕ) where
  dash_argument : eqb b 45 ≡ true → argument (b ∷ s) ≡ dashed s
  unfolding argument
  dash_argument e = rw (e, argument) refl

  digit-argument : eqb b 45 ≡ false → argument (b ∷ s) ≡ hex.text_of (b ∷ s)
  unfolding argument
  digit-argument e = rw (e, argument) refl

digits-again
    : (text s : List ℕ) (v : Service) (b : ℕ)
    → asked_behind (hex.text_after text hex.fresh b) (Digits v (hex.after (length text) hex.fresh b)) s
    ≡ asked_behind text (Digits v hex.fresh) (b ∷ s)
unfolding asked_behind
digits-again text s v b = refl

start-behind : (s text : List ℕ) (v : Service) → asked_behind text (Start v) s ≡ first_bytes (length text) (of_text v (argument s))
unfolding asked_behind argument
start-behind [] text v = refl
start-behind (b ∷ s) text v = go (eqb b 45) refl
  where
    first : Option Bytes → Asked
    first o = first_bytes (length text) (of_text v o)

    go : (x : Bool) → eqb b 45 ≡ x → asked_behind text (Start v) (b ∷ s) ≡ first_bytes (length text) (of_text v (argument (b ∷ s)))
    go true e =
        step text (Start v) b s _ _ (dash_step text (Start v) b v refl (eqb-true b 45 e)) ∙ dash_behind s text v
        ∙ sym (ap first (dash_argument b s e))
    go false e =
        step text (Start v) b s _ _ (first_step text (Start v) b v hex.fresh _ _ refl (eqb-false b 45 e) refl refl refl)
        ∙ digits-again text s v b ∙ text-behind text (b ∷ s) v ∙ sym (ap first (digit-argument b s e))

service-behind
    : (o : Option Service) (s text : List ℕ) → asked_behind text (start o) s ≡ first_bytes (length text) (of_name o (argument s))
service-behind None s text = bad_behind s text
service-behind (Some v) s text = start-behind s text v

-- The end of a name, and a name that is too long.
module _ (b : ℕ) (space other : Asked) where
  at_space_lem : eqb b 32 ≡ true → at_space b space other ≡ space
  unfolding at_space
  at_space_lem e = rw (e, at_space) refl

  at_other : eqb b 32 ≡ false → at_space b space other ≡ other
  unfolding at_space
  at_other e = rw (e, at_space) refl

other_name : (name : Bytes) → same name (bytes "locate") ≡ false → service_of name ≡ None
unfolding service_of
other_name name e = rw (e, service_of) refl

no_service : (name : Bytes) → longest_name < length name → service_of name ≡ None
no_service name h = go (same name (bytes "locate")) refl
  where
    go : (x : Bool) → same name (bytes "locate") ≡ x → service_of name ≡ None
    go true e = absurd (omega (arith, ap length (same_eq name (bytes "locate") e)))
    go false e = other_name name e

longer : (name : Bytes) (b : ℕ) → length (name ++ b ∷ []) ≡ length name + 1
longer name b = length-append name (b ∷ [])

long_behind : (s name : Bytes) → longest_name < length name → call_behind name s ≡ None
unfolding call_behind
long_behind [] name h = refl
long_behind (b ∷ s) name h = go (long_behind s (name ++ b ∷ []) (omega (arith, longer name b))) (eqb b 32) refl
  where
    go
        : call_behind (name ++ b ∷ []) s ≡ None → (x : Bool) → eqb b 32 ≡ x
        → at_space b (of_name (service_of name) (argument s)) (call_behind (name ++ b ∷ []) s) ≡ None
    go ih true e =
        at_space_lem b _ (call_behind (name ++ b ∷ []) s) e ∙ ap (λ (o : Option Service). of_name o (argument s)) (no_service name h)
    go ih false e = at_other b (of_name (service_of name) (argument s)) _ e ∙ ih

-- What is to be shown of the characters `s` behind `n` characters of a name.
abbrev Named : List ℕ → Type 0
Named s =
    (text : List ℕ) (name : Bytes) (n : ℕ) → longest_name ≤ length text → n ≡ length name → n ≤ length text → take n text ≡ name
    → asked_behind text (Name n) s ≡ first_bytes (length text) (call_behind name s)

module _
    (b : ℕ)
    (s : List ℕ)
    (ih : Named s)
    (text : List ℕ)
    (name : Bytes)
    (n : ℕ)
    (long : longest_name ≤ length text)
    (size : n ≡ length name)
    (room : n ≤ length text)
    (stored : take n text ≡ name) where
  space_behind : b ≡ 32 → asked_behind text (Name n) (b ∷ s) ≡ first_bytes (length text) (of_name (service_of name) (argument s))
  space_behind e =
      let h = space_after text n b e in
      step text (Name n) b s _ _ h ∙ ap (λ (m : Bytes). asked_behind text (named m) s) stored ∙ service-behind (service_of name) s text

  kept_behind
      : (b ≡ 32 → ⊥) → n < length text
      → asked_behind text (Name n) (b ∷ s) ≡ first_bytes (length text) (call_behind (name ++ b ∷ []) s)
  kept_behind e h =
      let l : length (set text n b) ≡ length text = length-set text n b in
      let t : take (n + 1) (set text n b) ≡ name ++ b ∷ [] = rw (add-one n, take-suc-set text n b h, stored) refl in
      let k = longer name b in
      let i = ih (set text n b) (name ++ b ∷ []) (n + 1) (omega arith) (omega arith) (omega arith) t in
      step text (Name n) b s _ _ (kept_after text n b e h) ∙ i ∙ ap (λ (r : ℕ). first_bytes r (call_behind (name ++ b ∷ []) s)) l

  full-behind
      : (b ≡ 32 → ⊥) → length text ≤ n
      → asked_behind text (Name n) (b ∷ s) ≡ first_bytes (length text) (call_behind (name ++ b ∷ []) s)
  full-behind e h =
      let k = longer name b in
      step text (Name n) b s _ _ (full_after text n b e h) ∙ bad_behind s text
      ∙ sym (ap (first_bytes (length text)) (long_behind s (name ++ b ∷ []) (omega arith)))

  name-more
      : asked_behind text (Name n) (b ∷ s)
      ≡ first_bytes (length text) (at_space b (of_name (service_of name) (argument s)) (call_behind (name ++ b ∷ []) s))
  name-more = go (eqb b 32) refl (ltb n (length text)) refl
    where
      first : Asked → Asked
      first = first_bytes (length text)

      go
          : (x : Bool) → eqb b 32 ≡ x → (y : Bool) → ltb n (length text) ≡ y
          → asked_behind text (Name n) (b ∷ s)
          ≡ first_bytes (length text) (at_space b (of_name (service_of name) (argument s)) (call_behind (name ++ b ∷ []) s))
      go true e y f = space_behind (eqb-true b 32 e) ∙ sym (ap first (at_space_lem b _ (call_behind (name ++ b ∷ []) s) e))
      go false e true f =
          kept_behind (eqb-false b 32 e) (ltb-true n (length text) f)
          ∙ sym (ap first (at_other b (of_name (service_of name) (argument s)) _ e))
      go false e false f =
          full-behind (eqb-false b 32 e) (ltb-false n (length text) f)
          ∙ sym (ap first (at_other b (of_name (service_of name) (argument s)) _ e))

name_behind_lem : (s : List ℕ) → Named s
unfolding asked_behind call_behind
name_behind_lem [] = λ text name n long size room stored. refl
name_behind_lem (b ∷ s) = name-more b s (name_behind_lem s)

pub whole_line
    : (f : Format) (text s : List ℕ) → longest_name ≤ length text
    → asked_behind text (fresh f) s ≡ first_bytes (length text) (line_asks f s)
whole_line Texts text s h = text-behind text s Listing
whole_line Calls text s h = name_behind_lem s text [] 0 h refl (omega arith) refl
