-- A turn of the loop that reads: what is printed so far and what the rest of the input gives are together what the whole input gives.
use mathlib.Core.Path.{◌≡◌, refl, sym, ap, ◌∙◌, subst}
use mathlib.Core.List.{List, [], ◌∷◌, ◌++◌, append_assoc}
use Prim.Native.Nat.{ℕ, ◌+◌, ◌-◌, ◌^◌, ◌≤◌, ◌<◌}
use native.Mathlib.Omega.{arith}
use lib.ListN.{length, length-append}
use Rattle.std.specs.Prelude.{None, Some}
use Rattle.std.specs.declared.option.Option.{Option}
use Rattle.std.specs.Io.KnownBytes.{Appends, Consumes, IsAtEnd}
use Rattle.std.proofs.KnownBytes.{Appends-nil, Appends-trans}
use Rattle.grammar.specs.Bytes.{Bytes}
use Rattle.calls.specs.declared.Format.{Format}
use Rattle.calls.specs.declared.Call.{Call}
use Rattle.service_lines.specs.Parts.{part_gives, end_gives, rest_gives, TakesSome, TakesNone}
use Rattle.service_lines.proofs.Gives.{rest_behind, rest_none}

-- How far the loop has come in `turns` turns: the bytes `rest` are left, fewer than turns are, and what is printed so far and what they
-- give is `whole`.
abbrev pub Reached : Format → Bytes → List ℕ → Call → ℕ → Option (List ℕ) → Option (List ℕ) → Option (List ℕ) → Type 0
Reached f whole text call turns left first held =
    (rest : List ℕ) × (left ≡ Some rest) × (length rest + turns < 2 ^ 64 - 1) × (done : Bytes) × Appends first held done
    × (done ++ rest_gives f text call rest ≡ whole)

pub reached_first
    : (f : Format) (text : List ℕ) (call : Call) (left held : Option (List ℕ)) (bs : List ℕ) → left ≡ Some bs → length bs < 2 ^ 64 - 1
    → Reached f (rest_gives f text call bs) text call 0 left held held
reached_first f text call left held bs e h = (bs, e, omega arith, [], Appends-nil held, refl)

-- What a reader has left that had `rest`.
left_of
    : (rest part : List ℕ) (left' : Option (List ℕ)) → Consumes (Some rest) left' part → (ys : List ℕ) × (left' ≡ Some ys) × (rest ≡ part ++ ys)
left_of rest part None h = absurd h
left_of rest part (Some ys) h = (ys, refl, h)

positive : (part : List ℕ) → (part ≡ [] → ⊥) → 0 < length part
positive [] h = absurd (h refl)
positive (b ∷ s) h = omega arith

pub reached_next
    : (f : Format) (whole : Bytes) (text text' : List ℕ) (call call' : Call) (turns : ℕ) (left left' first held held' : Option (List ℕ))
    → Reached f whole text call turns left first held → TakesSome f text text' call call' left left' held held'
    → Reached f whole text' call' (turns + 1) left' first held'
reached_next f whole text text' call call' turns left left' first held held' r t =
    let (rest, is, fewer, done, printed, equal) = r in
    let (part, some, consumed, given, line, bytes) = t in
    let (ys, is', split) = left_of rest part left' (subst (λ (o : Option (List ℕ)). Consumes o left' part) is consumed) in
    let size : length rest ≡ length part + length ys = ap length split ∙ length-append part ys in
    let n = positive part some in
    let more = part_gives f text call part in
    let e : (done ++ more) ++ rest_gives f text' call' ys ≡ whole =
    append_assoc done more (rest_gives f text' call' ys)
    ∙ ap (λ (r : Bytes). done ++ r)
    (rw (line, bytes) (sym (rest_behind f text call part ys)) ∙ ap (rest_gives f text call) (sym split))
    ∙ equal in
    (ys, is', omega arith, done ++ more, Appends-trans first held held' done more printed given, e)

pub reached_last
    : (f : Format) (whole : Bytes) (text : List ℕ) (call : Call) (turns : ℕ) (left left' first held held' : Option (List ℕ))
    → Reached f whole text call turns left first held → TakesNone text call left left' held held' → Appends first held' whole
reached_last f whole text call turns left left' first held held' r t =
    let (rest, is, fewer, done, printed, equal) = r in
    let (ys, is', split) = left_of rest [] left' (subst (λ (o : Option (List ℕ)). Consumes o left' []) is t.0) in
    let none : ys ≡ [] = subst IsAtEnd is' t.1 in
    let e : done ++ end_gives text call ≡ whole =
    ap (λ (r : Bytes). done ++ r) (sym (rest_none f text call) ∙ ap (rest_gives f text call) (sym (split ∙ none))) ∙ equal in
    subst (Appends first held') e (Appends-trans first held held' done (end_gives text call) printed t.2)

pub reached_none
    : (f : Format) (whole : Bytes) (text : List ℕ) (call : Call) (turns : ℕ) (left first held : Option (List ℕ))
    → Reached f whole text call turns left first held → 2 ^ 64 - 1 ≤ turns → ⊥
reached_none f whole text call turns left first held r h = let (rest, is, fewer, done, printed, equal) = r in omega arith
