-- The cases of the definitions: a line with one more character.
use mathlib.Core.Path.{◌≡◌, refl, sym, ap, ◌∙◌}
use mathlib.Core.Bool.{Bool, true, false, ◌&&◌}
use mathlib.Core.List.{List, [], ◌∷◌}
use Prim.Native.Nat.{ℕ, ◌+◌, ◌≤◌, ◌<◌}
use borrow.Author.Tests.{eq-eqb, ne_eqb, lt-ltb, le-ltb}
use lib.Dec.{eqb}
use lib.Pointwise.{pointwise}
use lib.ListN.{length, take, set}
use lib.Seq.{set_out}
use Rattle.std.specs.Prelude.{None, Some}
use Rattle.grammar.specs.Bytes.{Bytes, same}
use Rattle.hex_lines.specs.declared.lines.Line.{Line}
use Rattle.hex_lines.specs.Hexadecimal as hex
use Rattle.calls.specs.declared.Service.{Service}
use Rattle.calls.specs.declared.Format.{Format}
use Rattle.calls.specs.declared.Call.{Call}
use Rattle.calls.specs.declared.Call.TheVariants.{Name, Start, Dash, Digits, Bad}
use Rattle.calls.specs.Calls.{fresh, named, name_after, name_text_after, after, text_after, requested}
use Rattle.calls.specs.Calls.{taken, text_taken}

-- The test of two byte strings for equality.
pub same_pointwise : (a b : Bytes) → pointwise eqb a b ≡ same a b
unfolding same
same_pointwise [] [] = refl
same_pointwise [] (y ∷ b) = refl
same_pointwise (x ∷ a) [] = refl
same_pointwise (x ∷ a) (y ∷ b) = ap (λ (t : Bool). eqb x y && t) (same_pointwise a b)

-- A character behind `n` characters of a name.
module _ (text : List ℕ) (n b : ℕ) where
  pub space_after : b ≡ 32 → (named (take n text) ≡ name_after text n b) × (text ≡ name_text_after text n b)
  unfolding name_after name_text_after
  space_after e = (rw (eq-eqb b 32 e, name_after) refl, rw (eq-eqb b 32 e, name_text_after) refl)

  module _ (e : b ≡ 32 → ⊥) where
    pub kept_after : n < length text → (Name (n + 1) ≡ name_after text n b) × (set text n b ≡ name_text_after text n b)
    unfolding name_after name_text_after
    kept_after h =
        (rw (ne_eqb b 32 e, lt-ltb n (length text) h, name_after) refl, rw (ne_eqb b 32 e, name_text_after) refl)

    pub full_after : length text ≤ n → (Bad ≡ name_after text n b) × (text ≡ name_text_after text n b)
    unfolding name_after name_text_after
    full_after h =
        (rw (ne_eqb b 32 e, le-ltb n (length text) h, name_after) refl, rw (ne_eqb b 32 e, name_text_after) (sym (set_out text n b h)))

-- The line `call`, as the match on it tells, with the character `b`, the first behind its space; `t` is the text then.
module _ (text : List ℕ) (call : Call) (b : ℕ) where
  pub dash_step : (s : Service) → call ≡ Start s → b ≡ 45 → (Dash s ≡ after text call b) × (text ≡ text_after text call b)
  dash_step s e h = (rw (e, eq-eqb b 45 h, after) refl, rw (e, eq-eqb b 45 h, text_after) refl)

  pub first_step
      : (s : Service) (f l : Line) (t : List ℕ) → call ≡ Start s → (b ≡ 45 → ⊥) → f ≡ hex.fresh
      → l ≡ hex.after (length text) f b → t ≡ hex.text_after text f b
      → (Digits s l ≡ after text call b) × (t ≡ text_after text call b)
  first_step s f l t e h g p q = (rw (p, g, e, ne_eqb b 45 h, after) refl, rw (q, g, e, ne_eqb b 45 h, text_after) refl)

-- The line `call` at its end.
module _ (call : Call) (s : Service) (l : Line) (e : call ≡ Digits s l) where
  pub text_ended : hex.is_text l ≡ true → Some (record { service = s; kept = l.kept }) ≡ requested call
  text_ended h = rw (e, h, requested) refl

  pub no_text_ended : hex.is_text l ≡ false → None ≡ requested call
  no_text_ended h = rw (e, h, requested) refl

-- A character of the input.
module _ (f : Format) (text : List ℕ) (call : Call) where
  pub line_end : (b : ℕ) (r : Call) → r ≡ fresh f → b ≡ 10 → (r ≡ taken f text call b) × (text ≡ text_taken text call b)
  unfolding taken text_taken
  line_end b r e h = (e ∙ rw (eq-eqb b 10 h, taken) refl, rw (eq-eqb b 10 h, text_taken) refl)

  pub line-goes-on
      : (b : ℕ) (r : Call) (t : List ℕ) → (b ≡ 10 → ⊥) → r ≡ after text call b → t ≡ text_after text call b
      → (r ≡ taken f text call b) × (t ≡ text_taken text call b)
  unfolding taken text_taken
  line-goes-on b r t h p q = (p ∙ rw (ne_eqb b 10 h, taken) refl, q ∙ rw (ne_eqb b 10 h, text_taken) refl)
