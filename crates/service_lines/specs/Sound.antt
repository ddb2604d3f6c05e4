-- That a line is sound has one proof at most: so it may be a ghost field.
use Rattle.std.specs.Prelude.{List, ℕ, ◌<◌, IfSome}
use Rattle.std.specs.Coded.{Unit-prop, le_prop}
use Rattle.std.specs.Option.{MatchOption-prop}
use Rattle.hex_lines.specs.declared.lines.Line.{Line}
use Rattle.hex_lines.specs.Hexadecimal as hex
use Rattle.calls.specs.declared.Call.{Call}
use Rattle.calls.specs.declared.Call.TheVariants.{Name, Start, Dash, Digits, Bad}
use Rattle.calls.specs.Calls.{Sound}

digits-prop : (l : Line) (text : List ℕ) → IsProp (hex.Sound l text)
digits-prop l text a b =
    let p : IsProp (IfSome l.high (λ d. d < 16)) = MatchOption-prop l.high _ _ Unit-prop (λ d. le_prop) in
    λ i. record { room = le_prop a.room b.room i; digit = p a.digit b.digit i }

pub Sound-prop : (call : Call) (text : List ℕ) → IsProp (Sound call text)
Sound-prop (Name n) text = le_prop
Sound-prop (Start s) text = Unit-prop
Sound-prop (Dash s) text = Unit-prop
Sound-prop (Digits s l) text = digits-prop l text
Sound-prop Bad text = Unit-prop
