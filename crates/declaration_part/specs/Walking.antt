-- Where the reader of a declaration part stands.
use Rattle.std.specs.Prelude.{◌≡◌, ℕ}
use Rattle.grammar.specs.Bytes.{Bytes}
use Rattle.scanner.specs.Places.{token_end, blanks_end}
use Rattle.declaration_part.specs.declared.walk.Span.{Span}
use Rattle.declaration_part.specs.declared.walk.Places.{Places}

-- The token behind `before` begins behind the blanks.
abbrev pub Next : Bytes → Span → Span → Type 0
Next text before next = (next.start ≡ blanks_end text before.end) × (next.end ≡ token_end text next.start)

-- Where the token begins behind the one that begins at `before` or, where blanks stand, behind these.
abbrev pub second_begin : Bytes → ℕ → ℕ
second_begin text before = blanks_end text (token_end text (blanks_end text before))

-- The second, third, fourth and fifth token from `before` on stand at these places.
pub record Walked (text : Bytes) (before : ℕ) (p : Places) : Type 0 where
  pub first : (p.first.start ≡ second_begin text before) × (p.first.end ≡ token_end text p.first.start)
  pub second : Next text p.first p.second
  pub third : Next text p.second p.third
  pub fourth : Next text p.third p.fourth
