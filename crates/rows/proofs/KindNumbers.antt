-- The kinds of tokens have the numbers from 1 to 9, each its own.
use mathlib.Core.Path.{◌≡◌, refl, sym, ap, ◌∙◌}
use mathlib.Core.List.{List, [], ◌∷◌}
use Prim.Native.Nat.{ℕ, ◌≤◌}
use native.Mathlib.Omega.{arith}
use Rattle.std.specs.Prelude.{get_or}
use Rattle.rows.specs.declared.token.Kind.{Kind}
use Rattle.rows.specs.declared.token.Kind.TheVariants.{Symbol, Number, Quoted, Opening, Closing, Semicolon, Let, In, End}
use Rattle.rows.specs.Kinds.{kind_code}

pub code_bounds : (k : Kind) → (1 ≤ kind_code k) × (kind_code k ≤ 9)
code_bounds Symbol = omega arith
code_bounds Number = omega arith
code_bounds Quoted = omega arith
code_bounds Opening = omega arith
code_bounds Closing = omega arith
code_bounds Semicolon = omega arith
code_bounds Let = omega arith
code_bounds In = omega arith
code_bounds End = omega arith

-- The kind of a number.
abbrev kinds : List Kind
kinds = Symbol ∷ Symbol ∷ Number ∷ Quoted ∷ Opening ∷ Closing ∷ Semicolon ∷ Let ∷ In ∷ []

abbrev kind_numbered : ℕ → Kind
kind_numbered c = get_or kinds c End

numbered : (k : Kind) → kind_numbered (kind_code k) ≡ k
numbered Symbol = refl
numbered Number = refl
numbered Quoted = refl
numbered Opening = refl
numbered Closing = refl
numbered Semicolon = refl
numbered Let = refl
numbered In = refl
numbered End = refl

pub same_kind : (k l : Kind) → kind_code k ≡ kind_code l → k ≡ l
same_kind k l e = sym (numbered k) ∙ (ap kind_numbered e ∙ numbered l)
