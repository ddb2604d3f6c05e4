-- What the checks answer with 11 at the place where the text is lost: the refusal, that place, or what is read.
use mathlib.Core.Path.{◌≡◌}
use mathlib.Core.Bool.{false}
use Prim.Native.Nat.{ℕ}
use lib.Dec.{eqb}
use Rattle.grammar.specs.Fault.{most_tokens}
use Rattle.grammar.specs.Bytes.{Bytes}
use Rattle.grammar.specs.Outcome.{refused, passed}
use Rattle.grammar.specs.Scan.{scan}
use Rattle.grammar.specs.Answer.{Reading, read_text, lost_offset, lost_at, located_text}

module _ (text : Bytes) where
  pub located_refused : (m p : ℕ) → read_text text ≡ refused m p → eqb m 11 ≡ false → located_text text ≡ refused m p
  unfolding lost_at
  located_refused m p e d = rw e (rw (d, lost_at))

  pub located_lost :
      (p l : ℕ) → read_text text ≡ refused 11 p → l ≡ lost_offset text (scan most_tokens 0 text) → located_text text ≡ refused 11 l
  unfolding lost_at
  located_lost p l e f = rw (e, f)

  pub located_read : (r : Reading) → read_text text ≡ passed r → located_text text ≡ passed r
  unfolding lost_at
  located_read r e = rw e
