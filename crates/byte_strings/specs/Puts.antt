-- Putting bytes into a buffer.
use Rattle.std.specs.Prelude.{◌≡◌, List, ℕ, ◌+◌, length}
use Rattle.std.proofs.lemmas.List.Edits.{sets}
use Rattle.grammar.specs.Bytes.{Bytes}

-- `part` is put into a buffer from place `n` on, and `r` is the place behind it.
pub record Put (buffer : List ℕ) (n : ℕ) (part : Bytes) (buffer' : List ℕ) (r : ℕ) : Type 0 where
  pub size : r ≡ n + length part
  pub stored : buffer' ≡ sets buffer n part
