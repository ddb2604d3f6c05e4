-- What writing a name answers and leaves, by whether its characters fit.
use mathlib.Core.Path.{◌≡◌}
use mathlib.Core.List.{List}
use Prim.Native.Nat.{ℕ, ◌≤◌, ◌<◌}
use lib.ListN.{length}
use borrow.Author.Tests.{le-leb, lt-leb}
use Rattle.grammar.specs.Bytes.{Bytes}
use Rattle.grammar.specs.Token.{undoubled}
use Rattle.grammar.specs.Answer as G
use Rattle.grammar.specs.Answer.{answered, bytes_that, over, rejection, success}
use Rattle.reader.specs.Answered.{result_of, refused_with, written}

module _ (w : Bytes) (B : List ℕ) where
  pub name_fits : length (undoubled w) ≤ length B → G.write_name w B ≡ result_of (written (length (undoubled w))) (over (undoubled w) B)
  unfolding G.write_name answered bytes_that success result_of
  name_fits l = rw (le-leb (length (undoubled w)) (length B) l, bytes_that)

  pub name_short : length B < length (undoubled w) → G.write_name w B ≡ result_of (refused_with 13 0) B
  unfolding G.write_name answered bytes_that rejection result_of
  name_short l = rw (lt-leb (length (undoubled w)) (length B) l, bytes_that)
