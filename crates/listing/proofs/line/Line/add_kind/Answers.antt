-- A space and a word, which has at most seven bytes.
use mathlib.Core.Path.{ap}
use mathlib.Core.List.{[], ◌∷◌}
use native.Mathlib.Omega.{arith}
use lib.ListN.{length, length-append}
use Rattle.listing.proofs.NodeText.{kind_word_short}
use Rattle.listing.proofs.line.Line.add_kind.Goals as goal

pub add-requires-in-Some : goal.add-requires-in-Some
add-requires-in-Some c =
    omega (
      arith,
      ap length c.add.ensures,
      length-append c.args.self.now (32 ∷ []),
      c.as_bytes.ensures.len,
      ap length c.word.ensures,
      kind_word_short c.in-Some.kind,
    )

pub returns-in-Some-clause-upper_bound : goal.returns-in-Some-clause-upper_bound
returns-in-Some-clause-upper_bound c =
    omega (
      arith,
      ap length c.add-in-Some.ensures,
      length-append c.add.new.self c.as_bytes.result.now,
      ap length c.add.ensures,
      length-append c.args.self.now (32 ∷ []),
      c.as_bytes.ensures.len,
      ap length c.word.ensures,
      kind_word_short c.in-Some.kind,
    )
