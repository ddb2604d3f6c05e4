-- The builder writes the words of the tree, if the table has room for them.
use mathlib.Core.Path.{refl}
use native.Mathlib.Omega.{arith}
use Rattle.serving.proofs.Reading.{nodes_few, reads_short, buildable, reads_words}
use Rattle.serving.proofs.write_nodes.Goals as goal

pub overflow_mul-checked : goal.overflow_mul-checked
overflow_mul-checked c =
    omega (arith, nodes_few c.requires.1)

pub returns-then-nodes-checked : goal.returns-then-nodes-checked
returns-then-nodes-checked c =
    λ text f. reads_short f _ (omega (arith, c.if-nodes-checked.true)) _ (record { numbered = refl; placed = refl })

pub build-written-requires : goal.build-written-requires
build-written-requires c =
    buildable c.requires.1 _ c.if-nodes-checked.false

pub returns : goal.returns
returns c =
    λ text f. reads_words f _ _ _ c.if-nodes-checked.false c.build-written.ensures
