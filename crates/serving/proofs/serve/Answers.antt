-- Rows of three sizes are lent, by the text's length.
use mathlib.Core.Path.{refl}
use Rattle.serving.proofs.Serving.{serves_long}
use Rattle.serving.proofs.serve.Goals as goal

pub returns-then-text-gt-MAX_BYTES : goal.returns-then-text-gt-MAX_BYTES
returns-then-text-gt-MAX_BYTES c =
    serves_long _ _ c.if-text-gt-MAX_BYTES.true _ (record { numbered = refl; placed = refl })
