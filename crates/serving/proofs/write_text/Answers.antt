-- The tokens are prepared, and what they leave is written, if it fits.
use mathlib.Core.Path.{refl, sym, ◌∙◌}
use Rattle.serving.proofs.Writing.{canonical_short, canonical_long, canonical-written}
use Rattle.serving.proofs.write_text.Goals as goal

pub returns-then-buffer-n : goal.returns-then-buffer-n
returns-then-buffer-n c =
    let f = c.requires.2 in
    let p = c.prepare-n.ensures f.reading f.has_read.3 (sym c.requires.1 ∙ f.has_read.0) in
    canonical_short f _ _ _ p c.if-buffer-n.true _ (record { numbered = refl; placed = refl })

pub returns-then-n-gt-MAX_BYTES : goal.returns-then-n-gt-MAX_BYTES
returns-then-n-gt-MAX_BYTES c =
    let f = c.requires.2 in
    let p = c.prepare-n.ensures f.reading f.has_read.3 (sym c.requires.1 ∙ f.has_read.0) in
    canonical_long f _ _ _ p c.if-buffer-n.false c.if-n-gt-MAX_BYTES.true _ (record { numbered = refl; placed = refl })

pub returns : goal.returns
returns c =
    let f = c.requires.2 in
    let p = c.prepare-n.ensures f.reading f.has_read.3 (sym c.requires.1 ∙ f.has_read.0) in
    canonical-written f _ _ _ p c.if-buffer-n.false c.if-n-gt-MAX_BYTES.false _ c.write.ensures
