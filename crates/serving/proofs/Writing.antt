-- What canonicalizing answers after checks 2 to 11 and 17: a refusal, nothing of a blank text, 13, or the canonical text.
use mathlib.Core.Path.{sym, ◌≡◌, ap, ap₂, ◌∙◌}
use mathlib.Core.Bool.{true, false, ◌&&◌}
use mathlib.Core.List.{List}
use Prim.Native.Nat.{ℕ, ◌≤◌, ◌<◌}
use native.Mathlib.Omega.{arith}
use lib.Dec.{leb}
use lib.ListN.{length}
use borrow.Author.Tests.{le-leb, lt-leb}
use Rattle.grammar.specs.Fault.{longest_text}
use Rattle.grammar.specs.Bytes.{Bytes}
use Rattle.grammar.specs.Outcome.{and_then}
use Rattle.grammar.specs.Canonical.{join_pieces}
use Rattle.grammar.specs.Answer as G
use Rattle.grammar.specs.Answer.{Reading, reading_text, answered, text_into, bytes_that, rejection, success}
use Rattle.canonical_text.specs.Pieces.{Prepared, pieces}
use Rattle.std.specs.Prelude.{Ok, Err}
use Rattle.refusals.specs.declared.Refused.{Refused}
use Rattle.refusals.specs.Numbers.{IsRefused}
use Rattle.checks.specs.declared.Checked.{Checked}
use Rattle.serving.specs.Serving.{result_of, Canonicalizes}
use Rattle.rows.specs.Fields.{TokenRow, NoteRow, RootRow}
use Rattle.serving.specs.Found.{Found}

-- The parts that are written are as long as was counted.
pub parts-length : {text : Bytes} {K : TokenRow} {n : ℕ} {r : Reading} {total : ℕ} → Prepared text K n r total → length (join_pieces (pieces text K 0 n)) ≡ total
parts-length p = ap length p.joined ∙ sym p.counted

module _
    {text : Bytes} {K : TokenRow} {R : NoteRow} {O : RootRow} {c : Checked} (f : Found text K R O c) {n : ℕ} (K' : TokenRow) (B : List ℕ) (total : ℕ)
    (p : Prepared text K' n f.reading total)
  where
    abbrev own : Bytes
    own = reading_text f.reading

    -- The buffer, or 16,384 bytes, do not hold it.
    too_long : leb (length own) (length B) && leb (length own) longest_text ≡ false → (r : Refused) → IsRefused 13 0 r → Canonicalizes text B B (Err r)
    unfolding G.canonicalize answered and_then text_into bytes_that rejection result_of
    too_long e r h = rw f.reads (rw (e, h.numbered, h.placed, bytes_that))

    pub canonical_short : length B < total → (r : Refused) → IsRefused 13 0 r → Canonicalizes text B B (Err r)
    canonical_short l = too_long (rw (lt-leb (length own) (length B) (omega (arith, p.counted))))

    pub canonical_long : total ≤ length B → longest_text < total → (r : Refused) → IsRefused 13 0 r → Canonicalizes text B B (Err r)
    canonical_long a l =
        too_long (rw (le-leb (length own) (length B) (omega (arith, p.counted)), lt-leb (length own) longest_text (omega (arith, p.counted))))

    -- They do, and it is written.
    pub canonical-written :
        total ≤ length B → total ≤ longest_text → (B' : List ℕ) → B' ≡ G.over (join_pieces (pieces text K' 0 n)) B
        → Canonicalizes text B B' (Ok total)
    unfolding G.canonicalize answered and_then text_into bytes_that success result_of
    canonical-written a l B' w =
        let t : leb (length own) (length B) && leb (length own) longest_text ≡ true =
        rw (le-leb (length own) (length B) (omega (arith, p.counted)), le-leb (length own) longest_text (omega (arith, p.counted))) in
        rw f.reads (rw (t, bytes_that)
        (ap₂ (λ m b. record { answer = record { number = 0; offset = 0; count = m }; buffer = b })
        p.counted (w ∙ ap (λ v. G.over v B) p.joined)))
