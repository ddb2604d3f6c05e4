-- The bytes that canonicalizing counts stand in the buffer of 16,384, and what is written are the lines of the definition.
use mathlib.Core.Path.{◌≡◌, sym}
use mathlib.Core.List.{List}
use Prim.Native.Nat.{ℕ, ◌≤◌}
use native.Mathlib.Omega.{arith}
use lib.ListN.{length, replicate, length-replicate}
use lib.Seq.{length-take-le}
use Rattle.std.proofs.Common.{rules, Ok}
use Rattle.reader.specs.declared.Answer.{Answer}
use Rattle.reader.specs.Answered.{Canonicalizes}
use Rattle.reader.proofs.Fits.{canonical_count_fits}
use Rattle.listing.specs.Outcome.{outcome_of}
use Rattle.listing.proofs.Appended.{ok_same, ok_then}
use Rattle.listing.proofs.Outcomes.{outcome-counted}
use Rattle.listing.proofs.Listed.{canonical_printed, canonical-refusal_printed}
use Rattle.listing.proofs.print_canonical.Goals as goal

-- The count is within the buffer, which keeps its length.
within
    : (text buffer : List ℕ) (a : Answer) (n : ℕ) → Canonicalizes text (replicate 16384 0) buffer a → outcome_of a ≡ Ok n → length buffer ≡ 16384
    → n ≤ length buffer
within text buffer a n e o size =
    omega (arith, canonical_count_fits text (replicate 16384 0) buffer a e, length-replicate {A = ℕ} 16384 0, (outcome-counted a n o).1)

pub slice_bounds-buffer-end : goal.slice_bounds-buffer-end
slice_bounds-buffer-end g c =
    let a = c.canonicalize-a in
    within c.args.text.now a.new.buffer a.result c.in-Ok.count a.ensures (search rules) a.auto.buffer

pub slice_bounds-write_all-end : goal.slice_bounds-write_all-end
slice_bounds-write_all-end g c =
    let a = c.canonicalize-a in
    sym (length-take-le c.in-Ok.count a.new.buffer (within c.args.text.now a.new.buffer a.result c.in-Ok.count a.ensures (search rules) a.auto.buffer))

pub returns-in_ok-write_all-in-Ok : goal.returns-in_ok-write_all-in-Ok
returns-in_ok-write_all-in-Ok g c =
    let a = c.canonicalize-a in
    let r = c.write_all-in-Ok.result in
    ok_same r _ _ (canonical_printed c.args.text.now a.new.buffer a.result a.ensures c.in-Ok.count (search rules))
    (ok_then r _ _ _ _ _ c.in_ok-writeln-in-Ok.ensures.bytes
    (ok_then r _ _ _ _ _ c.in_ok-write_all-in-Ok.ensures.bytes c.write_all-in-Ok.ensures.bytes))

pub returns-in-Err : goal.returns-in-Err
returns-in-Err g c =
    let a = c.canonicalize-a in
    ok_same c.writeln-in-Err.result _ _
    (canonical-refusal_printed c.args.text.now a.new.buffer a.result a.ensures c.in-Err.error (search rules))
    c.writeln-in-Err.ensures.bytes
