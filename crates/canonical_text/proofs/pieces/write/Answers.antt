-- The loop's invariant: the bytes for the tokens passed stand over the front of the buffer.
use mathlib.Core.Path.{◌≡◌, sym, ap, ◌∙◌}
use native.Mathlib.Numerals.{add-one}
use native.Mathlib.Omega.{arith}
use Prim.Native.Nat.{ℕ, ◌<◌}
use lib.ListN.{length, take}
use Rattle.std.proofs.lemmas.List.{get_or-take, length-take-le}
use Rattle.rows.specs.Fields.{TokenRow, blank, token, size, Holds}
use Rattle.canonical_text.specs.Trimming.{bytes_of}
use Rattle.canonical_text.proofs.Written.{fill_start, fill_skip, next_fits, fill_next, fill_end}
use Rattle.canonical_text.proofs.pieces.write.Goals as goal
use Rattle.canonical_text.proofs.pieces.write.Goals.{then-token-ne0, else-token-ne0}

-- The first `n` tokens are those of the row.
module _ (K : TokenRow) {n : ℕ} (h : Holds K n) where
  front_long : length (take n K) ≡ n
  front_long = length-take-le n K h.1

  front_here : {i : ℕ} → i < length (take n K) → token (take n K) i ≡ token K i
  front_here {i} l = get_or-take n K i blank (omega (arith, front_long))

  front_some : {i : ℕ} → i < length (take n K) → ((token (take n K) i).size ≡ 0 → ⊥) → size K i ≡ 0 → ⊥
  front_some l d e = d (ap (λ t. t.size) (front_here l) ∙ e)

pub loop-token-init : goal.loop-token-init
loop-token-init c = fill_start

pub put_next-n-requires : goal.put_next-n-requires
put_next-n-requires c =
    let p = c.requires in
    let K = c.args.tokens.now in
    let t = c.loop-token-test.true in
    next_fits p.0 (omega (arith, t, front_long K p.0.rows)) c.loop-token.invariant (front_some K p.0.rows t c.if-token-ne0.true)
    (c.written.ensures ∙ ap (bytes_of c.args.text.now) (front_here K p.0.rows t)) p.1

pub loop-token-preserved : goal.loop-token-preserved
loop-token-preserved c =
    let p = c.requires in
    let K = c.args.tokens.now in
    let t = c.loop-token-test.true in
    let l : c.loop-token.token-index < c.args.count = omega (arith, t, front_long K p.0.rows) in
    rw (add-one c.loop-token.token-index)
    (elim c.if-token-ne0.branch [
      | then-token-ne0 w ↦
          rw (w.buffer-is, w.n-is)
          (fill_next p.0 l c.loop-token.invariant (front_some K p.0.rows t w.if-token-ne0.true)
          (w.written.ensures ∙ ap (bytes_of c.args.text.now) (front_here K p.0.rows t)) w.put_next-n.ensures)
      | else-token-ne0 w ↦
          rw (w.buffer-is, w.n-is)
          (fill_skip p.0 l c.loop-token.invariant (sym (ap (λ u. u.size) (front_here K p.0.rows t)) ∙ w.if-token-ne0.false))
    ])

pub returns : goal.returns
returns c =
    let p = c.requires in
    fill_end p.0 (omega (arith, c.loop-token-test.false, front_long c.args.tokens.now p.0.rows)) p.1 c.loop-token.invariant
