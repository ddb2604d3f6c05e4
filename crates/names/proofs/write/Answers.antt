-- What is left from `i` on is the byte there, put at `n`, and what is left behind its character.
use mathlib.Core.Path.{◌≡◌, sym, ap, ◌∙◌}
use mathlib.Core.List.{◌∷◌}
use Prim.Native.Nat.{◌+◌}
use native.Mathlib.Numerals.{add-one}
use native.Mathlib.Omega.{arith}
use lib.ListN.{length, drop, get_or, set, length-set}
use lib.Seq.{sets}
use Rattle.grammar.specs.Token.{undoubled}
use Rattle.byte_strings.proofs.Puts.{sets_over}
use Rattle.names.specs.Widths.{width_of}
use Rattle.names.proofs.Characters.{some_wide, undoubled_next, undoubled_end}
use Rattle.names.proofs.write.Goals as goal
use Rattle.names.proofs.write.Goals.{In-loop-i}

left
    : (c : In-loop-i) → let w = c.args.written.now in let b = get_or w c.loop-i.i 0 in
    undoubled (drop c.loop-i.i w) ≡ b ∷ undoubled (drop (c.loop-i.i + width_of b) w)
left c = undoubled_next c.args.written.now c.loop-i.i c.loop-i-test.true

pub bounds-buffer-n : goal.bounds-buffer-n
bounds-buffer-n c = omega (arith, ap length (left (goal.at.bounds-buffer-n c).In-loop-i))

pub overflow_add-i : goal.overflow_add-i
overflow_add-i c = omega (arith, some_wide (get_or c.args.written.now c.loop-i.i 0))

pub loop-i-smaller : goal.loop-i-smaller
loop-i-smaller c = omega (arith, some_wide (get_or c.args.written.now c.loop-i.i 0))

pub loop-i-preserved : goal.loop-i-preserved
loop-i-preserved c =
    let v = c.loop-i in
    let w = c.args.written.now in
    let b = get_or w v.i 0 in
    let e = left (goal.at.loop-i-preserved c).In-loop-i in
    let rest = ap (λ k. undoubled (drop (v.i + k) w)) c.width-i.ensures in (
      simp length-set v.invariant.0,
      simp length-set (omega (arith, v.invariant.1, ap length e, ap length rest)),
      v.invariant.2
          ∙ ap (sets v.buffer v.n) e
          ∙ ap (λ k. sets (set v.buffer v.n b) k (undoubled (drop (v.i + width_of b) w))) (sym (add-one v.n))
          ∙ ap (sets (set v.buffer v.n b) (v.n + 1)) (sym rest),
    )

pub returns : goal.returns
returns c =
    let e = undoubled_end c.args.written.now c.loop-i.i c.loop-i-test.false in
    sym (c.loop-i.invariant.2 ∙ ap (sets c.loop-i.buffer c.loop-i.n) e)
    ∙ sets_over (undoubled c.args.written.now) c.args.buffer.now c.requires
