-- The last two bytes come to less than 4,096, of which the last seven bits are the hash.
use mathlib.Core.Path.{◌≡◌, sym, ◌∙◌}
use Prim.Native.Nat.{◌-◌, ◌<◌}
use native.Mathlib.Omega.{arith}
use lib.ListN.{length}
use Rattle.operators.specs.Entries.{last_two}
use Rattle.operators.proofs.Hashes.{last_one, last_two_lem, hash_masked}
use Rattle.operators.proofs.table.hash.Goals as goal
use Rattle.operators.proofs.table.hash.Goals.{then-n-gt1, else-n-gt1}

pub returns : goal.returns
returns c =
    let s = c.args.name.now in
    let b = c.type_inv.name in
    let e : c.if-n-gt1.h ≡ last_two s =
    elim c.if-n-gt1.branch [
      | then-n-gt1 w ↦ w.h-is ∙ sym (last_two_lem s w.if-n-gt1.true)
      | else-n-gt1 w ↦ w.h-is ∙ sym (last_one s w.if-n-gt1.false)
    ] in
    let small : c.if-n-gt1.h < 4096 =
    elim c.if-n-gt1.branch [
      | then-n-gt1 w ↦ omega (arith, w.h-is, b (length s - 1), b (length s - 2))
      | else-n-gt1 w ↦ omega (arith, w.h-is, b (length s - 1))
    ] in
    rw e (hash_masked s (omega arith))
