-- The operator has its name and its roles, and the hash is that of its name, which has a byte.
use mathlib.Core.Path.{refl, ap, ◌∙◌}
use Prim.Native.Nat.{◌+◌}
use native.Mathlib.Omega.{arith}
use lib.ListN.{length, set}
use Rattle.starting_operators.proofs.NameSizes.{name_sizes}
use Rattle.operators.specs.Entries.{hash_of}
use Rattle.operators.proofs.table.Table.put.Goals as goal

pub overflow_cast-self-2 : goal.overflow_cast-self-2
overflow_cast-self-2 c = omega (arith, name_sizes _ c.requires, ap length c.operator-operator.ensures.named)

pub hash-requires : goal.hash-requires
hash-requires c = rw c.operator-operator.ensures.named (name_sizes _ c.requires).0

pub returns : goal.returns
returns c =
    let o = c.operator-operator.ensures in
    let n = c.args.number in
    record {
      new_entry = _;
      is_start = record { placed = refl; sized = ap length o.named; roled = o.roled };
      entries = refl;
      hints = ap (λ h. set c.args.self.now.hints h (n + 1)) (c.hash.ensures.0 ∙ ap hash_of o.named);
      counted = refl;
    }
