-- The nodes that reading counts stand in the table, and what is written is what the definition of the listing says.
use mathlib.Core.Path.{◌≡◌}
use mathlib.Core.List.{List}
use Prim.Native.Nat.{ℕ, ◌*◌}
use native.Mathlib.Omega.{arith}
use lib.ListN.{length, replicate, length-replicate}
use Rattle.std.proofs.Common.{rules}
use Rattle.grammar.specs.Nodes.{words_per_node}
use Rattle.reader.proofs.Fits.{count_fits}
use Rattle.listing.specs.Lines.{most_nodes}
use Rattle.std.proofs.KnownBytes.{Appends-trans}
use Rattle.listing.proofs.Appended.{ok_same, ok_then}
use Rattle.listing.proofs.Outcomes.{outcome-counted}
use Rattle.listing.proofs.Listed.{reading_printed, reading-refusal_printed}
use Rattle.listing.proofs.print_listing.Goals as goal

pub print_nodes-requires : goal.print_nodes-requires
print_nodes-requires g c =
    let table : List ℕ = replicate (most_nodes * words_per_node) 0 in
    let size : length table ≡ most_nodes * words_per_node = length-replicate {A = ℕ} (most_nodes * words_per_node) 0 in
    let fits = count_fits _ table _ c.read-a.result c.read-a.ensures in
    let o = outcome-counted c.read-a.result c.in-Ok.count (search rules) in
    omega arith

pub returns-in_ok-print_nodes-in-Ok : goal.returns-in_ok-print_nodes-in-Ok
returns-in_ok-print_nodes-in-Ok g c =
    let a = c.read-a in
    ok_same c.print_canonical.result _ _ (reading_printed c.args.text.now a.new.nodes a.result a.ensures c.in-Ok.count (search rules))
    (ok_then c.print_canonical.result _ _ _ _ _
    (Appends-trans _ _ _ _ _ c.in_ok-writeln-in-Ok.ensures.bytes c.in_ok-print_nodes-in-Ok.ensures)
    c.print_canonical.ensures)

pub returns-in-Err : goal.returns-in-Err
returns-in-Err g c =
    let a = c.read-a in
    ok_same c.writeln-in-Err.result _ _
    (reading-refusal_printed c.args.text.now a.new.nodes a.result a.ensures c.in-Err.error (search rules))
    c.writeln-in-Err.ensures.bytes
