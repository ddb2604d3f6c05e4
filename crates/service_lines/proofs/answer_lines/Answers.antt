-- The text has room for all that the services look at, so what the loop prints is what the lines ask for.
use mathlib.Core.Path.{ap, ◌∙◌, subst}
use Prim.Native.Nat.{ℕ}
use lib.ListN.{replicate, length-replicate}
use Rattle.std.specs.Prelude.{Result, Ok, Err, OnOk}
use Rattle.std.specs.Io.KnownBytes.{Appends}
use Rattle.calls.specs.declared.Call.{Call}
use Rattle.service_lines.specs.Printed.{kept_bytes}
use Rattle.service_lines.specs.Parts.{rest_gives}
use Rattle.service_lines.proofs.Lines.{whole_input}
use Rattle.service_lines.proofs.answer_lines.Goals as goal

on_ok : {T E P Q : Type 0} (r : Result T E) → OnOk r P → (P → Q) → OnOk r Q
on_ok (Ok a) p f = f p
on_ok (Err e) p f = tt

pub returns : goal.returns
returns g c =
    let f = c.args.format in
    let text = replicate kept_bytes 0 in
    on_ok c.read_all.result c.read_all.ensures
    (λ p bs e h. subst (Appends _ _)
    (ap (λ (call : Call). rest_gives f text call bs) c.new.ensures ∙ whole_input f text bs (length-replicate {A = ℕ} kept_bytes 0)) (p bs e h))
