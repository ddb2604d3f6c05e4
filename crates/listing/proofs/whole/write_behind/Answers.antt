-- The bytes in front and the text were taken, and what waited at the end is sent.
use Rattle.std.proofs.Common.{rules, ◌++◌, ◌∙◌}
use Rattle.std.proofs.lemmas.Option.{IfSome_then}
use Rattle.std.proofs.lemmas.Result.{on_ok_weaker}
use Rattle.std.specs.Io.KnownBytes.{Appends, append_known}
use Rattle.std.proofs.KnownBytes.{Appends-of_writes, Appends-trans}
use Rattle.listing.proofs.Appended.{appended-sent, at_ok}
use Rattle.listing.proofs.whole.write_behind.Goals as goal

pub returns : goal.returns
returns g c =
    let contents = g.W.Write.contents in
    let put = c.in_ok-put.ensures in
    let formatted = c.write_fmt-formatted in
    on_ok_weaker c.finish.result
    (λ (ok, sent).
    IfSome_then (g.D.Display.output c.args.text) (at_ok formatted.result ok formatted.ensures.writes) (λ text written.
    let (same, appended) =
    Appends-of_writes (λ s. s.inner.ghost_name) (λ s. append_known (contents s.inner.now) s.waiting) _ text _ written in
    let name = same ∙ put.same_writer in
    let taken = Appends-trans _ _ _ _ _ put.bytes appended in
    let bytes : Appends (contents c.args.out.now) (contents c.finish.new.out) (c.args.front.now ++ text) =
    appended-sent _ _ _ _ _ _ c.empty.ensures taken (rw c.as_slice.ensures at sent) in
    search rules))
    c.finish.ensures
