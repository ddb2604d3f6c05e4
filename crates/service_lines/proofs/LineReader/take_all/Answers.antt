-- A turn takes one character more. A turn that fails does so at a line end, which leaves the text as it is.
use mathlib.Core.Path.{refl, sym, ap, ◌∙◌, subst}
use Prim.Native.Nat.{◌+◌}
use native.Mathlib.Omega.{arith}
use lib.ListN.{get_or}
use Rattle.std.specs.Prelude.{Result, Ok, Err, OnErr}
use Rattle.std.specs.Io.KnownBytes.{Appends}
use Rattle.std.proofs.KnownBytes.{Appends-nil, Appends-trans}
use Rattle.calls.specs.Calls.{fresh}
use Rattle.calls.proofs.Steps.{line_end, line-goes-on}
use Rattle.service_lines.proofs.Fronts.{fresh_sound, front_step, text_front_step}
use Rattle.service_lines.proofs.Gives.{at_end, within, given_step}
use Rattle.service_lines.proofs.LineReader.take_all.Goals as goal
use Rattle.service_lines.proofs.LineReader.take_all.Goals.{then-b-eq10+in_ok-finish, else-b-eq10}

on_any_err : {T E P : Type 0} (r : Result T E) → P → OnErr r P
on_any_err (Ok a) p = tt
on_any_err (Err e) p = p

pub loop-b-preserved : goal.loop-b-preserved
loop-b-preserved g c =
    let a = c.args.self.now in
    let s = c.args.part.now in
    let l = c.loop-b in
    let i = l.invariant in
    let t = c.loop-b-test.true in
    let b = get_or s l.b-index 0 in
    let m = given_step a.format a.text a.call s l.b-index l.call l.self.text t i.call i.text in
    elim c.if-b-eq10.branch [
      | then-b-eq10+in_ok-finish w ↦
          let r = w.new-call.result in
          let e = line_end a.format l.self.text l.call b r (w.new-call.ensures ∙ ap fresh i.format) w.if-b-eq10.true in
          let prints = subst (Appends _ _) (sym (at_end b _ _ w.if-b-eq10.true)) w.in_ok-finish.ensures in
          rw (w.self-is, w.out-is, w.call-is) (record {
            format = i.format;
            call = front_step a.format a.text a.call s l.b-index l.call l.self.text t i.call i.text r e.0;
            text = text_front_step a.format a.text a.call s l.b-index l.call l.self.text t i.call i.text l.self.text e.1;
            sound = rw (w.new-call.ensures) (fresh_sound l.self.format l.self.text);
            printed = subst (Appends _ _) m (Appends-trans _ _ _ _ _ i.printed prints);
          })
      | else-b-eq10 w ↦
          let r = w.next-call.result in
          let u = w.next-call.new.text in
          let n = w.next-call.ensures in
          let e = line-goes-on a.format l.self.text l.call b r u w.if-b-eq10.false n.value n.text_after in
          let prints = subst (Appends _ _) (sym (within b _ _ w.if-b-eq10.false)) (Appends-nil _) in
          rw (w.self-is, w.out-is, w.call-is) (record {
            format = i.format;
            call = front_step a.format a.text a.call s l.b-index l.call l.self.text t i.call i.text r e.0;
            text = text_front_step a.format a.text a.call s l.b-index l.call l.self.text t i.call i.text u e.1;
            sound = n.sound;
            printed = subst (Appends _ _) m (Appends-trans _ _ _ _ _ i.printed prints);
          })
    ]

pub returns-in_err-finish-clause-failed : goal.returns-in_err-finish-clause-failed
returns-in_err-finish-clause-failed g c =
    let a = c.args.self.now in
    let s = c.args.part.now in
    let l = c.loop-b in
    let i = l.invariant in
    let t = c.loop-b-test.true in
    let e = line_end a.format l.self.text l.call (get_or s l.b-index 0) (fresh a.format) refl c.if-b-eq10.true in
    let u = text_front_step a.format a.text a.call s l.b-index l.call l.self.text t i.call i.text l.self.text e.1 in
    on_any_err c.from_residual.result (l.b-index + 1, omega arith, omega arith, u)
