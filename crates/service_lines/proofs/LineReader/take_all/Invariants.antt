-- The loop's invariant: the line and its text are what the first characters of the part leave, and what they give is printed.
use mathlib.Core.Path.{◌≡◌}
use lib.ListN.{take}
use Rattle.std.specs.Io.KnownBytes.{Appends}
use Rattle.calls.specs.Calls.{taken_all, text_taken_all, Sound}
use Rattle.service_lines.specs.Parts.{part_gives}
use Rattle.service_lines.proofs.LineReader.take_all.Given as goal

abbrev pub invariant-loop-b : goal.invariant-loop-b
invariant-loop-b g l =
    let a = l.initial.self in
    let s = take l.b-index l.part in
    record {
      format : l.self.format ≡ a.format;
      call : l.call ≡ taken_all a.format a.text a.call s;
      text : l.self.text ≡ text_taken_all a.format a.text a.call s;
      sound : Sound l.call l.self.text;
      printed : Appends (g.W.Write.contents l.initial.out) (g.W.Write.contents l.out) (part_gives a.format a.text a.call s);
    }
