-- The part is what the node gives, and its characters are counted and, if they fit, written.
use mathlib.Core.Path.{◌≡◌, sym, ap, ap₂, ◌∙◌}
use native.Mathlib.Omega.{arith}
use lib.ListN.{length}
use Rattle.grammar.specs.Token.{undoubled}
use Rattle.grammar.specs.Answer.{over}
use Rattle.reader.specs.Answered.{answer_from, result_of, written, node_written}
use Rattle.reader.proofs.NameWriting.{name_fits, name_short}
use Rattle.reader.proofs.write_name.Goals as goal
use Rattle.reader.proofs.write_name.Goals.{After-count-count}

-- How many characters the part has.
counted :
    (c : After-count-count) → let a = c.args in
    c.count-count.result ≡ length (undoubled (node_written a.text.now a.nodes.now a.i))
counted c = c.count-count.ensures ∙ ap (λ w. length (undoubled w)) c.as_written-written.ensures

pub returns-then-buffer-count : goal.returns-then-buffer-count
unfolding answer_from
returns-then-buffer-count c =
    let a = c.args in
    let n = counted (goal.at.returns-then-buffer-count c).After-count-count in
    rw c.into.ensures
    (sym (name_short (node_written a.text.now a.nodes.now a.i) a.buffer.now (omega (arith, n, c.if-buffer-count.true))))

pub returns : goal.returns
unfolding answer_from
returns c =
    let a = c.args in
    let part = node_written a.text.now a.nodes.now a.i in
    let n = counted (goal.at.returns c).After-count-count in
    let filled = c.write.ensures ∙ ap (λ b. over (undoubled b) a.buffer.now) c.as_written-written.ensures in
    rw c.into-2.ensures
    (ap₂ (λ m b. result_of (written m) b) n filled ∙ sym (name_fits part a.buffer.now (omega (arith, n, c.if-buffer-count.false))))
