-- A name of another length is another one; the two arms are those of `name_in`.
use mathlib.Core.Path.{◌≡◌, sym, ap, ◌∙◌}
use Prim.Native.Nat.{◌+◌, ◌-◌}
use native.Mathlib.Omega.{arith}
use lib.ListN.{take, drop}
use Rattle.std.specs.Prelude.{Some, nat_eq}
use Rattle.std.specs.Option.{option_eq}
use Rattle.grammar.specs.Fault.{longest_text}
use Rattle.grammar.specs.Bytes.{same}
use Rattle.starting_operators.proofs.NameSizes.{other_length}
use Rattle.operators.proofs.TableEntries.{name_in_text, name_at_start, name_length, named_test}
use Rattle.operators.proofs.table.is_named.Goals as goal

pub returns-then-name-size : goal.returns-then-name-size
returns-then-name-size c = sym (other_length _ _ (λ e. c.if-name-size.true (e ∙ name_length _ _ _ c.requires.0)))

pub returns-then-start-lt-NAMES : goal.returns-then-start-lt-NAMES
returns-then-start-lt-NAMES c =
    let n : c.args.start + c.args.size - c.args.start ≡ c.args.size = omega arith in
    c.equal.ensures
    ∙ ap (same _) (ap (λ n. take n (drop c.args.start c.args.text.now)) n ∙ sym (name_in_text _ _ _ c.if-start-lt-NAMES.true))

pub returns : goal.returns
returns c =
    let h = c.if-start-lt-NAMES.false in
    let k = c.args.start - longest_text in
    c.eq.ensures
    ∙ ap (λ n. option_eq nat_eq n (Some k)) c.requires.1
    ∙ named_test _ k (c.requires.0.1 h).0
    ∙ ap (same _) (sym (name_at_start _ _ _ h))
