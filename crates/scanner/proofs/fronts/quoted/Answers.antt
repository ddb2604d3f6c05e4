-- The characters up to `e` are counted, and the next one ends at `next`. Behind the loop the tests are those of `quoted_name`.
use mathlib.Core.Path.{◌≡◌, refl, sym, ap, ◌∙◌}
use mathlib.Core.Bool.{true, false}
use Prim.Native.Nat.{ℕ, ◌+◌, ◌-◌, ◌≤◌}
use native.Mathlib.Omega.{arith}
use lib.ListN.{length, drop, get_or}
use lib.Seq.{get_or-drop}
use Rattle.grammar.specs.Bytes.{Bytes}
use Rattle.grammar.specs.Token.{is_quote, doubled, atom, quoted}
use Rattle.grammar.specs.Scan.{characters_at, quoted_name, wrong, taken}
use Rattle.grammar.specs.Coded.{kind_of}
use Rattle.grammar.proofs.Logic.{below}
use Rattle.scanner.specs.Scanning.{first_size}
use Rattle.scanner.proofs.QuotedCharacters.{Counted, none_counted, counted_few, next_counted, all_counted}
use Rattle.scanner.proofs.TokenAtFront.{quoted_empty, quoted_long, quoted_taken, quoted_open}
use Rattle.scanner.proofs.fronts.quoted.Goals as goal
use Rattle.scanner.proofs.fronts.quoted.Goals.{
  then-not-contains-via-then-not-contains,
  then-not-contains-via-else-not-contains+then-not-is_quote,
}

-- Behind the loop: all characters are counted, and the byte behind them stands at `e`.
module _
    {text : Bytes} (at : ℕ) {e n next : ℕ} (v : Counted text (at + 1) e n) (i : next ≡ e + first_size (drop e text)) (stop : next ≤ e)
  where
    all : characters_at (drop (at + 1) text) ≡ v.found
    all = all_counted v i stop

    behind : is_quote (get_or (drop (at + 1) text) (length (doubled v.found)) 0) ≡ is_quote (get_or text e 0)
    behind =
        ap is_quote (get_or-drop (at + 1) text (length (doubled v.found)) 0) ∙ ap (λ k. is_quote (get_or text k 0)) (sym v.ends)

    wrong_many : (1 ≤ n → n ≤ 63 → ⊥) → quoted_name (drop (at + 1) text) ≡ wrong 3
    wrong_many f =
        below 0 n
        (λ h. below 63 n (λ l. quoted_long _ _ all _ v.many (omega arith) l) (λ l. absurd (f (omega arith) l)))
        (λ h. quoted_empty _ _ all _ v.many (omega arith))

    module _ (h : 1 ≤ n) (g : n ≤ 63) where
      unclosed : is_quote (get_or text e 0) ≡ false → quoted_name (drop (at + 1) text) ≡ wrong 3
      unclosed q = quoted_open _ _ all _ v.many h g (behind ∙ q)

      closed
          : is_quote (get_or text e 0) ≡ true → quoted_name (drop (at + 1) text) ≡ taken (atom (quoted v.found)) (e - at - 1 + 2)
      closed q =
          quoted_taken _ _ all _ v.many h g (behind ∙ q)
          ∙ ap (taken (atom (quoted v.found))) (omega (arith, v.ends))

pub loop-e-init : goal.loop-e-init
loop-e-init c = (c.requires, none_counted c.args.text.now (c.args.at + 1) (omega (arith, c.requires)), c.character_end-next.ensures)

pub overflow_add-n : goal.overflow_add-n
overflow_add-n c = omega (arith, counted_few c.loop-e.invariant.1)

pub loop-e-smaller : goal.loop-e-smaller
loop-e-smaller c =
    let v = next_counted c.loop-e.invariant.1 c.loop-e.invariant.2 c.loop-e-test.true in
    omega (arith, v.within, c.loop-e-test.true)

pub loop-e-preserved : goal.loop-e-preserved
loop-e-preserved c =
    let i = c.loop-e.invariant in
    (i.0, next_counted i.1 i.2 c.loop-e-test.true, c.character_end-next-in-loop-e.ensures)

pub returns-then-not-contains : goal.returns-then-not-contains
returns-then-not-contains c =
    let l = c.loop-e in
    let i = l.invariant in
    elim c.then-not-contains.branch [
      | then-not-contains-via-then-not-contains w ↦ rw (wrong_many c.args.at i.1 i.2 c.loop-e-test.false (λ h g. grind arith)) refl
      | then-not-contains-via-else-not-contains+then-not-is_quote w ↦
          rw (unclosed c.args.at i.1 i.2 c.loop-e-test.false (grind arith) (grind arith) (sym w.is_quote.ensures ∙ w.if-not-is_quote.true)) refl
    ]

pub returns : goal.returns
unfolding kind_of
returns c =
    let i = c.loop-e.invariant in
    rw (closed c.args.at i.1 i.2 c.loop-e-test.false (grind arith) (grind arith) (sym c.if-not-is_quote.ensures)) (record { coded = refl; long = refl })
