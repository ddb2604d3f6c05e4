-- The entry of the hint has the name, or none has it; else suffix style: the search of all entries is that of the entries from `i` on.
use mathlib.Core.Bool.{Bool}
use mathlib.Core.List.{List}
use mathlib.Core.Path.{◌≡◌, sym, ap, subst, ◌∙◌}
use Prim.Native.Nat.{ℕ, ◌<◌}
use native.Mathlib.Omega.{arith}
use lib.ListN.{length, get_or}
use Rattle.std.proofs.lemmas.List.{get_or_default}
use Rattle.grammar.specs.Bytes.{Bytes, same}
use Rattle.operators.specs.Entries.{no_entry, name_in, name_at}
use Rattle.operators.specs.declared.table.Entry.{Entry}
use Rattle.operators.proofs.TableEntries.{find_all, find_here, find_next, find_none}
use Rattle.operators.proofs.Searches.{unhinted, found_named}
use Rattle.operators.proofs.table.Table.find.Goals as goal

-- The name of an entry that was read.
named :
    (text name : Bytes) (E : List Entry) (k : ℕ) (d : Entry) {b : Bool} → k < length E
    → same name (name_in text (get_or E k d).start (get_or E k d).size) ≡ b → same name (name_at text E k) ≡ b
named text name E k d {b} h q =
    subst (λ (x : Entry). same name (name_in text x.start x.size) ≡ b) (get_or_default E k d no_entry h) q

pub returns-then-hint-eq0 : goal.returns-then-hint-eq0
returns-then-hint-eq0 c =
    sym (unhinted _ _ c.requires.0 _ (ap (λ h. get_or c.args.self.now.hints h 0) (sym c.hash.ensures.0) ∙ c.if-hint-eq0.true))

pub returns-then-is_named : goal.returns-then-is_named
returns-then-is_named c =
    let e = sym c.is_named.ensures ∙ c.if-is_named.true in
    sym (found_named _ _ c.requires.0 _ _ (omega arith) (named _ _ c.args.self.now.entries _ c.index-self-entry.result (omega arith) e))

pub loop-i-init : goal.loop-i-init
loop-i-init c = find_all _ _ _ _

pub returns-then-is_named-2 : goal.returns-then-is_named-2
returns-then-is_named-2 c =
    let e = sym c.is_named-in-loop-i.ensures ∙ c.if-is_named-2.true in
    let h = named _ _ c.args.self.now.entries _ c.index-self-i.result (omega arith) e in
    sym (c.loop-i.invariant ∙ find_here _ _ _ _ _ c.loop-i-test.true h)

pub loop-i-preserved : goal.loop-i-preserved
loop-i-preserved c =
    c.loop-i.invariant ∙ find_next _ _ _ _ _ c.loop-i-test.true (named _ _ c.args.self.now.entries _ c.index-self-i.result (omega arith) (sym c.is_named-in-loop-i.ensures ∙ c.if-is_named-2.false))

pub returns : goal.returns
returns c = sym (c.loop-i.invariant ∙ find_none _ _ _ _ _ c.loop-i-test.false)
