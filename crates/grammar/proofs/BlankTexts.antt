-- Blank texts are the texts past checks 1 to 10 without a token.
use mathlib.Core.Path.{◌≡◌, refl}
use mathlib.Core.Logic.{◌↔◌}
use mathlib.Core.Bool.{true}
use mathlib.Core.List.{List, []}
use Prim.Native.Nat.{◌≤◌}
use native.Mathlib.Omega.{arith}
use lib.ListN.{length}
use Rattle.grammar.specs.Bytes.{Bytes, every}
use Rattle.grammar.specs.Token.{is_blank_byte}
use Rattle.grammar.specs.Spelling.{Splits, no_more, Spells}
use Rattle.grammar.specs.Outcome.{passed}
use Rattle.grammar.specs.Scan.{Placed, scan}
use Rattle.grammar.specs.Nesting.{nesting}
use Rattle.grammar.specs.Span.{items, items_from}
use Rattle.grammar.specs.Blocks.{check_items, check_blocks}
use Rattle.grammar.specs.Blank.{Blank, blank_rule}
use Rattle.grammar.specs.Fault.{Past, longest_text, most_tokens}
use Rattle.grammar.specs.Answer.{PastChecks, tokens_of, read_text}
use Rattle.grammar.proofs.Scanned.{spells_none, scan-spells, scan-spelled}
use Rattle.grammar.proofs.ReadingTrees.{of_none}
use Rattle.grammar.proofs.Readings.{read_as}
use Rattle.grammar.proofs.Faults.{checked_past, past_checked}

pub checked_blank : (text : Bytes) (ps : List Placed) → PastChecks text ps → tokens_of ps ≡ [] → Blank text
checked_blank text ps h q =
    let s : Spells text [] = rw q at (scan-spelled most_tokens 0 text ps h.scanned) in
    record { short = h.short; blank = go s.split s.blank }
  where
    go : {rest : Bytes} → Splits text [] rest → every is_blank_byte rest ≡ true → every is_blank_byte text ≡ true
    go no_more e = e

-- Without a token there is nothing to nest and no block.
none_checked :
    (text : Bytes) (ps : List Placed) → length text ≤ longest_text → scan most_tokens 0 text ≡ passed ps → tokens_of ps ≡ [] → PastChecks text ps
unfolding nesting check_blocks check_items items items_from
none_checked text ps l e q = record { short = l; scanned = e; nested = rw q; declared = rw q }

pub none_read :
    (text : Bytes) → length text ≤ longest_text → scan most_tokens 0 text ≡ passed [] → read_text text ≡ passed (record { tokens = []; tree = blank_rule })
unfolding tokens_of
none_read text l e = read_as text [] (none_checked text [] l e refl) blank_rule of_none

pub blank_checked : (text : Bytes) → Blank text → (ps : List Placed) × PastChecks text ps × (tokens_of ps ≡ [])
blank_checked text b =
    let (ps, e, q) = scan-spells (spells_none b.blank) most_tokens 0 (omega arith) in
    (ps, none_checked text ps b.short e q, q)

pub blank_past : (text : Bytes) → Blank text ↔ Past text []
blank_past text = (
  λ b. let (ps, h, q) = blank_checked text b in rw q at (checked_past text ps h),
  λ past. let (ps, h, q) = past_checked text [] past in checked_blank text ps h q,
)
