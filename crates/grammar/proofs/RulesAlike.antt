-- Rules under which the same rows hold of a text: it is past them under both, and reads as the same. Rules matter to the rows of blocks
-- alone, and to those through the faults of declaration parts.
use mathlib.Core.Logic.{◌↔◌}
use mathlib.Core.List.{List, []}
use Prim.Native.Nat.{ℕ, ◌≤◌}
use Rattle.grammar.specs.Bytes.{Bytes}
use Rattle.grammar.specs.Token.{Token}
use Rattle.grammar.specs.Open.{OpenAfter}
use Rattle.grammar.specs.Operator.{Table}
use Rattle.grammar.specs.Spans.{BlockOf}
use Rattle.grammar.specs.Tree.{Tree}
use Rattle.grammar.specs.Fault.{
  Rules,
  DeclarationFault,
  BlockFault,
  HasTokens,
  FaultUnder,
  too_long,
  in_tokens,
  in_nesting,
  in_blocks,
  PastUnder,
}
use Rattle.grammar.specs.Claim.{TreeUnder, ReadingUnder, of_tree, of_blank}

-- No block in front of number `j` has a fault.
abbrev pub NoneBefore : Rules → List Token → ℕ → Type 0
NoneBefore R ts j = (T : Table) (i : ℕ) (ds : List Token) (m k : ℕ) → BlockOf ts T i ds → DeclarationFault R T ds m k → j ≤ i

pub same_block :
    {R S : Rules} {ts : List Token} {n i : ℕ} (b : BlockFault R ts n i) → DeclarationFault S b.table b.part n b.at
    → NoneBefore S ts b.number → BlockFault S ts n i
same_block b fault first =
    record {
      table = b.table;
      number = b.number;
      part = b.part;
      at = b.at;
      block = b.block;
      fault = fault;
      place = b.place;
      first = first;
    }

pub same_fault :
    {R S : Rules} {text : Bytes} → ((ts : List Token) (n i : ℕ) → HasTokens text ts → OpenAfter ts [] → BlockFault R ts n i → BlockFault S ts n i)
    → {n p : ℕ} → FaultUnder R text n p → FaultUnder S text n p
same_fault blocks (too_long h) = too_long h
same_fault blocks (in_tokens h f) = in_tokens h f
same_fault blocks (in_nesting z f t) = in_nesting z f t
same_fault blocks (in_blocks z o f t) = in_blocks z o (blocks _ _ _ z o f) t

abbrev pub Alike : Rules → Rules → Bytes → Type 0
Alike R S text = (n p : ℕ) → FaultUnder R text n p ↔ FaultUnder S text n p

pub alike_back : {R S : Rules} {text : Bytes} → Alike R S text → Alike S R text
alike_back alike n p = let (f, g) = alike n p in (g, f)

module _ {R S : Rules} {text : Bytes} (alike : Alike R S text) where
  pub same_past : {ts : List Token} → PastUnder R text ts → PastUnder S text ts
  same_past h = record { spelled = h.spelled; faultless = λ n p f. h.faultless n p ((alike n p).1 f) }

  same_trees : {t : Tree} → TreeUnder R text t → TreeUnder S text t
  same_trees h = record { tokens = h.tokens; past = same_past h.past; is_tree = h.is_tree }

  pub same_readings : {t : Tree} → ReadingUnder R text t → ReadingUnder S text t
  same_readings (of_tree h) = of_tree (same_trees h)
  same_readings (of_blank b) = of_blank b
