-- Document 02, §2, refuses less than document 01: a text that the four conditions do not refuse with 10 is answered as before. A row other
-- than 10 does not depend on the overloading rule, and the first block with a fault is the same if none in front of it broke the conditions.
use mathlib.Core.Path.{◌≡◌, refl}
use mathlib.Core.List.{List, []}
use Prim.Native.Nat.{ℕ, zero, suc, ◌+◌, ◌<◌}
use native.Mathlib.Omega.{arith}
use Rattle.grammar.specs.Bytes.{Bytes}
use Rattle.grammar.specs.Token.{Token}
use Rattle.grammar.specs.Open.{OpenAfter}
use Rattle.grammar.specs.Operator.{Table, conditions}
use Rattle.grammar.specs.Spans.{BlockOf}
use Rattle.grammar.specs.Fault.{
  current,
  with_four_conditions,
  DeclarationFault,
  malformed,
  names_reserved,
  overfull,
  unlawful,
  BlockFault,
  HasTokens,
  in_blocks,
  Conditioned,
}
use Rattle.grammar.proofs.Logic.{below}
use Rattle.grammar.proofs.TokenFaults.{token_somewhere}
use Rattle.grammar.proofs.RulesAlike.{Alike, NoneBefore, same_block, same_fault}

-- A fault of a declaration part: it was one before; one from before that is not 10 is one still.
part_before : {T : Table} {part : List Token} {n k : ℕ} → DeclarationFault current T part n k → DeclarationFault with_four_conditions T part n k
part_before (malformed ds t rest e f u) = malformed ds t rest e f u
part_before (names_reserved ds d rest e f a r) = names_reserved ds d rest e f a r
part_before (overfull ds d rest e f a r m) = overfull ds d rest e f a r m
part_before (unlawful ds e f c) = unlawful ds e f (λ h. c (conditions h))

part_now :
    {T : Table} {part : List Token} {n k : ℕ} → DeclarationFault with_four_conditions T part n k → (n ≡ 10 → ⊥) → DeclarationFault current T part n k
part_now (malformed ds t rest e f u) d = malformed ds t rest e f u
part_now (names_reserved ds c rest e f a r) d = names_reserved ds c rest e f a r
part_now (overfull ds c rest e f a r m) d = overfull ds c rest e f a r m
part_now (unlawful ds e f c) d = absurd (d refl)

module _ (text : Bytes) (never : Conditioned text) where
  module _ {ts : List Token} (z : HasTokens text ts) (o : OpenAfter ts []) where
    -- A block that broke the conditions would be refused with 10, if none in front of it had a fault.
    not_ten :
        {T : Table} {j : ℕ} {ds : List Token} {n k : ℕ} → BlockOf ts T j ds → DeclarationFault with_four_conditions T ds n k
        → NoneBefore with_four_conditions ts j → n ≡ 10 → ⊥
    not_ten {T} {j} {ds} {n} {k} b f first e =
        let (p, at) = token_somewhere text ts z.spelled z.few (suc (j + k)) in
        let ten : DeclarationFault with_four_conditions T ds 10 k = rw e at f in
        never p
        (in_blocks z o (record { table = T; number = j; part = ds; at = k; block = b; fault = ten; place = refl; first = first }) at)

    -- So where no block in front of number `j` has a fault now, none had one before.
    module _ (j : ℕ) (first : NoneBefore current ts j) where
      none_had :
          (bound i : ℕ) → i < bound → i < j → (T : Table) (ds : List Token) (m k : ℕ) → BlockOf ts T i ds
          → DeclarationFault with_four_conditions T ds m k → ⊥
      none_had zero i l s T ds m k b f = omega arith
      none_had (suc bound) i l s T ds m k b f =
          let earliest : NoneBefore with_four_conditions ts i =
          λ U h es n o c g. below h i (λ q. absurd (none_had bound h (omega arith) (omega arith) U es n o c g)) (λ q. q) in
          omega (arith, first T i ds m k b (part_now f (not_ten b f earliest)))

      none_before : NoneBefore with_four_conditions ts j
      none_before T i ds m k b f = below i j (λ q. absurd (none_had (suc i) i (omega arith) q T ds m k b f)) (λ q. q)

    block_before : {n i : ℕ} → BlockFault current ts n i → BlockFault with_four_conditions ts n i
    block_before b = same_block b (part_before b.fault) (none_before b.number b.first)

    block_now : {n i : ℕ} → BlockFault with_four_conditions ts n i → BlockFault current ts n i
    block_now b =
        same_block b (part_now b.fault (not_ten b.block b.fault b.first)) (λ T j ds m k c f. b.first T j ds m k c (part_before f))

  pub conditions_alike : Alike current with_four_conditions text
  conditions_alike n p = (same_fault (λ ts n i z o b. block_before z o b), same_fault (λ ts n i z o b. block_now z o b))
