-- Where a text without a tree is lost. `Locates text a` is the promise of `locate`: `a` is its answer. Every call meets what is said here.
-- `Continuable T is`: some items that begin with the items `is`, perhaps they alone, have a tree under the operators T. `LostAt text ts p`: p is the
-- first byte of the first item, in the first span of the text without a tree, such that nothing that begins with the items up to it has a tree,
-- and what stands before it can be continued; where all of its items can be, p is where the span ends, its closer or the text's length.
use mathlib.Core.Path.{◌≡◌}
use mathlib.Core.Logic.{◌↔◌, ◌⊎◌}
use mathlib.Core.Bool.{true}
use mathlib.Core.List.{List, [], ◌∷◌, ◌++◌}
use Prim.Native.Nat.{ℕ}
use Rattle.grammar.specs.Bytes.{Bytes}
use Rattle.grammar.specs.Token.{Token}
use Rattle.grammar.specs.Operator.{Table}
use Rattle.grammar.specs.Span.{Item}
use Rattle.grammar.specs.SpanTree.{is_operand}
use Rattle.grammar.specs.Continuation.{HasTree, Continuable, LostBehind}
use Rattle.grammar.specs.Fault.{Past}
use Rattle.grammar.specs.Claim.{LostAt}
use Rattle.grammar.proofs.Continuations as Continuations
use Rattle.grammar.proofs.LostPlaces as LostPlaces
use Rattle.reader.specs.declared.Answer.{Answer}
use Rattle.reader.specs.Answered.{Locates}
use Rattle.reader.specs.Demands.{RightPlace}
use Rattle.reader.proofs.LocateCalls as LocateCalls

-- A text that is read: 0. A refusal other than 11: its number and its own place. 11: the place at which the text is lost.
pub place_located : (text : Bytes) (a : Answer) → Locates text a → RightPlace text a
place_located = LocateCalls.answers

-- Whatever else meets that is the same answer.
pub place_settled : (text : Bytes) (a b : Answer) → Locates text a → RightPlace text b → a ≡ b
place_settled = LocateCalls.settled

-- A text is lost at one place at most, ..
pub one_lost_place :
    (text : Bytes) (x : Token) (ts : List Token) → Past text (x ∷ ts) → (p q : ℕ) → LostAt text (x ∷ ts) p → LostAt text (x ∷ ts) q → p ≡ q
one_lost_place = LostPlaces.one_lost

-- .. since items are lost behind one of their fronts at most, under any operators.
pub one_front : (T : Table) (is p q : List Item) → LostBehind T is p → LostBehind T is q → p ≡ q
one_front = Continuations.one_cut

-- Under any operators, items can be continued exactly if they have a tree, or have one with one operand more, whichever that is.
pub continuable :
    (T : Table) (is : List Item) (x : Item) → is_operand T x ≡ true → Continuable T is ↔ (HasTree T is ⊎ HasTree T (is ++ x ∷ []))
continuable = Continuations.continuable_exactly
