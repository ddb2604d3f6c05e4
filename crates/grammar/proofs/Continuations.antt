-- Under any table: items can be continued exactly if they have a tree, or have one with one operand more; and items are lost behind one of
-- their fronts at most. No search is spoken of.
use mathlib.Core.Path.{◌≡◌, sym, ap, ◌∙◌}
use mathlib.Core.Bool.{true}
use mathlib.Core.Logic.{◌⊎◌, inl, inr, ◌↔◌}
use mathlib.Core.List.{List, [], ◌∷◌, ◌++◌, append_assoc, append-nil}
use Rattle.grammar.specs.Operator.{Table}
use Rattle.grammar.specs.Span.{Item}
use Rattle.grammar.specs.SpanTree.{is_operand, IsSpanTree}
use Rattle.grammar.specs.Continuation.{HasTree, Continuable, LostWith, LostBehind}
use Rattle.grammar.proofs.TreeCut.{Within, Beyond, divided, tree_cut}

pub continuable_exactly :
    (T : Table) (p : List Item) (x : Item) → is_operand T x ≡ true → Continuable T p ↔ (HasTree T p ⊎ HasTree T (p ++ x ∷ []))
continuable_exactly T p x free = (λ c. tree_cut T x free p c.0 c.1.0 c.1.1, back)
  where
    back : HasTree T p ⊎ HasTree T (p ++ x ∷ []) → Continuable T p
    back (inl h) = ([], (h.0, rw (append-nil p) h.1))
    back (inr t) = (x ∷ [], t)

module _ (T : Table) where
  -- What can be continued is not lost in its own items.
  not_inside : (p q more : List Item) (x : Item) (xs : List Item) → Continuable T q → q ≡ p ++ x ∷ xs → LostWith T p (x ∷ more) → ⊥
  not_inside p q more x xs c e l =
      let rest = c.0 in
      let t : IsSpanTree T (q ++ rest) c.1.0 = c.1.1 in
      let f : q ++ rest ≡ (p ++ x ∷ []) ++ (xs ++ rest) =
      ap (λ r. r ++ rest) e ∙ append_assoc p (x ∷ xs) rest ∙ sym (append_assoc p (x ∷ []) (xs ++ rest)) in
      l (xs ++ rest, (c.1.0, rw f at t))

  pub one_cut : (is p q : List Item) → LostBehind T is p → LostBehind T is q → p ≡ q
  one_cut is p q a b = go (divided p a.after q b.after (sym a.cut ∙ b.cut))
    where
      shorter : (left : List Item) → p ≡ q ++ left → b.after ≡ left ++ a.after → p ≡ q
      shorter [] e f = e ∙ append-nil q
      shorter (x ∷ xs) e f = absurd (not_inside q p (xs ++ a.after) x xs a.continuable e (rw f at b.lost))

      go : Within p q b.after a.after ⊎ Beyond p q b.after a.after → p ≡ q
      go (inl w) = shorter w.left w.begins w.goes_on
      go (inr c) = absurd (not_inside p q (c.others ++ b.after) c.first c.others b.continuable c.begins (rw c.goes_on at a.lost))
