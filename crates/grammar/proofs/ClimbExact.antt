-- The search finds each tree of a span and nothing else, and it stops exactly where the span is lost.
-- What it finds is a tree by what holds of what waits; that it finds each, and where it stops, by the pass over the items of a tree.
use mathlib.Core.Path.{◌≡◌, refl, sym, ap, ◌∙◌}
use mathlib.Core.Bool.{Bool, true, false}
use mathlib.Core.Logic.{◌↔◌}
use mathlib.Core.List.{List, [], ◌∷◌, ◌++◌, append_assoc, append-nil}
use mathlib.Core.Option.{Option, none, some}
use Prim.Native.Nat.{ℕ, ◌+◌}
use native.Mathlib.Omega.{arith}
use lib.ListN.{length, length-append}
use Rattle.grammar.specs.Operator.{Table, Permitted, is_some}
use Rattle.grammar.specs.Span.{Item, item_tokens, all_item_tokens}
use Rattle.grammar.specs.SpanTree.{SpanTree, missing, apply, yield, present, role_over, IsSpanTree}
use Rattle.grammar.specs.Continuation.{LostWith, LostBehind}
use Rattle.grammar.specs.Climb.{
  Stack,
  empty,
  waiting,
  closed,
  Progress,
  unread,
  advance,
  postfix_last,
  finish,
  Ending,
  found,
  stops,
  ending,
  climb_from,
  search,
  tree_found,
  climb,
}
use Rattle.grammar.proofs.Logic.{impossible}
use Rattle.grammar.proofs.Unambiguous.{Unambiguous, permitted_unambiguous}
use Rattle.grammar.proofs.Positive.{Positive}
use Rattle.grammar.proofs.StackItems.{stack_items, closed-yield, absent_missing}
use Rattle.grammar.proofs.Arriving.{OneSide, permitted_one_side}
use Rattle.grammar.proofs.ClimbInvariant.{Good, good_start, step_good, step_items, items, final_good, good_continuable}
use Rattle.grammar.proofs.ClimbReached.{Reaches, stay, next, reaches_tree, final_tree, pass_reaches}
use Rattle.grammar.proofs.Continuations.{one_cut}

-- How a pass ends: the items `before` have come, and there the next item, or the end, is refused, or the tree is found.
abbrev Refused : Table → Progress → List Item → Type 0
Refused T u [] = finish T u ≡ none
Refused T u (i ∷ is) = advance T u i ≡ none

abbrev Ends : Table → Progress → List Item → ℕ → Ending → Type 0
Ends T u rest n (found s) = (rest ≡ []) × (finish T u ≡ some s)
Ends T u rest n (stops k) = (k ≡ n) × Refused T u rest

record Ended (T : Table) (n : ℕ) (u : Progress) (is : List Item) (o : Ending) : Type 0 where
  before : List Item
  rest : List Item
  divided : is ≡ before ++ rest
  state : Progress
  reached : Reaches T u before state
  ends : Ends T state rest (n + length (all_item_tokens before)) o

ended : (T : Table) (is : List Item) (n : ℕ) (u : Progress) → Ended T n u is (climb_from T n u is)
unfolding climb_from ending all_item_tokens
ended T [] n u = go (finish T u) refl
  where
    go : (o : Option SpanTree) → finish T u ≡ o → Ended T n u [] (climb_from T n u [])
    go none e = record { before = []; rest = []; divided = refl; state = u; reached = stay; ends = rw e (omega arith, e) }
    go (some s) e = record { before = []; rest = []; divided = refl; state = u; reached = stay; ends = rw e (refl, e) }
ended T (i ∷ is) n u = go (advance T u i) refl (ended T is (n + length (item_tokens i)))
  where
    further : List Item → ℕ
    further p = n + length (item_tokens i) + length (all_item_tokens p)

    later : (o : Ending) (x : Progress) (rest p : List Item) → Ends T x rest (further p) o → Ends T x rest (n + length (all_item_tokens (i ∷ p))) o
    later (found s) x rest p e = e
    later (stops k) x rest p e = (omega (arith, e.0, length-append (item_tokens i) (all_item_tokens p)), e.1)

    go :
        (o : Option Progress) → advance T u i ≡ o
        → ((v : Progress) → Ended T (n + length (item_tokens i)) v is (climb_from T (n + length (item_tokens i)) v is))
        → Ended T n u (i ∷ is) (climb_from T n u (i ∷ is))
    go none e ih = record { before = []; rest = i ∷ is; divided = refl; state = u; reached = stay; ends = rw (e, climb_from) (omega arith, e) }
    go (some v) e ih =
        let h = ih v in
        record {
          before = i ∷ h.before;
          rest = h.rest;
          divided = ap (λ js. i ∷ js) h.divided;
          state = h.state;
          reached = next e h.reached;
          ends = rw (e, climb_from) (later (climb_from T (n + length (item_tokens i)) v is) h.state h.rest h.before h.ends);
        }

-- The pass finds the same wherever its first token stands.
moved : (T : Table) (is : List Item) (n m : ℕ) (u : Progress) → tree_found (climb_from T n u is) ≡ tree_found (climb_from T m u is)
unfolding climb_from ending tree_found
moved T [] n m u = go (finish T u) refl
  where
    go : (o : Option SpanTree) → finish T u ≡ o → tree_found (climb_from T n u []) ≡ tree_found (climb_from T m u [])
    go none e = rw e
    go (some s) e = rw e
moved T (i ∷ is) n m u = go (advance T u i) refl (moved T is (n + length (item_tokens i)) (m + length (item_tokens i)))
  where
    go :
        (o : Option Progress) → advance T u i ≡ o
        → ((v : Progress) → tree_found (climb_from T (n + length (item_tokens i)) v is) ≡ tree_found (climb_from T (m + length (item_tokens i)) v is))
        → tree_found (climb_from T n u (i ∷ is)) ≡ tree_found (climb_from T m u (i ∷ is))
    go none e ih = rw (e, climb_from)
    go (some v) e ih = rw (e, climb_from) (ih v)

pub search-climb : (T : Table) (n : ℕ) (is : List Item) → tree_found (search T n is) ≡ climb T is
unfolding search climb
search-climb T n is = moved T is n 0 unread

found_by : (o : Ending) (s : SpanTree) → tree_found o ≡ some s → o ≡ found s
unfolding tree_found
found_by (found u) s e = cc
found_by (stops k) s e = impossible cc

pub found_anywhere : (T : Table) (n : ℕ) (is : List Item) (s : SpanTree) → climb T is ≡ some s → search T n is ≡ found s
found_anywhere T n is s e = found_by (search T n is) s (search-climb T n is ∙ e)

-- Where nothing is found the search stops somewhere.
pub stops_somewhere : (T : Table) (n : ℕ) (is : List Item) → climb T is ≡ none → (k : ℕ) × (search T n is ≡ stops k)
unfolding tree_found
stops_somewhere T n is e = go (search T n is) refl
  where
    go : (o : Ending) → search T n is ≡ o → (k : ℕ) × (search T n is ≡ stops k)
    go (found s) f = let z : some s ≡ none = ap tree_found (sym f) ∙ search-climb T n is ∙ e in impossible cc
    go (stops k) f = (k, f)

-- The items that have come are those of the state.
module _ (T : Table) where
  reached_items : {u v : Progress} {p : List Item} → Reaches T u p v → items v ≡ items u ++ p
  reached_items (stay {u = u}) = sym (append-nil (items u))
  reached_items (next {u = u} {v = v} {i = i} {p = p} e a) =
      reached_items a ∙ ap (λ is. is ++ p) (step_items T u i v e) ∙ append_assoc (items u) (i ∷ []) p

  came_items : {v : Progress} {p : List Item} → Reaches T unread p v → items v ≡ p
  unfolding unread items stack_items yield
  came_items a = reached_items a

  all_came : {n : ℕ} {is : List Item} {s : SpanTree} (d : Ended T n unread is (found s)) → items d.state ≡ is
  all_came d = came_items d.reached ∙ sym (append-nil d.before) ∙ ap (λ r. d.before ++ r) (sym d.ends.0) ∙ sym d.divided

-- Complete: each tree is found.
module _ (T : Table) (clear : Unambiguous T) (side : OneSide T) where
  search_complete : (n : ℕ) (is : List Item) (s : SpanTree) → IsSpanTree T is s → search T n is ≡ found s
  unfolding search unread climb_from ending closed
  search_complete n is s t =
      rw (← t.yields, ← (append-nil (yield s)))
      (pass_reaches T n [] (reaches_tree T clear side s t.admitted empty (λ e. tt))
      ∙ rw (climb_from, final_tree T clear side s t.admitted t.there empty))

module _ (T : Table) (clear : Unambiguous T) (side : OneSide T) (positive : Positive T) where
  reached_good : {u v : Progress} {p : List Item} → Reaches T u p v → Good T u → Good T v
  reached_good stay g = g
  reached_good (next {u = u} {v = v} {i = i} e a) g = reached_good a (step_good T clear side positive u i v g e)

  came_good : {v : Progress} {p : List Item} → Reaches T unread p v → Good T v
  unfolding unread
  came_good a = reached_good a (good_start T)

  -- Sound: what is found is a tree.
  search_sound : (n : ℕ) (is : List Item) (s : SpanTree) → search T n is ≡ found s → IsSpanTree T is s
  unfolding search
  search_sound n is s e =
      let d : Ended T n unread is (found s) = rw e at (ended T is n unread) in
      rw (all_came T d) at (final_good T clear side positive d.state s (came_good d.reached) d.ends.1)

  -- Exact: with the item that is refused nothing that begins so has a tree, since the pass would stop there too.
  stopped :
      (n : ℕ) (p : List Item) (u : Progress) (i : Item) (more : List Item) → Reaches T unread p u → advance T u i ≡ none
      → search T n (p ++ i ∷ more) ≡ stops (n + length (all_item_tokens p))
  unfolding search climb_from
  stopped n p u i more a r = pass_reaches T n (i ∷ more) a ∙ rw (climb_from, r)

  refused_lost : (p : List Item) (u : Progress) (rest : List Item) → Reaches T unread p u → Refused T u rest → LostWith T p rest
  unfolding search climb_from ending
  refused_lost p u [] a r =
      λ h.
      let s = h.0 in
      let f = search_complete T clear side 0 p s h.1 in
      let g : search T 0 (p ++ []) ≡ stops (0 + length (all_item_tokens p)) = pass_reaches T 0 [] a ∙ rw (climb_from, r) in
      let z : found s ≡ stops (0 + length (all_item_tokens p)) = sym f ∙ ap (search T 0) (sym (append-nil p)) ∙ g in
      impossible cc
  refused_lost p u (i ∷ rest) a r =
      λ h.
      let more = h.0 in
      let f = search_complete T clear side 0 (p ++ i ∷ more) h.1.0 (rw append_assoc at h.1.1) in
      let g = stopped 0 p u i more a r in
      impossible cc

  search_exact :
      (n : ℕ) (is : List Item) (k : ℕ) → search T n is ≡ stops k
      → (before : List Item) × LostBehind T is before × (k ≡ n + length (all_item_tokens before))
  unfolding search
  search_exact n is k e =
      let d : Ended T n unread is (stops k) = rw e at (ended T is n unread) in (
        d.before,
        record {
          after = d.rest;
          cut = d.divided;
          continuable = rw (came_items T d.reached) at (good_continuable T clear side positive d.state (came_good d.reached));
          lost = refused_lost d.before d.state d.rest d.reached d.ends.1;
        },
        d.ends.0,
      )

-- For a table that the overloading rule permits and whose precedences are at least 1.
module _ (T : Table) (permitted : Permitted T) (positive : Positive T) where
  clear : Unambiguous T
  clear = permitted_unambiguous T permitted

  side : OneSide T
  side = permitted_one_side T permitted

  pub climb_sound : (is : List Item) (s : SpanTree) → climb T is ≡ some s → IsSpanTree T is s
  unfolding climb
  climb_sound is s e = search_sound T clear side positive 0 is s (found_by (search T 0 is) s e)

  -- The search of items that have no tree stops exactly at the token behind those behind which they are lost.
  pub stops_exactly :
      (n : ℕ) (is : List Item) (k : ℕ)
      → (search T n is ≡ stops k) ↔ ((before : List Item) × LostBehind T is before × (k ≡ n + length (all_item_tokens before)))
  stops_exactly n is k = (search_exact T clear side positive n is k, λ (p, l, e). go p l e (search T n is) refl)
    where
      -- Items with a tree are not lost.
      kept : (s : SpanTree) → IsSpanTree T is s → (p rest : List Item) → is ≡ p ++ rest → LostWith T p rest → ⊥
      kept s t p [] f l = l (s, rw (f, append-nil p) at t)
      kept s t p (i ∷ rest) f l = l (rest, (s, rw (f, ← append_assoc p (i ∷ []) rest) at t))

      go : (p : List Item) → LostBehind T is p → k ≡ n + length (all_item_tokens p) → (o : Ending) → search T n is ≡ o → search T n is ≡ stops k
      go p l e (found s) f = absurd (kept s (search_sound T clear side positive n is s f) p l.after l.cut l.lost)
      go p l e (stops j) f =
          let (q, m, g) = search_exact T clear side positive n is j f in
          f ∙ ap stops (g ∙ ap (λ r. n + length (all_item_tokens r)) (one_cut T is q p m l) ∙ sym e)

-- What is found has the items that came, whatever the table.
final_yields : (T : Table) (u : Progress) (s : SpanTree) → finish T u ≡ some s → yield s ≡ items u
unfolding finish items yield stack_items postfix_last
final_yields T u s e = go (present u.last) refl
  where
    postfix : (w : Stack) → postfix_last T w ≡ some s → yield s ≡ stack_items w []
    postfix empty f = impossible cc
    postfix (waiting l t w) f = test (is_some (role_over T l t missing)) refl
      where
        test : (b : Bool) → is_some (role_over T l t missing) ≡ b → yield s ≡ stack_items (waiting l t w) []
        test true h =
            let z : some (closed w (apply l t missing)) ≡ some s = rw (h, postfix_last) at f in
            let y : closed w (apply l t missing) ≡ s = cc in
            rw (← y) (closed-yield w (apply l t missing))
        test false h = let z : none ≡ some s = rw (h, postfix_last) at f in impossible cc

    go : (b : Bool) → present u.last ≡ b → yield s ≡ items u
    go true h =
        let z : some (closed u.stack u.last) ≡ some s = rw (h, finish) at e in
        let y : closed u.stack u.last ≡ s = cc in
        rw (← y) (closed-yield u.stack u.last)
    go false h =
        let z : postfix_last T u.stack ≡ some s = rw (h, finish) at e in
        rw (absent_missing u.last h) (postfix u.stack z)

pub climb_yields : (T : Table) (is : List Item) (s : SpanTree) → climb T is ≡ some s → yield s ≡ is
unfolding climb search
climb_yields T is s e =
    let d : Ended T 0 unread is (found s) = rw (found_by (search T 0 is) s e) at (ended T is 0 unread) in
    final_yields T d.state s d.ends.1 ∙ all_came T d

pub climb_complete : (T : Table) → Permitted T → (is : List Item) (s : SpanTree) → IsSpanTree T is s → climb T is ≡ some s
unfolding climb tree_found
climb_complete T p is s t = rw (search_complete T (permitted_unambiguous T p) (permitted_one_side T p) 0 is s t)

-- A span has at most one tree.
pub climb_unique : (T : Table) → Permitted T → (is : List Item) (s u : SpanTree) → IsSpanTree T is s → IsSpanTree T is u → s ≡ u
climb_unique T h is s u p q = cc (climb_complete T h is s p, climb_complete T h is u q)
