-- Of tokens that passed checks 6 and 7 the items lose nothing, and what stands inside brackets and blocks passes them too.
-- The walk for items and the check go side by side, one token at a time. Inside a pair, the check of the whole and the check of
-- the inside alone make the same moves: the whole has one opener more at the bottom.
use mathlib.Core.Path.{◌≡◌, refl, sym, ap, ◌∙◌}
use mathlib.Core.Bool.{Bool, true, false}
use mathlib.Core.Logic.{◌⊎◌, inl, inr}
use mathlib.Core.List.{List, [], ◌∷◌, ◌++◌, append_assoc, append-nil}
use Prim.Native.Nat.{ℕ, suc, ◌≤◌, ◌<◌}
use native.Mathlib.Omega.{arith}
use lib.ListN.{length, length-append}
use Rattle.grammar.specs.Open.{Open, in_bracket, in_declarations, in_body}
use Rattle.grammar.specs.Token.{atom, structure, Token, opening, closing, semicolon, keyword_let, keyword_in, keyword_end}
use Rattle.grammar.specs.Outcome.{passed}
use Rattle.grammar.specs.Nesting.{Move, stays, broken, enters, becomes, leaves}
use Rattle.grammar.specs.Nesting.{outermost, within, move, close_innermost, nesting}
use Rattle.grammar.specs.Span.{
  Item,
  single,
  pair,
  scope,
  item_tokens,
  effect,
  item,
  Walk,
  outside,
  inside,
  items_from,
  items,
  InDeclarations,
  all_item_tokens,
}
use Rattle.grammar.specs.Bytes.{All}
use Rattle.grammar.proofs.Lists.{all_append}
use Rattle.grammar.proofs.Items.{AllQuiet, collects, effect_quiet, item_block, outside_atom}
use Rattle.grammar.proofs.Nested.{moved, Allowed, refused_passed, nesting_step, nesting-after, atom_stays, quiet_stays}

-- Tokens that pass checks 6 and 7 where `os` is open.
abbrev pub Passes : List Open → List Token → Type 0
Passes os ts = (i : ℕ) → nesting os i ts ≡ passed tt

abbrev pub ItemNested : Item → Type 0
ItemNested (single a) = Unit {0}
ItemNested (pair ts) = Passes [] ts
ItemNested (scope ds ts) = AllQuiet ds × Passes [] ts

abbrev pub AllNested : List Item → Type 0
AllNested = All ItemNested

-- The pair that the walk is in: a bracket pair, or the body of a block with these declarations.
data Pair : Type 0 where
  brackets : Pair
  body : List Token → Pair

abbrev opened : Pair → Open
opened brackets = in_bracket
opened (body ds) = in_body

abbrev opener : Pair → Token
opener brackets = structure opening
opener (body ds) = structure keyword_let

abbrev closer : Pair → Token
closer brackets = structure closing
closer (body ds) = structure keyword_end

abbrev is_block : Pair → Bool
is_block brackets = false
is_block (body ds) = true

-- Its tokens before the span in it, and the item that it is with the span `ts`.
abbrev before : Pair → List Token
before brackets = []
before (body ds) = ds ++ structure keyword_in ∷ []

abbrev whole : Pair → List Token → Item
whole brackets ts = pair ts
whole (body ds) ts = scope ds ts

abbrev Quiet : Pair → Type 0
Quiet brackets = Unit {0}
Quiet (body ds) = AllQuiet ds

-- Where the walk and the check stand together: between items, in the declarations `ds` of a block, or in a pair with `inner`
-- open in it and `us` the tokens of its span so far.
data State : Type 0 where
  between : State
  declaring : List Token → State
  held : Pair → List Open → List Token → State

abbrev walk_of : State → Walk
walk_of between = outside
walk_of (declaring ds) = inside true 0 ds
walk_of (held h inner us) = inside (is_block h) (length inner) (before h ++ us)

abbrev open_of : State → List Open
open_of between = []
open_of (declaring ds) = in_declarations ∷ []
open_of (held h inner us) = inner ++ opened h ∷ []

-- The tokens of the item that is not finished.
abbrev unfinished : State → List Token
unfinished between = []
unfinished (declaring ds) = structure keyword_let ∷ ds
unfinished (held h inner us) = opener h ∷ before h ++ us

-- Walked from nothing open, `us` leads to `inner`.
abbrev Leads : List Token → List Open → Type 0
Leads us inner = (vs : List Token) → Passes inner vs → Passes [] (us ++ vs)

abbrev Sound : State → Type 0
Sound between = Unit {0}
Sound (declaring ds) = AllQuiet ds
Sound (held h inner us) = Quiet h × Leads us inner

-- One token further: the state behind `t`, and the items finished by it.
record Step (s : State) (t : Token) (ts : List Token) (i : ℕ) : Type 0 where
  next : State
  done : List Item
  sound : Sound next
  passes : nesting (open_of next) (suc i) ts ≡ passed tt
  walked : items_from (walk_of s) (t ∷ ts) ≡ done ++ items_from (walk_of next) ts
  kept : all_item_tokens done ++ unfinished next ≡ unfinished s ++ t ∷ []
  nested : AllNested done

between_step : (t : Token) (ts : List Token) (i : ℕ) → nesting [] i (t ∷ ts) ≡ passed tt → Step between t ts i
unfolding nesting move outermost moved items_from effect all_item_tokens item_tokens
between_step (atom a) ts i h =
    record {
      next = between;
      done = single a ∷ [];
      sound = tt;
      passes = (nesting-after [] i (atom a) ts stays (atom_stays [] a) h).1;
      walked = outside_atom a ts;
      kept = refl;
      nested = (tt, tt);
    }
between_step (structure opening) ts i h =
    record {
      next = held brackets [] [];
      done = [];
      sound = (tt, λ vs p. p);
      passes = (nesting-after [] i (structure opening) ts (enters in_bracket) refl h).1;
      walked = refl;
      kept = refl;
      nested = tt;
    }
between_step (structure closing) ts i h = absurd (refused_passed h)
between_step (structure semicolon) ts i h = absurd (refused_passed h)
between_step (structure keyword_let) ts i h =
    record {
      next = declaring [];
      done = [];
      sound = tt;
      passes = (nesting-after [] i (structure keyword_let) ts (enters in_declarations) refl h).1;
      walked = refl;
      kept = refl;
      nested = tt;
    }
between_step (structure keyword_in) ts i h = absurd (refused_passed h)
between_step (structure keyword_end) ts i h = absurd (refused_passed h)

quiet_step : (ds : List Token) → AllQuiet ds → (t : Token) → InDeclarations t → (ts : List Token) (i : ℕ)
    → nesting (in_declarations ∷ []) i (t ∷ ts) ≡ passed tt → Step (declaring ds) t ts i
unfolding all_item_tokens moved
quiet_step ds q t c ts i h =
    record {
      next = declaring (ds ++ t ∷ []);
      done = [];
      sound = all_append InDeclarations ds (t ∷ []) q (c, tt);
      passes = (nesting-after (in_declarations ∷ []) i t ts stays (quiet_stays [] t c) h).1;
      walked = collects true 0 ds t ts (effect_quiet t c);
      kept = refl;
      nested = tt;
    }

declaring_step : (ds : List Token) → AllQuiet ds → (t : Token) (ts : List Token) (i : ℕ)
    → nesting (in_declarations ∷ []) i (t ∷ ts) ≡ passed tt → Step (declaring ds) t ts i
unfolding nesting move within moved close_innermost effect all_item_tokens
declaring_step ds q (atom a) ts i h = quiet_step ds q (atom a) tt ts i h
declaring_step ds q (structure opening) ts i h = absurd (refused_passed h)
declaring_step ds q (structure closing) ts i h = absurd (refused_passed h)
declaring_step ds q (structure semicolon) ts i h = quiet_step ds q (structure semicolon) refl ts i h
declaring_step ds q (structure keyword_let) ts i h = absurd (refused_passed h)
declaring_step ds q (structure keyword_in) ts i h =
    record {
      next = held (body ds) [] [];
      done = [];
      sound = (q, λ vs p. p);
      passes = (nesting-after (in_declarations ∷ []) i (structure keyword_in) ts (becomes in_body) refl h).1;
      walked = collects true 0 ds (structure keyword_in) ts refl ∙ rw (append-nil (ds ++ structure keyword_in ∷ []));
      kept = ap (λ us. (structure keyword_let) ∷ us) (append-nil (ds ++ structure keyword_in ∷ []));
      nested = tt;
    }
declaring_step ds q (structure keyword_end) ts i h = absurd (refused_passed h)

-- Inside a pair, what a token does to the openers in it is what it does to the depth of the walk.
inside_step : (b : Bool) (us : List Token) (inner : List Open) (t : Token) (ts : List Token) → Allowed inner (move inner t)
    → items_from (inside b (length inner) us) (t ∷ ts) ≡ items_from (inside b (length (moved inner (move inner t))) (us ++ t ∷ [])) ts
unfolding items_from effect move outermost within moved close_innermost
inside_step b us [] (atom x) ts a = refl
inside_step b us [] (structure opening) ts a = refl
inside_step b us [] (structure closing) ts a = absurd a
inside_step b us [] (structure semicolon) ts a = absurd a
inside_step b us [] (structure keyword_let) ts a = refl
inside_step b us [] (structure keyword_in) ts a = absurd a
inside_step b us [] (structure keyword_end) ts a = absurd a
inside_step b us (o ∷ os) (atom x) ts a = refl
inside_step b us (in_bracket ∷ os) (structure opening) ts a = refl
inside_step b us (in_bracket ∷ os) (structure closing) ts a = refl
inside_step b us (in_bracket ∷ os) (structure semicolon) ts a = absurd a
inside_step b us (in_bracket ∷ os) (structure keyword_let) ts a = refl
inside_step b us (in_bracket ∷ os) (structure keyword_in) ts a = absurd a
inside_step b us (in_bracket ∷ os) (structure keyword_end) ts a = absurd a
inside_step b us (in_declarations ∷ os) (structure opening) ts a = absurd a
inside_step b us (in_declarations ∷ os) (structure closing) ts a = absurd a
inside_step b us (in_declarations ∷ os) (structure semicolon) ts a = refl
inside_step b us (in_declarations ∷ os) (structure keyword_let) ts a = absurd a
inside_step b us (in_declarations ∷ os) (structure keyword_in) ts a = refl
inside_step b us (in_declarations ∷ os) (structure keyword_end) ts a = absurd a
inside_step b us (in_body ∷ os) (structure opening) ts a = refl
inside_step b us (in_body ∷ os) (structure closing) ts a = absurd a
inside_step b us (in_body ∷ os) (structure semicolon) ts a = absurd a
inside_step b us (in_body ∷ os) (structure keyword_let) ts a = refl
inside_step b us (in_body ∷ os) (structure keyword_in) ts a = absurd a
inside_step b us (in_body ∷ os) (structure keyword_end) ts a = refl

-- A token that does to what is open in the pair what it does to everything open.
abbrev StaysIn : Pair → List Open → Token → Type 0
StaysIn h inner t =
    (move (inner ++ opened h ∷ []) t ≡ move inner t)
    × (moved (inner ++ opened h ∷ []) (move inner t) ≡ moved inner (move inner t) ++ opened h ∷ [])

-- With nothing open in the pair this is every token but the closer.
closer_or_stays : (h : Pair) (t : Token) → (t ≡ closer h) ⊎ StaysIn h [] t
unfolding move outermost within moved
closer_or_stays h (atom a) = inr (refl, refl)
closer_or_stays brackets (structure opening) = inr (refl, refl)
closer_or_stays brackets (structure closing) = inl refl
closer_or_stays brackets (structure semicolon) = inr (refl, refl)
closer_or_stays brackets (structure keyword_let) = inr (refl, refl)
closer_or_stays brackets (structure keyword_in) = inr (refl, refl)
closer_or_stays brackets (structure keyword_end) = inr (refl, refl)
closer_or_stays (body ds) (structure opening) = inr (refl, refl)
closer_or_stays (body ds) (structure closing) = inr (refl, refl)
closer_or_stays (body ds) (structure semicolon) = inr (refl, refl)
closer_or_stays (body ds) (structure keyword_let) = inr (refl, refl)
closer_or_stays (body ds) (structure keyword_in) = inr (refl, refl)
closer_or_stays (body ds) (structure keyword_end) = inl refl

moved_below : (o p : Open) (os : List Open) (m : Move) → moved (o ∷ os ++ p ∷ []) m ≡ moved (o ∷ os) m ++ p ∷ []
unfolding moved close_innermost
moved_below o p os stays = refl
moved_below o p os broken = refl
moved_below o p os (enters q) = refl
moved_below o p os (becomes q) = refl
moved_below o p os leaves = refl

-- With one opener less there is no less room.
allowed_above : (os : List Open) (o : Open) (m : Move) → Allowed (os ++ o ∷ []) m → Allowed os m
allowed_above os o stays a = tt
allowed_above os o broken a = a
allowed_above os o (enters p) a = omega (arith, length-append os (o ∷ []))
allowed_above os o (becomes p) a = tt
allowed_above os o leaves a = tt

leads_on : (us : List Token) (inner : List Open) (t : Token) → Allowed inner (move inner t) → Leads us inner
    → Leads (us ++ t ∷ []) (moved inner (move inner t))
leads_on us inner t a l vs p =
    rw (append_assoc us (t ∷ []) vs) (l (t ∷ vs) (λ j. nesting_step inner j t vs (move inner t) refl a ∙ p (suc j)))

-- A token that stays in the pair is collected.
stays_step : (h : Pair) (inner : List Open) (us : List Token) → Sound (held h inner us) → (t : Token) → StaysIn h inner t
    → (ts : List Token) (i : ℕ) → nesting (inner ++ opened h ∷ []) i (t ∷ ts) ≡ passed tt → Step (held h inner us) t ts i
unfolding all_item_tokens
stays_step h inner us s t e ts i p =
    let n = nesting-after (inner ++ opened h ∷ []) i t ts (move inner t) e.0 p in
    let a = allowed_above inner (opened h) (move inner t) n.0 in
    record {
      next = held h (moved inner (move inner t)) (us ++ t ∷ []);
      done = [];
      sound = (s.0, leads_on us inner t a s.1);
      passes = rw e.1 at n.1;
      walked = inside_step (is_block h) (before h ++ us) inner t ts a ∙ rw (append_assoc (before h) us (t ∷ []));
      kept = ap (λ vs. opener h ∷ vs) (sym (append_assoc (before h) us (t ∷ [])));
      nested = tt;
    }

-- The whole inside of a pair passes by itself.
leads_inside : (us : List Token) → Leads us [] → Passes [] us
unfolding nesting
leads_inside us l i = ap (nesting [] i) (sym (append-nil us)) ∙ l [] (λ j. refl) i

-- The closer finishes an item.
closer_step : (h : Pair) (us : List Token) → Sound (held h [] us) → (ts : List Token) (i : ℕ)
    → nesting (opened h ∷ []) i (closer h ∷ ts) ≡ passed tt → Step (held h [] us) (closer h) ts i
unfolding all_item_tokens item_tokens items_from effect item nesting move within moved close_innermost
closer_step brackets us s ts i p =
    record {
      next = between;
      done = pair us ∷ [];
      sound = tt;
      passes = p;
      walked = refl;
      kept = simp append-nil;
      nested = (leads_inside us s.1, tt);
    }
closer_step (body ds) us s ts i p =
    record {
      next = between;
      done = scope ds us ∷ [];
      sound = tt;
      passes = p;
      walked = rw (append_assoc ds (structure keyword_in ∷ []) us, item_block ds us s.0);
      kept = simp (append-nil, append_assoc);
      nested = ((s.0, leads_inside us s.1), tt);
    }

held_step : (h : Pair) (inner : List Open) (us : List Token) → Sound (held h inner us) → (t : Token) (ts : List Token) (i : ℕ)
    → nesting (inner ++ opened h ∷ []) i (t ∷ ts) ≡ passed tt → Step (held h inner us) t ts i
unfolding move moved
held_step h [] us s t ts i p = which (closer_or_stays h t)
  where
    which : (t ≡ closer h) ⊎ StaysIn h [] t → Step (held h [] us) t ts i
    which (inl e) = rw e (closer_step h us s ts i (rw e at p))
    which (inr e) = stays_step h [] us s t e ts i p
held_step h (o ∷ inner) us s (atom a) ts i p = stays_step h (o ∷ inner) us s (atom a) (refl, refl) ts i p
held_step h (o ∷ inner) us s (structure t) ts i p =
    stays_step h (o ∷ inner) us s (structure t) (refl, moved_below o (opened h) inner (within o t)) ts i p

step : (s : State) → Sound s → (t : Token) (ts : List Token) (i : ℕ) → nesting (open_of s) i (t ∷ ts) ≡ passed tt → Step s t ts i
step between s = between_step
step (declaring ds) s = declaring_step ds s
step (held h inner us) s = held_step h inner us s

-- Where the tokens end with something open, they do not pass.
passes_end : (o : Open) (inner : List Open) (i : ℕ) → nesting (inner ++ o ∷ []) i [] ≡ passed tt → ⊥
unfolding nesting
passes_end o [] i p = refused_passed p
passes_end o (q ∷ inner) i p = refused_passed p

pub append_tokens : (is js : List Item) → all_item_tokens (is ++ js) ≡ all_item_tokens is ++ all_item_tokens js
unfolding all_item_tokens
append_tokens [] js = refl
append_tokens (i ∷ is) js = rw (append_tokens is js, append_assoc (item_tokens i) (all_item_tokens is) (all_item_tokens js))

-- What the walk makes of tokens that pass from where it stands.
record Complete (s : State) (ts : List Token) : Type 0 where
  kept : all_item_tokens (items_from (walk_of s) ts) ≡ unfinished s ++ ts
  nested : AllNested (items_from (walk_of s) ts)

one_further : (s : State) (t : Token) (ts : List Token) (i : ℕ) (f : Step s t ts i) → Complete f.next ts → Complete s (t ∷ ts)
one_further s t ts i f c =
    record {
      kept =
          rw (f.walked, append_tokens f.done (items_from (walk_of f.next) ts), c.kept)
          (sym (append_assoc (all_item_tokens f.done) (unfinished f.next) ts)
          ∙ (ap (λ us. us ++ ts) f.kept ∙ append_assoc (unfinished s) (t ∷ []) ts));
      nested = rw f.walked (all_append ItemNested f.done (items_from (walk_of f.next) ts) f.nested c.nested);
    }

complete : (ts : List Token) (s : State) (i : ℕ) → Sound s → nesting (open_of s) i ts ≡ passed tt → Complete s ts
unfolding items_from all_item_tokens
complete [] between i s p = record { kept = refl; nested = tt }
complete [] (declaring ds) i s p = absurd (passes_end in_declarations [] i p)
complete [] (held h inner us) i s p = absurd (passes_end (opened h) inner i p)
complete (t ∷ ts) s i o p =
    let f = step s o t ts i p in
    one_further s t ts i f (complete ts f.next (suc i) f.sound f.passes)

-- Of tokens that passed nothing is lost.
pub items_tokens : (ts : List Token) (i : ℕ) → nesting [] i ts ≡ passed tt → all_item_tokens (items ts) ≡ ts
unfolding items
items_tokens ts i p = (complete ts between i tt p).kept

-- What stands inside brackets and blocks of tokens that passed passes too.
pub items_nested : (ts : List Token) (i : ℕ) → nesting [] i ts ≡ passed tt → AllNested (items ts)
unfolding items
items_nested ts i p = (complete ts between i tt p).nested

-- The span inside an item is shorter than `n`.
abbrev pub ItemShorter : ℕ → Item → Type 0
ItemShorter n (single a) = Unit {0}
ItemShorter n (pair ts) = length ts < n
ItemShorter n (scope ds ts) = length ts < n

abbrev pub Shorter : ℕ → List Item → Type 0
Shorter n = All (ItemShorter n)

item_shorter : (n : ℕ) (i : Item) → length (item_tokens i) ≤ n → ItemShorter n i
unfolding item_tokens
item_shorter n (single a) h = tt
item_shorter n (pair ts) h = omega (arith, length-append ts (structure closing ∷ []))
item_shorter n (scope ds ts) h = omega (arith, length-append (ds ++ structure keyword_in ∷ ts) (structure keyword_end ∷ []), length-append ds (structure keyword_in ∷ ts))

all_shorter : (n : ℕ) (is : List Item) → length (all_item_tokens is) ≤ n → Shorter n is
unfolding all_item_tokens
all_shorter n [] h = tt
all_shorter n (i ∷ is) h =
    let e = length-append (item_tokens i) (all_item_tokens is) in
    (item_shorter n i (omega arith), all_shorter n is (omega arith))

-- A span inside tokens that passed is shorter than they are.
pub items_inside_shorter : (ts : List Token) (i : ℕ) → nesting [] i ts ≡ passed tt → Shorter (length ts) (items ts)
items_inside_shorter ts i p = all_shorter (length ts) (items ts) (rw (items_tokens ts i p) (omega arith))
