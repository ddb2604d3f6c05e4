-- Checks 6 and 7 on the tokens of a tree: its brackets and blocks match, so they pass exactly where its depth is at most 32.
use mathlib.Core.Path.{◌≡◌, refl, sym, ap, ◌∙◌}
use mathlib.Core.Bool.{Bool, true, false}
use mathlib.Core.List.{List, [], ◌∷◌, ◌++◌, append_assoc, append-nil}
use Prim.Native.Nat.{ℕ, suc, ◌+◌, ◌≤◌, ◌<◌, max}
use native.Mathlib.Omega.{arith}
use lib.Dec.{ltb}
use lib.ListN.{length, length-append}
use borrow.Author.Tests.{ltb-true, lt-ltb}
use Rattle.grammar.specs.Open.{Open, in_bracket, in_declarations, in_body, deepest, OutsideDeclarations}
use Rattle.grammar.specs.Bytes.{Bytes}
use Rattle.grammar.specs.Token.{atom, structure, Token, symbol, opening, closing, keyword_let, keyword_in, keyword_end, Atom, Structure}
use Rattle.grammar.specs.Outcome.{Outcome, refused, passed}
use Rattle.grammar.specs.Nesting.{Move, stays, broken, enters, becomes, leaves}
use Rattle.grammar.specs.Nesting.{outermost, within, move, close_innermost, nesting}
use Rattle.grammar.specs.Declaration.{all_tokens}
use Rattle.grammar.specs.Tree.{Tree, nothing, leaf, bracket, block, node, flat, depth}
use Rattle.grammar.proofs.Items.{AllQuiet, quiet_cases, declarations_quiet}
use Rattle.grammar.specs.Span.{InDeclarations}
use Rattle.grammar.proofs.Logic.{impossible}

-- What is open after a move.
unfoldable pub moved : List Open → Move → List Open
moved os stays = os
moved os broken = os
moved os (enters o) = o ∷ os
moved os (becomes o) = o ∷ close_innermost os
moved os leaves = close_innermost os

-- The moves that are not refused.
abbrev pub Allowed : List Open → Move → Type 0
Allowed os stays = Unit {0}
Allowed os broken = ⊥
Allowed os (enters o) = length os < deepest
Allowed os (becomes o) = Unit {0}
Allowed os leaves = Unit {0}

-- A refusal is not a pass.
pub refused_passed : {n p : ℕ} → ¬ (◌≡◌ {A = Outcome (Unit {0})} (refused n p) (passed tt))
refused_passed e = impossible cc

-- A token that is not refused is a move.
pub nesting_step : (os : List Open) (i : ℕ) (t : Token) (ts : List Token) (m : Move) → move os t ≡ m → Allowed os m
    → nesting os i (t ∷ ts) ≡ nesting (moved os m) (suc i) ts
unfolding nesting moved
nesting_step os i t ts stays e a = rw (e, nesting)
nesting_step os i t ts broken e a = absurd a
nesting_step os i t ts (enters o) e a = rw (e, nesting, lt-ltb (length os) deepest a)
nesting_step os i t ts (becomes o) e a = rw (e, nesting)
nesting_step os i t ts leaves e a = rw (e, nesting)

pub nesting-allowed : (os : List Open) (i : ℕ) (t : Token) (ts : List Token) (m : Move) → move os t ≡ m
    → nesting os i (t ∷ ts) ≡ passed tt → Allowed os m
unfolding nesting
nesting-allowed os i t ts stays e h = tt
nesting-allowed os i t ts broken e h = refused_passed (rw (e, nesting) at h)
nesting-allowed os i t ts (enters o) e h = room (ltb (length os) deepest) refl
  where
    room : (b : Bool) → ltb (length os) deepest ≡ b → length os < deepest
    room true r = ltb-true (length os) deepest r
    room false r = absurd (refused_passed (rw (e, nesting, r) at h))
nesting-allowed os i t ts (becomes o) e h = tt
nesting-allowed os i t ts leaves e h = tt

-- What passes passes behind its first token.
pub nesting-after : (os : List Open) (i : ℕ) (t : Token) (ts : List Token) (m : Move) → move os t ≡ m
    → nesting os i (t ∷ ts) ≡ passed tt → Allowed os m × (nesting (moved os m) (suc i) ts ≡ passed tt)
nesting-after os i t ts m e h =
    let a = nesting-allowed os i t ts m e h in
    (a, sym (nesting_step os i t ts m e a) ∙ h)

pub atom_stays : (os : List Open) (a : Atom) → move os (atom a) ≡ stays
unfolding move
atom_stays os a = refl

pub quiet_stays : (os : List Open) (t : Token) → InDeclarations t → move (in_declarations ∷ os) t ≡ stays
unfolding move within
quiet_stays os = quiet_cases (λ t. move (in_declarations ∷ os) t ≡ stays) (λ a. refl) refl

pub opening_enters : (os : List Open) → OutsideDeclarations os → move os (structure opening) ≡ enters in_bracket
unfolding move outermost within
opening_enters [] r = refl
opening_enters (in_bracket ∷ os) r = refl
opening_enters (in_declarations ∷ os) r = absurd r
opening_enters (in_body ∷ os) r = refl

pub let_enters : (os : List Open) → OutsideDeclarations os → move os (structure keyword_let) ≡ enters in_declarations
unfolding move outermost within
let_enters [] r = refl
let_enters (in_bracket ∷ os) r = refl
let_enters (in_declarations ∷ os) r = absurd r
let_enters (in_body ∷ os) r = refl

-- Tokens that leave everything open as it is, where there is room for `d` more.
abbrev Skipped : ℕ → List Token → Type 0
Skipped d ts =
    (os : List Open) → OutsideDeclarations os → length os + d ≤ deepest → (i : ℕ) (rest : List Token)
    → nesting os i (ts ++ rest) ≡ nesting os (i + length ts) rest

skipped_none : Skipped 0 []
skipped_none os r h i rest = ap (λ k. nesting os k rest) (omega arith)

skipped_append : (d e f : ℕ) → d ≤ f → e ≤ f → (xs ys : List Token) → Skipped d xs → Skipped e ys → Skipped f (xs ++ ys)
skipped_append d e f l m xs ys p q os r h i rest =
    rw (append_assoc xs ys rest, length-append xs ys)
    (p os r (omega arith) i (ys ++ rest) ∙ (q os r (omega arith) (i + length xs) rest ∙ ap (λ k. nesting os k rest) (omega arith)))

skipped_atom : (a : Atom) → Skipped 0 (atom a ∷ [])
unfolding moved
skipped_atom a os r h i rest =
    nesting_step os i (atom a) rest stays (atom_stays os a) tt ∙ ap (λ k. nesting os k rest) (omega arith)

skipped_quiet : (ds : List Token) → AllQuiet ds → (os : List Open) (i : ℕ) (rest : List Token)
    → nesting (in_declarations ∷ os) i (ds ++ rest) ≡ nesting (in_declarations ∷ os) (i + length ds) rest
unfolding moved
skipped_quiet [] q os i rest = ap (λ k. nesting (in_declarations ∷ os) k rest) (omega arith)
skipped_quiet (d ∷ ds) q os i rest =
    nesting_step (in_declarations ∷ os) i d (ds ++ rest) stays (quiet_stays os d q.0) tt
    ∙ (skipped_quiet ds q.1 os (suc i) rest ∙ ap (λ k. nesting (in_declarations ∷ os) k rest) (omega arith))

-- From behind an opener to behind its closer `e`.
skipped_closer : (d : ℕ) (ts : List Token) → Skipped d ts → (o : Open) (e : Structure) (os : List Open) → OutsideDeclarations (o ∷ os)
    → within o e ≡ leaves → suc (length os) + d ≤ deepest → (i : ℕ) (rest : List Token)
    → nesting (o ∷ os) i (ts ++ structure e ∷ rest) ≡ nesting os (i + suc (length ts)) rest
unfolding moved move close_innermost
skipped_closer d ts p o e os r l h i rest =
    p (o ∷ os) r h i (structure e ∷ rest)
    ∙ (nesting_step (o ∷ os) (i + length ts) (structure e) rest leaves l tt ∙ ap (λ k. nesting os k rest) (omega arith))

-- From behind `let` to behind `in`.
declarations_passed : (ds : List Token) → AllQuiet ds → (os : List Open) (i : ℕ) (rest : List Token)
    → nesting (in_declarations ∷ os) i (ds ++ structure keyword_in ∷ rest) ≡ nesting (in_body ∷ os) (suc (i + length ds)) rest
unfolding moved move within close_innermost
declarations_passed ds q os i rest =
    skipped_quiet ds q os i (structure keyword_in ∷ rest)
    ∙ nesting_step (in_declarations ∷ os) (i + length ds) (structure keyword_in) rest (becomes in_body) refl tt

skipped_pair : (d : ℕ) (ts : List Token) → Skipped d ts → Skipped (suc d) (structure opening ∷ ts ++ structure closing ∷ [])
unfolding moved within
skipped_pair d ts p os r h i rest =
    rw (append_assoc ts (structure closing ∷ []) rest, length-append ts (structure closing ∷ []))
    (nesting_step os i (structure opening) (ts ++ structure closing ∷ rest) (enters in_bracket) (opening_enters os r) (omega arith)
    ∙ (skipped_closer d ts p in_bracket closing os tt refl (omega arith) (suc i) rest ∙ ap (λ k. nesting os k rest) (omega arith)))

block_tokens : (ds ts rest : List Token)
    → (ds ++ structure keyword_in ∷ ts ++ structure keyword_end ∷ []) ++ rest ≡ ds ++ structure keyword_in ∷ (ts ++ structure keyword_end ∷ rest)
block_tokens ds ts rest = simp append_assoc

skipped_block : (d : ℕ) (ds ts : List Token) → AllQuiet ds → Skipped d ts
    → Skipped (suc d) (structure keyword_let ∷ ds ++ structure keyword_in ∷ ts ++ structure keyword_end ∷ [])
unfolding moved within
skipped_block d ds ts q p os r h i rest =
    rw (block_tokens ds ts rest, length-append (ds ++ structure keyword_in ∷ ts) (structure keyword_end ∷ []), length-append ds (structure keyword_in ∷ ts))
    (nesting_step os i (structure keyword_let) (ds ++ structure keyword_in ∷ (ts ++ structure keyword_end ∷ rest)) (enters in_declarations) (let_enters os r) (omega arith)
    ∙ (declarations_passed ds q os (suc i) (ts ++ structure keyword_end ∷ rest)
    ∙ (skipped_closer d ts p in_body keyword_end os tt refl (omega arith) (suc (suc i + length ds)) rest
    ∙ ap (λ k. nesting os k rest) (omega arith))))

-- A tree needs no more room than its depth.
skipped_flat : (t : Tree) → Skipped (depth t) (flat t)
unfolding flat depth
skipped_flat nothing = skipped_none
skipped_flat (leaf a) = skipped_atom a
skipped_flat (bracket t) = skipped_pair (depth t) (flat t) (skipped_flat t)
skipped_flat (block ds t) = skipped_block (depth t) (all_tokens ds) (flat t) (declarations_quiet ds) (skipped_flat t)
skipped_flat (node l m r) =
    skipped_append (depth l) (depth r) (max (depth l) (depth r)) (omega arith) (omega arith) (flat l) (atom (symbol m) ∷ flat r)
    (skipped_flat l)
    (skipped_append 0 (depth r) (depth r) (omega arith) (omega arith) (atom (symbol m) ∷ []) (flat r)
    (skipped_atom (symbol m)) (skipped_flat r))

-- The tokens of a tree of depth 32 or less pass.
pub nesting-flat : (t : Tree) → depth t ≤ deepest → (i : ℕ) → nesting [] i (flat t) ≡ passed tt
unfolding nesting
nesting-flat t h i = ap (nesting [] i) (sym (append-nil (flat t))) ∙ skipped_flat t [] tt (omega arith) i []

-- Tokens that pass only where there is room for `d` more.
abbrev Fits : ℕ → List Token → Type 0
Fits d ts =
    (os : List Open) → OutsideDeclarations os → length os ≤ deepest → (i : ℕ) (rest : List Token)
    → nesting os i (ts ++ rest) ≡ passed tt → length os + d ≤ deepest

fits_zero : (ts : List Token) → Fits 0 ts
fits_zero ts os r h i rest e = omega arith

fits_pair : (d : ℕ) (ts : List Token) → Fits d ts → Fits (suc d) (structure opening ∷ ts ++ structure closing ∷ [])
unfolding moved
fits_pair d ts f os r h i rest e =
    let a = nesting-after os i (structure opening) (ts ++ structure closing ∷ [] ++ rest) (enters in_bracket) (opening_enters os r) e in
    let g : suc (length os) + d ≤ deepest =
    f (in_bracket ∷ os) tt a.0 (suc i) (structure closing ∷ rest) (rw (append_assoc ts (structure closing ∷ []) rest) at a.1) in
    omega arith

fits_block : (d : ℕ) (ds ts : List Token) → AllQuiet ds → Fits d ts
    → Fits (suc d) (structure keyword_let ∷ ds ++ structure keyword_in ∷ ts ++ structure keyword_end ∷ [])
unfolding moved
fits_block d ds ts q f os r h i rest e =
    let a = nesting-after os i (structure keyword_let) (ds ++ structure keyword_in ∷ ts ++ structure keyword_end ∷ [] ++ rest) (enters in_declarations) (let_enters os r) e in
    let g : suc (length os) + d ≤ deepest =
    f (in_body ∷ os) tt a.0 (suc (suc i + length ds)) (structure keyword_end ∷ rest)
    (rw (block_tokens ds ts rest, declarations_passed ds q os (suc i) (ts ++ structure keyword_end ∷ rest)) at a.1) in
    omega arith

fits_node : (d e : ℕ) (xs ys : List Token) (m : Bytes) → Skipped d xs → Fits d xs → Fits e ys → Fits (max d e) (xs ++ atom (symbol m) ∷ ys)
unfolding moved
fits_node d e xs ys m s f g os r h i rest p =
    let p' : nesting os i (xs ++ atom (symbol m) ∷ (ys ++ rest)) ≡ passed tt = rw (append_assoc xs (atom (symbol m) ∷ ys) rest) at p in
    let a : length os + d ≤ deepest = f os r h i (atom (symbol m) ∷ (ys ++ rest)) p' in
    let q : nesting os (i + length xs) (atom (symbol m) ∷ (ys ++ rest)) ≡ passed tt = rw (s os r a i (atom (symbol m) ∷ (ys ++ rest))) at p' in
    let b : length os + e ≤ deepest =
    g os r h (suc (i + length xs)) rest
    (nesting-after os (i + length xs) (atom (symbol m)) (ys ++ rest) stays (atom_stays os (symbol m)) q).1 in
    omega arith

-- Where the tokens of a tree pass there was room for its depth.
fits_flat : (t : Tree) → Fits (depth t) (flat t)
unfolding flat depth
fits_flat nothing = fits_zero []
fits_flat (leaf a) = fits_zero (atom a ∷ [])
fits_flat (bracket t) = fits_pair (depth t) (flat t) (fits_flat t)
fits_flat (block ds t) = fits_block (depth t) (all_tokens ds) (flat t) (declarations_quiet ds) (fits_flat t)
fits_flat (node l m r) = fits_node (depth l) (depth r) (flat l) (flat r) m (skipped_flat l) (fits_flat l) (fits_flat r)

-- A tree whose tokens pass has depth 32 or less.
pub nesting-depth : (t : Tree) (i : ℕ) → nesting [] i (flat t) ≡ passed tt → depth t ≤ deepest
nesting-depth t i e =
    let f : 0 + depth t ≤ deepest = fits_flat t [] tt (omega arith) i [] (ap (nesting [] i) (append-nil (flat t)) ∙ e) in
    omega arith

-- Where the tokens end with something open, they do not pass.
pub nesting_end : (o : Open) (os : List Open) (i : ℕ) → nesting (o ∷ os) i [] ≡ passed tt → ⊥
unfolding nesting
nesting_end o os i e = refused_passed e

-- Whether tokens pass does not depend on the number of the first.
pub nesting_anywhere : (ts : List Token) (os : List Open) (i j : ℕ) → nesting os i ts ≡ passed tt → nesting os j ts ≡ passed tt
unfolding nesting
nesting_anywhere [] [] i j e = refl
nesting_anywhere [] (o ∷ os) i j e = absurd (nesting_end o os i e)
nesting_anywhere (t ∷ ts) os i j e =
    let h = nesting-after os i t ts (move os t) refl e in
    nesting_step os j t ts (move os t) refl h.0 ∙ nesting_anywhere ts (moved os (move os t)) (suc i) (suc j) h.1
