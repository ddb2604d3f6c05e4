-- The items of a tree's tokens are the yield of its outermost span. The walk that finds items leaves a tree of the span itself
-- as its yield, and inside a bracket pair or block it collects a whole tree without a change of depth.
use mathlib.Core.Path.{◌≡◌, refl, sym, ap, ◌∙◌}
use mathlib.Core.Bool.{Bool, true, false}
use mathlib.Core.List.{List, [], ◌∷◌, ◌++◌, append_assoc, append-nil}
use Prim.Native.Nat.{ℕ, zero, suc}
use Rattle.grammar.specs.Bytes.{All}
use Rattle.grammar.specs.Token.{Atom, symbol, opening, closing, semicolon, keyword_let, keyword_in, keyword_end}
use Rattle.grammar.specs.Token.{Token, atom, structure, is_structure, structure_number}
use Rattle.grammar.specs.Declaration.{Declaration, declares, clears, declaration_tokens, all_tokens}
use Rattle.grammar.specs.Span.{
  single,
  scope,
  InDeclarations,
  opens_one,
  closes_one,
  neither,
  effect,
  own_item,
  is_in,
  before_in,
  after_in,
  item,
}
use Rattle.grammar.specs.Span.{outside, inside, items_from, items}
use Rattle.grammar.specs.SpanTree.{yield}
use Rattle.grammar.specs.Tree.{Tree, nothing, leaf, bracket, block, node, flat, span_tree}
use Rattle.grammar.proofs.Lists.{all_append}

abbrev pub AllQuiet : List Token → Type 0
AllQuiet = All InDeclarations

-- What holds of names, numbers and `;` holds of each token that can stand among declarations.
pub quiet_cases : (P : Token → Type 0) → ((a : Atom) → P (atom a)) → P (structure semicolon) → (t : Token) → InDeclarations t → P t
quiet_cases P p e (atom a) h = p a
quiet_cases P p e (structure s) h = rw h e

declaration_quiet : (d : Declaration) → AllQuiet (declaration_tokens d)
unfolding declaration_tokens
declaration_quiet (declares f a d m) = (tt, (tt, (tt, (tt, (refl, tt)))))
declaration_quiet (clears m) = (tt, (tt, (refl, tt)))

pub declarations_quiet : (ds : List Declaration) → AllQuiet (all_tokens ds)
unfolding all_tokens
declarations_quiet [] = tt
declarations_quiet (d ∷ ds) =
    all_append InDeclarations (declaration_tokens d) (all_tokens ds) (declaration_quiet d) (declarations_quiet ds)

pub effect_quiet : (t : Token) → InDeclarations t → effect t ≡ neither
unfolding effect
effect_quiet = quiet_cases (λ t. effect t ≡ neither) (λ a. refl) refl

is_in_quiet : (t : Token) → InDeclarations t → is_in t ≡ false
unfolding is_in is_structure structure_number
is_in_quiet = quiet_cases (λ t. is_in t ≡ false) (λ a. refl) refl

-- A block's tokens are cut at its first `in`.
pub before_in_lem : (ds ts : List Token) → AllQuiet ds → before_in (ds ++ structure keyword_in ∷ ts) ≡ ds
unfolding before_in is_in is_structure structure_number
before_in_lem [] ts q = refl
before_in_lem (d ∷ ds) ts q = rw (is_in_quiet d q.0, before_in) (ap (λ xs. d ∷ xs) (before_in_lem ds ts q.1))

pub after_in_lem : (ds ts : List Token) → AllQuiet ds → after_in (ds ++ structure keyword_in ∷ ts) ≡ ts
unfolding after_in is_in is_structure structure_number
after_in_lem [] ts q = refl
after_in_lem (d ∷ ds) ts q = rw (is_in_quiet d q.0, after_in) (after_in_lem ds ts q.1)

pub item_block : (ds ts : List Token) → AllQuiet ds → item true (ds ++ structure keyword_in ∷ ts) ≡ scope ds ts
unfolding item
item_block ds ts q = rw (before_in_lem ds ts q, after_in_lem ds ts q)

-- Inside a pair the walk only collects what neither opens nor closes, and counts what opens and closes.
pub collects : (b : Bool) (d : ℕ) (us : List Token) (t : Token) (rest : List Token) → effect t ≡ neither
    → items_from (inside b d us) (t ∷ rest) ≡ items_from (inside b d (us ++ t ∷ [])) rest
unfolding items_from
collects b zero us t rest e = rw (e, items_from)
collects b (suc d) us t rest e = rw (e, items_from)

opens_deeper : (b c : Bool) (d : ℕ) (us : List Token) (t : Token) (rest : List Token) → effect t ≡ opens_one c
    → items_from (inside b d us) (t ∷ rest) ≡ items_from (inside b (suc d) (us ++ t ∷ [])) rest
unfolding items_from
opens_deeper b c zero us t rest e = rw (e, items_from)
opens_deeper b c (suc d) us t rest e = rw (e, items_from)

closes_deeper : (b : Bool) (d : ℕ) (us : List Token) (t : Token) (rest : List Token) → effect t ≡ closes_one
    → items_from (inside b (suc d) us) (t ∷ rest) ≡ items_from (inside b d (us ++ t ∷ [])) rest
unfolding items_from
closes_deeper b d us t rest e = rw (e, items_from)

-- Tokens that are collected as a whole inside every pair.
abbrev pub Collected : List Token → Type 0
Collected ts =
    (b : Bool) (d : ℕ) (us rest : List Token) → items_from (inside b d us) (ts ++ rest) ≡ items_from (inside b d (us ++ ts)) rest

pub collected_none : Collected []
collected_none b d us rest = rw append-nil

pub collected_append : (xs ys : List Token) → Collected xs → Collected ys → Collected (xs ++ ys)
collected_append xs ys p q b d us rest =
    rw (append_assoc xs ys rest, ← append_assoc us xs ys) (p b d us (ys ++ rest) ∙ q b d (us ++ xs) rest)

collected_quiet : (t : Token) → InDeclarations t → Collected (t ∷ [])
collected_quiet t q b d us rest = collects b d us t rest (effect_quiet t q)

pub collected_all_quiet : (ts : List Token) → AllQuiet ts → Collected ts
collected_all_quiet [] q = collected_none
collected_all_quiet (t ∷ ts) q = collected_append (t ∷ []) ts (collected_quiet t q.0) (collected_all_quiet ts q.1)

-- A pair of opener and closer, then more.
pub collected_pair : (b : Bool) (o e : Token) → effect o ≡ opens_one b → effect e ≡ closes_one → (ts more : List Token) → Collected ts
    → Collected more → Collected (o ∷ ts ++ e ∷ more)
collected_pair b o e p q ts more c m b' d us rest =
    rw (append_assoc ts (e ∷ more) rest)
    (opens_deeper b' b d us o (ts ++ (e ∷ more ++ rest)) p
    ∙ (c b' (suc d) (us ++ o ∷ []) (e ∷ more ++ rest)
    ∙ (closes_deeper b' d ((us ++ o ∷ []) ++ ts) e (more ++ rest) q
    ∙ (m b' d (((us ++ o ∷ []) ++ ts) ++ e ∷ []) rest ∙ simp append_assoc))))

-- A block's tokens between `let` and `end`.
pub collected_block : (ds ts : List Token) → AllQuiet ds → Collected ts → Collected (ds ++ structure keyword_in ∷ ts)
unfolding effect
collected_block ds ts q c =
    collected_append ds (structure keyword_in ∷ ts) (collected_all_quiet ds q)
    (collected_append (structure keyword_in ∷ []) ts (λ b d us rest. collects b d us (structure keyword_in) rest refl) c)

-- A tree is collected as a whole.
collected_flat : (t : Tree) → Collected (flat t)
unfolding flat effect
collected_flat nothing = collected_none
collected_flat (leaf a) = collected_quiet (atom a) tt
collected_flat (bracket t) =
    collected_pair false (structure opening) (structure closing) refl refl (flat t) [] (collected_flat t) collected_none
collected_flat (block ds t) =
    collected_pair true (structure keyword_let) (structure keyword_end) refl refl (all_tokens ds ++ structure keyword_in ∷ flat t) []
    (collected_block (all_tokens ds) (flat t) (declarations_quiet ds) (collected_flat t)) collected_none
collected_flat (node l m r) =
    collected_append (flat l) (atom (symbol m) ∷ flat r) (collected_flat l)
    (collected_append (atom (symbol m) ∷ []) (flat r) (collected_quiet (atom (symbol m)) tt) (collected_flat r))

-- What the span itself has of a bracket pair or block.
pub outside_pair : (b : Bool) (o e : Token) → effect o ≡ opens_one b → effect e ≡ closes_one → (ts rest : List Token) → Collected ts
    → items_from outside (o ∷ ts ++ e ∷ rest) ≡ item b ts ∷ items_from outside rest
unfolding items_from
outside_pair b o e p q ts rest c = rw (p, items_from) (c b 0 [] (e ∷ rest) ∙ rw (q, items_from))

pub outside_atom : (a : Atom) (rest : List Token) → items_from outside (atom a ∷ rest) ≡ single a ∷ items_from outside rest
unfolding items_from effect own_item
outside_atom a rest = refl

outside_flat : (t : Tree) (rest : List Token) → items_from outside (flat t ++ rest) ≡ yield (span_tree t) ++ items_from outside rest
unfolding flat span_tree yield effect item
outside_flat nothing rest = refl
outside_flat (leaf a) rest = outside_atom a rest
outside_flat (bracket t) rest =
    rw (append_assoc (flat t) (structure closing ∷ []) rest)
    (outside_pair false (structure opening) (structure closing) refl refl (flat t) rest (collected_flat t))
outside_flat (block ds t) rest =
    rw (append_assoc (all_tokens ds ++ structure keyword_in ∷ flat t) (structure keyword_end ∷ []) rest)
    (outside_pair true (structure keyword_let) (structure keyword_end) refl refl (all_tokens ds ++ structure keyword_in ∷ flat t) rest
    (collected_block (all_tokens ds) (flat t) (declarations_quiet ds) (collected_flat t))
    ∙ rw (item_block (all_tokens ds) (flat t) (declarations_quiet ds)))
outside_flat (node l m r) rest =
    rw (append_assoc (flat l) (atom (symbol m) ∷ flat r) rest)
    (rw (append_assoc (yield (span_tree l)) (single (symbol m) ∷ yield (span_tree r)) (items_from outside rest))
    (outside_flat l (atom (symbol m) ∷ flat r ++ rest)
    ∙ ap (λ is. yield (span_tree l) ++ is)
    (outside_atom (symbol m) (flat r ++ rest) ∙ ap (λ is. single (symbol m) ∷ is) (outside_flat r rest))))

-- The items of a tree's tokens are what its outermost span yields.
pub items-flat : (t : Tree) → items (flat t) ≡ yield (span_tree t)
unfolding items items_from
items-flat t = ap (items_from outside) (sym (append-nil (flat t))) ∙ (outside_flat t [] ∙ append-nil (yield (span_tree t)))
