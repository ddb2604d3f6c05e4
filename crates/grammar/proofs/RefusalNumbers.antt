-- Which numbers each check can give: 2 to 5 the scan, 6 and 7 the nesting, 8 to 10 and 17 declarations and blocks.
-- A check is built from refusals with a number written out, from choices and from one check after another, and each keeps to the numbers.
use mathlib.Core.Path.{◌≡◌, refl}
use mathlib.Core.Logic.{◌⊎◌, inl, inr}
use mathlib.Core.Bool.{Bool, true, false}
use mathlib.Core.List.{List, [], ◌∷◌}
use Prim.Native.Nat.{ℕ, zero, suc, ◌+◌, ◌≤◌}
use native.Mathlib.Omega.{arith}
use lib.Dec.{leb, ltb, eqb}
use lib.ListN.{length, drop}
use Rattle.grammar.specs.Open.{Open, deepest}
use Rattle.grammar.specs.Bytes.{Bytes}
use Rattle.grammar.specs.Token.{
  Token,
  class,
  is_blank_byte,
  letter,
  digit,
  sign,
  quote,
  opens,
  closes,
  separates,
}
use Rattle.grammar.specs.Outcome.{Outcome, refused, passed, and_then, placed}
use Rattle.grammar.specs.Operator.{Table, permitted}
use Rattle.grammar.specs.Scan.{Placed, run, Front, nothing, wrong, taken, at_most, characters_at, is_closed, quoted_name, quoted_with, front_of, front, before, scan}
use Rattle.grammar.specs.Nesting.{Move, stays, broken, enters, becomes, leaves, move, close_innermost, nesting}
use Rattle.grammar.specs.Declaration.{
  Parsed,
  unfit,
  parsed,
  declaration,
  declare,
  declaration_tokens,
  operator_of,
  is_reserved,
  has_room,
  checked_at,
  enter_with,
  enter,
}
use Rattle.grammar.specs.Span.{item_tokens, Item, single, pair, scope, items}
use Rattle.grammar.specs.Blocks.{check_item, check_items, check_blocks}

module _ {A : Type 0} where
  -- `P` holds of the number and place of every refusal of the outcome.
  abbrev pub Refuses : (ℕ → ℕ → Type 0) → Outcome A → Type 0
  Refuses P (refused n p) = P n p
  Refuses P (passed a) = Unit {0}

  pub refuses_holds : (P : ℕ → ℕ → Type 0) (o : Outcome A) → Refuses P o → (n p : ℕ) → o ≡ refused n p → P n p
  refuses_holds P o b n p e = rw e at b

  -- `P` holds of the number of every refusal of the outcome, ..
  abbrev pub Numbered : (ℕ → Type 0) → Outcome A → Type 0
  Numbered P = Refuses (λ n p. P n)

  pub numbered_holds : (P : ℕ → Type 0) (o : Outcome A) → Numbered P o → (n p : ℕ) → o ≡ refused n p → P n
  numbered_holds P = refuses_holds (λ n p. P n)

  -- .. and so does what follows from it.
  pub numbered_wider : (P Q : ℕ → Type 0) → ((n : ℕ) → P n → Q n) → (o : Outcome A) → Numbered P o → Numbered Q o
  numbered_wider P Q f (refused n p) b = f n b
  numbered_wider P Q f (passed a) b = tt

  -- A choice between two, whatever the test.
  pub choice : (P : A → Type 0) (b : Bool) (x y : A) → P x → P y → P (elim b [ true ↦ x | false ↦ y ])
  choice P true x y p q = p
  choice P false x y p q = q

-- One check after another.
pub refuses-and_then : {A B : Type 0} (P : ℕ → ℕ → Type 0) (o : Outcome A) (f : A → Outcome B)
    → Refuses P o → ((a : A) → Refuses P (f a)) → Refuses P (and_then o f)
unfolding and_then
refuses-and_then P (refused n p) f b c = b
refuses-and_then P (passed a) f b c = c a

pub numbered_and_then : {A B : Type 0} (P : ℕ → Type 0) (o : Outcome A) (f : A → Outcome B)
    → Numbered P o → ((a : A) → Numbered P (f a)) → Numbered P (and_then o f)
numbered_and_then P = refuses-and_then (λ n p. P n)

pub numbered_placed : {A : Type 0} (P : ℕ → Type 0) (f : ℕ → ℕ) (o : Outcome A) → Numbered P o → Numbered P (placed f o)
unfolding placed
numbered_placed P f (refused n p) b = b
numbered_placed P f (passed a) b = tt

-- The numbers from `low` to `high`; those of declarations and blocks; those of all checks in front of 12 and 13.
abbrev pub FromTo : ℕ → ℕ → ℕ → Type 0
FromTo low high n = (low ≤ n) × (n ≤ high)

abbrev pub OfBlocks : ℕ → Type 0
OfBlocks n = FromTo 8 10 n ⊎ (n ≡ 17)

abbrev pub OfChecks : ℕ → Type 0
OfChecks n = FromTo 1 11 n ⊎ (n ≡ 17)

abbrev pub Between : {A : Type 0} → ℕ → ℕ → Outcome A → Type 0
Between low high = Numbered (FromTo low high)

-- What stands at the front of a text is refused by 2, 3 or 4.
abbrev FrontBetween : Front → Type 0
FrontBetween nothing = Unit {0}
FrontBetween (wrong k) = (2 ≤ k) × (k ≤ 4)
FrontBetween (taken t n) = Unit {0}

at_most-between : (most n : ℕ) (t : Token) → FrontBetween (at_most most n t)
unfolding at_most
at_most-between most n t = choice FrontBetween (leb n most) _ _ tt (omega arith)

quoted_name-between : (s : Bytes) → FrontBetween (quoted_name s)
unfolding quoted_name quoted_with
quoted_name-between s = choice FrontBetween (is_closed (characters_at s) s) _ _ tt (omega arith)

front_of-between : (c : ℕ) (s : Bytes) → FrontBetween (front_of c s)
unfolding front_of
front_of-between c s =
    choice FrontBetween (eqb c letter) _ _ (at_most-between _ _ _)
    (choice FrontBetween (eqb c sign) _ _ (at_most-between _ _ _)
    (choice FrontBetween (eqb c digit) _ _ (at_most-between _ _ _)
    (choice FrontBetween (eqb c quote) _ _ (quoted_name-between _)
    (choice FrontBetween (eqb c opens) _ _ tt
    (choice FrontBetween (eqb c closes) _ _ tt (choice FrontBetween (eqb c separates) _ _ tt (omega arith)))))))

front-between : (s : Bytes) → FrontBetween (front s)
unfolding front
front-between [] = tt
front-between (b ∷ s) = front_of-between (class b) (b ∷ s)

before-between : (p : Placed) (o : Outcome (List Placed)) → Between 2 5 o → Between 2 5 (before p o)
unfolding before
before-between p (refused n at) b = b
before-between p (passed ps) b = tt

-- One step of the scan, from what stands at the front and what becomes of the rest behind a token.
scan_step : (f : Front) (refuse : ℕ → Outcome (List Placed)) (rest : Token → ℕ → Outcome (List Placed)) → FrontBetween f
    → ((k : ℕ) → (2 ≤ k) × (k ≤ 4) → Between 2 5 (refuse k)) → ((t : Token) (m : ℕ) → Between 2 5 (rest t m))
    → Between {A = List Placed} 2 5 (elim f [ nothing ↦ passed [] | wrong k ↦ refuse k | taken t m ↦ rest t m ])
scan_step nothing refuse rest b q r = tt
scan_step (wrong k) refuse rest b q r = q k b
scan_step (taken t m) refuse rest b q r = r t m

pub scan-between : (room at : ℕ) (s : Bytes) → Between 2 5 (scan room at s)
unfolding scan
scan-between zero at s = scan_step (front (drop (run is_blank_byte s) s)) _ _ (front-between _) (λ k b. omega arith) (λ t m. omega arith)
scan-between (suc room) at s =
    scan_step (front (drop (run is_blank_byte s) s)) _ _ (front-between _) (λ k b. omega arith) (λ t m. before-between _ _ (scan-between room _ _))

pub scan_number : (room at : ℕ) (s : Bytes) (n p : ℕ) → scan room at s ≡ refused n p → (2 ≤ n) × (n ≤ 5)
scan_number room at s = numbered_holds (FromTo 2 5) (scan room at s) (scan-between room at s)

nesting_step : (os : List Open) (i : ℕ) (t : Token) (ts : List Token) → ((os : List Open) (i : ℕ) → Between 6 7 (nesting os i ts))
    → (m : Move) → move os t ≡ m → Between 6 7 (nesting os i (t ∷ ts))
unfolding nesting
nesting_step os i t ts rest stays e = rw (e, nesting) (rest os (suc i))
nesting_step os i t ts rest broken e = rw (e, nesting) (omega arith)
nesting_step os i t ts rest (enters o) e = rw (e, nesting) (choice (Between 6 7) (ltb (length os) deepest) _ _ (rest (o ∷ os) (suc i)) (omega arith))
nesting_step os i t ts rest (becomes o) e = rw (e, nesting) (rest (o ∷ close_innermost os) (suc i))
nesting_step os i t ts rest leaves e = rw (e, nesting) (rest (close_innermost os) (suc i))

pub nesting-between : (os : List Open) (i : ℕ) (ts : List Token) → Between 6 7 (nesting os i ts)
unfolding nesting
nesting-between [] i [] = tt
nesting-between (o ∷ os) i [] = omega arith
nesting-between os i (t ∷ ts) = nesting_step os i t ts (λ us j. nesting-between us j ts) (move os t) refl

pub nesting_number : (os : List Open) (i : ℕ) (ts : List Token) (n p : ℕ) → nesting os i ts ≡ refused n p → (6 ≤ n) × (n ≤ 7)
nesting_number os i ts = numbered_holds (FromTo 6 7) (nesting os i ts) (nesting-between os i ts)

checked_at_numbered : (i : ℕ) (T : Table) → Numbered OfBlocks (checked_at i T)
unfolding checked_at
checked_at_numbered i T = choice (Numbered OfBlocks) (permitted T) _ _ tt (inl (omega arith))

enter_step : (k : ℕ) (T : Table) (i : ℕ) (t : Token) (ts : List Token)
    → ((T : Table) (i : ℕ) (ts : List Token) → Numbered OfBlocks (enter k T i ts)) → (d : Parsed) → declaration (t ∷ ts) ≡ d
    → Numbered OfBlocks (enter (suc k) T i (t ∷ ts))
unfolding enter_with
enter_step k T i t ts rest (unfit n) e = rw (e, enter_with) (inl (omega arith))
enter_step k T i t ts rest (parsed d us) e =
    rw (e, enter_with)
    (choice (Numbered OfBlocks) (is_reserved (operator_of d)) _ _ (inr refl)
    (choice (Numbered OfBlocks) (has_room T d) _ _ (rest (declare T d) (i + length (declaration_tokens d)) us) (inl (omega arith))))

enter_numbered : (k : ℕ) (T : Table) (i : ℕ) (ts : List Token) → Numbered OfBlocks (enter k T i ts)
unfolding enter_with
enter_numbered zero T i [] = checked_at_numbered i T
enter_numbered zero T i (t ∷ ts) = inl (omega arith)
enter_numbered (suc k) T i [] = checked_at_numbered i T
enter_numbered (suc k) T i (t ∷ ts) = enter_step k T i t ts (enter_numbered k) (declaration (t ∷ ts)) refl

module _ (inner : Table → ℕ → List Token → Outcome (Unit {0})) (numbered : (T : Table) (i : ℕ) (ts : List Token) → Numbered OfBlocks (inner T i ts)) where
  check_item_numbered : (T : Table) (i : ℕ) (x : Item) → Numbered OfBlocks (check_item inner T i x)
  unfolding check_item
  check_item_numbered T i (single t) = tt
  check_item_numbered T i (pair ts) = numbered T (suc i) ts
  check_item_numbered T i (scope ds ts) =
      numbered_and_then OfBlocks (enter (length ds) T (suc i) ds) _ (enter_numbered (length ds) T (suc i) ds) (λ U. numbered U (suc (suc (i + length ds))) ts)

  check_items_numbered : (T : Table) (i : ℕ) (xs : List Item) → Numbered OfBlocks (check_items inner T i xs)
  unfolding check_items
  check_items_numbered T i [] = tt
  check_items_numbered T i (x ∷ xs) =
      numbered_and_then OfBlocks (check_item inner T i x) _ (check_item_numbered T i x) (λ u. check_items_numbered T (i + length (item_tokens x)) xs)

pub blocks_numbered : (k : ℕ) (T : Table) (i : ℕ) (ts : List Token) → Numbered OfBlocks (check_blocks k T i ts)
unfolding check_blocks
blocks_numbered zero T i ts = tt
blocks_numbered (suc k) T i ts = check_items_numbered (check_blocks k) (blocks_numbered k) T i (items ts)

pub blocks_number : (k : ℕ) (T : Table) (i : ℕ) (ts : List Token) (n p : ℕ) → check_blocks k T i ts ≡ refused n p → OfBlocks n
blocks_number k T i ts = numbered_holds OfBlocks (check_blocks k T i ts) (blocks_numbered k T i ts)
