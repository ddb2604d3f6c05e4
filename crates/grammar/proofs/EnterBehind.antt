-- The answer of checks 8 to 10 and 17 in front of declarations that fit is the answer behind them, since each of them is read and takes effect;
-- what is refused there is one step.
use mathlib.Core.Path.{◌≡◌, refl, sym, ap, ◌∙◌}
use mathlib.Core.Bool.{Bool, true, false}
use mathlib.Core.List.{List, [], ◌∷◌, ◌++◌, append_assoc, append-nil}
use Prim.Native.Nat.{ℕ, zero, suc, ◌+◌, ◌≤◌, ◌<◌}
use native.Mathlib.Omega.{arith}
use lib.ListN.{length, length-append}
use borrow.Author.Tests.{le-leb, lt-leb}
use Rattle.grammar.specs.Token.{Token}
use Rattle.grammar.specs.Operator.{Table, permitted}
use Rattle.grammar.specs.Outcome.{refused}
use Rattle.grammar.specs.Declaration.{
  Declaration,
  declare,
  declare_all,
  declaration_tokens,
  all_tokens,
  is_declaration,
  are_declarations,
  Parsed,
  unfit,
  parsed,
  declaration,
  operator_place,
  operator_of,
  is_reserved,
  Free,
  most_operators,
  has_room,
  checked_at,
  Check,
  enter_with,
  enter,
}
use Rattle.grammar.proofs.Declarations.{
  declaration_of,
  declaration_sound,
  tokens_shorter,
  declarations_first,
  enter_end,
  enter_reserved,
  enter_step,
}

-- None names a reserved operator, and every table on the way has room for its operators.
abbrev pub Fits : Table → List Declaration → Type 0
Fits T [] = Unit {0}
Fits T (d ∷ ds) = Free d × (length (declare T d) ≤ most_operators) × Fits (declare T d) ds

-- What is parsed leaves fewer tokens.
pub parsed_shorter :
    (ts : List Token) (d : Declaration) (rest : List Token) → declaration ts ≡ parsed d rest → length rest < length ts
parsed_shorter ts d rest e = rw (declaration_sound ts d rest e).0 (tokens_shorter d rest)

-- The first of declarations is read first.
first_parsed :
    (d : Declaration) (ds : List Declaration) (rest : List Token) → is_declaration d ≡ true
    → declaration (all_tokens (d ∷ ds) ++ rest) ≡ parsed d (all_tokens ds ++ rest)
unfolding all_tokens
first_parsed d ds rest e =
    ap declaration (append_assoc (declaration_tokens d) (all_tokens ds) rest) ∙ declaration_of d (all_tokens ds ++ rest) e

-- Whatever the check behind the declarations.
module _ (check : Check) where
  -- One step of the checks at tokens that do not fit.
  pub enter_unfit :
      (k : ℕ) (T : Table) (i : ℕ) (ts : List Token) (n : ℕ) → 0 < length ts → length ts ≤ k → declaration ts ≡ unfit n
      → enter_with check k T i ts ≡ refused 8 (i + n)
  unfolding enter_with
  enter_unfit k T i [] n h l e = absurd (omega arith)
  enter_unfit zero T i (t ∷ ts) n h l e = absurd (omega arith)
  enter_unfit (suc k) T i (t ∷ ts) n h l e = rw (e, enter_with) refl

  -- Any fuel that is no less than the tokens is enough.
  pub enter_fuel :
      (k l : ℕ) (T : Table) (i : ℕ) (ts : List Token) → length ts ≤ k → length ts ≤ l
      → enter_with check k T i ts ≡ enter_with check l T i ts
  enter_fuel zero l T i [] h g = enter_end check zero T i ∙ sym (enter_end check l T i)
  enter_fuel (suc k) l T i [] h g = enter_end check (suc k) T i ∙ sym (enter_end check l T i)
  enter_fuel zero l T i (t ∷ ts) h g = absurd (omega arith)
  enter_fuel (suc k) zero T i (t ∷ ts) h g = absurd (omega arith)
  enter_fuel (suc k) (suc l) T i (t ∷ ts) h g = go (declaration (t ∷ ts)) refl (enter_fuel k l)
    where
      go :
          (p : Parsed) → declaration (t ∷ ts) ≡ p
          → ((T : Table) (i : ℕ) (ts : List Token) → length ts ≤ k → length ts ≤ l → enter_with check k T i ts ≡ enter_with check l T i ts)
          → enter_with check (suc k) T i (t ∷ ts) ≡ enter_with check (suc l) T i (t ∷ ts)
      go (unfit n) e ih = enter_unfit (suc k) T i (t ∷ ts) n (omega arith) h e ∙ sym (enter_unfit (suc l) T i (t ∷ ts) n (omega arith) g e)
      go (parsed d rest) e ih = named (is_reserved (operator_of d)) refl
        where
          named : (b : Bool) → is_reserved (operator_of d) ≡ b → enter_with check (suc k) T i (t ∷ ts) ≡ enter_with check (suc l) T i (t ∷ ts)
          named true r = enter_reserved check k T i (t ∷ ts) e r ∙ sym (enter_reserved check l T i (t ∷ ts) e r)
          named false r =
              let s : length rest < length (t ∷ ts) = parsed_shorter (t ∷ ts) d rest e in
              enter_step check k T i (t ∷ ts) e r
              ∙ ap
              (λ o. elim (has_room T d) [ true ↦ o | false ↦ refused 9 (i + operator_place d) ])
              (ih (declare T d) (i + length (declaration_tokens d)) rest (omega arith) (omega arith))
              ∙ sym (enter_step check l T i (t ∷ ts) e r)

  -- A declaration that fits takes effect; one of a reserved operator and one too many are refused.
  module _
      (k : ℕ) (T : Table) (i : ℕ) (ts : List Token) (d : Declaration) (rest : List Token) (e : declaration ts ≡ parsed d rest)
    where
      enter_fitting :
          Free d → length (declare T d) ≤ most_operators
          → enter_with check (suc k) T i ts ≡ enter_with check k (declare T d) (i + length (declaration_tokens d)) rest
      unfolding has_room
      enter_fitting r h = rw (enter_step check k T i ts e r, le-leb _ _ h, has_room) refl

      enter_overfull : Free d → most_operators < length (declare T d) → enter_with check (suc k) T i ts ≡ refused 9 (i + operator_place d)
      unfolding has_room
      enter_overfull r g = rw (enter_step check k T i ts e r, lt-leb _ _ g, has_room) refl

  -- The answer in front of declarations that fit is the answer behind them.
  pub enter_behind :
      (k : ℕ) (T : Table) (i : ℕ) (ds : List Declaration) (rest : List Token) → are_declarations ds ≡ true → Fits T ds
      → length (all_tokens ds ++ rest) ≤ k
      → enter_with check k T i (all_tokens ds ++ rest) ≡ enter_with check k (declare_all T ds) (i + length (all_tokens ds)) rest
  unfolding all_tokens declare_all
  enter_behind k T i [] rest a f h = ap (λ j. enter_with check k T j rest) (omega arith)
  enter_behind zero T i (d ∷ ds) rest a f h =
      let (p, q) = declarations_first d ds a in
      absurd (omega (arith, parsed_shorter (all_tokens (d ∷ ds) ++ rest) d (all_tokens ds ++ rest) (first_parsed d ds rest p)))
  enter_behind (suc k) T i (d ∷ ds) rest a f h =
      let (p, q) = declarations_first d ds a in
      let e = first_parsed d ds rest p in
      let s : length (all_tokens ds ++ rest) ≤ k = omega (arith, parsed_shorter (all_tokens (d ∷ ds) ++ rest) d (all_tokens ds ++ rest) e) in
      let l : length rest ≤ k = omega (arith, length-append (all_tokens ds) rest) in
      enter_fitting k T i (all_tokens (d ∷ ds) ++ rest) d (all_tokens ds ++ rest) e f.0 f.1
      ∙ enter_behind k (declare T d) (i + length (declaration_tokens d)) ds rest q f.2 s
      ∙ enter_fuel k (suc k) (declare_all T (d ∷ ds)) _ rest l (omega arith)
      ∙ ap (λ j. enter_with check (suc k) (declare_all T (d ∷ ds)) j rest) (omega (arith, length-append (declaration_tokens d) (all_tokens ds)))

  -- Behind declarations that fit, and are all, the check answers.
  enter_checked :
      (k : ℕ) (T : Table) (i : ℕ) (ds : List Declaration) → are_declarations ds ≡ true → Fits T ds → length (all_tokens ds) ≤ k
      → enter_with check k T i (all_tokens ds) ≡ check (i + length (all_tokens ds)) (declare_all T ds)
  enter_checked k T i ds a f h =
      ap (enter_with check k T i) (sym (append-nil (all_tokens ds)))
      ∙ enter_behind k T i ds [] a f (rw (append-nil (all_tokens ds)) h)
      ∙ enter_end check k (declare_all T ds) (i + length (all_tokens ds))

  -- Refusals behind declarations that fit. Check 8: the tokens that follow are no declaration.
  pub unfit_refused :
      (k : ℕ) (T : Table) (i : ℕ) (ds : List Declaration) (rest : List Token) (n : ℕ) → are_declarations ds ≡ true → Fits T ds
      → length (all_tokens ds ++ rest) ≤ k → 0 < length rest → declaration rest ≡ unfit n
      → enter_with check k T i (all_tokens ds ++ rest) ≡ refused 8 (i + length (all_tokens ds) + n)
  unfit_refused k T i ds rest n a f h g e =
      enter_behind k T i ds rest a f h
      ∙ enter_unfit k (declare_all T ds) (i + length (all_tokens ds)) rest n g (omega (arith, length-append (all_tokens ds) rest)) e

  -- Checks 17 and 9: the declaration that follows names a reserved operator, or is one too many.
  module _
      (T : Table) (i : ℕ) (ds : List Declaration) (rest : List Token) (d : Declaration) (rest' : List Token) (e : declaration rest ≡ parsed d rest')
    where
      -- There is fuel for it.
      fed :
          (k : ℕ) → are_declarations ds ≡ true → Fits T ds → length (all_tokens ds ++ rest) ≤ k → (n : ℕ)
          → ((j : ℕ)
          → enter_with check (suc j) (declare_all T ds) (i + length (all_tokens ds)) rest ≡ refused n (i + length (all_tokens ds) + operator_place d))
          → enter_with check k T i (all_tokens ds ++ rest) ≡ refused n (i + length (all_tokens ds) + operator_place d)
      fed zero a f h n g = absurd (omega (arith, parsed_shorter rest d rest' e, length-append (all_tokens ds) rest))
      fed (suc k) a f h n g = enter_behind (suc k) T i ds rest a f h ∙ g k

      pub reserved_refused :
          (k : ℕ) → are_declarations ds ≡ true → Fits T ds → length (all_tokens ds ++ rest) ≤ k → is_reserved (operator_of d) ≡ true
          → enter_with check k T i (all_tokens ds ++ rest) ≡ refused 17 (i + length (all_tokens ds) + operator_place d)
      reserved_refused k a f h r = fed k a f h 17 (λ j. enter_reserved check j (declare_all T ds) (i + length (all_tokens ds)) rest e r)

      pub overfull_refused :
          (k : ℕ) → are_declarations ds ≡ true → Fits T ds → length (all_tokens ds ++ rest) ≤ k → Free d
          → most_operators < length (declare (declare_all T ds) d)
          → enter_with check k T i (all_tokens ds ++ rest) ≡ refused 9 (i + length (all_tokens ds) + operator_place d)
      overfull_refused k a f h r g = fed k a f h 9 (λ j. enter_overfull j (declare_all T ds) (i + length (all_tokens ds)) rest d rest' e r g)

-- Check 10: there are no more declarations, and what is in force breaks the overloading rule.
pub unlawful_refused :
    (k : ℕ) (T : Table) (i : ℕ) (ds : List Declaration) → are_declarations ds ≡ true → Fits T ds → length (all_tokens ds) ≤ k
    → permitted (declare_all T ds) ≡ false → enter k T i (all_tokens ds) ≡ refused 10 (i + length (all_tokens ds))
unfolding checked_at
unlawful_refused k T i ds a f h l = enter_checked checked_at k T i ds a f h ∙ rw (l, checked_at) refl
