-- Checks 8 to 10 and 17 of a declaration part answer with its one fault: "each declaration complete through its `;` before it takes
-- effect (8, then 9), then 10", and 17 "after 8 and before 9". A fault behind declarations that take effect is found by reading them; and what is not yet faulty is read on.
use mathlib.Core.Path.{◌≡◌, refl, sym, ap, subst, ◌∙◌}
use mathlib.Core.Bool.{Bool, true, false}
use mathlib.Core.Logic.{◌↔◌}
use mathlib.Core.List.{List, [], ◌∷◌, ◌++◌, append_assoc}
use Prim.Native.Nat.{ℕ, zero, suc, ◌+◌, ◌≤◌, ◌<◌}
use native.Mathlib.Omega.{arith}
use lib.ListN.{length, length-append}
use borrow.Author.Tests.{leb-true, leb-false}
use Rattle.grammar.specs.Bytes.{Bytes}
use Rattle.grammar.specs.Token.{Token}
use Rattle.grammar.specs.Operator.{Table, Distinct, permitted}
use Rattle.grammar.specs.Outcome.{Outcome, refused, passed}
use Rattle.grammar.specs.Declaration.{
  Declaration,
  declare,
  declare_all,
  declaration_tokens,
  all_tokens,
  is_declaration,
  are_declarations,
  Parsed,
  unfit,
  parsed,
  declaration,
  operator_place,
  operator_of,
  is_reserved,
  Free,
  most_operators,
  has_room,
  checked_at,
  enter,
}
use Rattle.grammar.specs.Fault.{current, TakeEffect, unchanged, changed, DeclarationFault, malformed, names_reserved, overfull, unlawful}
use Rattle.grammar.proofs.Logic.{clash, impossible}
use Rattle.grammar.proofs.Declarations.{declaration_of, declaration_sound, enter_end, enter_reserved, enter_step}
use Rattle.grammar.proofs.EnterBehind.{Fits, parsed_shorter, enter_unfit, unfit_refused, reserved_refused, overfull_refused, unlawful_refused}
use Rattle.grammar.proofs.Operators.{distinct_declared}
use Rattle.grammar.proofs.OverloadingTest.{permitted_sound, permitted_complete}
use Rattle.grammar.proofs.FirstUnfit.{unfit_first}

-- Declarations that take effect are allowed, name no reserved operator, have room, and leave what they declare.
pub effect-allowed :
    {reserved : Bytes → Bool} {T U : Table} {ds : List Declaration} → TakeEffect reserved T ds U → are_declarations ds ≡ true
unfolding are_declarations
effect-allowed unchanged = refl
effect-allowed (changed a r l e) = rw (a, are_declarations) (effect-allowed e)

effect_fits : {T U : Table} {ds : List Declaration} → TakeEffect is_reserved T ds U → Fits T ds
effect_fits unchanged = tt
effect_fits (changed a r l e) = (r, l, effect_fits e)

effect-table : {T U : Table} {ds : List Declaration} → TakeEffect is_reserved T ds U → U ≡ declare_all T ds
unfolding declare_all
effect-table unchanged = refl
effect-table (changed a r l e) = effect-table e

-- A fault is answered: behind the declarations that take effect stands what is refused.
fault_refused : (T : Table) (i : ℕ) (ts : List Token) (n k : ℕ) → DeclarationFault current T ts n k → enter (length ts) T i ts ≡ refused n (i + k)
fault_refused T i ts n k (malformed ds t rest {k = j} e f u) =
    let l = length (all_tokens ds ++ t ∷ rest) in
    let h = unfit_refused checked_at l T i ds (t ∷ rest) j (effect-allowed f) (effect_fits f) (omega arith) (omega arith)
    ((unfit_first (t ∷ rest) j).1 u) in
    rw e (h ∙ ap (refused 8) (omega arith))
fault_refused T i ts n k (names_reserved ds d rest e f a r) =
    let more = declaration_tokens d ++ rest in
    let l = length (all_tokens ds ++ more) in
    let h = reserved_refused checked_at T i ds more d rest (declaration_of d rest a) l (effect-allowed f) (effect_fits f) (omega arith) r in
    rw e (h ∙ ap (refused 17) (omega arith))
fault_refused T i ts n k (overfull ds d rest e f a r m) =
    let more = declaration_tokens d ++ rest in
    let l = length (all_tokens ds ++ more) in
    let h = overfull_refused checked_at T i ds more d rest (declaration_of d rest a) l (effect-allowed f) (effect_fits f) (omega arith) r
    (rw (effect-table f) at m) in
    rw e (h ∙ ap (refused 9) (omega arith))
fault_refused T i ts n k (unlawful ds {U} e f c) =
    let v = rw (effect-table f) at (violated (permitted U) refl) in
    rw e (unlawful_refused (length (all_tokens ds)) T i ds (effect-allowed f) (effect_fits f) (omega arith) v)
  where
    violated : (b : Bool) → permitted U ≡ b → permitted U ≡ false
    violated true h = absurd (c (permitted_sound U h))
    violated false h = h

-- A fault behind a declaration that takes effect.
module _ (T : Table) (d : Declaration) (rest : List Token) (a : is_declaration d ≡ true) (free : Free d) (l : length (declare T d) ≤ most_operators) where
  -- The tokens behind it, and their numbers.
  tokens_behind : (ds : List Declaration) (more : List Token) → rest ≡ all_tokens ds ++ more → declaration_tokens d ++ rest ≡ all_tokens (d ∷ ds) ++ more
  unfolding all_tokens
  tokens_behind ds more e = rw e (sym (append_assoc (declaration_tokens d) (all_tokens ds) more))

  number_behind : (ds : List Declaration) (j : ℕ) → length (all_tokens (d ∷ ds)) + j ≡ length (declaration_tokens d) + (length (all_tokens ds) + j)
  unfolding all_tokens
  number_behind ds j = omega (arith, length-append (declaration_tokens d) (all_tokens ds))

  renumbered : {n j k : ℕ} → j ≡ k → DeclarationFault current T (declaration_tokens d ++ rest) n j → DeclarationFault current T (declaration_tokens d ++ rest) n k
  renumbered {n} e f = subst (DeclarationFault current T (declaration_tokens d ++ rest) n) e f

  fault_behind :
      (n k : ℕ) → DeclarationFault current (declare T d) rest n k
      → DeclarationFault current T (declaration_tokens d ++ rest) n (length (declaration_tokens d) + k)
  unfolding all_tokens
  fault_behind n k (malformed ds t more {k = j} e f u) =
      renumbered (number_behind ds j) (malformed (d ∷ ds) t more (tokens_behind ds (t ∷ more) e) (changed a free l f) u)
  fault_behind n k (names_reserved ds c more e f b r) =
      renumbered (number_behind ds (operator_place c))
      (names_reserved (d ∷ ds) c more (tokens_behind ds (declaration_tokens c ++ more) e) (changed a free l f) b r)
  fault_behind n k (overfull ds c more e f b r m) =
      renumbered (number_behind ds (operator_place c))
      (overfull (d ∷ ds) c more (tokens_behind ds (declaration_tokens c ++ more) e) (changed a free l f) b r m)
  fault_behind n k (unlawful ds e f c) =
      renumbered (length-append (declaration_tokens d) rest) (unlawful (d ∷ ds) (ap (◌++◌ (declaration_tokens d)) e) (changed a free l f) c)

-- A refusal at token number `p` of tokens whose first has the number `i` is for a fault. (Where names stand twice in the list of
-- operators, its test is more than the overloading rule.)
abbrev Faulty : Table → ℕ → List Token → ℕ → ℕ → Type 0
Faulty T i ts n p = (k : ℕ) × (p ≡ i + k) × (Distinct T → DeclarationFault current T ts n k)

-- At the end: check 10.
checked_faulty : (T : Table) (i n p : ℕ) → checked_at i T ≡ refused n p → Faulty T i [] n p
unfolding checked_at all_tokens
checked_faulty T i n p e = go (permitted T) refl
  where
    go : (b : Bool) → permitted T ≡ b → Faulty T i [] n p
    go true h = let f : passed T ≡ refused n p = rw (h, checked_at) at e in impossible cc
    go false h =
        let f : refused 10 i ≡ refused n p = rw (h, checked_at) at e in
        let ten : n ≡ 10 = cc in
        let there : p ≡ i = cc in
        (0, omega arith, λ q. rw ten (unlawful [] refl unchanged (λ c. clash (permitted_complete T q c) h)))

-- At a declaration: it does not fit, it names a reserved operator, it is one too many, or it takes effect and the fault is behind it.
unfit_faulty :
    (T : Table) (i : ℕ) (t : Token) (ts : List Token) (j n p : ℕ) → declaration (t ∷ ts) ≡ unfit j → ◌≡◌ {A = Outcome Table} (refused 8 (i + j)) (refused n p)
    → Faulty T i (t ∷ ts) n p
unfolding all_tokens
unfit_faulty T i t ts j n p e h =
    let eight : n ≡ 8 = cc in
    let there : p ≡ i + j = cc in
    (0 + j, omega arith, λ q. rw eight (malformed [] t ts refl unchanged ((unfit_first (t ∷ ts) j).0 e)))

reserved_faulty :
    (T : Table) (i : ℕ) (d : Declaration) (rest : List Token) (n p : ℕ) → is_declaration d ≡ true → is_reserved (operator_of d) ≡ true
    → ◌≡◌ {A = Outcome Table} (refused 17 (i + operator_place d)) (refused n p) → Faulty T i (declaration_tokens d ++ rest) n p
unfolding all_tokens
reserved_faulty T i d rest n p a r h =
    let seventeen : n ≡ 17 = cc in
    let there : p ≡ i + operator_place d = cc in
    (0 + operator_place d, omega arith, λ q. rw seventeen (names_reserved [] d rest refl unchanged a r))

overfull_faulty :
    (T : Table) (i : ℕ) (d : Declaration) (rest : List Token) (n p : ℕ) → is_declaration d ≡ true → Free d → most_operators < length (declare T d)
    → ◌≡◌ {A = Outcome Table} (refused 9 (i + operator_place d)) (refused n p) → Faulty T i (declaration_tokens d ++ rest) n p
unfolding all_tokens
overfull_faulty T i d rest n p a r m h =
    let nine : n ≡ 9 = cc in
    let there : p ≡ i + operator_place d = cc in
    (0 + operator_place d, omega arith, λ q. rw nine (overfull [] d rest refl unchanged a r m))

behind_faulty :
    (T : Table) (i : ℕ) (d : Declaration) (rest : List Token) (n p : ℕ) → is_declaration d ≡ true → Free d → length (declare T d) ≤ most_operators
    → Faulty (declare T d) (i + length (declaration_tokens d)) rest n p → Faulty T i (declaration_tokens d ++ rest) n p
unfolding declare_all
behind_faulty T i d rest n p a r l (k, e, f) =
    (length (declaration_tokens d) + k, omega arith, λ q. fault_behind T d rest a r l n k (f (distinct_declared T (d ∷ []) q)))

refused_faulty : (f : ℕ) (T : Table) (i : ℕ) (ts : List Token) (n p : ℕ) → length ts ≤ f → enter f T i ts ≡ refused n p → Faulty T i ts n p
unfolding has_room
refused_faulty zero T i [] n p l e = checked_faulty T i n p (sym (enter_end checked_at zero T i) ∙ e)
refused_faulty (suc f) T i [] n p l e = checked_faulty T i n p (sym (enter_end checked_at (suc f) T i) ∙ e)
refused_faulty zero T i (t ∷ ts) n p l e = absurd (omega arith)
refused_faulty (suc f) T i (t ∷ ts) n p l e = read (declaration (t ∷ ts)) refl (refused_faulty f)
  where
    Further : Type 0
    Further = (T : Table) (i : ℕ) (ts : List Token) (n p : ℕ) → length ts ≤ f → enter f T i ts ≡ refused n p → Faulty T i ts n p

    room :
        (d : Declaration) (rest : List Token) → declaration (t ∷ ts) ≡ parsed d rest → is_declaration d ≡ true → Further → Free d
        → (b : Bool) → has_room T d ≡ b → Faulty T i (declaration_tokens d ++ rest) n p
    room d rest h a further free true r =
        behind_faulty T i d rest n p a free (leb-true (length (declare T d)) most_operators r)
        (further (declare T d) (i + length (declaration_tokens d)) rest n p (omega (arith, parsed_shorter (t ∷ ts) d rest h))
        (sym (enter_step checked_at f T i (t ∷ ts) h free ∙ rw r refl) ∙ e))
    room d rest h a further free false r =
        overfull_faulty T i d rest n p a free (leb-false (length (declare T d)) most_operators r)
        (sym (enter_step checked_at f T i (t ∷ ts) h free ∙ rw r refl) ∙ e)

    named :
        (d : Declaration) (rest : List Token) → declaration (t ∷ ts) ≡ parsed d rest → is_declaration d ≡ true → Further
        → (b : Bool) → is_reserved (operator_of d) ≡ b → Faulty T i (declaration_tokens d ++ rest) n p
    named d rest h a further true r = reserved_faulty T i d rest n p a r (sym (enter_reserved checked_at f T i (t ∷ ts) h r) ∙ e)
    named d rest h a further false r = room d rest h a further r (has_room T d) refl

    read : (o : Parsed) → declaration (t ∷ ts) ≡ o → Further → Faulty T i (t ∷ ts) n p
    read (unfit j) h further = unfit_faulty T i t ts j n p h (sym (enter_unfit checked_at (suc f) T i (t ∷ ts) j (omega arith) l h) ∙ e)
    read (parsed d rest) h further =
        let (w, a) = declaration_sound (t ∷ ts) d rest h in
        rw w (named d rest h a further (is_reserved (operator_of d)) refl)

-- Rows 8 to 10 and 17 of one declaration part.
pub enter_place : (T : Table) (i : ℕ) (ts : List Token) (n p : ℕ) → enter (length ts) T i ts ≡ refused n p → (k : ℕ) × (p ≡ i + k)
enter_place T i ts n p e = let (k, h, f) = refused_faulty (length ts) T i ts n p (omega arith) e in (k, h)

pub enter_fault :
    (T : Table) → Distinct T → (i : ℕ) (ts : List Token) (n k : ℕ) → (enter (length ts) T i ts ≡ refused n (i + k)) ↔ DeclarationFault current T ts n k
enter_fault T q i ts n k = (there, fault_refused T i ts n k)
  where
    there : enter (length ts) T i ts ≡ refused n (i + k) → DeclarationFault current T ts n k
    there e =
        let (j, h, f) = refused_faulty (length ts) T i ts n (i + k) (omega arith) e in
        let g : k ≡ j = omega arith in
        rw g (f q)

-- A declaration part has one fault at most.
pub declaration_fault_unique :
    (T : Table) (ts : List Token) (n m j k : ℕ) → DeclarationFault current T ts n j → DeclarationFault current T ts m k → (n ≡ m) × (j ≡ k)
declaration_fault_unique T ts n m j k p q =
    let h : refused n (0 + j) ≡ refused m (0 + k) = sym (fault_refused T 0 ts n j p) ∙ fault_refused T 0 ts m k q in
    let place : 0 + j ≡ 0 + k = cc in
    (cc, omega arith)
