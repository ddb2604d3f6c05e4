-- Declarations and their tokens: reading the tokens of a declaration gives it back, and what reads as a declaration is its tokens.
-- Each part of the reader looks at one token, so each part has one law in either direction, and a declaration is the parts in a row.
-- Declarations written otherwise that change the operators in force as before pass checks 8 to 10 and 17 as before.
use mathlib.Core.Path.{◌≡◌, refl, sym, ap, ap₂, ◌∙◌}
use mathlib.Core.Bool.{Bool, true, false, true≢false}
use mathlib.Core.List.{List, [], ◌∷◌, ◌++◌, map, map-id}
use mathlib.Core.Option.{Option, none, some}
use Prim.Native.Nat.{ℕ, zero, suc, ◌+◌, ◌≤◌, ◌<◌}
use native.Mathlib.Omega.{arith}
use lib.ListN.{length, length-append}
use Rattle.grammar.specs.Bytes.{Bytes, same, All}
use Rattle.grammar.specs.Token.{
  is_structure,
  structure_number,
  atom,
  structure,
  Token,
  symbol,
  number,
  quoted,
  opening,
  closing,
  semicolon,
  keyword_let,
  keyword_in,
  keyword_end,
}
use Rattle.grammar.specs.Operator.{Fixity, Prefix, Infix, Postfix, Associativity, left, right, non, allowed, Table, permitted}
use Rattle.grammar.specs.Outcome.{Outcome, refused, passed, and_then}
use Rattle.grammar.specs.Declaration.{
  Declaration,
  declares,
  clears,
  declare,
  declare_all,
  fixity_word,
  associativity_word,
  plain_word,
  declaration_tokens,
  all_tokens,
  is_precedence,
  is_declaration,
  are_declarations,
  Parsed,
  unfit,
  parsed,
  symbol_of,
  precedence_of,
  is_semicolon,
  fixity_named,
  associativity_named,
  closed,
  operator_part,
  precedence_part,
  associativity_for,
  associativity_part,
  first_word,
  declaration,
  operator_place,
  operator_of,
  is_reserved,
  Free,
  has_room,
  checked_at,
  Check,
  enter_with,
  enter,
  unchecked,
  enter_part,
  declarations_of,
  declarations,
}
use Rattle.grammar.proofs.Logic.{and_left, and_right, and_intro, impossible, same_eq}
use Rattle.grammar.proofs.ItemLists.{and_then_passed}

-- The words of declarations are told apart.
pub fixity-named : (f : Fixity) → (same (fixity_word f) plain_word ≡ false) × (fixity_named (fixity_word f) ≡ some f)
unfolding fixity_named fixity_word same
fixity-named Prefix = (refl, refl)
fixity-named Infix = (refl, refl)
fixity-named Postfix = (refl, refl)

pub associativity_named_lem : (a : Associativity) → associativity_named (associativity_word a) ≡ some a
unfolding associativity_named associativity_word same
associativity_named_lem left = refl
associativity_named_lem right = refl
associativity_named_lem non = refl

-- The tokens of a declaration are read as it.
pub declaration_of :
    (d : Declaration) (rest : List Token) → is_declaration d ≡ true → declaration (declaration_tokens d ++ rest) ≡ parsed d rest
unfolding
    declaration_tokens declaration first_word associativity_part associativity_for precedence_part precedence_of operator_part closed
    symbol_of is_semicolon is_declaration same is_structure structure_number
declaration_of (declares f a d m) rest e =
    rw ((fixity-named f).0, first_word)
    (rw (fixity-named f).1
    (rw (associativity_named_lem a, associativity_part)
    (rw (and_left (allowed f a) _ e) (rw (and_right (allowed f a) _ e, precedence_part) refl))))
declaration_of (clears m) rest e = refl

-- A search that did not stop: what it found and went on with, that its test passed, or that its test failed.
module _ {B C : Type 0} {stop b : B} (stopped : stop ≡ b → ⊥) where
  found :
      {A : Type 0} (o : Option A) {further : A → B} → elim o [ none ↦ stop | some x ↦ further x ] ≡ b
      → ((x : A) → o ≡ some x → further x ≡ b → C) → C
  found none e then = absurd (stopped e)
  found (some x) e then = then x refl e

  tested : (t : Bool) {further : B} → elim t [ true ↦ further | false ↦ stop ] ≡ b → (t ≡ true → further ≡ b → C) → C
  tested true e then = then refl e
  tested false e then = absurd (stopped e)

  untested : (t : Bool) {further : B} → elim t [ true ↦ stop | false ↦ further ] ≡ b → (t ≡ false → further ≡ b → C) → C
  untested true e then = absurd (stopped e)
  untested false e then = then refl e

no_parse : {n : ℕ} {d : Declaration} {rest : List Token} → unfit n ≡ parsed d rest → ⊥
no_parse e = impossible cc

no_some : {A : Type 0} {x : A} → none ≡ some x → ⊥
no_some e = impossible cc

no_pass : {n i : ℕ} {U : Table} → refused n i ≡ passed U → ⊥
no_pass e = impossible cc

-- Which token, and which word, a part of the reader goes on with.
token_wanted :
    (t : Token) → ((w : Bytes) → symbol_of t ≡ some w → t ≡ atom (symbol w))
    × ((d : Bytes) → precedence_of t ≡ some d → (t ≡ atom (number d)) × (is_precedence d ≡ true)) × (is_semicolon t ≡ true → t ≡ structure semicolon)
unfolding symbol_of precedence_of is_semicolon is_structure structure_number
token_wanted (atom (symbol v)) = ((λ w e. cc), (λ d e. (cc, cc)), λ e. cc)
token_wanted (atom (number c)) = ((λ w e. cc), (λ d e. tested no_some (is_precedence c) e (λ p q. (cc, cc))), λ e. cc)
token_wanted (atom (quoted c)) = ((λ w e. cc), (λ d e. (cc, cc)), λ e. cc)
token_wanted (structure opening) = ((λ w e. cc), (λ d e. (cc, cc)), λ e. cc)
token_wanted (structure closing) = ((λ w e. cc), (λ d e. (cc, cc)), λ e. cc)
token_wanted (structure semicolon) = ((λ w e. cc), (λ d e. (cc, cc)), λ e. cc)
token_wanted (structure keyword_let) = ((λ w e. cc), (λ d e. (cc, cc)), λ e. cc)
token_wanted (structure keyword_in) = ((λ w e. cc), (λ d e. (cc, cc)), λ e. cc)
token_wanted (structure keyword_end) = ((λ w e. cc), (λ d e. (cc, cc)), λ e. cc)

module _ {A : Type 0} (word : A → Bytes) (w : Bytes) {b : A} where
  word_wanted :
      (a : A) {rest : Option A} → (rest ≡ some b → w ≡ word b) → elim (same w (word a)) [ true ↦ some a | false ↦ rest ] ≡ some b
      → w ≡ word b
  word_wanted a {rest} further e = go (same w (word a)) refl e
    where
      go : (t : Bool) → same w (word a) ≡ t → elim t [ true ↦ some a | false ↦ rest ] ≡ some b → w ≡ word b
      go true f e = same_eq w (word a) f ∙ cc
      go false f e = further e

fixity_wanted : (w : Bytes) (f : Fixity) → fixity_named w ≡ some f → w ≡ fixity_word f
unfolding fixity_named
fixity_wanted w f =
    word_wanted fixity_word w Infix (word_wanted fixity_word w Prefix (word_wanted fixity_word w Postfix (λ e. cc)))

associativity_wanted : (w : Bytes) (a : Associativity) → associativity_named w ≡ some a → w ≡ associativity_word a
unfolding associativity_named
associativity_wanted w a =
    word_wanted associativity_word w left (word_wanted associativity_word w right (word_wanted associativity_word w non (λ e. cc)))

allowed_wanted :
    (f : Fixity) (t : Token) (a : Associativity) → associativity_for f t ≡ some a
    → (t ≡ atom (symbol (associativity_word a))) × (allowed f a ≡ true)
unfolding associativity_for
allowed_wanted f t a e =
    found no_some (symbol_of t) e λ w p q.
    found no_some (associativity_named w) q λ b r s.
    tested no_some (allowed f b) s λ u v.
    (cc ((token_wanted t).0 w p, associativity_wanted w b r), cc)

-- The parts of the reader, last first: what they went on with are the tokens of a declaration.
module _ {d : Declaration} {rest : List Token} where
  closed_sound : (n : ℕ) (e : Declaration) (ts : List Token) → closed n e ts ≡ parsed d rest → (e ≡ d) × (ts ≡ structure semicolon ∷ rest)
  unfolding closed
  closed_sound n e [] h = absurd (no_parse h)
  closed_sound n e (t ∷ ts) h = tested no_parse (is_semicolon t) h λ p q. (cc, cc ((token_wanted t).2 p))

  operator_sound :
      (n : ℕ) (make : Bytes → Declaration) (ts : List Token) → operator_part n make ts ≡ parsed d rest
      → (m : Bytes) × (make m ≡ d) × (ts ≡ atom (symbol m) ∷ structure semicolon ∷ rest)
  unfolding operator_part
  operator_sound n make [] h = absurd (no_parse h)
  operator_sound n make (t ∷ ts) h =
      found no_parse (symbol_of t) h λ m p q.
      let (r, s) = closed_sound (suc n) (make m) ts q in
      (m, r, cc ((token_wanted t).0 m p))

  precedence_sound :
      (f : Fixity) (a : Associativity) (ts : List Token) → precedence_part f a ts ≡ parsed d rest
      → (c m : Bytes) × (declares f a c m ≡ d) × (ts ≡ atom (number c) ∷ atom (symbol m) ∷ structure semicolon ∷ rest) × (is_precedence c ≡ true)
  unfolding precedence_part
  precedence_sound f a [] h = absurd (no_parse h)
  precedence_sound f a (t ∷ ts) h =
      found no_parse (precedence_of t) h λ c p q.
      let (m, r, s) = operator_sound 3 (declares f a c) ts q in
      (c, m, r, cc ((token_wanted t).1 c p).0, ((token_wanted t).1 c p).1)

  associativity_sound :
      (f : Fixity) (ts : List Token) → associativity_part f ts ≡ parsed d rest
      → (atom (symbol (fixity_word f)) ∷ ts ≡ declaration_tokens d ++ rest) × (is_declaration d ≡ true)
  unfolding associativity_part declaration_tokens is_declaration
  associativity_sound f [] h = absurd (no_parse h)
  associativity_sound f (t ∷ ts) h =
      found no_parse (associativity_for f t) h λ a p q.
      let (c, m, r, s, u) = precedence_sound f a ts q in
      let (v, w) = allowed_wanted f t a p in
      rw (← r) (cc, and_intro w u)

  first_sound :
      (w : Bytes) (ts : List Token) → first_word w ts ≡ parsed d rest
      → (atom (symbol w) ∷ ts ≡ declaration_tokens d ++ rest) × (is_declaration d ≡ true)
  unfolding first_word declaration_tokens is_declaration
  first_sound w ts h = go (same w plain_word) refl h
    where
      go :
          (t : Bool) → same w plain_word ≡ t
          → elim t [
            | true ↦ operator_part 1 clears ts
            | false ↦
                elim (fixity_named w) [ none ↦ unfit 0 | some f ↦ associativity_part f ts ]
          ]
          ≡ parsed d rest
          → (atom (symbol w) ∷ ts ≡ declaration_tokens d ++ rest) × (is_declaration d ≡ true)
      go true p q =
          let (m, r, s) = operator_sound 1 clears ts q in
          rw (← r) (cc (same_eq w plain_word p), refl)
      go false p q =
          found no_parse (fixity_named w) q λ f r s.
          rw (fixity_wanted w f r) (associativity_sound f ts s)

-- What reads as a declaration is its tokens.
pub declaration_sound :
    (ts : List Token) (d : Declaration) (rest : List Token) → declaration ts ≡ parsed d rest
    → (ts ≡ declaration_tokens d ++ rest) × (is_declaration d ≡ true)
unfolding declaration
declaration_sound [] d rest h = absurd (no_parse h)
declaration_sound (t ∷ ts) d rest h =
    found no_parse (symbol_of t) h λ w p q.
    rw ((token_wanted t).0 w p) (first_sound w ts q)

-- Reading all declarations, one step.
pub tokens_shorter : (d : Declaration) (rest : List Token) → length rest < length (declaration_tokens d ++ rest)
unfolding declaration_tokens
tokens_shorter (declares f a c m) rest = omega arith
tokens_shorter (clears m) rest = omega arith

declarations_step :
    (k : ℕ) (ts : List Token) {d : Declaration} {rest : List Token} → declaration ts ≡ parsed d rest
    → declarations_of (suc k) ts ≡ d ∷ declarations_of k rest
unfolding declarations_of declaration
declarations_step k [] h = absurd (no_parse h)
declarations_step k (t ∷ ts) h = rw (h, declarations_of) refl

pub declarations_first :
    (d : Declaration) (ds : List Declaration) → are_declarations (d ∷ ds) ≡ true → (is_declaration d ≡ true) × (are_declarations ds ≡ true)
unfolding are_declarations
declarations_first d ds e = tested (λ f. true≢false (sym f)) (is_declaration d) e λ p q. (p, q)

declarations_of_of :
    (k : ℕ) (ds : List Declaration) → are_declarations ds ≡ true → length (all_tokens ds) ≤ k → declarations_of k (all_tokens ds) ≡ ds
unfolding declarations_of all_tokens
declarations_of_of zero [] e l = refl
declarations_of_of (suc k) [] e l = refl
declarations_of_of zero (d ∷ ds) e l = absurd (omega (arith, tokens_shorter d (all_tokens ds)))
declarations_of_of (suc k) (d ∷ ds) e l =
    let (p, q) = declarations_first d ds e in
    declarations_step k (declaration_tokens d ++ all_tokens ds) (declaration_of d (all_tokens ds) p)
    ∙ ap (◌∷◌ d) (declarations_of_of k ds q (omega (arith, tokens_shorter d (all_tokens ds))))

-- The tokens of declarations are read as them.
pub declarations_of_lem : (ds : List Declaration) → are_declarations ds ≡ true → declarations (all_tokens ds) ≡ ds
unfolding declarations
declarations_of_lem ds e = declarations_of_of (length (all_tokens ds)) ds e (omega arith)

-- Check 10.
checked_sound : (i : ℕ) (T U : Table) → checked_at i T ≡ passed U → (T ≡ U) × (permitted U ≡ true)
unfolding checked_at
checked_sound i T U e = tested no_pass (permitted T) e λ p q. (cc, cc)

checked_anywhere : (i j : ℕ) (T U : Table) → checked_at i T ≡ passed U → checked_at j T ≡ passed U
unfolding checked_at
checked_anywhere i j T U e = tested no_pass (permitted T) e λ p q. rw (p, checked_at) q

-- Room for a declaration depends on what it leaves only.
room_alike : (T : Table) (d d' : Declaration) → declare T d ≡ declare T d' → has_room T d ≡ has_room T d'
unfolding has_room
room_alike T d d' e = rw e

-- Whatever the check behind the declarations: what is answered at the end of the tokens, and one declaration further.
module _ (check : Check) where
  pub enter_end : (k : ℕ) (T : Table) (i : ℕ) → enter_with check k T i [] ≡ check i T
  unfolding enter_with
  enter_end zero T i = refl
  enter_end (suc k) T i = refl

  enter_unfed :
      (T : Table) (i : ℕ) (d : Declaration) (rest : List Token) (U : Table) → enter_with check zero T i (declaration_tokens d ++ rest) ≡ passed U → ⊥
  unfolding enter_with declaration_tokens
  enter_unfed T i (declares f a c m) rest U e = no_pass e
  enter_unfed T i (clears m) rest U e = no_pass e

  abbrev judged : ℕ → Table → ℕ → Declaration → List Token → Outcome Table
  judged k T i d rest =
      elim (is_reserved (operator_of d)) [
        | true ↦ refused 17 (i + operator_place d)
        | false ↦
            elim (has_room T d) [
              | true ↦ enter_with check k (declare T d) (i + length (declaration_tokens d)) rest
              | false ↦ refused 9 (i + operator_place d)
            ]
      ]

  declaration_step :
      (k : ℕ) (T : Table) (i : ℕ) (ts : List Token) {d : Declaration} {rest : List Token} → declaration ts ≡ parsed d rest
      → enter_with check (suc k) T i ts ≡ judged k T i d rest
  unfolding enter_with declaration
  declaration_step k T i [] h = absurd (no_parse h)
  declaration_step k T i (t ∷ ts) h = rw (h, enter_with) refl

  -- It names a reserved operator, or not.
  module _ (k : ℕ) (T : Table) (i : ℕ) (ts : List Token) {d : Declaration} {rest : List Token} (h : declaration ts ≡ parsed d rest) where
    pub enter_reserved : is_reserved (operator_of d) ≡ true → enter_with check (suc k) T i ts ≡ refused 17 (i + operator_place d)
    enter_reserved r = declaration_step k T i ts h ∙ rw (r, judged) refl

    pub enter_step :
        Free d
        → enter_with check (suc k) T i ts
        ≡ elim (has_room T d) [
          | true ↦ enter_with check k (declare T d) (i + length (declaration_tokens d)) rest
          | false ↦ refused 9 (i + operator_place d)
        ]
    enter_step r = declaration_step k T i ts h ∙ rw (r, judged) refl

-- What is refused of a declaration is refused whatever follows.
judged_then :
    (reserved room : Bool) (n m p : ℕ) (o u : Outcome Table) (f : Table → Outcome Table) → o ≡ and_then u f
    → elim reserved [ true ↦ refused n p | false ↦ elim room [ true ↦ o | false ↦ refused m p ] ]
    ≡ and_then (elim reserved [ true ↦ refused n p | false ↦ elim room [ true ↦ u | false ↦ refused m p ] ]) f
unfolding and_then
judged_then true room n m p o u f e = refl
judged_then false true n m p o u f e = e
judged_then false false n m p o u f e = refl

-- The check is asked of what the declarations alone leave in force.
pub enter_checks :
    (check : Check) (k : ℕ) (T : Table) (i : ℕ) (ts : List Token)
    → enter_with check k T i ts ≡ and_then (enter_part k T i ts) (check (i + length ts))
unfolding enter_with and_then
enter_checks check zero T i [] = ap (λ j. check j T) (omega arith)
enter_checks check zero T i (t ∷ ts) = refl
enter_checks check (suc k) T i [] = ap (λ j. check j T) (omega arith)
enter_checks check (suc k) T i (t ∷ ts) = go (declaration (t ∷ ts)) refl (enter_checks check k)
  where
    go :
        (p : Parsed) → declaration (t ∷ ts) ≡ p
        → ((T : Table) (i : ℕ) (ts : List Token) → enter_with check k T i ts ≡ and_then (enter_part k T i ts) (check (i + length ts)))
        → enter_with check (suc k) T i (t ∷ ts) ≡ and_then (enter_part (suc k) T i (t ∷ ts)) (check (i + length (t ∷ ts)))
    go (unfit n) e further = rw (e, enter_with) refl
    go (parsed d rest) e further =
        let l : i + length (declaration_tokens d) + length rest ≡ i + length (t ∷ ts) =
        omega (arith, ap length (declaration_sound (t ∷ ts) d rest e).0, length-append (declaration_tokens d) rest) in
        let g = further (declare T d) (i + length (declaration_tokens d)) rest in
        declaration_step check k T i (t ∷ ts) e
        ∙ judged_then (is_reserved (operator_of d)) (has_room T d) 17 9 (i + operator_place d) _ _ (check (i + length (t ∷ ts))) (rw l at g)
        ∙ ap (λ o. and_then o (check (i + length (t ∷ ts)))) (sym (declaration_step unchecked k T i (t ∷ ts) e))

-- Checks 8, 17 and 9 passed: the tokens are those of declarations, none of a reserved operator, and what is in force behind them is what
-- they declare.
part_of_sound :
    (k : ℕ) (T : Table) (i : ℕ) (ts : List Token) (U : Table) → enter_part k T i ts ≡ passed U
    → (all_tokens (declarations_of k ts) ≡ ts) × (are_declarations (declarations_of k ts) ≡ true)
    × (U ≡ declare_all T (declarations_of k ts)) × All Free (declarations_of k ts)
unfolding enter_with declarations_of all_tokens are_declarations declare_all
part_of_sound zero T i [] U e = (refl, refl, cc, tt)
part_of_sound zero T i (t ∷ ts) U e = absurd (no_pass e)
part_of_sound (suc k) T i [] U e = (refl, refl, cc, tt)
part_of_sound (suc k) T i (t ∷ ts) U e =
    read (declaration (t ∷ ts)) e λ d rest h f.
    untested no_pass (is_reserved (operator_of d)) f λ r j.
    tested no_pass (has_room T d) j λ l g.
    let (p, q) = declaration_sound (t ∷ ts) d rest h in
    let (u, v, w, x) = part_of_sound k (declare T d) (i + length (declaration_tokens d)) rest U g in
    rw (declarations_step k (t ∷ ts) h) (ap (◌++◌ (declaration_tokens d)) u ∙ sym p, rw (q, are_declarations) v, w, (r, x))
  where
    read :
        {C : Type 0} (p : Parsed) {further : Declaration → List Token → Outcome Table}
        → elim p [ unfit n ↦ refused 8 (i + n) | parsed d rest ↦ further d rest ] ≡ passed U
        → ((d : Declaration) (rest : List Token) → p ≡ parsed d rest → further d rest ≡ passed U → C) → C
    read (unfit n) f then = absurd (no_pass f)
    read (parsed d rest) f then = then d rest refl f

pub part_sound :
    (T : Table) (i : ℕ) (ts : List Token) (U : Table) → enter_part (length ts) T i ts ≡ passed U
    → (all_tokens (declarations ts) ≡ ts) × (are_declarations (declarations ts) ≡ true) × (U ≡ declare_all T (declarations ts))
    × All Free (declarations ts)
unfolding declarations
part_sound T i ts U e = part_of_sound (length ts) T i ts U e

-- Check 10 passed too: what is in force keeps the overloading rule.
pub enter_sound :
    (T : Table) (i : ℕ) (ts : List Token) (U : Table) → enter (length ts) T i ts ≡ passed U
    → (all_tokens (declarations ts) ≡ ts) × (are_declarations (declarations ts) ≡ true) × (U ≡ declare_all T (declarations ts))
    × (permitted U ≡ true) × All Free (declarations ts)
enter_sound T i ts U e =
    let f = sym (enter_checks checked_at (length ts) T i ts) ∙ e in
    let (X, a, b) = and_then_passed (enter_part (length ts) T i ts) (checked_at (i + length ts)) U f in
    let (p, q) = checked_sound (i + length ts) X U b in
    let (u, v, w, x) = part_sound T i ts X a in
    (u, v, sym p ∙ w, q, x)

-- Declarations written otherwise, by an `f` after which they are allowed, name their operators and change what is in force as before.
module _
    (f : Declaration → Declaration)
    (allows : (d : Declaration) → is_declaration (f d) ≡ is_declaration d)
    (names : (d : Declaration) → operator_of (f d) ≡ operator_of d)
    (changes : (T : Table) (d : Declaration) → declare T (f d) ≡ declare T d)
  where
    pub declare-map : (T : Table) (ds : List Declaration) → declare_all T (map f ds) ≡ declare_all T ds
    unfolding declare_all
    declare-map T [] = refl
    declare-map T (d ∷ ds) = ap (λ U. declare_all U (map f ds)) (changes T d) ∙ declare-map (declare T d) ds

    pub allow_map : (ds : List Declaration) → are_declarations (map f ds) ≡ are_declarations ds
    unfolding are_declarations
    allow_map [] = refl
    allow_map (d ∷ ds) = ap₂ (λ b c. elim b as (λ _. Bool) [ true ↦ c | false ↦ false ]) (allows d) (allow_map ds)

    -- They pass checks 8 to 10 and 17 as before, at any token number and with any fuel that is enough.
    pub enter-map :
        (k l : ℕ) (T : Table) (i j : ℕ) (ds : List Declaration) (U : Table) → are_declarations ds ≡ true
        → length (all_tokens (map f ds)) ≤ l → enter k T i (all_tokens ds) ≡ passed U → enter l T j (all_tokens (map f ds)) ≡ passed U
    unfolding all_tokens
    enter-map k l T i j [] U a n e = enter_end checked_at l T j ∙ checked_anywhere i j T U (sym (enter_end checked_at k T i) ∙ e)
    enter-map zero l T i j (d ∷ ds) U a n e = absurd (enter_unfed checked_at T i d (all_tokens ds) U e)
    enter-map (suc k) zero T i j (d ∷ ds) U a n e = absurd (omega (arith, tokens_shorter (f d) (all_tokens (map f ds))))
    enter-map (suc k) (suc l) T i j (d ∷ ds) U a n e =
        let (p, q) = declarations_first d ds a in
        let r : length (all_tokens (map f ds)) ≤ l = omega (arith, tokens_shorter (f d) (all_tokens (map f ds))) in
        let before = declaration_of d (all_tokens ds) p in
        let after = declaration_of (f d) (all_tokens (map f ds)) (allows d ∙ p) in
        untested no_pass (is_reserved (operator_of d))
        (sym (declaration_step checked_at k T i (declaration_tokens d ++ all_tokens ds) before) ∙ e) λ free t.
        tested no_pass (has_room T d) t λ s u.
        let i' = i + length (declaration_tokens d) in
        let j' = j + length (declaration_tokens (f d)) in
        let room = room_alike T (f d) d (changes T d) ∙ s in
        enter_step checked_at l T j (declaration_tokens (f d) ++ all_tokens (map f ds)) after (ap is_reserved (names d) ∙ free)
        ∙ rw (room, changes T d) (enter-map k l (declare T d) i' j' ds U q r u)

-- Declarations that passed checks 8 to 10 and 17 pass them wherever they stand.
pub enter_anywhere :
    (T : Table) (i j : ℕ) (ds : List Declaration) (U : Table) → are_declarations ds ≡ true
    → enter (length (all_tokens ds)) T i (all_tokens ds) ≡ passed U → enter (length (all_tokens ds)) T j (all_tokens ds) ≡ passed U
enter_anywhere T i j ds U a e =
    let n : length (all_tokens (map (λ d. d) ds)) ≤ length (all_tokens ds) = rw (map-id ds) (omega arith) in
    let k = length (all_tokens ds) in
    rw (map-id ds) at (enter-map (λ d. d) (λ d. refl) (λ d. refl) (λ T d. refl) k k T i j ds U a n e)
