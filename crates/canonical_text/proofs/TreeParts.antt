-- The parts that the tokens of a tree leave are the tokens of its canonical tree: by induction on the tree, with a bracket pair round it where
-- the pair that it is stays.
use mathlib.Core.Path.{◌≡◌, refl, sym, ap, ap₂, ◌∙◌}
use mathlib.Core.Bool.{Bool, true, false, ◌&&◌, not}
use mathlib.Core.List.{List, [], ◌∷◌, ◌++◌, map, append-nil}
use mathlib.Core.Option.{Option}
use Prim.Native.Nat.{ℕ, suc, ◌+◌, ◌≤◌, ◌<◌}
use native.Mathlib.Omega.{arith}
use lib.ListN.{length}
use Rattle.grammar.specs.Bytes.{Bytes, All}
use Rattle.grammar.specs.Token.{
  Token,
  Atom,
  Structure,
  atom,
  structure,
  symbol,
  number,
  quoted,
  opening,
  closing,
  semicolon,
  keyword_let,
  keyword_in,
  keyword_end,
  doubled,
  spelling,
  is_symbol,
  is_token,
  structure_number,
}
use Rattle.grammar.specs.Operator.{Role, Table, in_force}
use Rattle.grammar.specs.Declaration.{
  Declaration,
  declares,
  clears,
  declare_all,
  declaration_tokens,
  all_tokens,
  fixity_word,
  associativity_word,
  plain_word,
}
use Rattle.grammar.specs.Scan.{Placed}
use Rattle.grammar.specs.Coded.{kind_of}
use Rattle.grammar.specs.SpanTree.{Position, on_left, on_right, root, role_over, is_operand, is_operand_atom}
use Rattle.grammar.specs.Tree.{Tree, nothing, leaf, bracket, block, node, flat, span_tree}
use Rattle.grammar.specs.Canonical.{without_zeros, or_zero, strip, strip_declaration, written_name, written_atom, fitted, canonical, refuses}
use Rattle.grammar.proofs.Logic.{and_left}
use Rattle.rows.specs.Fields.{TokenRow, NoteRow, RootRow, kind, size}
use Rattle.rows.specs.Tokens.{token_in, tokens_in, Stored}
use Rattle.rows.specs.Agreeing.{Noted}
use Rattle.rows.proofs.Ranges.{token_structure}
use Rattle.rows.proofs.TokenBytes.{structure_kind, token_bytes}
use Rattle.rows.proofs.Stored.{stored_valid}
use Rattle.canonical_text.specs.Pieces.{parts}
use Rattle.canonical_text.specs.Brackets.{stays, TreeAt, size_if, Sized, KeptRow}
use Rattle.canonical_text.specs.Trimming.{part_of}
use Rattle.canonical_text.proofs.Trees.{wrap_if, admits-left, admits-right, operand_wrapped}
use Rattle.canonical_text.proofs.TreeRows.{bracket_length, block_length, node-length, inside_at, body_at, left_at, right_at}
use Rattle.canonical_text.proofs.Parts.{before_none, before_some, parts_join}
use Rattle.canonical_text.proofs.ReadyTree.{Spelled}
use Rattle.canonical_text.proofs.TokenParts.{part_token, part_digits, part_name, part_bracket, part_none}

-- Spellings of tokens.
spellings : (xs ys : List Token) → map spelling (xs ++ ys) ≡ map spelling xs ++ map spelling ys
spellings [] ys = refl
spellings (x ∷ xs) ys = ap (◌∷◌ (spelling x)) (spellings xs ys)

strip_some : (d : Bytes) → length (strip d) ≡ 0 → ⊥
unfolding strip or_zero
strip_some d e = go (without_zeros d) e
  where
    go : (x : Bytes) → length (or_zero x) ≡ 0 → ⊥
    go [] e = omega arith
    go (b ∷ x) e = omega arith

-- A token of a declaration as it is written.
written : Token → Token
written (atom (symbol w)) = atom (symbol w)
written (atom (number d)) = atom (number (strip d))
written (atom (quoted c)) = atom (quoted c)
written (structure s) = structure s

declared-written : (ds : List Declaration) → map written (all_tokens ds) ≡ all_tokens (map strip_declaration ds)
unfolding all_tokens declaration_tokens written strip_declaration
declared-written [] = refl
declared-written (declares f a d m ∷ ds) =
    ap
    (λ ts. atom (symbol (fixity_word f)) ∷ atom (symbol (associativity_word a)) ∷ atom (number (strip d))
    ∷ atom (symbol m) ∷ structure semicolon ∷ ts)
    (declared-written ds)
declared-written (clears m ∷ ds) = ap (λ ts. atom (symbol plain_word) ∷ atom (symbol m) ∷ structure semicolon ∷ ts) (declared-written ds)

-- The kinds of tokens of declarations: no quoted name and no bracket.
abbrev Declares : Token → Type 0
Declares t = 3 ≤ kind_of t → kind_of t ≤ 5 → ⊥

declares_word : (w : Bytes) → Declares (atom (symbol w))
unfolding kind_of
declares_word w p q = omega arith

declares_number : (d : Bytes) → Declares (atom (number d))
unfolding kind_of
declares_number d p q = omega arith

declares_end : Declares (structure semicolon)
unfolding kind_of structure_number
declares_end p q = omega arith

declare_tokens : (ds : List Declaration) → All Declares (all_tokens ds)
unfolding all_tokens declaration_tokens
declare_tokens [] = tt
declare_tokens (declares f a d m ∷ ds) = (
  declares_word (fixity_word f),
  (declares_word (associativity_word a), (declares_number d, (declares_word m, (declares_end, declare_tokens ds)))),
)
declare_tokens (clears m ∷ ds) = (declares_word plain_word, (declares_word m, (declares_end, declare_tokens ds)))

-- Runs of tokens with one between, and with one on each side.
module _ (f : ℕ → Bytes) where
  around : (i a b : ℕ) → parts f i (suc (a + b)) ≡ parts f i a ++ (parts f (i + a) 1 ++ parts f (suc (i + a)) b)
  around i a b =
      let o : suc (a + b) ≡ a + (1 + b) = omega arith in
      let q : i + a + 1 ≡ suc (i + a) = omega arith in
      ap (parts f i) o ∙ parts_join f i a (1 + b)
      ∙ ap (λ ps. parts f i a ++ ps) (parts_join f (i + a) 1 b ∙ ap (λ j. parts f (i + a) 1 ++ parts f j b) q)

  within : (i a : ℕ) → parts f i (suc (suc a)) ≡ parts f i 1 ++ (parts f (suc i) a ++ parts f (suc (i + a)) 1)
  within i a =
      let o : suc (suc a) ≡ 1 + (a + 1) = omega arith in
      let q : i + 1 ≡ suc i = omega arith in
      let r : suc i + a ≡ suc (i + a) = omega arith in
      ap (parts f i) o ∙ parts_join f i 1 (a + 1)
      ∙ ap (λ ps. parts f i 1 ++ ps)
      (ap (λ j. parts f j (a + 1)) q ∙ parts_join f (suc i) a 1 ∙ ap (λ j. parts f (suc i) a ++ parts f j 1) r)

  one_part : (i : ℕ) {w : Bytes} → f i ≡ w → (length w ≡ 0 → ⊥) → parts f i 1 ≡ w ∷ []
  unfolding parts
  one_part i e d = before_some (f i) [] (λ z. d (ap length (sym e) ∙ z)) ∙ ap (λ p. p ∷ []) e

  no_part : (i : ℕ) → f i ≡ [] → parts f i 1 ≡ []
  unfolding parts
  no_part i e = before_none (f i) [] (ap length e)

-- Only a bracket pair can be one that stays.
abbrev Fits : Bool → Tree → Type 0
Fits b nothing = b ≡ false
Fits b (leaf a) = b ≡ false
Fits b (bracket t) = Unit {0}
Fits b (block ds t) = b ≡ false
Fits b (node l m r) = b ≡ false

fits_stays : (T : Table) (s : Position) (o : Option Role) (t : Tree) → Fits (stays T s o t) t
unfolding stays
fits_stays T s o nothing = refl
fits_stays T s o (leaf a) = refl
fits_stays T s o (bracket t) = tt
fits_stays T s o (block ds t) = refl
fits_stays T s o (node l m r) = refl

fits_false : (t : Tree) → Fits false t
fits_false nothing = refl
fits_false (leaf a) = refl
fits_false (bracket t) = tt
fits_false (block ds t) = refl
fits_false (node l m r) = refl

-- A word or sign that is no operator is written as it stands.
bare_name : (T : Table) (w : Bytes) → is_symbol w ≡ true → not (in_force T w) ≡ true → written_name T w ≡ symbol w
unfolding written_name
bare_name T w e f = rw (e, f, written_name)

-- A name as it is written has a byte.
name_some : (T : Table) (c : Bytes) → length (spelling (atom (written_name T c))) ≡ 0 → ⊥
unfolding written_name spelling is_token
name_some T c e = go (is_symbol c && not (in_force T c)) refl
  where
    go : (b : Bool) → is_symbol c && not (in_force T c) ≡ b → ⊥
    go true h =
        let z : length c ≡ 0 = rw (h, written_name) at e in
        omega (arith, token_bytes (atom (symbol c)) (and_left (is_symbol c) (not (in_force T c)) h))
    go false h = let z : length (39 ∷ doubled c ++ 39 ∷ []) ≡ 0 = rw (h, written_name) at e in omega arith

module _ {text : Bytes} {ps : List Placed} {K : TokenRow} (v : Stored text ps K) {T₀ : Table} {t₀ : Tree} {K₁ : TokenRow} (k : KeptRow K T₀ t₀ K₁)
    (R : NoteRow) where
  abbrev f : ℕ → Bytes
  f = part_of text R K₁

  token_kept :
      (j : ℕ) → j < length ps → (u : Token) → token_in text K j ≡ u → (kind_of u ≡ 2 → ⊥) → Declares u → parts f j 1 ≡ spelling u ∷ []
  token_kept j l u e d c =
      one_part f j (part_token v j l k R u e d c) (λ z. omega (arith, token_bytes u (ap is_token (sym e) ∙ stored_valid v j l)))

  -- A token of structure by its kind.
  keyword_kept : (j : ℕ) → j < length ps → (s : Structure) → kind K j ≡ kind_of (structure s) → 6 ≤ kind_of (structure s)
      → parts f j 1 ≡ spelling (structure s) ∷ []
  keyword_kept j l s e h = token_kept j l (structure s) (token_structure text K j s e) (λ z. omega arith) (λ p q. omega arith)

  -- The brackets of a pair.
  bracket_kept : (j : ℕ) → j < length ps → (s : Structure) → kind K j ≡ kind_of (structure s) → 4 ≤ kind_of (structure s) → kind_of (structure s) ≤ 5
      → length (spelling (structure s)) ≡ 1 → (b : Bool) → size K₁ j ≡ size_if b
      → parts f j 1 ≡ elim b [ true ↦ spelling (structure s) ∷ [] | false ↦ [] ]
  unfolding size_if
  bracket_kept j l s e p q o true z =
      one_part f j (part_bracket v j l k R (structure s) (token_structure text K j s e) p q o z) (λ y. omega arith)
  bracket_kept j l s e p q o false z = no_part f j (part_none v j l k R (omega arith) (omega arith) z)

  -- A leaf.
  leaf_kept :
      (T : Table) (j : ℕ) → j < length ps → (a : Atom) → token_in text K j ≡ atom a → is_operand_atom T a ≡ true → Noted T R j a
      → parts f j 1 ≡ spelling (atom (written_atom T a)) ∷ []
  unfolding is_operand_atom written_atom is_token kind_of spelling
  leaf_kept T j l (symbol w) e o n =
      token_kept j l (atom (symbol w)) e (λ z. omega arith) (λ p q. omega arith)
      ∙ ap (λ a. spelling (atom a) ∷ []) (sym (bare_name T w (ap is_token (sym e) ∙ stored_valid v j l) o))
  leaf_kept T j l (number d) e o n = one_part f j (part_digits v j l k R d e) (strip_some d)
  leaf_kept T j l (quoted c) e o n = one_part f j (part_name v j l k R T c e n) (name_some T c)

  -- Tokens of declarations one behind the other.
  declared_kept : (j : ℕ) → j < length ps → (u : Token) → token_in text K j ≡ u → Declares u → parts f j 1 ≡ spelling (written u) ∷ []
  unfolding written kind_of spelling
  declared_kept j l (atom (symbol w)) e d = token_kept j l (atom (symbol w)) e (λ z. omega arith) d
  declared_kept j l (atom (number n)) e d = one_part f j (part_digits v j l k R n e) (strip_some n)
  declared_kept j l (atom (quoted c)) e d = absurd (d (omega arith) (omega arith))
  declared_kept j l (structure s) e d = token_kept j l (structure s) e (λ z. omega (arith, structure_kind s)) d

  stretch_kept :
      (i : ℕ) (ts : List Token) → i + length ts ≤ length ps → tokens_in text K i (length ts) ≡ ts → All Declares ts
      → parts f i (length ts) ≡ map spelling (map written ts)
  unfolding tokens_in parts
  stretch_kept i [] l e q = refl
  stretch_kept i (t ∷ ts) l e q =
      let first : token_in text K i ≡ t = cc e in
      let rest : tokens_in text K (suc i) (length ts) ≡ ts = cc e in
      let o : i + 1 ≡ suc i = omega arith in
      let s : suc (length ts) ≡ 1 + length ts = omega arith in
      ap (parts f i) s ∙ parts_join f i 1 (length ts)
      ∙ rw o (ap₂ ◌++◌ (declared_kept i (omega arith) t first q.0) (stretch_kept (suc i) ts (omega arith) rest q.1))

  -- Every tree.
  Parts : Table → ℕ → Bool → Tree → Type 0
  Parts T i b t = parts f i (length (flat t)) ≡ map spelling (flat (wrap_if b (canonical T t)))

  module _ {O : RootRow} where
    bracket_parts :
        (T : Table) (i : ℕ) (b : Bool) (t : Tree) → TreeAt K R O (length ps) T i (bracket t) → Sized K₁ T i b (bracket t) → Parts T (suc i) false t
        → Parts T i b (bracket t)
    unfolding Parts canonical wrap_if flat kind_of structure_number spelling
    bracket_parts T i b t h z w =
        let c = suc (i + length (flat t)) in
        let n = bracket_length t in
        let x = bracket_kept i (omega (arith, h.within)) opening h.stands.0 (omega arith) (omega arith) refl b z.0 in
        let y = bracket_kept c (omega (arith, h.within)) closing h.stands.2 (omega arith) (omega arith) refl b z.1 in
        ap (parts f i) n ∙ within f i (length (flat t)) ∙ rw (x, y, w) (go b)
      where
        go : (b : Bool) → elim b [ true ↦ spelling (structure opening) ∷ [] | false ↦ [] ]
            ++ (map spelling (flat (canonical T t)) ++ elim b [ true ↦ spelling (structure closing) ∷ [] | false ↦ [] ])
            ≡ map spelling (flat (wrap_if b (canonical T t)))
        go true = ap (◌∷◌ (spelling (structure opening))) (sym (spellings (flat (canonical T t)) (structure closing ∷ [])))
        go false = append-nil (map spelling (flat (canonical T t)))

    block_parts :
        (T : Table) (i : ℕ) (ds : List Declaration) (t : Tree) → TreeAt K R O (length ps) T i (block ds t) → Spelled text K i (block ds t)
        → Parts (declare_all T ds) (suc (suc (i + length (all_tokens ds)))) false t → Parts T i false (block ds t)
    unfolding Parts canonical wrap_if flat kind_of structure_number
    block_parts T i ds t h s w =
        let d = length (all_tokens ds) in
        let a = length (flat t) in
        let c = suc (i + d) in
        let n = block_length ds t in
        let let_at = keyword_kept i (omega (arith, h.within)) keyword_let h.stands.0 (omega arith) in
        let in-at = keyword_kept c (omega (arith, h.within)) keyword_in h.stands.2 (omega arith) in
        let end_at : parts f (suc (i + suc (d + a))) 1 ≡ spelling (structure keyword_end) ∷ [] =
        let q : suc (i + suc (d + a)) ≡ suc (c + a) = omega arith in
        rw q (keyword_kept (suc (c + a)) (omega (arith, h.within)) keyword_end h.stands.3 (omega arith)) in
        let tokens : tokens_in text K (suc i) d ≡ all_tokens ds = ap (tokens_in text K (suc i)) (omega arith) ∙ s.0 in
        let declared : parts f (suc i) d ≡ map spelling (all_tokens (map strip_declaration ds)) =
        stretch_kept (suc i) (all_tokens ds) (omega (arith, h.within)) tokens (declare_tokens ds) ∙ ap (map spelling) (declared-written ds) in
        let e : suc i + d ≡ c = omega arith in
        let inner : parts f (suc i) (suc (d + a))
        ≡ map spelling (all_tokens (map strip_declaration ds) ++ structure keyword_in ∷ flat (canonical (declare_all T ds) t)) =
        around f (suc i) d a ∙ rw (e, declared, in-at, w)
        (sym (spellings (all_tokens (map strip_declaration ds)) (structure keyword_in ∷ flat (canonical (declare_all T ds) t)))) in
        ap (parts f i) n ∙ within f i (suc (d + a)) ∙ rw (let_at, end_at, inner)
        (ap (◌∷◌ (spelling (structure keyword_let)))
        (sym (spellings (all_tokens (map strip_declaration ds) ++ structure keyword_in ∷ flat (canonical (declare_all T ds) t))
        (structure keyword_end ∷ []))))

    -- An operand with the bracket pair that it has in the canonical tree.
    operand_parts :
        (T : Table) (s : Position) (o : Option Role) (i : ℕ) (t : Tree) → TreeAt K R O (length ps) T i t → refuses s o (root T (span_tree t)) ≡ false
        → Parts T i (stays T s o t) t → parts f i (length (flat t)) ≡ map spelling (flat (fitted T s o (canonical T t)))
    unfolding Parts
    operand_parts T s o i t h a w = w ∙ ap (λ u. map spelling (flat u)) (sym (operand_wrapped T s o t h.inner h.admitted a))

    node-parts :
        (T : Table) (i : ℕ) (l : Tree) (m : Bytes) (r : Tree) → TreeAt K R O (length ps) T i (node l m r) → Spelled text K i (node l m r)
        → Parts T i (stays T on_left (role_over T (span_tree l) m (span_tree r)) l) l
        → Parts T (suc (i + length (flat l))) (stays T on_right (role_over T (span_tree l) m (span_tree r)) r) r → Parts T i false (node l m r)
    unfolding Parts canonical wrap_if flat kind_of
    node-parts T i l m r h s x y =
        let a = i + length (flat l) in
        let n = node-length l m r in
        let o = role_over T (span_tree l) m (span_tree r) in
        let p = operand_parts T on_left o i l (left_at h) (admits-left T l m r h.admitted) x in
        let q = operand_parts T on_right o (suc a) r (right_at h) (admits-right T l m r h.admitted) y in
        let e = token_kept a (omega (arith, h.within)) (atom (symbol m)) s.0 (λ z. omega arith) (λ u w. omega arith) in
        ap (parts f i) n ∙ around f i (length (flat l)) (length (flat r)) ∙ rw (p, e, q)
        (sym (spellings (flat (fitted T on_left o (canonical T l))) (atom (symbol m) ∷ flat (fitted T on_right o (canonical T r)))))

    tree_parts :
        (T : Table) (i : ℕ) (b : Bool) (t : Tree) → Fits b t → TreeAt K R O (length ps) T i t → Spelled text K i t → Sized K₁ T i b t → Parts T i b t
    unfolding Parts wrap_if canonical flat parts span_tree is_operand
    tree_parts T i b nothing g h s z = rw g
    tree_parts T i b (leaf a) g h s z = rw g (leaf_kept T i (omega (arith, h.within)) a s h.admitted h.stands.1)
    tree_parts T i b (bracket t) g h s z = bracket_parts T i b t h z (tree_parts T (suc i) false t (fits_false t) (inside_at h) s z.2)
    tree_parts T i b (block ds t) g h s z =
        rw g
        (block_parts T i ds t h s
        (tree_parts (declare_all T ds) (suc (suc (i + length (all_tokens ds)))) false t (fits_false t) (body_at h) s.1 z))
    tree_parts T i b (node l m r) g h s z =
        let o = role_over T (span_tree l) m (span_tree r) in
        rw g
        (node-parts T i l m r h s
        (tree_parts T i (stays T on_left o l) l (fits_stays T on_left o l) (left_at h) s.1 z.0)
        (tree_parts T (suc (i + length (flat l))) (stays T on_right o r) r (fits_stays T on_right o r) (right_at h) s.2 z.1))

    -- The tree of the whole text.
    pub whole_parts :
        (T : Table) (t : Tree) → TreeAt K R O (length ps) T 0 t → Spelled text K 0 t → Sized K₁ T 0 false t
        → parts f 0 (length (flat t)) ≡ map spelling (flat (canonical T t))
    unfolding Parts wrap_if
    whole_parts T t h s z = tree_parts T 0 false t (fits_false t) h s z
