-- What the tests on a token show: which token opens its span, what is built first and second below it, and which words its node has.
use mathlib.Core.Path.{◌≡◌, ◌∙◌}
use mathlib.Core.Bool.{true, false}
use mathlib.Core.List.{List}
use Rattle.rows.specs.declared.token.Token.{Token}
use Rattle.std.specs.Prelude.{Option, None}
use Prim.Native.Nat.{ℕ, ◌+◌, ◌-◌, ◌≤◌, ◌<◌}
use lib.Dec.{ltb, eqb}
use borrow.Author.Tests.{eq-eqb, ne_eqb, lt-ltb, le-ltb}
use Rattle.grammar.specs.Nodes.{prefix_kind, infix_kind, postfix_kind, bracket_kind, node_words}
use Rattle.rows.specs.Fields.{TokenRow, RootRow, token, kind, closer, left, right}
use Rattle.rows.specs.InUse.{role_beside}
use Rattle.nodes.specs.Node.{precedence_of, token_words, atom_words, block_words, prefix_or_infix_words}
use Rattle.rows.specs.Standing.{Rows}
use Rattle.nodes.specs.First.{opener_of, part, span_part, operand_part, first_part}
use Rattle.nodes.specs.declared.build.Part.{Part}

pub opener_bracket : (K : TokenRow) (i : ℕ) → kind K i ≡ 4 → opener_of K i ≡ i
unfolding opener_of
opener_bracket K i e = rw (eq-eqb (kind K i) 4 e, opener_of)

pub opener_block : (K : TokenRow) (i : ℕ) → (kind K i ≡ 4 → ⊥) → opener_of K i ≡ closer K i
unfolding opener_of
opener_block K i e = rw (ne_eqb (kind K i) 4 e, opener_of)

pub prefix-words : (base l n : ℕ) (t : Token) (p : ℕ) → l ≡ 0
    → prefix_or_infix_words base l n t p ≡ token_words prefix_kind (base + n - 1) 0 t p
unfolding prefix_or_infix_words
prefix-words base l n t p e = rw (eq-eqb l 0 e, prefix_or_infix_words)

pub infix_words : (base l n : ℕ) (t : Token) (p : ℕ) → (l ≡ 0 → ⊥)
    → prefix_or_infix_words base l n t p ≡ token_words infix_kind (base + l - 1) (base + n - 1) t p
unfolding prefix_or_infix_words
infix_words base l n t p e = rw (ne_eqb l 0 e, prefix_or_infix_words)

pub operand_none : (m from to : ℕ) → m ≡ 0 → operand_part m from to ≡ None
unfolding operand_part
operand_none m from to e = rw (eq-eqb m 0 e, operand_part)

pub operand_some : (m from to : ℕ) → (m ≡ 0 → ⊥) → operand_part m from to ≡ part from (m - 1) to
unfolding operand_part
operand_some m from to e = rw (ne_eqb m 0 e, operand_part)

-- The operand on the right of token number `i`.
unfoldable pub second_part : TokenRow → RootRow → ℕ → ℕ → Option Part
second_part K O i to = elim (ltb 3 (kind K i)) [ true ↦ None | false ↦ operand_part (right O i) (i + 1) to ]

module _ (K : TokenRow) (O : RootRow) (i : ℕ) where
  -- Of a bracket pair or a block.
  module _ (is_structure_lem : 3 < kind K i) where
    pub first_span : (from : ℕ) → first_part K O from i ≡ span_part K O (opener_of K i)
    unfolding first_part
    first_span from = rw (lt-ltb 3 (kind K i) is_structure_lem, first_part)

    pub second_none : (to : ℕ) → second_part K O i to ≡ None
    unfolding second_part
    second_none to = rw (lt-ltb 3 (kind K i) is_structure_lem, second_part)

  -- Of an atom or an operator.
  module _ (is_atom_lem : kind K i ≤ 3) where
    pub first_left : (from : ℕ) → first_part K O from i ≡ operand_part (left O i) from i
    unfolding first_part
    first_left from = rw (le-ltb 3 (kind K i) is_atom_lem, first_part)

    pub second_right : (to : ℕ) → second_part K O i to ≡ operand_part (right O i) (i + 1) to
    unfolding second_part
    second_right to = rw (le-ltb 3 (kind K i) is_atom_lem, second_part)

    pub second_absent : (to : ℕ) → right O i ≡ 0 → second_part K O i to ≡ None
    second_absent to e = second_right to ∙ operand_none (right O i) (i + 1) to e

    pub second_some : (to : ℕ) {r : ℕ} → r ≡ right O i → (r ≡ 0 → ⊥) → second_part K O i to ≡ part (i + 1) (r - 1) to
    second_some to e f = second_right to ∙ rw e (operand_some (right O i) (i + 1) to (λ z. f (e ∙ z)))

-- The number of the role of token number `i` with `l` nodes on its left.
abbrev pub last_role : Rows → ℕ → ℕ → ℕ
last_role M i l = role_beside M.roles i l (right M.roots i)

-- The words of the node of token number `i`: before it stand `m` nodes from number `n` on, `l` of them those of the first part.
unfoldable pub last_words : Rows → ℕ → ℕ → ℕ → ℕ → List ℕ
last_words M i n l m =
    let K = M.tokens in
    elim (ltb 3 (kind K i)) [
      | true ↦
          elim (eqb (kind K i) 4) [
            | true ↦ node_words bracket_kind (n + m - 1) 0 0 0 0
            | false ↦ block_words (n + m - 1) (token K i) (token K (opener_of K i))
          ]
      | false ↦
          elim (eqb (right M.roots i) 0) [
            | true ↦
                elim (eqb l 0) [
                  | true ↦ atom_words (token K i)
                  | false ↦ token_words postfix_kind (n + m - 1) 0 (token K i) (precedence_of (last_role M i l))
                ]
            | false ↦ prefix_or_infix_words n l m (token K i) (precedence_of (last_role M i l))
          ]
    ]

module _ (M : Rows) (i : ℕ) where
  abbrev K : TokenRow
  K = M.tokens

  abbrev O : RootRow
  O = M.roots

  module _ (is_structure_lem : 3 < kind K i) where
    pub last_bracket : kind K i ≡ 4 → (n l m : ℕ) → last_words M i n l m ≡ node_words bracket_kind (n + m - 1) 0 0 0 0
    unfolding last_words
    last_bracket e n l m = rw (lt-ltb 3 (kind K i) is_structure_lem, eq-eqb (kind K i) 4 e, last_words)

    pub last_block : (kind K i ≡ 4 → ⊥) → (n l m : ℕ) → last_words M i n l m ≡ block_words (n + m - 1) (token K i) (token K (opener_of K i))
    unfolding last_words
    last_block e n l m = rw (lt-ltb 3 (kind K i) is_structure_lem, ne_eqb (kind K i) 4 e, last_words)

  module _ (is_atom_lem : kind K i ≤ 3) where
    pub last_atom : right O i ≡ 0 → (n l m : ℕ) → l ≡ 0 → last_words M i n l m ≡ atom_words (token K i)
    unfolding last_words
    last_atom e n l m f = rw (le-ltb 3 (kind K i) is_atom_lem, eq-eqb (right O i) 0 e, eq-eqb l 0 f, last_words)

    pub last_postfix :
        right O i ≡ 0 → (n l m : ℕ) → (l ≡ 0 → ⊥)
        → last_words M i n l m ≡ token_words postfix_kind (n + m - 1) 0 (token K i) (precedence_of (last_role M i l))
    unfolding last_words
    last_postfix e n l m f = rw (le-ltb 3 (kind K i) is_atom_lem, eq-eqb (right O i) 0 e, ne_eqb l 0 f, last_words)

    pub last_right : (right O i ≡ 0 → ⊥) → (n l m : ℕ) → last_words M i n l m ≡ prefix_or_infix_words n l m (token K i) (precedence_of (last_role M i l))
    unfolding last_words
    last_right e n l m = rw (le-ltb 3 (kind K i) is_atom_lem, ne_eqb (right O i) 0 e, last_words)
