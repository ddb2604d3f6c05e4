-- The tokens of the canonical text are tokens: names stand bare only where they can, a name that is quoted was quoted before, and
-- numbers only get shorter.
use mathlib.Core.Path.{◌≡◌, refl}
use mathlib.Core.Bool.{true, not}
use mathlib.Core.List.{List, [], ◌∷◌, ◌++◌, map}
use mathlib.Core.Option.{Option}
use native.Mathlib.Nat.{le_trans}
use lib.Dec.{leb}
use lib.ListN.{length}
use borrow.Author.Tests.{leb-true, le-leb}
use Rattle.grammar.specs.Bytes.{Bytes}
use Rattle.grammar.specs.Token.{
  atom,
  structure,
  Token,
  symbol,
  number,
  closing,
  semicolon,
  keyword_in,
  keyword_end,
  is_number,
  longest_number,
  is_symbol,
  is_token,
  are_tokens,
  Atom,
}
use Rattle.grammar.specs.Operator.{Fixity, Associativity, Role, Table, in_force}
use Rattle.grammar.specs.Declaration.{
  Declaration,
  declares,
  clears,
  declare_all,
  fixity_word,
  associativity_word,
  declaration_tokens,
  all_tokens,
}
use Rattle.grammar.specs.SpanTree.{Position, on_left, on_right, is_operand_atom, is_operand, Admitted}
use Rattle.grammar.specs.Tree.{Tree, nothing, leaf, bracket, block, node, flat, span_tree}
use Rattle.grammar.specs.Canonical.{strip, strip_declaration, written_atom, fitted, canonical}
use Rattle.grammar.proofs.CheckedTrees.{InnerChecked}
use Rattle.grammar.proofs.Logic.{and_left, and_right, and_intro, clash}
use Rattle.grammar.proofs.Numbers.{strip_number, strip_shorter}
use Rattle.grammar.proofs.CanonicalTree.{fitted_by, written_by}

-- Tokens in a row.
pub tokens_join : (xs ys : List Token) → are_tokens xs ≡ true → are_tokens ys ≡ true → are_tokens (xs ++ ys) ≡ true
unfolding are_tokens
tokens_join [] ys e f = f
tokens_join (x ∷ xs) ys e f =
    and_intro (and_left (is_token x) (are_tokens xs) e) (tokens_join xs ys (and_right (is_token x) (are_tokens xs) e) f)

pub tokens_split : (xs ys : List Token) → are_tokens (xs ++ ys) ≡ true → (are_tokens xs ≡ true) × (are_tokens ys ≡ true)
unfolding are_tokens
tokens_split [] ys e = (refl, e)
tokens_split (x ∷ xs) ys e =
    let rest = tokens_split xs ys (and_right (is_token x) (are_tokens (xs ++ ys)) e) in
    (and_intro (and_left (is_token x) (are_tokens (xs ++ ys)) e) rest.0, rest.1)

-- The tokens of a tree and those of its parts.
pub leaf_token : (a : Atom) → are_tokens (flat (leaf a)) ≡ true → is_token (atom a) ≡ true
unfolding flat are_tokens
leaf_token a e = and_left (is_token (atom a)) true e

leaf_tokens : (a : Atom) → is_token (atom a) ≡ true → are_tokens (flat (leaf a)) ≡ true
unfolding flat are_tokens
leaf_tokens a e = and_intro e refl

pub inside_tokens : (t : Tree) → are_tokens (flat (bracket t)) ≡ true → are_tokens (flat t) ≡ true
unfolding flat are_tokens is_token
inside_tokens t e = (tokens_split (flat t) (structure closing ∷ []) e).0

tokens_bracket : (t : Tree) → are_tokens (flat t) ≡ true → are_tokens (flat (bracket t)) ≡ true
unfolding flat are_tokens is_token
tokens_bracket t e = tokens_join (flat t) (structure closing ∷ []) e refl

pub block_tokens :
    (ds : List Declaration) (t : Tree) → are_tokens (flat (block ds t)) ≡ true
    → (are_tokens (all_tokens ds) ≡ true) × (are_tokens (flat t) ≡ true)
unfolding flat are_tokens is_token
block_tokens ds t e =
    tokens_split (all_tokens ds) (structure keyword_in ∷ flat t) (tokens_split (all_tokens ds ++ structure keyword_in ∷ flat t) (structure keyword_end ∷ []) e).0

tokens_block :
    (ds : List Declaration) (t : Tree) → are_tokens (all_tokens ds) ≡ true → are_tokens (flat t) ≡ true
    → are_tokens (flat (block ds t)) ≡ true
unfolding flat are_tokens is_token
tokens_block ds t e f =
    tokens_join (all_tokens ds ++ structure keyword_in ∷ flat t) (structure keyword_end ∷ []) (tokens_join (all_tokens ds) (structure keyword_in ∷ flat t) e f) refl

pub node_tokens :
    (l : Tree) (m : Bytes) (r : Tree) → are_tokens (flat (node l m r)) ≡ true
    → (are_tokens (flat l) ≡ true) × (is_symbol m ≡ true) × (are_tokens (flat r) ≡ true)
unfolding flat are_tokens is_token
node_tokens l m r e =
    let parts = tokens_split (flat l) (atom (symbol m) ∷ flat r) e in
    (parts.0, and_left _ (are_tokens (flat r)) parts.1, and_right (is_symbol m) _ parts.1)

tokens_node :
    (l : Tree) (m : Bytes) (r : Tree) → are_tokens (flat l) ≡ true → is_symbol m ≡ true → are_tokens (flat r) ≡ true
    → are_tokens (flat (node l m r)) ≡ true
unfolding flat are_tokens is_token
tokens_node l m r e f g = tokens_join (flat l) (atom (symbol m) ∷ flat r) e (and_intro f g)

fitted_tokens :
    (T : Table) (s : Position) (o : Option Role) (t : Tree) → are_tokens (flat t) ≡ true → are_tokens (flat (fitted T s o t)) ≡ true
fitted_tokens T s o t h = fitted_by (λ u. are_tokens (flat u) ≡ true) T s o t (λ e. h) (λ e. tokens_bracket t h)

-- Names and numbers as they are written.
number_token : (d : Bytes) → is_token (atom (number d)) ≡ true → is_token (atom (number (strip d))) ≡ true
unfolding is_token
number_token d e =
    let n : is_number d ≡ true = and_left _ (leb (length d) longest_number) e in
    let short : leb (length d) longest_number ≡ true = and_right (is_number d) _ e in
    and_intro (strip_number d n) (le-leb _ _ (le_trans (strip_shorter d n) (leb-true (length d) longest_number short)))

written_token : (T : Table) (a : Atom) → is_operand_atom T a ≡ true → is_token (atom a) ≡ true → is_token (atom (written_atom T a)) ≡ true
unfolding is_operand_atom is_token
written_token T =
    written_by (λ x y. is_operand_atom T x ≡ true → is_token (atom x) ≡ true → is_token (atom y) ≡ true) T
    (λ x o e. e)
    (λ c f o e. absurd (clash (and_intro e o) f))
    (λ c f o e. and_left (is_symbol c) (not (in_force T c)) f)
    (λ d o e. number_token d e)

-- Declarations as they are written: around the number of one there are words and a semicolon.
module _ (f : Fixity) (a : Associativity) (m : Bytes) where
  abbrev front : List Token
  front = atom (symbol (fixity_word f)) ∷ atom (symbol (associativity_word a)) ∷ []

  abbrev back : List Token
  back = atom (symbol m) ∷ structure semicolon ∷ []

  pub declared-parts :
      (d : Bytes) → are_tokens (declaration_tokens (declares f a d m)) ≡ true
      → (are_tokens front ≡ true) × (is_token (atom (number d)) ≡ true) × (are_tokens back ≡ true)
  unfolding declaration_tokens are_tokens
  declared-parts d e =
      let parts = tokens_split front (atom (number d) ∷ back) e in
      (parts.0, and_left _ (are_tokens back) parts.1, and_right (is_token (atom (number d))) _ parts.1)

  declared_tokens :
      (d : Bytes) → are_tokens (declaration_tokens (declares f a d m)) ≡ true
      → are_tokens (declaration_tokens (declares f a (strip d) m)) ≡ true
  unfolding declaration_tokens are_tokens
  declared_tokens d e =
      let parts = declared-parts d e in
      tokens_join front (atom (number (strip d)) ∷ back) parts.0 (and_intro (number_token d parts.1) parts.2)

declarations_tokens :
    (ds : List Declaration) → are_tokens (all_tokens ds) ≡ true → are_tokens (all_tokens (map strip_declaration ds)) ≡ true
unfolding all_tokens strip_declaration
declarations_tokens [] e = e
declarations_tokens (declares f a d m ∷ ds) e =
    let parts = tokens_split (declaration_tokens (declares f a d m)) (all_tokens ds) e in
    tokens_join (declaration_tokens (declares f a (strip d) m)) (all_tokens (map strip_declaration ds))
    (declared_tokens f a m d parts.0) (declarations_tokens ds parts.1)
declarations_tokens (clears m ∷ ds) e =
    let parts = tokens_split (declaration_tokens (clears m)) (all_tokens ds) e in
    tokens_join (declaration_tokens (clears m)) (all_tokens (map strip_declaration ds))
    parts.0 (declarations_tokens ds parts.1)

-- The tokens of the canonical text are tokens.
pub canonical_tokens :
    (T : Table) (t : Tree) → Admitted T (span_tree t) → InnerChecked T t → are_tokens (flat t) ≡ true
    → are_tokens (flat (canonical T t)) ≡ true
unfolding canonical span_tree is_operand
canonical_tokens T nothing a i e = e
canonical_tokens T (leaf t) a i e = leaf_tokens (written_atom T t) (written_token T t a (leaf_token t e))
canonical_tokens T (bracket t) a i e = canonical_tokens T t i.0.0 i.1 (inside_tokens t e)
canonical_tokens T (block ds t) a i e =
    let parts = block_tokens ds t e in
    tokens_block (map strip_declaration ds) (canonical (declare_all T ds) t) (declarations_tokens ds parts.0)
    (canonical_tokens (declare_all T ds) t i.2.0 i.3 parts.1)
canonical_tokens T (node l m r) a i e =
    let parts = node_tokens l m r e in
    tokens_node _ m _
    (fitted_tokens T on_left _ (canonical T l) (canonical_tokens T l a.0 i.0 parts.0))
    parts.1
    (fitted_tokens T on_right _ (canonical T r) (canonical_tokens T r a.1 i.1 parts.2))
