-- Where a tree stands in the rows: its first token has number `i`.
use Rattle.std.specs.Prelude.{◌≡◌, true, ◌||◌, List, ℕ, suc, ◌+◌, length}
use Rattle.grammar.specs.Token.{atom, symbol, as_written}
use Rattle.grammar.specs.Operator.{Fixity, Table, role}
use Rattle.grammar.specs.Declaration.{declare_all, all_tokens}
use Rattle.grammar.specs.SpanTree.{present}
use Rattle.grammar.specs.Tree.{Tree, nothing, leaf, bracket, block, node, flat, span_tree}
use Rattle.grammar.specs.Nodes.{written_offset}
use Rattle.grammar.specs.Coded.{kind_of}
use Rattle.rows.specs.declared.token.Token.{Token}
use Rattle.rows.specs.declared.roles.Note.{Note}
use Rattle.rows.specs.declared.operands.Operands.{Operands}
use Rattle.rows.specs.Fields.{kind, start, size, closer, left, right}
use Rattle.rows.specs.Codes.{Fit}
use Rattle.rows.specs.Agreeing.{Noted}

-- One more than the number of the token that is the tree's root; 0 for no tree.
unfoldable pub mark : ℕ → Tree → ℕ
mark i nothing = 0
mark i (leaf a) = suc i
mark i (bracket t) = suc i
mark i (block ds t) = suc i
mark i (node l m r) = suc (i + length (flat l))

-- The row of roots has the roots of all parts of the tree: of an operator those of its operands; of `(` and `in` on the left that of the
-- span that it opens.
abbrev pub Rooted : List Operands → ℕ → Tree → Type 0
Rooted O i nothing = Unit {0}
Rooted O i (leaf a) = (left O i ≡ 0) × (right O i ≡ 0)
Rooted O i (bracket t) = (left O i ≡ mark (suc i) t) × Rooted O (suc i) t
Rooted O i (block ds t) =
    let c = suc (i + length (all_tokens ds)) in (left O c ≡ mark (suc c) t) × Rooted O (suc c) t
Rooted O i (node l m r) =
    let a = i + length (flat l) in (left O a ≡ mark i l) × (right O a ≡ mark (suc a) r) × Rooted O i l × Rooted O (suc a) r

-- The row of tokens has the tree's tokens; `places` gives the offset of each. Every bracket pair and block holds something, and every
-- operator has an operand.
abbrev pub Tokened : (ℕ → ℕ) → List Token → ℕ → Tree → Type 0
Tokened places K i nothing = Unit {0}
Tokened places K i (leaf a) =
    (kind K i ≡ kind_of (atom a)) × (start K i ≡ written_offset a (places i)) × (size K i ≡ length (as_written a))
Tokened places K i (bracket t) =
    (kind K i ≡ 4) × (closer K i ≡ suc (i + length (flat t))) × (present (span_tree t) ≡ true) × Tokened places K (suc i) t
Tokened places K i (block ds t) =
    let c = suc (i + length (all_tokens ds)) in
    (kind K i ≡ 7) × (start K i ≡ places i) × (closer K i ≡ c) × (start K c ≡ places c) × (closer K c ≡ suc (c + length (flat t)))
    × (present (span_tree t) ≡ true) × Tokened places K (suc c) t
Tokened places K i (node l m r) =
    let a = i + length (flat l) in
    (kind K a ≡ 1) × (start K a ≡ places a) × (size K a ≡ length m) × (present (span_tree l) || present (span_tree r) ≡ true)
    × Tokened places K i l × Tokened places K (suc a) r

-- The row of roles has the roles of each operator of the tree in the operators in force there; `T` has those of the tree's outermost span.
abbrev pub Roled : List Note → Table → ℕ → Tree → Type 0
Roled R T i nothing = Unit {0}
Roled R T i (leaf a) = Unit {0}
Roled R T i (bracket t) = Roled R T (suc i) t
Roled R T i (block ds t) = Roled R (declare_all T ds) (suc (suc (i + length (all_tokens ds)))) t
Roled R T i (node l m r) =
    let a = i + length (flat l) in Noted T R a (symbol m) × ((f : Fixity) → Fit (role T m f)) × Roled R T i l × Roled R T (suc a) r

-- The three rows of a text.
pub record Rows : Type 0 where
  pub tokens : List Token
  pub roles : List Note
  pub roots : List Operands

abbrev pub rows : List Token → List Note → List Operands → Rows
rows K R O = record { tokens = K; roles = R; roots = O }

-- A tree that stands in the rows from token `from` to token `to`, under the operators `T`, with its root at token `at`.
pub record Stands (places : ℕ → ℕ) (T : Table) (M : Rows) (from at to : ℕ) (t : Tree) : Type 0 where
  pub tokened : Tokened places M.tokens from t
  pub roled : Roled M.roles T from t
  pub rooted : Rooted M.roots from t
  pub root : suc at ≡ mark from t
  pub end : to ≡ from + length (flat t)
