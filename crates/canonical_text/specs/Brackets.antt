-- Document 01, "Tidy text": "bracket exactly those operands that their place doesn't admit", of a tree that stands in the rows: a bracket
-- pair that stays has its bytes, any other has none.
use Rattle.std.specs.Prelude.{◌≡◌, Bool, true, false, ℕ, suc, max, set, ◌+◌, ◌-◌, ◌≤◌, ◌<◌, length}
use Rattle.std.proofs.Math.Option.{Option, some}
use Rattle.grammar.specs.Bytes.{Bytes}
use Rattle.grammar.specs.Token.{symbol}
use Rattle.grammar.specs.Operator.{Role, Table}
use Rattle.grammar.specs.Declaration.{declare_all, all_tokens}
use Rattle.grammar.specs.SpanTree.{Position, on_left, on_right, root, role_over, Admitted}
use Rattle.grammar.specs.Tree.{Tree, nothing, leaf, bracket, block, node, flat, span_tree, InnerOk}
use Rattle.grammar.specs.Canonical.{refuses}
use Rattle.rows.specs.Fields.{TokenRow, NoteRow, RootRow, token, kind, closer, size, arrival, Within, Holds}
use Rattle.rows.specs.Codes.{role_code, Fit, Bounded}
use Rattle.rows.specs.Tokens.{IsAtomKind}
use Rattle.rows.specs.Agreeing.{Noted}
use Rattle.rows.specs.Standing.{mark, Rooted}

-- What a bracket pair holds, nested pairs looked through; any other tree itself.
unfoldable pub held : Tree → Tree
held nothing = nothing
held (leaf a) = leaf a
held (bracket t) = held t
held (block ds t) = block ds t
held (node l m r) = node l m r

-- An operand on the side `s` of an operator in the role is a bracket pair that stays: its place does not admit what the pair holds.
unfoldable pub stays : Table → Position → Option Role → Tree → Bool
stays T s o nothing = false
stays T s o (leaf a) = false
stays T s o (bracket t) = refuses s o (root T (span_tree (held t)))
stays T s o (block ds t) = false
stays T s o (node l m r) = false

-- The tree stands in the rows with its first token at number `i`: kinds, closers and roles are as it has them.
abbrev pub Stands : TokenRow → NoteRow → Table → ℕ → Tree → Type 0
Stands K R T i nothing = Unit {0}
Stands K R T i (leaf a) = IsAtomKind (kind K i) × Noted T R i a
Stands K R T i (bracket t) =
    let c = suc (i + length (flat t)) in (kind K i ≡ 4) × (closer K i ≡ c) × (kind K c ≡ 5) × Stands K R T (suc i) t
Stands K R T i (block ds t) =
    let c = suc (i + length (all_tokens ds)) in
    (kind K i ≡ 7) × (closer K i ≡ c) × (kind K c ≡ 8) × (kind K (suc (c + length (flat t))) ≡ 9) × (arrival R i ≡ 0)
    × Bounded (declare_all T ds) × Stands K R (declare_all T ds) (suc c) t
Stands K R T i (node l m r) =
    let a = i + length (flat l) in (kind K a ≡ 1) × Noted T R a (symbol m) × Stands K R T i l × Stands K R T (suc a) r

-- Rows of `n` tokens, and a tree in them under the operators `T`.
pub record TreeAt (K : TokenRow) (R : NoteRow) (O : RootRow) (n : ℕ) (T : Table) (i : ℕ) (t : Tree) : Type 0 where
  pub rows : Holds K n × Holds R n × Holds O n
  pub bounded : Bounded T
  pub admitted : Admitted T (span_tree t)
  pub inner : InnerOk T t
  pub stands : Stands K R T i t
  pub rooted : Rooted O i t
  pub within : i + length (flat t) ≤ n

-- An operand: a tree at token `j` whose root is noted, of an operator whose role has that number.
pub record OperandAt (K : TokenRow) (R : NoteRow) (O : RootRow) (role operand : ℕ) (T : Table) (j : ℕ) (t : Tree) (q : Role) : Type 0 where
  pub count : ℕ
  pub tree : TreeAt K R O count T j t
  pub marked : operand ≡ mark j t
  pub coded : role ≡ role_code (some q)
  pub fit : Fit (some q)

-- A bracket pair of which the root is noted: its brackets stand in the row.
pub record PairIn (K : TokenRow) (operand : ℕ) : Type 0 where
  pub noted : 1 ≤ operand
  pub opener : Within K (operand - 1)
  pub closes : Within K (closer K (operand - 1))

-- The row with so many bytes for token `i`.
abbrev pub resized : TokenRow → ℕ → ℕ → TokenRow
resized K i n = set K i (record (token K i) { size = n })

-- The row with the byte of each bracket of the pair that token `i` opens, if it stays.
unfoldable pub kept_pair : Bool → TokenRow → ℕ → TokenRow
kept_pair true K i = resized (resized K i 1) (closer K i) 1
kept_pair false K i = K

-- The same of both operands of an operator; the first token of its tree has number `j`.
unfoldable pub kept_beside : TokenRow → Table → ℕ → Tree → Bytes → Tree → TokenRow
kept_beside K T j l m r =
    let o = role_over T (span_tree l) m (span_tree r) in
    kept_pair (stays T on_right o r) (kept_pair (stays T on_left o l) K j) (suc (j + length (flat l)))

-- The operator at token `a` with its operands.
pub record OperatorAt (K : TokenRow) (R : NoteRow) (O : RootRow) (a : ℕ) (T : Table) (j : ℕ) (l : Tree) (m : Bytes) (r : Tree) : Type 0 where
  pub count : ℕ
  pub tree : TreeAt K R O count T j (node l m r)
  pub place : a ≡ j + length (flat l)

unfoldable pub size_if : Bool → ℕ
size_if true = 1
size_if false = 0

-- The brackets of the tree have their bytes where they stay and none where not; `b`: the pair that the tree is stays.
abbrev pub Sized : TokenRow → Table → ℕ → Bool → Tree → Type 0
Sized K T i b nothing = Unit {0}
Sized K T i b (leaf a) = Unit {0}
Sized K T i b (bracket t) = (size K i ≡ size_if b) × (size K (suc (i + length (flat t))) ≡ size_if b) × Sized K T (suc i) false t
Sized K T i b (block ds t) = Sized K (declare_all T ds) (suc (suc (i + length (all_tokens ds)))) false t
Sized K T i b (node l m r) =
    let o = role_over T (span_tree l) m (span_tree r) in
    Sized K T i (stays T on_left o l) l × Sized K T (suc (i + length (flat l))) (stays T on_right o r) r

-- The tree of `n` tokens, no bracket of which has a byte yet.
pub record Keepable (K : TokenRow) (R : NoteRow) (O : RootRow) (n : ℕ) (T : Table) (t : Tree) : Type 0 where
  pub tree : TreeAt K R O n T 0 t
  pub whole : n ≡ length (flat t)
  pub none : (j : ℕ) → j < n → 4 ≤ kind K j → kind K j ≤ 5 → size K j ≡ 0

-- Rows whose tokens differ in their sizes alone.
abbrev pub DiffersInSizes : TokenRow → TokenRow → Type 0
DiffersInSizes K K' = (j : ℕ) → token K' j ≡ record (token K j) { size = size K' j }

-- The same row, but for the brackets that stay.
pub record KeptRow (K : TokenRow) (T : Table) (t : Tree) (K' : TokenRow) : Type 0 where
  pub long : length K' ≡ length K
  pub fields : DiffersInSizes K K'
  pub others : (j : ℕ) → (kind K j ≡ 4 → ⊥) → (kind K j ≡ 5 → ⊥) → size K' j ≡ size K j
  pub small : (j : ℕ) → size K' j ≤ max 1 (size K j)
  pub sized : Sized K' T 0 false t
