-- The search for the tree of a span over rows, and what it notes: document 01's refusal 11.
use Rattle.std.specs.Prelude.{◌≡◌, Bool, false, ◌⊎◌, List, ℕ, suc, ◌+◌, ◌≤◌, ◌<◌, length}
use Rattle.std.specs.declared.option.Option as Std
use Rattle.std.specs.declared.option.Option.TheVariants.{None, Some}
use Rattle.std.specs.declared.result.Result.{Result}
use Rattle.std.specs.declared.result.Result.TheVariants.{Ok, Err}
use Rattle.std.proofs.Math.Option.{Option, none, some}
use Rattle.grammar.specs.Bytes.{Bytes}
use Rattle.grammar.specs.Operator.{Table}
use Rattle.grammar.specs.Span.{single, pair, scope, all_item_tokens, items}
use Rattle.grammar.specs.SpanTree.{SpanTree, missing, operand, apply, yield}
use Rattle.grammar.specs.Climb.{Ending, found, stops, search}
use Rattle.grammar.specs.Tree.{Tree}
use Rattle.grammar.specs.Nodes.{count}
use Rattle.grammar.specs.Blocks.{spans, treeless_opener, lost_token, tree_of}
use Rattle.grammar.specs.Spans.{Span}
use Rattle.rows.specs.Fields.{TokenRow, NoteRow, RootRow, kind, operands, left, right, Holds}
use Rattle.rows.specs.Codes.{Bounded}
use Rattle.rows.specs.Tokens.{range}
use Rattle.rows.specs.Agreeing.{Agrees}
use Rattle.rows.specs.Standing.{mark, Rooted}
use Rattle.climb.specs.declared.search.Lost.{Lost}
use Rattle.climb.specs.declared.spans.Trees.{Trees}
use Rattle.climb.specs.declared.spans.Treeless.{Treeless}

-- How many tokens a tree of a span has, and one more than the number of its root's token, where its first token has number `i`; 0 for none.
abbrev pub width : SpanTree → ℕ
width s = length (all_item_tokens (yield s))

unfoldable pub span_mark : ℕ → SpanTree → ℕ
span_mark i missing = 0
span_mark i (operand x) = suc i
span_mark i (apply l m r) = suc (i + width l)

-- The row has the roots of all parts of the tree. (What `(` and `let` have is the roots of their own spans.)
abbrev pub SpanRooted : RootRow → ℕ → SpanTree → Type 0
SpanRooted O i missing = Unit {0}
SpanRooted O i (operand (single a)) = (left O i ≡ 0) × (right O i ≡ 0)
SpanRooted O i (operand (pair ts)) = Unit {0}
SpanRooted O i (operand (scope ds ts)) = Unit {0}
SpanRooted O i (apply l m r) =
    let a = i + width l in (left O a ≡ span_mark i l) × (right O a ≡ span_mark (suc a) r) × SpanRooted O i l × SpanRooted O (suc a) r

-- What the search answers, by how the pass ends.
abbrev pub Searches : RootRow → ℕ → Ending → Result ℕ Lost → Type 0
Searches O i (stops n) r = r ≡ Err (record { at = n })
Searches O i (found s) r = ((at : ℕ) × (r ≡ Ok at) × (suc at ≡ span_mark i s)) × SpanRooted O i s

-- The entries of the row outside `from` to `to` are as they were.
pub record RootsKept (O : RootRow) (from to : ℕ) (O' : RootRow) : Type 0 where
  pub long : length O' ≡ length O
  pub same : (j : ℕ) → (j < from) ⊎ (to ≤ j) → operands O' j ≡ operands O j

-- Rows of `n` tokens.
pub record Rows (K : TokenRow) (R : NoteRow) (O : RootRow) (n : ℕ) : Type 0 where
  pub tokens : Holds K n
  pub roles : Holds R n
  pub roots : Holds O n

-- Operators in force under which the rows have the roles of the items from `from` to `to`.
pub record InForce (text : Bytes) (T : Table) (K : TokenRow) (R : NoteRow) (from to : ℕ) : Type 0 where
  pub bounded : Bounded T
  pub agrees : Agrees text K R T from to

-- What the search leaves, whatever these are.
pub record Searched (K : TokenRow) (R : NoteRow) (from to : ℕ) (O O' : RootRow) (r : Result ℕ Lost) : Type 0 where
  pub answer : (text : Bytes) (T : Table) → InForce text T K R from to → Searches O' from (search T from (items (range text K from to))) r
  pub kept : RootsKept O from to O'

-- An opener, or none, as the code has it.
unfoldable pub opener_in : Option ℕ → Std.Option ℕ
opener_in none = None
opener_in (some i) = Some i

-- The first span without a tree, and the token at which it is lost.
abbrev pub treeless : Option ℕ → ℕ → Treeless
treeless o n = record { opener = opener_in o; lost = n }

unfoldable pub treeless_of : List Span → Treeless
treeless_of ss = treeless (treeless_opener ss) (lost_token ss)

-- All spans of `n` tokens. "11: span without a tree: 0, the `(`, or the `in`"
abbrev pub Checks : Bytes → Table → TokenRow → ℕ → RootRow → Option Tree → Result Trees Treeless → Type 0
Checks text T K n O (some t) r = ((at : ℕ) × (r ≡ Ok (record { nodes = count t; root = at })) × (suc at ≡ mark 0 t)) × Rooted O 0 t
Checks text T K n O none r = r ≡ Err (treeless_of (spans (suc n) T none 0 (range text K 0 n)))

pub record Checked (K : TokenRow) (R : NoteRow) (n : ℕ) (O O' : RootRow) (r : Result Trees Treeless) : Type 0 where
  pub answer : (text : Bytes) (T : Table) → InForce text T K R 0 n → Checks text T K n O' (tree_of T (range text K 0 n)) r
  pub long : length O' ≡ length O

-- Without tokens of structure no token opens a span.
abbrev pub Flat : TokenRow → ℕ → Bool → Type 0
Flat K n nested = nested ≡ false → (j : ℕ) → j < n → kind K j ≤ 3
