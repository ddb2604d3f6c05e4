-- What the builder asks and what it leaves: the words of a tree over the front of the node table.
use Rattle.std.specs.Prelude.{◌≡◌, List, ℕ, ◌+◌, ◌*◌, ◌≤◌, length}
use Rattle.grammar.specs.Operator.{Table}
use Rattle.grammar.specs.Tree.{Tree}
use Rattle.grammar.specs.Nodes.{count, words, words_per_node}
use Rattle.grammar.specs.Answer.{over}
use Rattle.rows.specs.Fields.{Holds}
use Rattle.rows.specs.Standing.{Rows, rows, Stands}
use Rattle.nodes.specs.declared.build.Rows as Lent

-- The three rows that are lent to the builder.
abbrev pub rows_of : Lent.Rows → Rows
rows_of r = rows r.tokens.now r.notes.now r.roots.now

-- What is asked: such a tree, room for its nodes, node numbers and offsets that are words, and a `let` before its `in`.
pub record Buildable (M : Rows) (from at to : ℕ) (N : List ℕ) (base : ℕ) : Type 0 where
  pub tokens : Holds M.tokens to
  pub roles : Holds M.roles to
  pub roots : Holds M.roots to
  pub places : ℕ → ℕ
  pub table : Table
  pub tree : Tree
  pub stands : Stands places table M from at to tree
  pub ascend : (i j : ℕ) → i ≤ j → j ≤ to → places i ≤ places j
  pub room : count tree * words_per_node ≤ length N
  pub few : base + count tree ≤ 4096

-- The words of whatever tree stands there.
pub record Built (M : Rows) (from at to : ℕ) (N : List ℕ) (base : ℕ) (N' : List ℕ) (r : ℕ) : Type 0 where
  pub counted : (places : ℕ → ℕ) (T : Table) (t : Tree) → Stands places T M from at to t → r ≡ count t
  pub written : (places : ℕ → ℕ) (T : Table) (t : Tree) → Stands places T M from at to t → N' ≡ over (words places T t from base) N
