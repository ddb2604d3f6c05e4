-- The rows of a text that is read: its tokens, the roles in force and the roots of its tree.
use Rattle.std.specs.Prelude.{◌≤◌, length}
use Rattle.grammar.specs.Bytes.{Bytes}
use Rattle.grammar.specs.Fault.{longest_text}
use Rattle.grammar.specs.Declaration.{start_table}
use Rattle.grammar.specs.Tree.{IsTree}
use Rattle.grammar.specs.Answer.{Reading, tokens_of}
use Rattle.rows.specs.Fields.{TokenRow, NoteRow, RootRow, Holds}
use Rattle.rows.specs.Tokens.{Stored}
use Rattle.rows.specs.Agreeing.{Agrees}
use Rattle.rows.specs.Standing.{Rooted}

pub record Ready (text : Bytes) (K : TokenRow) (R : NoteRow) (O : RootRow) (r : Reading) : Type 0 where
  pub short : length text ≤ longest_text
  pub stored : Stored text r.tokens K
  pub tokens : Holds K (length r.tokens)
  pub roles : Holds R (length r.tokens)
  pub roots : Holds O (length r.tokens)
  pub agrees : Agrees text K R start_table 0 (length r.tokens)
  pub is_tree : IsTree start_table (tokens_of r.tokens) r.tree
  pub rooted : Rooted O 0 r.tree
