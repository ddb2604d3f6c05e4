-- Document 02, §7: a blank rule. "A new group starts with an empty rule."
use Rattle.std.specs.Prelude.{◌≡◌, true, ◌≤◌, length}
use Rattle.grammar.specs.Bytes.{Bytes, every}
use Rattle.grammar.specs.Token.{is_blank_byte}
use Rattle.grammar.specs.Fault.{longest_text}
use Rattle.grammar.specs.Tree.{Tree, nothing}

-- "A text that is empty or all blanks, past check 1"
pub record Blank (text : Bytes) : Type 0 where
  pub short : length text ≤ longest_text
  pub blank : every is_blank_byte text ≡ true

-- What it reads as: "no nodes, and an empty tidy text".
abbrev pub blank_rule : Tree
blank_rule = nothing
