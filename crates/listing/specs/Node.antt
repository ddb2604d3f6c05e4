-- The node that six words of a table give, and how it prints.
use Rattle.std.specs.Prelude.{◌≡◌, [], ◌∷◌, ◌++◌, ℕ, List, Option, Some, None, get_or}
use Rattle.grammar.specs.Bytes.{Bytes}
use Rattle.grammar.specs.Listing.{kind_names, newline, field}
use Rattle.nodes.specs.declared.kind.NodeKind.{NodeKind}
use Rattle.nodes.specs.Kind.{kind_word}
use Rattle.listing.specs.declared.node.Node.{Node}
use Rattle.listing.specs.Lines.{spelled}

-- The word of a kind; none has no word.
abbrev pub word_of : Option NodeKind → Bytes
word_of None = []
word_of (Some kind) = kind_word kind

-- The node has the words in its fields; its kind has the word of the number in the first one, none where no kind has that number.
pub record IsNodeOf (words : List ℕ) (n : Node) : Type 0 where
  pub kind : word_of n.kind ≡ get_or kind_names (get_or words 0 0) []
  pub first : n.first ≡ get_or words 1 0
  pub second : n.second ≡ get_or words 2 0
  pub offset : n.offset ≡ get_or words 3 0
  pub length : n.length ≡ get_or words 4 0
  pub precedence : n.precedence ≡ get_or words 5 0

-- The line of node number `i`, with its line end: its number, the word of the kind and the five numbers, each of these behind a space.
abbrev pub node_text : ℕ → Node → Bytes
node_text i n =
    spelled i ++ 32 ∷ word_of n.kind ++ field n.first ++ field n.second ++ field n.offset ++ field n.length ++ field n.precedence ++ newline
