-- The kinds of nodes and grammar's numbers and words for them.
use Rattle.std.specs.Prelude.{◌≡◌, [], ℕ, ◌≤◌, ◌<◌, get_or, Result, MatchResult}
use Rattle.grammar.specs.Bytes.{Bytes}
use Rattle.grammar.specs.Nodes.{name_kind, number_kind, prefix_kind, infix_kind, postfix_kind, bracket_kind, block_kind}
use Rattle.grammar.specs.Listing.{kind_names}
use Rattle.nodes.specs.declared.kind.NodeKind.{NodeKind}
use Rattle.nodes.specs.declared.kind.NodeKind.TheVariants.{Name, Number, Prefix, Infix, Postfix, Bracket, Block}
use Rattle.nodes.specs.declared.kind.UnknownKind.{UnknownKind}

-- The number of a kind in the node table, which is also what `as u32` gives.
abbrev pub kind_number : NodeKind → ℕ
kind_number Name = name_kind
kind_number Number = number_kind
kind_number Prefix = prefix_kind
kind_number Infix = infix_kind
kind_number Postfix = postfix_kind
kind_number Bracket = bracket_kind
kind_number Block = block_kind

-- The word of a kind in the listing.
abbrev pub kind_word : NodeKind → Bytes
kind_word kind = get_or kind_names (kind_number kind) []

-- The result is the kind with this number, or an error with a number that no kind has: 0, or one above those of the kinds.
abbrev pub Decodes : ℕ → Result NodeKind UnknownKind → Type 0
Decodes n r = MatchResult r (λ kind. kind_number kind ≡ n) (λ e. (e.0 ≡ n) × (1 ≤ n → block_kind < n))
