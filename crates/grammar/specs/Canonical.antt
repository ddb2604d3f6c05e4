-- Document 01, "Tidy text" (here: canonical text): brackets and zeros that mean nothing are gone, one space between tokens.
use Rattle.std.specs.Prelude.{◌≡◌, Bool, true, false, ◌&&◌, not, List, [], ◌∷◌, ◌++◌, map, eqb}
use Rattle.std.proofs.Math.Option.{Option, none, some}
use Rattle.grammar.specs.Bytes.{Bytes, bytes}
use Rattle.grammar.specs.Token.{Atom, symbol, number, quoted, Token, spelling, is_symbol}
use Rattle.grammar.specs.Operator.{Role, Table, in_force}
use Rattle.grammar.specs.Declaration.{Declaration, declares, clears, declare_all}
use Rattle.grammar.specs.SpanTree.{Position, on_left, on_right, admits, role_over, root}
use Rattle.grammar.specs.Tree.{Tree, nothing, leaf, bracket, block, node, flat, span_tree}

-- "Numbers lose leading zeros (0 remains `0`)".
unfoldable pub without_zeros : Bytes → Bytes
without_zeros [] = []
without_zeros (b ∷ d) = elim (eqb b 48) [ true ↦ without_zeros d | false ↦ b ∷ d ]

unfoldable pub or_zero : Bytes → Bytes
or_zero [] = bytes "0"
or_zero (b ∷ d) = b ∷ d

unfoldable pub strip : Bytes → Bytes
strip d = or_zero (without_zeros d)

-- ".. in declarations too."
unfoldable pub strip_declaration : Declaration → Declaration
strip_declaration (declares f a d m) = declares f a (strip d) m
strip_declaration (clears m) = clears m

-- "A name is bare if it is one word or sign, no structure word and no mark in force there; else quoted."
unfoldable pub written_name : Table → Bytes → Atom
written_name T c = elim (is_symbol c && not (in_force T c)) [ true ↦ symbol c | false ↦ quoted c ]

unfoldable pub written_atom : Table → Atom → Atom
written_atom T (symbol w) = written_name T w
written_atom T (number d) = number (strip d)
written_atom T (quoted c) = written_name T c

-- "bracket exactly those operands that their place doesn't admit": the operand `t` at the side `s` of an operator in the role.
unfoldable pub fitted : Table → Position → Option Role → Tree → Tree
fitted T s none t = t
fitted T s (some r) t = elim (admits s r (root T (span_tree t))) [ true ↦ t | false ↦ bracket t ]

-- The tree of the canonical text: "Take out every bracket, then bracket exactly those operands that their place doesn't admit."
unfoldable pub canonical : Table → Tree → Tree
canonical T nothing = nothing
canonical T (leaf a) = leaf (written_atom T a)
canonical T (bracket t) = canonical T t
canonical T (block ds t) = block (map strip_declaration ds) (canonical (declare_all T ds) t)
canonical T (node l m r) =
    node
    (fitted T on_left (role_over T (span_tree l) m (span_tree r)) (canonical T l))
    m
    (fitted T on_right (role_over T (span_tree l) m (span_tree r)) (canonical T r))

-- Parts with one space before each, and with one between.
unfoldable pub spaced_pieces : List Bytes → Bytes
spaced_pieces [] = []
spaced_pieces (p ∷ ps) = 32 ∷ p ++ spaced_pieces ps

unfoldable pub join_pieces : List Bytes → Bytes
join_pieces [] = []
join_pieces (p ∷ ps) = p ++ spaced_pieces ps

-- "Write the tokens with one space between."
unfoldable pub join_tokens : List Token → Bytes
join_tokens ts = join_pieces (map spelling ts)

unfoldable pub canonical_text : Tree → Bytes
canonical_text t = join_tokens (flat t)

-- What a bracket pair holds; any other tree itself.
unfoldable pub unwrapped : Tree → Tree
unwrapped nothing = nothing
unwrapped (leaf a) = leaf a
unwrapped (bracket t) = t
unwrapped (block ds t) = block ds t
unwrapped (node l m r) = node l m r

unfoldable pub refuses : Position → Option Role → Option Role → Bool
refuses s none o = false
refuses s (some r) o = not (admits s r o)

-- No bracket of a tree is spare: each is an operand that its place would not admit without it. The test says that of the place
-- where the tree stands.
abbrev pub NoSpare : Table → Bool → Tree → Type 0
NoSpare T needed nothing = Unit {0}
NoSpare T needed (leaf a) = Unit {0}
NoSpare T needed (bracket t) = (needed ≡ true) × NoSpare T false t
NoSpare T needed (block ds t) = NoSpare (declare_all T ds) false t
NoSpare T needed (node l m r) =
    NoSpare T (refuses on_left (role_over T (span_tree l) m (span_tree r)) (root T (span_tree (unwrapped l)))) l
    × NoSpare T (refuses on_right (role_over T (span_tree l) m (span_tree r)) (root T (span_tree (unwrapped r)))) r
