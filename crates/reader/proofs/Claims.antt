-- The three demands, of every call. `Reads text N N' a` is the promise of `read`: `a` is its answer, `N` the node table before the call, `N'`
-- after it; `Canonicalizes text B B' a` is that of `canonicalize`, with the buffer `B`. Every call meets them, and there is nothing that a
-- caller has to see to. That every call ends and nothing undefined happens is part of each function's proof.
-- `Fault text n p`: row n of document 01's table, or 17 of document 02, §9, holds of the text at the place p, and none earlier in the order.
-- `Past text ts`: no row from 1 to 10 does, nor 17, and the text spells the tokens ts. "Checks 1 to 10" are those with 17 among them.
-- `TreeOf text t`: t is a tree of the text, which is past them. `Blank text`: the text is empty or all blanks, past check 1. `ReadingOf text t`:
-- the text reads as t, which is its tree, or `blank_rule` of a blank text. Both services, demand 2 and the comparison speak of what is read.
use mathlib.Core.Path.{◌≡◌}
use mathlib.Core.Logic.{◌↔◌}
use mathlib.Core.Bool.{true}
use mathlib.Core.List.{List, [], ◌∷◌, ◌++◌}
use Prim.Native.Nat.{ℕ, ◌≤◌, ◌<◌}
use lib.ListN.{length, take}
use Rattle.grammar.specs.Bytes.{Bytes}
use Rattle.grammar.specs.Token.{Token, Atom, atom, structure, opening, characters, as_written, spelling, is_number, is_token}
use Rattle.grammar.specs.Spelling.{Spells}
use Rattle.grammar.specs.Operator.{Fixity, Associativity, Table, role, Conditions, Permitted, conditions}
use Rattle.grammar.specs.Declaration.{declares, start_table, is_reserved, value}
use Rattle.grammar.specs.Spans.{Span, SpanOf}
use Rattle.grammar.specs.Span.{Item}
use Rattle.grammar.specs.SpanTree.{SpanTree, IsSpanTree, Admitted, root, root_precedence, yield}
use Rattle.grammar.specs.Tree.{Tree, IsTree}
use Rattle.grammar.specs.Blank.{Blank}
use Rattle.grammar.specs.NodePrecedence.{NodePrecedence}
use Rattle.grammar.specs.Widest.{widest}
use Rattle.grammar.specs.Abstract.{Agree}
use Rattle.grammar.specs.Canonical.{strip, strip_declaration}
use Rattle.grammar.specs.MatchingPair.{MatchingPair, remaining}
use Rattle.grammar.specs.Fault.{current, without_reserving, with_four_conditions, longest_text, Fault, Past, Unreserved, Conditioned}
use Rattle.grammar.specs.Claim.{
  BlocksLawful,
  operators_among,
  operators_of,
  FirstWithout,
  EmptyInside,
  TreeOf,
  ReadingOf,
  canonical_tree,
  canonical_bytes,
  Faithful,
}
use Rattle.grammar.proofs.Numbers as Numbers
use Rattle.grammar.proofs.Scanned as Scanned
use Rattle.grammar.proofs.Names as Names
use Rattle.grammar.proofs.StripDeclarations as StripDeclarations
use Rattle.grammar.proofs.ClimbExact.{climb_unique}
use Rattle.grammar.proofs.WidestRoot.{root-widest}
use Rattle.grammar.proofs.TreeOperators as TreeOperators
use Rattle.grammar.proofs.Faults as Faults
use Rattle.grammar.proofs.MatchingPairs as MatchingPairs
use Rattle.grammar.proofs.BlankTexts as BlankTexts
use Rattle.grammar.proofs.Rules as Rules
use Rattle.grammar.proofs.BlankRules as BlankRules
use Rattle.grammar.proofs.ReservedRoles as ReservedRoles
use Rattle.reader.specs.declared.Answer.{Answer}
use Rattle.reader.specs.Answered.{written, Reads, Canonicalizes, node_written, WritesName}
use Rattle.reader.specs.Demands.{
  RightAnswer,
  TableFits,
  TableTooShort,
  BufferTooShort,
  TableHolds,
  BufferHolds,
  RightReading,
  RightCanonical,
  OnlyReading,
  OnlyCanonical,
  Canonicalized,
  AtomAt,
  NameWritten,
}
use Rattle.reader.proofs.ReadCalls as ReadCalls
use Rattle.reader.proofs.NameCalls as NameCalls
use Rattle.reader.proofs.CanonicalCalls as CanonicalCalls
use Rattle.reader.proofs.BlankCalls as BlankCalls
use Rattle.reader.proofs.Settled as Settled

-- Demand 1. Whatever bytes come in: a reading, or one of the numbered refusals with its place, each exactly where documents 01 and 02 call for it;
-- a refusal changes no word or byte of the lent buffers.
pub read_answers : (text : Bytes) (N N' : List ℕ) (a : Answer) → Reads text N N' a → RightAnswer (TableTooShort N) text N N' a
read_answers = ReadCalls.answers

pub canonicalize_answers : (text : Bytes) (B B' : List ℕ) (a : Answer) → Canonicalizes text B B' a → RightAnswer (BufferTooShort B) text B B' a
canonicalize_answers = CanonicalCalls.answers

-- At most one of the rows 1 to 10 and 17 holds of a text, at one place.
pub one_fault : (text : Bytes) (n m p q : ℕ) → Fault text n p → Fault text m q → (n ≡ m) × (p ≡ q)
one_fault = Faults.fault_unique

-- Demand 2. A reading is a tree of the text's own tokens in their order, every operand admitted, under the declarations in force there:
-- `TreeOf`. The node table holds it, and nothing of a blank text.
pub tree_held :
    (text : Bytes) (N N' : List ℕ) (a : Answer) → Reads text N N' a → a.number ≡ 0 → (t : Tree) → ReadingOf text t → TableHolds text N N' a.count t
tree_held = ReadCalls.tree_held

-- Every block of it has allowed declarations, none of a reserved operator, and operators that keep the overloading rule.
pub blocks_lawful : (text : Bytes) (t : Tree) → ReadingOf text t → BlocksLawful start_table t
blocks_lawful = Rules.reading_lawful

-- The buffer holds the canonical text of what the text reads as.
pub canonical-written :
    (text : Bytes) (B B' : List ℕ) (a : Answer) → Canonicalizes text B B' a → a.number ≡ 0 → (t : Tree) → ReadingOf text t
    → BufferHolds B B' a.count t
canonical-written = CanonicalCalls.written

-- It reads back to the canonical tree, with every table that is long enough for that tree, ..
pub canonical_reads_back :
    (text : Bytes) (B B' : List ℕ) (a : Answer) → Canonicalizes text B B' a → a.number ≡ 0 → (t : Tree) → ReadingOf text t
    → (N N' : List ℕ) (b : Answer) → Reads (take a.count B') N N' b → TableFits N (canonical_tree t)
    → (b.number ≡ 0) × TableHolds (take a.count B') N N' b.count (canonical_tree t)
canonical_reads_back = CanonicalCalls.reads_back

-- .. which agrees with the rule's tree and has no spare bracket.
pub canonical_faithful : (text : Bytes) (t : Tree) → ReadingOf text t → Faithful t
canonical_faithful = Rules.canonical_faithful

pub canonical_is_read :
    (text : Bytes) (t : Tree) → ReadingOf text t → length (canonical_bytes t) ≤ longest_text → ReadingOf (canonical_bytes t) (canonical_tree t)
canonical_is_read = Rules.canonical-read

-- Demands 1 and 2 settle the answer and every word and byte: whatever else meets them is the same.
pub read_settled :
    (text : Bytes) (N N' N'' : List ℕ) (a b : Answer) → Reads text N N' a → RightReading current text N N'' b → (a ≡ b) × (N' ≡ N'')
read_settled = Settled.read_settled

pub canonicalize_settled :
    (text : Bytes) (B B' B'' : List ℕ) (a b : Answer) → Canonicalizes text B B' a → RightCanonical current text B B'' b → (a ≡ b) × (B' ≡ B'')
canonicalize_settled = Settled.canonicalize_settled

-- Demand 3. Any two trees of one text are the same tree, whatever overloading the table check let through, ..
pub one_tree : (text : Bytes) (t u : Tree) → TreeOf text t → TreeOf text u → t ≡ u
one_tree = Rules.same_tree

-- .. and that is what a text with at least one token reads as.
pub reading_is_tree : (text : Bytes) (x : Token) (ts : List Token) → Past text (x ∷ ts) → (t : Tree) → ReadingOf text t ↔ TreeOf text t
reading_is_tree = BlankRules.reading_exactly

-- A text past checks 1 to 10 with at least one token has a first span without a tree, and so is refused with 11, exactly where it has no tree.
pub treeless :
    (text : Bytes) (x : Token) (ts : List Token) → Past text (x ∷ ts)
    → ((t : Tree) → IsTree start_table (x ∷ ts) t → ⊥) ↔ ((p : ℕ) × FirstWithout text (x ∷ ts) p)
treeless = Rules.treeless_exactly

-- Two rules' canonical texts, in buffers of whatever lengths, are the same bytes exactly where their trees, brackets removed, and their
-- blocks' declarations agree.
pub same_bytes :
    (text other : Bytes) (B B' C C' : List ℕ) (a b : Answer) → Canonicalizes text B B' a → Canonicalizes other C C' b
    → a.number ≡ 0 → b.number ≡ 0 → (t u : Tree) → ReadingOf text t → ReadingOf other u → (take a.count B' ≡ take b.count C') ↔ Agree t u
same_bytes = CanonicalCalls.same_bytes

-- Document 02, §2: "A rule under either sort of table still has at most one tree". `one_tree` says it of a text; of a span it holds under all
-- operators that keep the overloading rule: no operator has both an infix and a postfix role, or every one meets the four conditions.
pub one_span_tree :
    (T : Table) → Permitted T → (is : List Item) (s u : SpanTree) → IsSpanTree T is s → IsSpanTree T is u → s ≡ u
one_span_tree = climb_unique

-- The operators of a tree are the words and signs of the span with a role in force, in their order, and no others, whatever the table.
pub tree_operators : (T : Table) (s : SpanTree) → Admitted T s → operators_of s ≡ operators_among T (yield s)
tree_operators = TreeOperators.tree_operators

-- "the widest level of a span is sought among roles in use": the root of a tree has the widest precedence of the roles in which its operators
-- stand, whatever the table. It follows and is not asked besides.
pub widest-root : (T : Table) (s : SpanTree) → Admitted T s → root_precedence (root T s) ≡ widest T s
widest-root = root-widest

-- "Refusal 10 covers less than before": a table that passed before passes still, ..
pub passes_still : (T : Table) → Conditions T → Permitted T
passes_still T h = conditions h

-- .. and a text that the four conditions, asked of every table, would not refuse with 10 has the answer and the buffer of a reader that asks
-- them of every table, so the same tree and the same canonical text.
pub read_as_with_conditions :
    (text : Bytes) → Conditioned text → (N N' : List ℕ) (a : Answer) → Reads text N N' a → OnlyReading with_four_conditions text N N' a
read_as_with_conditions = Settled.read_conditioned

pub canonicalize_as_with_conditions :
    (text : Bytes) → Conditioned text → (B B' : List ℕ) (a : Answer) → Canonicalizes text B B' a → OnlyCanonical with_four_conditions text B B' a
canonicalize_as_with_conditions = Settled.canonicalize_conditioned

-- Document 02, §3: "two numbers are copied alike exactly when their values are equal", ..
pub same_digits : (d e : Bytes) → is_number d ≡ true → is_number e ≡ true → (value d ≡ value e) ↔ (strip d ≡ strip e)
same_digits = Numbers.same_digits

-- .. "levels included": two declarations that differ at most in the digits of their precedence.
pub same_precedences :
    (f : Fixity) (a : Associativity) (m d e : Bytes) → is_number d ≡ true → is_number e ≡ true
    → (value d ≡ value e) ↔ (strip_declaration (declares f a d m) ≡ strip_declaration (declares f a e m))
same_precedences = StripDeclarations.same_precedences

-- Document 02, §5: "Inside a quoted name, two quotes in a row now stand for one quote character." What is written for a name reads back to it,
-- whatever its characters: every token, so every quoted name, is what its spelling spells. (No text spells another: `one_spelling`.)
pub token_read_back : (t : Token) → is_token t ≡ true → Spells (spelling t) (t ∷ [])
token_read_back = Scanned.token_spelled

pub one_spelling : (text : Bytes) (ts us : List Token) → Spells text ts → Spells text us → ts ≡ us
one_spelling text ts us h g = Scanned.spells_unique h g

-- Two names have the same characters exactly if their bytes as written, without the outer quotes, are the same, bare or quoted: the bytes as
-- written are the characters with each quote doubled, which a bare name does not have. (So with numbers and operators.)
pub same_names :
    (a b : Atom) → is_token (atom a) ≡ true → is_token (atom b) ≡ true → (characters a ≡ characters b) ↔ (as_written a ≡ as_written b)
same_names = Names.written_alike

-- `AtomAt text N k x`: node k of a table that `read` left for the text is that of the name, number or operator x. It gives the bytes as written
-- (`tree_held`), and these are what `as_written` hands out (`node_written`). So comparing two such parts of texts tells names apart by their
-- characters, although a name's characters are not always a part of the text.
pub parts_compared :
    (text other : Bytes) (N M : List ℕ) (k l : ℕ) (x y : Atom) → AtomAt text N k x → AtomAt other M l y
    → (node_written text N k ≡ node_written other M l) ↔ (characters x ≡ characters y)
parts_compared = NameCalls.parts_compared

-- `WritesName text N k B B' r` is the promise of `write_name` for node k of any table. Of such a node it writes the characters.
pub name_written :
    (text : Bytes) (N : List ℕ) (k : ℕ) (x : Atom) → AtomAt text N k x → (B B' : List ℕ) (r : Answer) → WritesName text N k B B' r
    → NameWritten x B B' r
name_written = NameCalls.name_written

-- Document 02, §6: "the sixth is the level at which it was read, and 0 for names, numbers, brackets and blocks. .. It must equal the level of the
-- mark's role in the table in force there." Of every node of every text that is read: an operator's node has the precedence of the role of its
-- fixity, in the operators in force in the span where the operator stands; any other node has 0. (`tree_held` says it of the tree, too.)
pub node_precedences :
    (text : Bytes) (N N' : List ℕ) (a : Answer) → Reads text N N' a → a.number ≡ 0 → (ts : List Token) → Past text ts
    → (k : ℕ) → k < a.count → NodePrecedence text ts N' k
node_precedences = ReadCalls.node_precedences

-- Document 02, §7: "A text that is empty or all blanks, past check 1, is now read: no nodes, and an empty tidy text". With any table and any
-- buffer, of length 0 too; no word and no byte changes. No other text is read with nothing written.
pub blank-read : (text : Bytes) (N N' : List ℕ) (a : Answer) → Reads text N N' a → Blank text ↔ ((a ≡ written 0) × (N' ≡ N))
blank-read = BlankCalls.blank-read

pub blank_canonicalized :
    (text : Bytes) (B B' : List ℕ) (a : Answer) → Canonicalizes text B B' a → Blank text ↔ ((a ≡ written 0) × (B' ≡ B))
blank_canonicalized = BlankCalls.blank_canonicalized

-- "for the rest the reading is fixed here": a text past checks 1 to 10 without a token is a blank one.
pub blank_past : (text : Bytes) → Blank text ↔ Past text []
blank_past = BlankTexts.blank_past

-- "blank rules agree with each other and with no other rule."
pub blank_agreement :
    (text other : Bytes) (t u : Tree) → ReadingOf text t → ReadingOf other u → Blank text → Agree t u ↔ Blank other
blank_agreement = BlankRules.blank_agreement

-- "An empty bracket pair or block body is refused with 11 as before", where nothing comes before 11.
pub empty_inside_read : (text : Bytes) → EmptyInside text → (N N' : List ℕ) (a : Answer) → Reads text N N' a → a.number ≡ 11
empty_inside_read = BlankCalls.empty_inside_read

pub empty_inside_canonicalized :
    (text : Bytes) → EmptyInside text → (B B' : List ℕ) (a : Answer) → Canonicalizes text B B' a → a.number ≡ 11
empty_inside_canonicalized = BlankCalls.empty_inside_canonicalized

-- Document 02, §9: "Every reading made before without such a block is still the reading". Where no declaration of the text names a reserved
-- operator, the answer and the buffer are those of a reader without the rule: all that is asked of one where none is reserved holds of the
-- call, and nothing else meets it.
pub read_as_before :
    (text : Bytes) → Unreserved text → (N N' : List ℕ) (a : Answer) → Reads text N N' a → OnlyReading without_reserving text N N' a
read_as_before = Settled.read_unreserved

pub canonicalize_as_before :
    (text : Bytes) → Unreserved text → (B B' : List ℕ) (a : Answer) → Canonicalizes text B B' a → OnlyCanonical without_reserving text B B' a
canonicalize_as_before = Settled.canonicalize_unreserved

-- In every span, and so in every block, `and`, `or` and `not` have the roles that they start with.
pub reserved_roles :
    (m : Bytes) → is_reserved m ≡ true → (f : Fixity) (text : Bytes) (ts : List Token) → Past text ts → (s : Span) → SpanOf ts s
    → role s.table m f ≡ role start_table m f
reserved_roles = ReservedRoles.reserved_roles

-- Document 02, §14. `Canonicalized ts t`: a text that `canonicalize` wrote, from whatever text into whatever buffer, has the tokens ts and reads
-- as t. Every call with the number 0 writes one.
pub canonicalized :
    (text : Bytes) (B B' : List ℕ) (a : Answer) → Canonicalizes text B B' a → a.number ≡ 0 → (ts : List Token) × (t : Tree) × Canonicalized ts t
canonicalized = CanonicalCalls.canonicalized

-- "no text with that same bracketless tree and the same declarations has fewer tokens": whatever tree another text has under the starting
-- operators, past the checks or not. (A blank text has no tree. It agrees with blank rules alone, whose canonical text has no token.)
pub fewest_tokens :
    (ts us : List Token) (t u : Tree) (other : Bytes) → Canonicalized ts t → Spells other us → IsTree start_table us u → Agree t u
    → length ts ≤ length us
fewest_tokens = CanonicalCalls.fewest_tokens

-- "drop any one matching pair of brackets from a tidy text, and the remaining tokens have no tree or a tree that differs from the old one once
-- brackets are taken out of both": no tree of them agrees with the old one.
pub bracket_needed :
    (ts : List Token) (t u : Tree) → Canonicalized ts t → (pair : MatchingPair ts) → IsTree start_table (remaining pair) u → Agree t u → ⊥
bracket_needed = CanonicalCalls.bracket_needed

-- Every opening bracket of a text past checks 1 to 10, so of a canonical text, is that of one matching pair.
pub one_pair :
    (text : Bytes) (ts : List Token) → Past text ts → (before rest : List Token) → ts ≡ before ++ structure opening ∷ rest
    → (p : MatchingPair ts) × (p.before ≡ before) × ((q : MatchingPair ts) → q.before ≡ before → q.inside ≡ p.inside)
one_pair = MatchingPairs.one_pair
