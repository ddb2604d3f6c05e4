-- What the claims say of a call, in the terms of document 01.
use Rattle.std.specs.Prelude.{◌≡◌, ◌↔◌, ◌⊎◌, List, [], ◌∷◌, ℕ, ◌*◌, ◌≤◌, ◌<◌, length, take, drop, get_or}
use Rattle.std.proofs.Math.Option.{none, some}
use Rattle.grammar.specs.Bytes.{Bytes}
use Rattle.grammar.specs.Token.{Token, Atom, characters, as_written}
use Rattle.grammar.specs.Declaration.{Declaration, start_table}
use Rattle.grammar.specs.Spelling.{Spells, TokenAt}
use Rattle.grammar.specs.Tree.{Tree, flat}
use Rattle.grammar.specs.Nodes.{count, words, words_per_node}
use Rattle.grammar.specs.Fault.{Rules, current, longest_text, BeforeEleven, FaultUnder, PastUnder}
use Rattle.grammar.specs.Decoding.{decode_table, Ordered, Together}
use Rattle.grammar.specs.NodePrecedence.{NodePrecedence}
use Rattle.grammar.specs.Answer.{over}
use Rattle.grammar.specs.Claim.{node_atoms, node_blocks, FromLetToIn, FirstWithout, LostAt, ReadingUnder, ReadingOf, canonical_bytes}
use Rattle.reader.specs.declared.Answer.{Answer}
use Rattle.reader.specs.Answered.{refused_with, written, Reads, node_written, Canonicalizes}

-- The numbers of a service's own refusals: neither 0 nor those of the checks, 1 to 11 and 17.
abbrev pub IsOwn : ℕ → Type 0
IsOwn n = (11 < n) × (n ≡ 17 → ⊥)

-- Demand 1, of any service. `Treeless text ts p`: p is the place at which it gives 11. `Own t n p`: of what is read as t it gives its own refusal
-- n at the place p. `B` is the lent buffer before the call, `B'` after it. The rules that documents 01 and 02 set (`Rules`) are a parameter.
pub record RightAnswerUnder
    (rules : Rules) (Treeless : Bytes → List Token → ℕ → Type 0) (Own : Tree → ℕ → ℕ → Type 0) (text : Bytes) (B B' : List ℕ) (a : Answer)
    : Type 0 where
  -- Rows 1 to 10 and 17, and only these, where documents 01 and 02 call for them.
  pub faults : (n p : ℕ) → ((a.number ≡ n) × (a.offset ≡ p) × BeforeEleven n) ↔ FaultUnder rules text n p
  -- 11, of texts with at least one token (02, §7).
  pub eleven :
      (p : ℕ)
      → ((a.number ≡ 11) × (a.offset ≡ p))
      ↔ ((x : Token) × (ts : List Token) × PastUnder rules text (x ∷ ts) × Treeless text (x ∷ ts) p)
  -- The rows of the service, of what the text reads as. There is no other number.
  pub own : (n p : ℕ) → ((a.number ≡ n) × (a.offset ≡ p) × IsOwn n) ↔ ((t : Tree) × ReadingUnder rules text t × Own t n p)
  -- Number 0, at place 0, exactly where the text reads as something and the service does not refuse it.
  pub success : (a.number ≡ 0) ↔ ((t : Tree) × ReadingUnder rules text t × ((n p : ℕ) → Own t n p → ⊥))
  pub place_zero : a.number ≡ 0 → a.offset ≡ 0
  -- "Refused: count 0, buffers unchanged."
  pub unchanged : (a.number ≡ 0 → ⊥) → (B' ≡ B) × (a.count ≡ 0)

-- "11: span without a tree: 0, the `(`, or the `in`"
abbrev pub RightAnswer : (Tree → ℕ → ℕ → Type 0) → Bytes → List ℕ → List ℕ → Answer → Type 0
RightAnswer = RightAnswerUnder current FirstWithout

-- A table that is long enough for a tree. "12: reading: node table too short: 0"
abbrev pub TableFits : List ℕ → Tree → Type 0
TableFits N t = words_per_node * count t ≤ length N

abbrev pub TableTooShort : List ℕ → Tree → ℕ → ℕ → Type 0
TableTooShort N t n p = (n ≡ 12) × (p ≡ 0) × (length N < words_per_node * count t)

-- "13: tidying: tidy text over the buffer or 16,384: 0"
abbrev pub BufferTooShort : List ℕ → Tree → ℕ → ℕ → Type 0
BufferTooShort B t n p =
    let c = length (canonical_bytes t) in (n ≡ 13) × (p ≡ 0) × ((length B < c) ⊎ (longest_text < c))

-- Locating refuses nothing that is read, counts nothing and writes nothing.
abbrev pub NoneOwn : Tree → ℕ → ℕ → Type 0
NoneOwn t n p = ⊥

abbrev pub NothingHeld : List ℕ → ℕ → Tree → Type 0
NothingHeld C c t = (c ≡ 0) × (C ≡ [])

-- Demand 2: what the node table holds of the tree `t` where `c` nodes were counted.
pub record TableHolds (text : Bytes) (N N' : List ℕ) (c : ℕ) (t : Tree) : Type 0 where
  pub counted : c ≡ count t
  -- The text and the words give the tree back: "the root last".
  pub decodes : decode_table text N' c ≡ some t
  -- "Children come before parents, left before right .. so the words of a subtree stand together in the node table."
  pub ordered : (k : ℕ) → k < c → Ordered N' k
  pub together : (k : ℕ) → k < c → Together text N' k
  -- The words are those of the tree, under the starting operators, over the offsets at which the text's tokens begin.
  pub offsets : ℕ → ℕ
  pub begins : (i : ℕ) → i ≤ length (flat t) → TokenAt text (flat t) i (offsets i)
  pub written : take (words_per_node * c) N' ≡ words offsets start_table t 0 0
  -- "Offset and length give .. the number's digits or the operator's mark", and of a name "the bytes as written between the outer quotes"
  -- (02, §5); "a block has `let` to `in` inclusive."
  pub parts : (k : ℕ) (a : Atom) → get_or (node_atoms t) k none ≡ some a → node_written text N' k ≡ as_written a
  pub declarations : (k : ℕ) (ds : List Declaration) → get_or (node_blocks t) k none ≡ some ds → FromLetToIn ds (node_written text N' k)
  -- 02, §6: "the sixth is the level at which it was read, and 0 for names, numbers, brackets and blocks".
  pub precedences : (k : ℕ) → k < c → NodePrecedence text (flat t) N' k
  -- "Words beyond the nodes keep their contents."
  pub behind : drop (words_per_node * c) N' ≡ drop (words_per_node * c) N

-- Node number `k` of a table that `read` left for the text is that of the name, number or operator `x`.
pub record AtomAt (text : Bytes) (N : List ℕ) (k : ℕ) (x : Atom) : Type 0 where
  pub before : List ℕ
  pub answer : Answer
  pub call : Reads text before N answer
  pub success : answer.number ≡ 0
  pub tree : Tree
  pub reading : ReadingOf text tree
  pub node : get_or (node_atoms tree) k none ≡ some x

-- 02, §5: what a call answers and leaves that writes the characters of a name, number or operator into the buffer `B`: their count; or 13 where
-- the buffer is too short, and then no byte changes.
pub record NameWritten (a : Atom) (B B' : List ℕ) (r : Answer) : Type 0 where
  pub fits : length (characters a) ≤ length B → (r ≡ written (length (characters a))) × (B' ≡ over (characters a) B)
  pub too_short : length B < length (characters a) → (r ≡ refused_with 13 0) × (B' ≡ B)

-- What the buffer holds of the canonical text of the tree `t` where `c` bytes were counted.
pub record BufferHolds (B B' : List ℕ) (c : ℕ) (t : Tree) : Type 0 where
  pub counted : c ≡ length (canonical_bytes t)
  pub text : take c B' ≡ canonical_bytes t
  -- "Bytes of the buffer past the tidy text keep their contents."
  pub behind : drop c B' ≡ drop c B

-- All that is asked of a call: the answer, and that the buffer holds what a text is read as.
pub record Right
    (rules : Rules) (Treeless : Bytes → List Token → ℕ → Type 0) (Own : Tree → ℕ → ℕ → Type 0) (Holds : List ℕ → ℕ → Tree → Type 0)
    (text : Bytes) (B B' : List ℕ) (a : Answer)
    : Type 0 where
  pub answers : RightAnswerUnder rules Treeless Own text B B' a
  pub held : a.number ≡ 0 → (t : Tree) → ReadingUnder rules text t → Holds B' a.count t

-- Of a call of `read`, of one of `canonicalize`, and of one of `locate`, which gives 11 where the text is lost.
abbrev pub RightReading : Rules → Bytes → List ℕ → List ℕ → Answer → Type 0
RightReading rules text N N' a = Right rules FirstWithout (TableTooShort N) (TableHolds text N) text N N' a

abbrev pub RightCanonical : Rules → Bytes → List ℕ → List ℕ → Answer → Type 0
RightCanonical rules text B B' a = Right rules FirstWithout (BufferTooShort B) (BufferHolds B) text B B' a

abbrev pub RightPlace : Bytes → Answer → Type 0
RightPlace text a = Right current LostAt NoneOwn NothingHeld text [] [] a

-- A call is what is asked for under those rules, and nothing else is.
abbrev pub OnlyReading : Rules → Bytes → List ℕ → List ℕ → Answer → Type 0
OnlyReading rules text N N' a =
    RightReading rules text N N' a × ((N'' : List ℕ) (b : Answer) → RightReading rules text N N'' b → (a ≡ b) × (N' ≡ N''))

abbrev pub OnlyCanonical : Rules → Bytes → List ℕ → List ℕ → Answer → Type 0
OnlyCanonical rules text B B' a =
    RightCanonical rules text B B' a × ((B'' : List ℕ) (b : Answer) → RightCanonical rules text B B'' b → (a ≡ b) × (B' ≡ B''))

-- A text that `canonicalize` wrote, from whatever text into whatever buffer: its tokens `ts`, and what it reads as.
pub record Canonicalized (ts : List Token) (t : Tree) : Type 0 where
  pub text : Bytes
  pub buffer : List ℕ
  pub buffer' : List ℕ
  pub answer : Answer
  pub call : Canonicalizes text buffer buffer' answer
  pub written : answer.number ≡ 0
  pub spelled : Spells (take answer.count buffer') ts
  pub reading : ReadingOf (take answer.count buffer') t
