-- Checks 2 to 11 and 17: what is asked of the rows at each stage, what is answered, and what the rows hold of a text that is read.
use Rattle.std.specs.Prelude.{◌≡◌, Bool, true, false, List, [], ◌∷◌, ℕ, suc, ◌≤◌, ◌<◌, ltb, length, None, Some, Ok, Err, IsSomeAnd, IsOkAnd, IsErrAnd}
use Rattle.grammar.specs.Fault.{longest_text, most_tokens}
use Rattle.grammar.specs.Bytes.{Bytes}
use Rattle.grammar.specs.Outcome.{Outcome, refused, passed}
use Rattle.grammar.specs.Scan.{Placed, scan}
use Rattle.grammar.specs.Nesting.{nesting}
use Rattle.grammar.specs.Declaration.{start_table}
use Rattle.grammar.specs.Blocks.{check_blocks}
use Rattle.grammar.specs.Nodes.{count}
use Rattle.grammar.specs.Answer.{Reading, tokens_of, read_text, lost_offset}
use Rattle.rows.specs.Fields.{TokenRow, NoteRow, RootRow, kind, first_byte, Holds}
use Rattle.rows.specs.Tokens.{Paired, Stored}
use Rattle.rows.specs.Agreeing.{Agrees}
use Rattle.rows.specs.Standing.{mark}
use Rattle.rows.specs.Reading.{Ready}
use Rattle.refusals.specs.declared.Refused.{Refused}
use Rattle.refusals.specs.Numbers.{number_of}
use Rattle.std.specs.declared.option.Option.{Option}
use Rattle.std.specs.declared.result.Result.{Result}
use Rattle.checks.specs.declared.Checked.{Checked}
use Rattle.checks.specs.declared.Unread.{Unread}
use Rattle.checks.specs.declared.Unread.TheVariants as Why

module _ {A : Type 0} where
  -- The row has an entry for each token that the text can have.
  abbrev pub Roomy : Bytes → List A → Type 0
  Roomy text M = (n : ℕ) → n < length text → n < most_tokens → n < length M

-- A text that passed check 1, and rows for its tokens.
pub record Checkable (text : Bytes) (K : TokenRow) (R : NoteRow) (O : RootRow) : Type 0 where
  pub short : length text ≤ longest_text
  pub tokens : Roomy text K
  pub roles : Roomy text R
  pub roots : Roomy text O

-- After checks 2 to 5: the tokens of a text that is not blank.
pub record Tokenized (text : Bytes) (K : TokenRow) (R : NoteRow) (O : RootRow) (n : ℕ) : Type 0 where
  pub short : length text ≤ longest_text
  pub some : 0 < n
  pub placed : List Placed
  pub counted : n ≡ length placed
  pub stored : Stored text placed K
  pub tokens : Holds K n
  pub roles : Holds R n
  pub roots : Holds O n

-- After checks 6 and 7: and which token closes which; `nested` is false only where no token is of structure.
pub record Matched (text : Bytes) (K : TokenRow) (R : NoteRow) (O : RootRow) (n : ℕ) (nested : Bool) : Type 0 where
  pub scanned : Tokenized text K R O n
  pub nests : nesting [] 0 (tokens_of scanned.placed) ≡ passed tt
  pub paired : Paired K 0 n
  pub flat : nested ≡ false → (j : ℕ) → j < n → kind K j ≤ 3

-- After checks 8 to 10 and 17: and the roles in force.
pub record Classified (text : Bytes) (K : TokenRow) (R : NoteRow) (O : RootRow) (n : ℕ) (nested : Bool) : Type 0 where
  pub matched : Matched text K R O n nested
  pub declared : check_blocks (suc n) start_table 0 (tokens_of matched.scanned.placed) ≡ passed tt
  pub agrees : Agrees text K R start_table 0 n

-- The offset of token number `i`; behind the last token stands the end of the text.
unfoldable pub offset_in : Bytes → TokenRow → ℕ → ℕ → ℕ
offset_in text K n i = elim (ltb i n) [ true ↦ first_byte K i | false ↦ length text ]

-- The place of a span: the offset of its opener, 0 of the whole text.
abbrev pub span_in : Bytes → TokenRow → ℕ → Option ℕ → ℕ
span_in text K n None = 0
span_in text K n (Some i) = offset_in text K n i

-- The same refusal, at the offset of its token.
pub record PlacedIn (text : Bytes) (K : TokenRow) (n : ℕ) (r r' : Refused) : Type 0 where
  pub numbered : number_of r'.refusal ≡ number_of r.refusal
  pub placed : r'.at ≡ offset_in text K n r.at

-- Why a text is not read: number and place of the refusal; of 11 the place of the span without a tree and that at which it is lost.
abbrev pub Tells : Bytes → ℕ → ℕ → Unread → Type 0
Tells text n p (Why.Refused r at) = (number_of r ≡ n) × (at ≡ p) × (n ≡ 11 → ⊥)
Tells text n p (Why.NoTree span lost) = (n ≡ 11) × (span ≡ p) × (lost ≡ lost_offset text (scan most_tokens 0 text))

-- What is answered of a text with a token that is read: the number of tokens, that of nodes and the root, with the rows of the reading.
abbrev pub HasRead : Bytes → TokenRow → NoteRow → RootRow → Reading → Checked → Type 0
HasRead text K R O r c = (c.tokens ≡ length r.tokens) × (c.nodes ≡ count r.tree) × (suc c.root ≡ mark 0 r.tree) × Ready text K R O r

-- Of any text that is read: a blank one has no tokens.
abbrev pub Passes : Bytes → TokenRow → NoteRow → RootRow → Reading → List Placed → Option Checked → Type 0
Passes text K R O r [] c = c ≡ None
Passes text K R O r (p ∷ ps) c = IsSomeAnd c (HasRead text K R O r)

-- What is answered: why the text is not read, or what is answered of a text that is read.
-- (What the rows hold after a refusal, and of a blank text, is not said: nobody reads them.)
abbrev pub Outcomes : Bytes → TokenRow → NoteRow → RootRow → Result (Option Checked) Unread → Outcome Reading → Type 0
Outcomes text K R O c (refused n p) = IsErrAnd c (Tells text n p)
Outcomes text K R O c (passed r) = IsOkAnd c (Passes text K R O r r.tokens)

abbrev pub Checking : Bytes → TokenRow → NoteRow → RootRow → Result (Option Checked) Unread → Type 0
Checking text K R O c = Outcomes text K R O c (read_text text)

-- The same of a text that is not blank.
abbrev pub SpansChecked : Bytes → TokenRow → NoteRow → RootRow → Result Checked Unread → Type 0
SpansChecked text K R O (Err u) = Outcomes text K R O (Err u) (read_text text)
SpansChecked text K R O (Ok c) = Outcomes text K R O (Ok (Some c)) (read_text text)
