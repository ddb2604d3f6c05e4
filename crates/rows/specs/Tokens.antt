-- What a row of tokens holds: the tokens of a text, by kind, where their bytes begin and how many they are, and which closes which. Of a
-- quoted name these are the bytes as written between the outer quotes.
use Rattle.std.specs.Prelude.{◌≡◌, true, false, List, [], ◌∷◌, map, ℕ, zero, suc, ◌-◌, ◌≤◌, ◌<◌, eqb, length, take, drop, get_or}
use Rattle.grammar.specs.Bytes.{Bytes}
use Rattle.grammar.specs.Fault.{most_tokens}
use Rattle.grammar.specs.Token.{Token, Atom, atom, structure, symbol, number, quoted, opening, closing, semicolon}
use Rattle.grammar.specs.Token.{keyword_let, keyword_in, keyword_end, Structure, as_written, undoubled}
use Rattle.grammar.specs.Outcome.{passed}
use Rattle.grammar.specs.Scan.{Placed, scan}
use Rattle.grammar.specs.Coded.{kind_of, token_of}
use Rattle.rows.specs.declared.token.Token as Row
use Rattle.rows.specs.Fields.{TokenRow, kind, start, size, closer}

-- The bytes of token number `i`, as written in the text.
abbrev pub written_of : Bytes → List Row.Token → ℕ → Bytes
written_of text K i = take (size K i) (drop (start K i) text)

-- Token number `i`, and the atom that it is if it is one.
unfoldable pub token_in : Bytes → List Row.Token → ℕ → Token
token_in text K i = token_of (kind K i) (written_of text K i)

unfoldable pub atom_of : ℕ → Bytes → Atom
atom_of k w = elim (eqb k 1) [ true ↦ symbol w | false ↦ elim (eqb k 2) [ true ↦ number w | false ↦ quoted (undoubled w) ] ]

unfoldable pub atom_in : Bytes → List Row.Token → ℕ → Atom
atom_in text K i = atom_of (kind K i) (written_of text K i)

-- `n` tokens from number `i` on, and those from number `i` to number `to`.
unfoldable pub tokens_in : Bytes → List Row.Token → ℕ → ℕ → List Token
tokens_in text K i zero = []
tokens_in text K i (suc n) = token_in text K i ∷ tokens_in text K (suc i) n

abbrev pub range : Bytes → List Row.Token → ℕ → ℕ → List Token
range text K i to = tokens_in text K i (to - i)

-- The kinds of atoms, and of what can stand among declarations: atoms and `;`.
abbrev pub IsAtomKind : ℕ → Type 0
IsAtomKind k = (1 ≤ k) × (k ≤ 3)

abbrev pub IsQuietKind : ℕ → Type 0
IsQuietKind k = (1 ≤ k) × (k ≤ 6) × (k ≡ 4 → ⊥) × (k ≡ 5 → ⊥)

-- The tokens from number `i` to number `to` are items one behind the other: atoms, bracket pairs and blocks, with their closers.
pub data Paired (K : TokenRow) : ℕ → ℕ → Type 0 where
  done : {to : ℕ} → Paired K to to
  single : {i to : ℕ} → i < to → IsAtomKind (kind K i) → Paired K (suc i) to → Paired K i to
  bracket :
      {i to : ℕ} (c : ℕ) → kind K i ≡ 4 → closer K i ≡ c → i < c → c < to → kind K c ≡ 5
      → Paired K (suc i) c → Paired K (suc c) to → Paired K i to
  block :
      {i to : ℕ} (c e : ℕ) → kind K i ≡ 7 → closer K i ≡ c → closer K c ≡ e → i < c → c < e → e < to → kind K c ≡ 8 → kind K e ≡ 9
      → ((j : ℕ) → i < j → j < c → IsQuietKind (kind K j)) → Paired K (suc c) e → Paired K (suc e) to → Paired K i to

-- None of `n` tokens is the `in` of a block.
abbrev pub Unblocked : List Row.Token → ℕ → Type 0
Unblocked K n = (j : ℕ) → j < n → kind K j ≡ 8 → ⊥

-- Where the bytes of a placed token begin: behind the quote of a quoted name.
unfoldable pub place_of : Token → ℕ → ℕ
place_of (atom (symbol w)) at = at
place_of (atom (number d)) at = at
place_of (atom (quoted c)) at = suc at
place_of (structure s) at = at

-- How many they are. Brackets have none: only canonical text gives them their byte again.
unfoldable pub structure_size : Structure → ℕ
structure_size opening = 0
structure_size closing = 0
structure_size semicolon = 1
structure_size keyword_let = 3
structure_size keyword_in = 2
structure_size keyword_end = 3

unfoldable pub size_of : Token → ℕ
size_of (atom a) = length (as_written a)
size_of (structure s) = structure_size s

abbrev pub kind_at : Placed → ℕ
kind_at p = kind_of p.token

abbrev pub place_at : Placed → ℕ
place_at p = place_of p.token p.start

abbrev pub size_at : Placed → ℕ
size_at p = size_of p.token

-- The row begins with the tokens of the text.
pub record Stored (text : Bytes) (ps : List Placed) (K : TokenRow) : Type 0 where
  pub scanned : scan most_tokens 0 text ≡ passed ps
  pub kinds : (j : ℕ) → j < length ps → kind K j ≡ get_or (map kind_at ps) j 0
  pub starts : (j : ℕ) → j < length ps → start K j ≡ get_or (map place_at ps) j 0
  pub sizes : (j : ℕ) → j < length ps → size K j ≡ get_or (map size_at ps) j 0
