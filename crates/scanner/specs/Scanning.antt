-- What the scanner answers and writes.
use Rattle.std.specs.Prelude.{◌≡◌, false, ℕ, ◌≤◌, ◌<◌, length, take, List, IsOkAnd, IsErrAnd}
use Rattle.std.specs.declared.result.Result.{Result}
use Rattle.grammar.specs.Fault.{longest_text, most_tokens}
use Rattle.grammar.specs.Bytes.{Bytes}
use Rattle.grammar.specs.Token.{Token, spelling, doubled}
use Rattle.grammar.specs.Outcome.{Outcome, refused, passed}
use Rattle.grammar.specs.Scan.{Placed, characters_at}
use Rattle.grammar.specs.Scan as Scan
use Rattle.grammar.specs.Coded.{kind_of}
use Rattle.refusals.specs.declared.Refusal.{Refusal}
use Rattle.refusals.specs.declared.Refused.{Refused}
use Rattle.refusals.specs.Numbers.{number_of, Refuses}
use Rattle.rows.specs.Kinds.{kind_code}
use Rattle.rows.specs.Fields.{TokenRow, token, Within, kind, start, size}
use Rattle.rows.specs.Tokens.{place_of, size_of, Stored}
use Rattle.scanner.specs.declared.fronts.Front.{Front}
use Rattle.scanner.specs.declared.scan.Scanned.{Scanned}

-- How many bytes the first character of a quoted name has, as written: none where none stands.
abbrev pub first_size : Bytes → ℕ
first_size s = length (doubled (take 1 (characters_at s)))

-- A token at the front as the code has it: the kind and the length of `t`.
pub record IsFront (t : Token) (n : ℕ) (f : Front) : Type 0 where
  pub coded : kind_code f.kind ≡ kind_of t
  pub long : f.size ≡ n

-- What stands at the front of bytes, as the code answers it: the refusal with 01's number, or the kind and length of the token. (It is
-- asked where a byte stands.)
abbrev pub Fronts : Scan.Front → Result Front Refusal → Type 0
Fronts Scan.nothing r = Unit {0}
Fronts (Scan.wrong k) r = IsErrAnd r (λ e. number_of e ≡ k)
Fronts (Scan.taken t n) r = IsOkAnd r (IsFront t n)

-- The same for every token of a kind: the code has the kind alone.
abbrev pub OfKind : ℕ → (Token → Scan.Front) → Result Front Refusal → Type 0
OfKind k f r = (t : Token) → kind_of t ≡ k → Fronts (f t) r

-- A text that passed check 1, and a row with an entry for each of its tokens: no more than its bytes, and no more than there may be.
pub record Scannable (text : Bytes) (K : TokenRow) : Type 0 where
  pub short : length text ≤ longest_text
  pub room : (n : ℕ) → n < length text → n < most_tokens → n < length K

-- What storing a token takes: an entry of the row, and a place and a size that a word holds; a quoted name has its quotes.
pub record Storable (K : TokenRow) (n k at m : ℕ) : Type 0 where
  pub within : Within K n
  pub place : at < longest_text
  pub short : m ≤ longest_text
  pub quotes : k ≡ 3 → 2 ≤ m

-- Token number `n`, which begins at `at`, is stored, and the tokens before it are kept.
pub record TokenStored (K K' : TokenRow) (n at : ℕ) (t : Token) : Type 0 where
  pub kinds : kind K' n ≡ kind_of t
  pub starts : start K' n ≡ place_of t at
  pub sizes : size K' n ≡ size_of t
  pub kept : (j : ℕ) → j < n → token K' j ≡ token K j

-- The same for every token of a kind and of so many bytes.
abbrev pub Stores : TokenRow → TokenRow → ℕ → ℕ → ℕ → ℕ → Type 0
Stores K K' n k at m = (t : Token) → kind_of t ≡ k → length (spelling t) ≡ m → TokenStored K K' n at t

-- 01's number and place of a refusal; or how many tokens, which the row holds, and whether one may be of structure.
abbrev pub Scans : Bytes → TokenRow → Outcome (List Placed) → Result Scanned Refused → Type 0
Scans text K (refused n p) r = Refuses n p r
Scans text K (passed ps) r =
    IsOkAnd r (λ s. (s.count ≡ length ps) × Stored text ps K × (s.nested ≡ false → (j : ℕ) → j < length ps → kind K j ≤ 3))
