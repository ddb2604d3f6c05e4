-- The bytes of a token that a row holds: where they begin, how many they are, and what of the token stands behind them.
-- A quoted name has a quote on each side of them, and of a bracket there are none.
use mathlib.Core.Path.{◌≡◌, refl, sym, ap, ◌∙◌}
use mathlib.Core.Bool.{true, ◌&&◌, ◌||◌, not, true≢false}
use mathlib.Core.List.{[], ◌∷◌, ◌++◌}
use Prim.Native.Nat.{ℕ, suc, ◌+◌, ◌≤◌, ◌<◌}
use native.Mathlib.Numerals.{add-one}
use native.Mathlib.Omega.{arith}
use lib.Dec.{leb}
use lib.ListN.{length, take, drop, length-append}
use borrow.Author.Tests.{leb-true}
use Rattle.grammar.specs.Bytes.{Bytes, every}
use Rattle.grammar.specs.Token.{
  Token,
  Atom,
  Structure,
  atom,
  structure,
  symbol,
  number,
  quoted,
  opening,
  closing,
  semicolon,
  keyword_let,
  keyword_in,
  keyword_end,
  as_written,
  doubled,
  spelling,
  structure_number,
  in_quotes,
  is_keyword,
  is_word,
  is_sign,
  is_number,
  is_symbol,
  is_token,
  longest_name,
  longest_number,
}
use Rattle.grammar.specs.Nodes.{written_offset}
use Rattle.grammar.specs.Coded.{kind_of, token_of}
use Rattle.grammar.proofs.Doubling.{doubled-length, IsDoubled}
use Rattle.grammar.proofs.Logic.{and_left, and_right, below}
use Rattle.grammar.proofs.Offsets.{written_stands, atom_coded, structure_coded}
use Rattle.rows.specs.Tokens.{place_of, structure_size, size_of}

-- The kinds are the numbers from 1 to 9, those of structure from 4 on.
pub structure_kind : (s : Structure) → (4 ≤ kind_of (structure s)) × (kind_of (structure s) ≤ 9)
unfolding kind_of structure_number
structure_kind opening = omega arith
structure_kind closing = omega arith
structure_kind semicolon = omega arith
structure_kind keyword_let = omega arith
structure_kind keyword_in = omega arith
structure_kind keyword_end = omega arith

pub kind_bounds : (t : Token) → (1 ≤ kind_of t) × (kind_of t ≤ 9)
unfolding kind_of
kind_bounds (atom (symbol w)) = omega arith
kind_bounds (atom (number d)) = omega arith
kind_bounds (atom (quoted c)) = omega arith
kind_bounds (structure s) = omega (arith, structure_kind s)

-- Where those of an atom begin, as nodes have it.
pub place_offset : (a : Atom) (at : ℕ) → place_of (atom a) at ≡ written_offset a at
unfolding place_of written_offset
place_offset (symbol w) at = refl
place_offset (number d) at = refl
place_offset (quoted c) at = sym (add-one at)

-- Behind the quote of a quoted name; of all other tokens where the token begins.
pub place_quoted : (t : Token) (at : ℕ) → kind_of t ≡ 3 → place_of t at ≡ suc at
unfolding kind_of place_of
place_quoted (atom (symbol w)) at e = absurd (omega arith)
place_quoted (atom (number d)) at e = absurd (omega arith)
place_quoted (atom (quoted c)) at e = refl
place_quoted (structure s) at e = absurd (omega (arith, structure_kind s))

pub place_plain : (t : Token) (at : ℕ) → (kind_of t ≡ 3 → ⊥) → place_of t at ≡ at
unfolding kind_of place_of
place_plain (atom (symbol w)) at d = refl
place_plain (atom (number n)) at d = refl
place_plain (atom (quoted c)) at d = absurd (d refl)
place_plain (structure s) at d = refl

-- With them a token ends, but for a quote or a bracket: those are kinds 3 to 5.
pub record Ends (t : Token) (at : ℕ) : Type 0 where
  pub plain : (3 ≤ kind_of t → kind_of t ≤ 5 → ⊥) → place_of t at + size_of t ≡ at + length (spelling t)
  pub enclosed : 3 ≤ kind_of t → kind_of t ≤ 5 → suc (place_of t at + size_of t) ≡ at + length (spelling t)

pub token_ends : (t : Token) (at : ℕ) → Ends t at
unfolding kind_of place_of size_of structure_size structure_number spelling as_written
token_ends (atom (symbol w)) at = record { plain = λ d. refl; enclosed = λ l m. absurd (omega arith) }
token_ends (atom (number d)) at = record { plain = λ d. refl; enclosed = λ l m. absurd (omega arith) }
token_ends (atom (quoted c)) at =
    record {
      plain = λ d. absurd (d (omega arith) (omega arith));
      enclosed = λ l m. omega (arith, length-append (doubled c) (39 ∷ []));
    }
token_ends (structure opening) at = record { plain = λ d. absurd (d (omega arith) (omega arith)); enclosed = λ l m. omega arith }
token_ends (structure closing) at = record { plain = λ d. absurd (d (omega arith) (omega arith)); enclosed = λ l m. omega arith }
token_ends (structure semicolon) at = omega arith
token_ends (structure keyword_let) at = omega arith
token_ends (structure keyword_in) at = omega arith
token_ends (structure keyword_end) at = omega arith

enclosed_cases : {X : Type 0} (k : ℕ) → (3 ≤ k → k ≤ 5 → X) → ((3 ≤ k → k ≤ 5 → ⊥) → X) → X
enclosed_cases k f g =
    below k 3 (λ l. g (λ a b. omega arith)) (λ l. below k 6 (λ m. f l (omega arith)) (λ m. g (λ a b. omega arith)))

-- There are at most 126, of an atom at least one, and of what is no quoted name at most 63.
runs_long : (w : Bytes) → is_word w || is_sign w ≡ true → 1 ≤ length w
unfolding is_word is_sign
runs_long [] e = absurd (true≢false (sym e))
runs_long (b ∷ w) e = omega arith

digits_long : (d : Bytes) → is_number d ≡ true → 1 ≤ length d
unfolding is_number
digits_long [] e = absurd (true≢false (sym e))
digits_long (b ∷ d) e = omega arith

-- The bytes of an atom, by how many may be quotes' doubles.
abbrev Sized : Atom → ℕ → Type 0
Sized a most = (1 ≤ size_of (atom a)) × (size_of (atom a) ≤ most)

symbol_size : (w : Bytes) → is_token (atom (symbol w)) ≡ true → Sized (symbol w) 63
unfolding is_token is_symbol size_of as_written
symbol_size w e =
    let bare = is_word w || is_sign w in
    let named = and_left (bare && not (is_keyword w)) (leb (length w) longest_name) e in (
      runs_long w (and_left bare (not (is_keyword w)) named),
      leb-true (length w) longest_name (and_right (bare && not (is_keyword w)) (leb (length w) longest_name) e),
    )

number_size : (d : Bytes) → is_token (atom (number d)) ≡ true → Sized (number d) 63
unfolding is_token size_of as_written
number_size d e = (
  digits_long d (and_left (is_number d) (leb (length d) longest_number) e),
  omega (arith, leb-true (length d) longest_number (and_right (is_number d) (leb (length d) longest_number) e)),
)

quoted_size : (c : Bytes) → is_token (atom (quoted c)) ≡ true → Sized (quoted c) 126
unfolding is_token size_of as_written
quoted_size c e =
    let sized = and_left (leb 1 (length c) && leb (length c) longest_name) (every in_quotes c) e in
    let low = leb-true 1 (length c) (and_left (leb 1 (length c)) (leb (length c) longest_name) sized) in
    let high = leb-true (length c) longest_name (and_right (leb 1 (length c)) (leb (length c) longest_name) sized) in
    omega (arith, low, high, doubled-length c)

atom_size : (a : Atom) → is_token (atom a) ≡ true → Sized a 126
atom_size (symbol w) e = omega (arith, symbol_size w e)
atom_size (number d) e = omega (arith, number_size d e)
atom_size (quoted c) e = quoted_size c e

structure_size_lem : (s : Structure) → structure_size s ≤ 3
unfolding structure_size
structure_size_lem opening = omega arith
structure_size_lem closing = omega arith
structure_size_lem semicolon = omega arith
structure_size_lem keyword_let = omega arith
structure_size_lem keyword_in = omega arith
structure_size_lem keyword_end = omega arith

pub size_bound : (t : Token) → is_token t ≡ true → size_of t ≤ 126
unfolding size_of
size_bound (atom a) e = (atom_size a e).1
size_bound (structure s) e = omega (arith, structure_size_lem s)

pub size_plain : (t : Token) → is_token t ≡ true → (kind_of t ≡ 3 → ⊥) → size_of t ≤ 63
unfolding size_of kind_of
size_plain (atom (symbol w)) e d = (symbol_size w e).1
size_plain (atom (number n)) e d = (number_size n e).1
size_plain (atom (quoted c)) e d = absurd (d refl)
size_plain (structure s) e d = omega (arith, structure_size_lem s)

pub size_atom : (t : Token) → is_token t ≡ true → kind_of t ≤ 3 → 1 ≤ size_of t
unfolding kind_of
size_atom (atom a) e l = (atom_size a e).0
size_atom (structure s) e l = absurd (omega (arith, structure_kind s))

-- A token has at least one byte.
pub token_bytes : (t : Token) → is_token t ≡ true → 1 ≤ length (spelling t)
unfolding spelling size_of as_written
token_bytes (atom (symbol w)) e = (symbol_size w e).0
token_bytes (atom (number d)) e = (number_size d e).0
token_bytes (atom (quoted c)) e = omega arith
token_bytes (structure opening) e = omega arith
token_bytes (structure closing) e = omega arith
token_bytes (structure semicolon) e = omega arith
token_bytes (structure keyword_let) e = omega arith
token_bytes (structure keyword_in) e = omega arith
token_bytes (structure keyword_end) e = omega arith

-- They begin and end within the token.
pub written-within : (t : Token) (at : ℕ) → place_of t at + size_of t ≤ at + length (spelling t)
written-within t at =
    enclosed_cases (kind_of t) (λ l m. omega (arith, (token_ends t at).enclosed l m)) (λ d. omega (arith, (token_ends t at).plain d))

pub place_within : (t : Token) (at : ℕ) → is_token t ≡ true → place_of t at < at + length (spelling t)
place_within t at e =
    enclosed_cases
    (kind_of t)
    (λ l m. omega (arith, (token_ends t at).enclosed l m))
    (λ d. omega (arith, place_plain t at (λ q. d (omega arith) (omega arith)), token_bytes t e))

-- Those of a quoted name are its characters doubled.
pub read-doubled :
    (text : Bytes) (t : Token) (at : ℕ) (rest : Bytes) → drop at text ≡ spelling t ++ rest → kind_of t ≡ 3
    → IsDoubled (take (size_of t) (drop (place_of t at) text))
unfolding kind_of size_of as_written
read-doubled text (atom (symbol w)) at rest e k = absurd (omega arith)
read-doubled text (atom (number d)) at rest e k = absurd (omega arith)
read-doubled text (atom (quoted c)) at rest e k =
    (c, ap (λ n. take (length (doubled c)) (drop n text)) (place_offset (quoted c) at) ∙ written_stands text (quoted c) at rest e)
read-doubled text (structure s) at rest e k = absurd (omega (arith, structure_kind s))

-- A token that stands in the text is read off it by its kind and by where its bytes begin and how many they are.
pub token_read :
    (text : Bytes) (t : Token) (at : ℕ) (rest : Bytes) → drop at text ≡ spelling t ++ rest
    → token_of (kind_of t) (take (size_of t) (drop (place_of t at) text)) ≡ t
unfolding size_of
token_read text (atom a) at rest e =
    ap (λ n. token_of (kind_of (atom a)) (take (length (as_written a)) (drop n text))) (place_offset a at)
    ∙ ap (token_of (kind_of (atom a))) (written_stands text a at rest e)
    ∙ atom_coded a
token_read text (structure s) at rest e = structure_coded s (take (size_of (structure s)) (drop (place_of (structure s) at) text))
