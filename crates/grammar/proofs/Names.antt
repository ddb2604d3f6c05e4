-- The bytes of a name as written and its characters. What stands bare has no quote, so the bytes as written are the characters doubled, bare
-- or quoted: two names have the same characters exactly if their bytes as written are the same.
use mathlib.Core.Path.{◌≡◌, refl, sym, ap, subst, ◌∙◌}
use mathlib.Core.Bool.{Bool, true, false, ◌&&◌, ◌||◌, not}
use mathlib.Core.Logic.{◌↔◌}
use mathlib.Core.List.{[], ◌∷◌}
use Prim.Native.Nat.{◌≤◌}
use native.Mathlib.Omega.{arith}
use lib.Dec.{leb}
use lib.ListN.{length}
use borrow.Author.Tests.{leb-true}
use Rattle.grammar.specs.Bytes.{Bytes, All, every}
use Rattle.grammar.specs.Token.{Atom, symbol, number, quoted, atom, characters, as_written, doubled, undoubled, is_quote}
use Rattle.grammar.specs.Token.{in_quotes, is_word, is_sign, is_number, is_symbol, is_token, longest_name, longest_number}
use Rattle.grammar.specs.Operator.{Table, in_force}
use Rattle.grammar.proofs.Logic.{and_left, and_right}
use Rattle.grammar.proofs.Doubling.{Unquoted, doubled-quote, doubled-other, doubled_plain, undoubled-doubled, doubled_injective}
use Rattle.grammar.proofs.BareNames.{run_unquoted, symbol_unquoted, number_unquoted}

pub written-doubled : (a : Atom) → is_token (atom a) ≡ true → as_written a ≡ doubled (characters a)
unfolding is_token as_written characters
written-doubled (symbol w) e = sym (doubled_plain w (symbol_unquoted w e))
written-doubled (number d) e = sym (doubled_plain d (number_unquoted d (and_left (is_number d) (leb (length d) longest_number) e)))
written-doubled (quoted c) e = refl

pub written-characters : (a : Atom) → is_token (atom a) ≡ true → undoubled (as_written a) ≡ characters a
written-characters a e = ap undoubled (written-doubled a e) ∙ undoubled-doubled (characters a)

pub written_alike :
    (a b : Atom) → is_token (atom a) ≡ true → is_token (atom b) ≡ true → (characters a ≡ characters b) ↔ (as_written a ≡ as_written b)
written_alike a b e f = (
  λ h. written-doubled a e ∙ ap doubled h ∙ sym (written-doubled b f),
  λ h. doubled_injective (sym (written-doubled a e) ∙ h ∙ written-doubled b f),
)

-- Doubled bytes without a quote are the characters themselves, ..
plain_doubled : (c : Bytes) → All Unquoted (doubled c) → doubled c ≡ c
unfolding doubled
plain_doubled [] h = refl
plain_doubled (b ∷ c) h = go (plain_doubled c) (is_quote b) refl
  where
    go : (All Unquoted (doubled c) → doubled c ≡ c) → (x : Bool) → is_quote b ≡ x → doubled (b ∷ c) ≡ b ∷ c
    go i true e = absurd ((subst (All Unquoted) (doubled-quote b c e) h).0 refl)
    go i false e = doubled-other b c e ∙ ap (◌∷◌ b) (i (subst (All Unquoted) (doubled-other b c e) h).1)

-- .. so of a word or sign there are at most 63, ..
pub short_run :
    (c : Bytes) → is_token (atom (quoted c)) ≡ true → is_word (doubled c) || is_sign (doubled c) ≡ true → length (doubled c) ≤ longest_name
unfolding is_token
short_run c e r =
    let sized = leb 1 (length c) && leb (length c) longest_name in
    let short = and_right (leb 1 (length c)) (leb (length c) longest_name) (and_left sized (every in_quotes c) e) in
    omega (arith, ap length (plain_doubled c (run_unquoted (doubled c) r)), leb-true (length c) longest_name short)

-- .. and whether a name can stand bare can be asked of either: a name with a quote is no symbol, and nor are its doubled bytes.
pub symbol_doubled : (c : Bytes) → is_symbol c ≡ true → doubled c ≡ c
symbol_doubled c e = doubled_plain c (symbol_unquoted c e)

pub bare_alike : (T : Table) (c : Bytes) → is_symbol (doubled c) && not (in_force T (doubled c)) ≡ is_symbol c && not (in_force T c)
bare_alike T c = go (is_symbol c) (is_symbol (doubled c)) refl refl
  where
    bare : Bytes → Bool
    bare w = is_symbol w && not (in_force T w)

    go : (x y : Bool) → is_symbol c ≡ x → is_symbol (doubled c) ≡ y → bare (doubled c) ≡ bare c
    go true y e f = ap bare (symbol_doubled c e)
    go false true e f = ap bare (plain_doubled c (symbol_unquoted (doubled c) f))
    go false false e f = rw (e, f)
