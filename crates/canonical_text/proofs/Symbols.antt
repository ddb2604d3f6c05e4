-- Whether bytes can stand bare, by the class of the first and by how far a run goes: a sign or a word takes all of them, and no keyword is
-- a symbol.
use mathlib.Core.Path.{◌≡◌, refl, sym, ap, ◌∙◌}
use mathlib.Core.Bool.{Bool, true, false, ◌||◌}
use mathlib.Core.List.{[], ◌∷◌}
use Prim.Native.Nat.{ℕ, suc, ◌≤◌}
use native.Mathlib.Omega.{arith}
use lib.Dec.{eqb, eqb-suc-suc}
use lib.ListN.{length, get_or}
use borrow.Author.Tests.{le-leb, eq-eqb, ne_eqb}
use Rattle.grammar.specs.Bytes.{Bytes, bytes, same, every}
use Rattle.grammar.specs.Token.{
  class,
  letter,
  sign,
  in_word,
  in_sign,
  begins_word,
  is_word,
  is_sign,
  is_keyword,
  is_symbol,
  is_token,
  longest_name,
  structure_number,
}
use Rattle.grammar.specs.Scan.{run, keyword_or_symbol}
use Rattle.grammar.specs.Coded.{kind_of}
use Rattle.grammar.proofs.Logic.{and_right, and_intro, every-cons}
use Rattle.grammar.proofs.Runs.{letter-in_word, signs, is_run}
use Rattle.grammar.proofs.Taken.{sign_makes}
use Rattle.canonical_text.specs.Trimming.{IsName}

-- A run takes all bytes exactly where all pass.
run_all : (p : ℕ → Bool) (w : Bytes) → eqb (run p w) (length w) ≡ every p w
unfolding run every
run_all p [] = refl
run_all p (b ∷ w) = go (p b) refl (run_all p w)
  where
    go : (h : Bool) → p b ≡ h → eqb (run p w) (length w) ≡ every p w → eqb (run p (b ∷ w)) (length (b ∷ w)) ≡ every p (b ∷ w)
    go true e h = rw (e, run, every) (eqb-suc-suc (run p w) (length w) ∙ h)
    go false e h = rw (e, run, every) (ne_eqb 0 (suc (length w)) (λ z. omega arith))

no_symbol : (w : Bytes) → is_word w ≡ false → is_sign w ≡ false → false ≡ is_symbol w
unfolding is_symbol
no_symbol w e f = rw (e, f, is_symbol)

module _ (b : ℕ) (s : Bytes) where
  no_word : (class b ≡ letter → ⊥) → is_word (b ∷ s) ≡ false
  unfolding is_word begins_word
  no_word d = rw (ne_eqb (class b) letter d)

  no_sign : (class b ≡ sign → ⊥) → is_sign (b ∷ s) ≡ false
  unfolding is_sign in_sign
  no_sign d = rw (ne_eqb (class b) sign d)

  word-every : class b ≡ letter → is_word (b ∷ s) ≡ every in_word (b ∷ s)
  unfolding is_word begins_word
  word-every c = rw (eq-eqb (class b) letter c) (sym (every-cons in_word b s ∙ rw (letter-in_word b c)))

  sign-every : is_sign (b ∷ s) ≡ every in_sign (b ∷ s)
  unfolding is_sign
  sign-every = sym (every-cons in_sign b s)

-- A sign first.
pub sign_symbol : (w : Bytes) → IsName w → class (get_or w 0 0) ≡ sign → eqb (run in_sign w) (length w) ≡ is_symbol w
unfolding is_run is_token
sign_symbol [] n c = absurd (omega arith)
sign_symbol (b ∷ s) n c = run_all in_sign (b ∷ s) ∙ go (every in_sign (b ∷ s)) refl
  where
    go : (h : Bool) → every in_sign (b ∷ s) ≡ h → every in_sign (b ∷ s) ≡ is_symbol (b ∷ s)
    go true e =
        let f : is_run signs (b ∷ s) ≡ true =
        and_intro (eq-eqb (class b) sign c) (and_right (in_sign b) (every in_sign s) (sym (every-cons in_sign b s) ∙ e)) in
        let g : is_sign (b ∷ s) ≡ true = sign-every b s ∙ e in
        e ∙ sym (sign_makes (b ∷ s) f (n.1 (rw (no_word b s (λ z. omega arith)) g))).valid
    go false e = e ∙ no_symbol (b ∷ s) (no_word b s (λ z. omega arith)) (sign-every b s ∙ e)

-- A letter first.
keyword_symbol : (w : Bytes) → is_word w || is_sign w ≡ true → length w ≤ longest_name → eqb (kind_of (keyword_or_symbol w)) 1 ≡ is_symbol w
unfolding is_symbol is_keyword keyword_or_symbol kind_of structure_number
keyword_symbol w e l = go (same w (bytes "let")) (same w (bytes "in")) (same w (bytes "end")) refl refl refl
  where
    go :
        (x y z : Bool) → same w (bytes "let") ≡ x → same w (bytes "in") ≡ y → same w (bytes "end") ≡ z
        → eqb (kind_of (keyword_or_symbol w)) 1 ≡ is_symbol w
    go true y z p q r = rw (e, p, is_symbol, keyword_or_symbol)
    go false true z p q r = rw (e, p, q, is_symbol, keyword_or_symbol)
    go false false true p q r = rw (e, p, q, r, is_symbol, keyword_or_symbol)
    go false false false p q r = rw (e, p, q, r, is_symbol, keyword_or_symbol) (sym (le-leb (length w) longest_name l))

pub word_symbol :
    (w : Bytes) → IsName w → class (get_or w 0 0) ≡ letter → run in_word w ≡ length w → eqb (kind_of (keyword_or_symbol w)) 1 ≡ is_symbol w
word_symbol [] n c r = absurd (omega arith)
word_symbol (b ∷ s) n c r =
    let e : is_word (b ∷ s) ≡ true =
    word-every b s c ∙ sym (run_all in_word (b ∷ s)) ∙ eq-eqb (run in_word (b ∷ s)) (length (b ∷ s)) r in
    let g : is_word (b ∷ s) || is_sign (b ∷ s) ≡ true = ap (λ x. x || is_sign (b ∷ s)) e in
    keyword_symbol (b ∷ s) g (n.1 g)

pub word_no_symbol : (w : Bytes) → IsName w → class (get_or w 0 0) ≡ letter → (run in_word w ≡ length w → ⊥) → false ≡ is_symbol w
word_no_symbol [] n c d = absurd (omega arith)
word_no_symbol (b ∷ s) n c d =
    no_symbol (b ∷ s) (word-every b s c ∙ sym (run_all in_word (b ∷ s)) ∙ ne_eqb (run in_word (b ∷ s)) (length (b ∷ s)) d)
    (no_sign b s (λ z. omega arith))

-- Another byte first.
pub other_no_symbol : (w : Bytes) → IsName w → (class (get_or w 0 0) ≡ letter → ⊥) → (class (get_or w 0 0) ≡ sign → ⊥) → false ≡ is_symbol w
other_no_symbol [] n c d = absurd (omega arith)
other_no_symbol (b ∷ s) n c d = no_symbol (b ∷ s) (no_word b s c) (no_sign b s d)
