-- Declarations are told by their tokens: the words, the number and the operator give a declaration back, and each ends with its `;`.
use mathlib.Core.Path.{◌≡◌, refl, sym, ap, ap₂, ◌∙◌}
use mathlib.Core.List.{List, [], ◌∷◌, ◌++◌}
use mathlib.Core.Option.{some}
use Rattle.grammar.specs.Bytes.{same}
use Rattle.grammar.specs.Token.{Token}
use Rattle.grammar.specs.Operator.{Fixity, Associativity}
use Rattle.grammar.specs.Declaration.{
  Declaration,
  declares,
  clears,
  fixity_word,
  associativity_word,
  plain_word,
  fixity_named,
  associativity_named,
  declaration_tokens,
  all_tokens,
}
use Rattle.grammar.proofs.Logic.{clash, impossible, same_refl}
use Rattle.grammar.proofs.Declarations.{fixity-named, associativity_named_lem}

fixity-word : (f g : Fixity) → fixity_word f ≡ fixity_word g → f ≡ g
fixity-word f g e = let q : some f ≡ some g = sym (fixity-named f).1 ∙ ap fixity_named e ∙ (fixity-named g).1 in cc

associativity_word_lem : (a b : Associativity) → associativity_word a ≡ associativity_word b → a ≡ b
associativity_word_lem a b e =
    let q : some a ≡ some b = sym (associativity_named_lem a) ∙ ap associativity_named e ∙ associativity_named_lem b in
    cc

-- No fixity is written `plain`.
fixity_not_plain : (f : Fixity) → fixity_word f ≡ plain_word → ⊥
fixity_not_plain f e = clash (ap (λ w. same w plain_word) e ∙ same_refl plain_word) (fixity-named f).0

-- The first declaration of two equal lists of tokens, and what follows it.
pub first_told :
    (d e : Declaration) (xs ys : List Token) → declaration_tokens d ++ xs ≡ declaration_tokens e ++ ys → (d ≡ e) × (xs ≡ ys)
unfolding declaration_tokens
first_told (declares f a c m) (declares g b k n) xs ys h =
    let (p, q, r, s, t) = fields h in
    let p' = fixity-word f g p in
    let q' = associativity_word_lem a b q in
    (cc, t)
  where
    fields :
        declaration_tokens (declares f a c m) ++ xs ≡ declaration_tokens (declares g b k n) ++ ys
        → (fixity_word f ≡ fixity_word g) × (associativity_word a ≡ associativity_word b) × (c ≡ k) × (m ≡ n) × (xs ≡ ys)
    fields h = (cc, cc, cc, cc, cc)
first_told (declares f a c m) (clears n) xs ys h = let q : fixity_word f ≡ plain_word = cc in absurd (fixity_not_plain f q)
first_told (clears m) (declares g b k n) xs ys h = let q : fixity_word g ≡ plain_word = cc in absurd (fixity_not_plain g q)
first_told (clears m) (clears n) xs ys h = (cc, cc)

-- Some declaration has tokens.
first_token : (d : Declaration) (ts : List Token) → [] ≡ declaration_tokens d ++ ts → ⊥
unfolding declaration_tokens
first_token (declares f a c m) ts h = impossible cc
first_token (clears m) ts h = impossible cc

pub declarations_told : (ds es : List Declaration) → all_tokens ds ≡ all_tokens es → ds ≡ es
unfolding all_tokens
declarations_told [] [] h = refl
declarations_told [] (e ∷ es) h = absurd (first_token e (all_tokens es) h)
declarations_told (d ∷ ds) [] h = absurd (first_token d (all_tokens ds) (sym h))
declarations_told (d ∷ ds) (e ∷ es) h =
    let (p, q) = first_told d e (all_tokens ds) (all_tokens es) h in
    ap₂ ◌∷◌ p (declarations_told ds es q)
