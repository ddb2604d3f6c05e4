-- The tokens of a row from one number to another: cut at a token, and by the kinds of the tokens where they are cut.
-- Kinds 1 to 3 are those of atoms, and a kind of structure has one token.
use mathlib.Core.Path.{◌≡◌, refl, ap, ap₂, ◌∙◌}
use mathlib.Core.List.{[], ◌∷◌, ◌++◌}
use Prim.Native.Nat.{ℕ, zero, suc, ◌+◌, ◌-◌, ◌≤◌, ◌<◌}
use native.Mathlib.Omega.{arith}
use lib.ListN.{length, get_or}
use Rattle.grammar.specs.Bytes.{Bytes}
use Rattle.grammar.specs.Token.{Token, Structure, atom, structure, structure_number, opening, closing, keyword_let, keyword_in, keyword_end}
use Rattle.grammar.specs.Span.{InDeclarations}
use Rattle.grammar.specs.Coded.{kind_of, token_of}
use Rattle.grammar.proofs.Items.{AllQuiet}
use Rattle.grammar.proofs.Offsets.{structure_coded}
use Rattle.rows.specs.Fields.{TokenRow, kind, start, size}
use Rattle.rows.specs.Tokens.{token_in, atom_of, atom_in, tokens_in, range, written_of, IsAtomKind, IsQuietKind}

-- The tokens of atom kinds are atoms ..
atom_kind_lem : (k : ℕ) (c : Bytes) → IsAtomKind k → token_of k c ≡ atom (atom_of k c)
unfolding token_of atom_of
atom_kind_lem zero c h = absurd (omega (arith, h.0))
atom_kind_lem (suc zero) c h = refl
atom_kind_lem (suc (suc zero)) c h = refl
atom_kind_lem (suc (suc (suc zero))) c h = refl
atom_kind_lem (suc (suc (suc (suc k)))) c h = absurd (omega (arith, h.1))

-- .. and those of quiet kinds can stand among declarations.
quiet_kind : (k : ℕ) (c : Bytes) → IsQuietKind k → InDeclarations (token_of k c)
unfolding token_of
quiet_kind zero c q = absurd (omega (arith, q.0))
quiet_kind (suc zero) c q = tt
quiet_kind (suc (suc zero)) c q = tt
quiet_kind (suc (suc (suc zero))) c q = tt
quiet_kind (suc (suc (suc (suc zero)))) c q = absurd (q.2 refl)
quiet_kind (suc (suc (suc (suc (suc zero))))) c q = absurd (q.3 refl)
quiet_kind (suc (suc (suc (suc (suc (suc zero)))))) c q = refl
quiet_kind (suc (suc (suc (suc (suc (suc (suc k))))))) c q = absurd (omega (arith, q.1))

module _ (text : Bytes) (K : TokenRow) where
  pub token_atom : (i : ℕ) → IsAtomKind (kind K i) → token_in text K i ≡ atom (atom_in text K i)
  unfolding token_in atom_in
  token_atom i k = atom_kind_lem (kind K i) (written_of text K i) k

  -- A token of structure by its kind.
  pub token_structure : (i : ℕ) (s : Structure) → kind K i ≡ kind_of (structure s) → token_in text K i ≡ structure s
  unfolding token_in
  token_structure i s e = rw e (structure_coded s _)

  length_tokens : (i n : ℕ) → length (tokens_in text K i n) ≡ n
  unfolding tokens_in
  length_tokens i zero = refl
  length_tokens i (suc n) = ap suc (length_tokens (suc i) n)

  pub length-range : (i to : ℕ) → length (range text K i to) ≡ to - i
  length-range i to = length_tokens i (to - i)

  tokens_at : (n i j : ℕ) (d : Token) → j < n → get_or (tokens_in text K i n) j d ≡ token_in text K (i + j)
  unfolding tokens_in
  tokens_at zero i j d h = absurd (omega arith)
  tokens_at (suc n) i zero d h = ap (token_in text K) (omega arith)
  tokens_at (suc n) i (suc j) d h = tokens_at n (suc i) j d (omega arith) ∙ ap (token_in text K) (omega arith)

  -- Token number `j` of a range.
  pub range_token : (i to j : ℕ) (d : Token) → i + j < to → get_or (range text K i to) j d ≡ token_in text K (i + j)
  range_token i to j d h = tokens_at (to - i) i j d (omega arith)

  pub range_none : (to : ℕ) → range text K to to ≡ []
  unfolding tokens_in
  range_none to = let e : to - to ≡ 0 = omega arith in rw e

  pub range_next : (i to : ℕ) → i < to → range text K i to ≡ token_in text K i ∷ range text K (suc i) to
  unfolding tokens_in
  range_next i to l = let e : to - i ≡ suc (to - suc i) = omega arith in rw e

  tokens_split : (n m i : ℕ) → tokens_in text K i (n + m) ≡ tokens_in text K i n ++ tokens_in text K (i + n) m
  unfolding tokens_in
  tokens_split zero m i = let e : 0 + m ≡ m = omega arith in let f : i + 0 ≡ i = omega arith in rw (e, f)
  tokens_split (suc n) m i =
      let e : suc n + m ≡ suc (n + m) = omega arith in
      let f : i + suc n ≡ suc i + n = omega arith in
      rw (e, f) (ap (λ ts. token_in text K i ∷ ts) (tokens_split n m (suc i)))

  pub range_split : (i c to : ℕ) → i ≤ c → c ≤ to → range text K i to ≡ range text K i c ++ range text K c to
  range_split i c to l m =
      let e : to - i ≡ (c - i) + (to - c) = omega arith in
      let f : i + (c - i) ≡ c = omega arith in
      rw e (rw f at (tokens_split (c - i) (to - c) i))

  -- A range that is cut at one of its tokens, and one that is cut at its first token too.
  pub range_cut :
      (i c to : ℕ) → i ≤ c → c < to → (t : Token) → token_in text K c ≡ t
      → range text K i to ≡ range text K i c ++ t ∷ range text K (suc c) to
  range_cut i c to l m t e = range_split i c to l (omega arith) ∙ rw (range_next c to m, e)

  pair_range :
      (i c to : ℕ) → i < c → c < to → (o t : Token) → token_in text K i ≡ o → token_in text K c ≡ t
      → range text K i to ≡ o ∷ range text K (suc i) c ++ t ∷ range text K (suc c) to
  pair_range i c to l m o t d e = range_next i to (omega arith) ∙ rw (d, range_cut (suc i) c to l m t e)

  -- A range that begins with an atom.
  pub range_atom : (i to : ℕ) → i < to → IsAtomKind (kind K i) → range text K i to ≡ atom (atom_in text K i) ∷ range text K (suc i) to
  range_atom i to l k = range_next i to l ∙ rw (token_atom i k)

  are_quiet : (n i : ℕ) → ((j : ℕ) → i ≤ j → j < i + n → IsQuietKind (kind K j)) → AllQuiet (tokens_in text K i n)
  unfolding tokens_in token_in
  are_quiet zero i f = tt
  are_quiet (suc n) i f = (
    quiet_kind (kind K i) (written_of text K i) (f i (omega arith) (omega arith)),
    are_quiet n (suc i) (λ j l m. f j (omega arith) (omega arith)),
  )

  pub range_quiet : (i to : ℕ) → ((j : ℕ) → i ≤ j → j < to → IsQuietKind (kind K j)) → AllQuiet (range text K i to)
  range_quiet i to f = are_quiet (to - i) i (λ j l m. f j l (omega arith))

  -- The tokens of a bracket pair and of a block with what stands behind it.
  pub range_bracket :
      (i c to : ℕ) → i < c → c < to → kind K i ≡ 4 → kind K c ≡ 5
      → range text K i to ≡ structure opening ∷ range text K (suc i) c ++ structure closing ∷ range text K (suc c) to
  unfolding kind_of structure_number
  range_bracket i c to l m p q =
      pair_range i c to l m (structure opening) (structure closing) (token_structure i opening p) (token_structure c closing q)

  pub range_block :
      (i c e to : ℕ) → i < c → c < e → e < to → kind K i ≡ 7 → kind K c ≡ 8 → kind K e ≡ 9
      → range text K i to
      ≡ structure keyword_let ∷ (range text K (suc i) c ++ structure keyword_in ∷ range text K (suc c) e)
      ++ structure keyword_end ∷ range text K (suc e) to
  unfolding kind_of structure_number
  range_block i c e to l m n p q r =
      pair_range i e to (omega arith) n (structure keyword_let) (structure keyword_end)
      (token_structure i keyword_let p) (token_structure e keyword_end r)
      ∙ rw (range_cut (suc i) c e l m (structure keyword_in) (token_structure c keyword_in q))

-- A row with the same kinds, places and sizes has the same tokens.
module _
    (text : Bytes) (K K' : TokenRow) (kinds : (j : ℕ) → kind K' j ≡ kind K j) (starts : (j : ℕ) → start K' j ≡ start K j)
    (sizes : (j : ℕ) → size K' j ≡ size K j)
  where
    pub token_kept : (j : ℕ) → token_in text K' j ≡ token_in text K j
    unfolding token_in
    token_kept j = rw (kinds j, starts j, sizes j)

    tokens_kept : (i n : ℕ) → tokens_in text K' i n ≡ tokens_in text K i n
    unfolding tokens_in
    tokens_kept i zero = refl
    tokens_kept i (suc n) = ap₂ ◌∷◌ (token_kept i) (tokens_kept (suc i) n)

    pub range_kept : (i to : ℕ) → range text K' i to ≡ range text K i to
    range_kept i to = tokens_kept i (to - i)
