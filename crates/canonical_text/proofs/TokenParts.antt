-- What the tokens of a text leave once the brackets that stay have their bytes: a bracket that stays and any token but a number or quoted
-- name all its bytes, a number its digits without zeros, a name its bytes as written, in quotes where it cannot stand bare.
use mathlib.Core.Path.{◌≡◌, refl, sym, ap, ap₂, ◌∙◌}
use mathlib.Core.Bool.{Bool, true, false, ◌&&◌, ◌||◌, not, or-true}
use mathlib.Core.List.{List, [], ◌∷◌, ◌++◌}
use Prim.Native.Nat.{ℕ, ◌+◌, ◌-◌, ◌≤◌, ◌<◌}
use native.Mathlib.Omega.{arith}
use lib.ListN.{length, take, drop, length-append}
use lib.Seq.{take_at}
use Rattle.grammar.specs.Bytes.{Bytes}
use Rattle.grammar.specs.Token.{Token, atom, structure, symbol, number, quoted, doubled, undoubled, spelling, is_symbol, is_token}
use Rattle.grammar.specs.Token.{opening, closing, semicolon, keyword_let, keyword_in, keyword_end, structure_number}
use Rattle.grammar.specs.Operator.{Table, in_force}
use Rattle.grammar.specs.Scan.{Placed}
use Rattle.grammar.specs.Tree.{Tree}
use Rattle.grammar.specs.Coded.{kind_of, token_of}
use Rattle.grammar.specs.Canonical.{strip, written_name}
use Rattle.grammar.specs.Answer.{offset_of}
use Rattle.grammar.specs.Fault.{longest_text}
use Rattle.grammar.proofs.Logic.{and_left}
use Rattle.grammar.proofs.Doubling.{undoubled-doubled}
use Rattle.grammar.proofs.Names.{short_run, symbol_doubled, bare_alike}
use Rattle.rows.specs.Fields.{TokenRow, NoteRow, token, note, kind, start, size}
use Rattle.rows.specs.Kinds.{kind_code}
use Rattle.rows.specs.Tokens.{written_of, token_in, structure_size, size_of, Stored}
use Rattle.rows.specs.Agreeing.{Noted}
use Rattle.rows.proofs.TokenBytes.{token_ends, place_plain}
use Rattle.rows.proofs.Stored.{
  stored_here,
  stored_kind,
  stored_size,
  stored_quoted,
  stored_offset,
  stored_sized,
  stored_valid,
  stored_doubled,
  stored_written,
  stored_within,
  stored_begins,
  spelled-within,
}
use Rattle.canonical_text.specs.Brackets.{KeptRow}
use Rattle.canonical_text.specs.Trimming.{has_roles, stays_quoted, part_of, IsName, Trimmable}
use Rattle.canonical_text.proofs.TrimToken.{part_number, part_quoted, part_bare, part_plain}
use Rattle.canonical_text.proofs.Quoting.{roles_noted}

-- Brackets have no bytes in the row.
bracket_size : (t : Token) → 4 ≤ kind_of t → kind_of t ≤ 5 → size_of t ≡ 0
unfolding kind_of structure_number size_of structure_size
bracket_size (atom (symbol w)) l m = absurd (omega arith)
bracket_size (atom (number d)) l m = absurd (omega arith)
bracket_size (atom (quoted c)) l m = absurd (omega arith)
bracket_size (structure opening) l m = refl
bracket_size (structure closing) l m = refl
bracket_size (structure semicolon) l m = absurd (omega arith)
bracket_size (structure keyword_let) l m = absurd (omega arith)
bracket_size (structure keyword_in) l m = absurd (omega arith)
bracket_size (structure keyword_end) l m = absurd (omega arith)

-- A quoted name, by its kind and its bytes as written.
quoted_token : (k : ℕ) (w c : Bytes) → k ≡ 3 → w ≡ doubled c → token_of k w ≡ atom (quoted c)
unfolding token_of
quoted_token k w c e d = rw e (ap (λ x. atom (quoted x)) (ap undoubled d ∙ undoubled-doubled c))

quoted_told : {c d : Bytes} → atom (quoted c) ≡ atom (quoted d) → c ≡ d
quoted_told e = cc

module _ {text : Bytes} {ps : List Placed} {K : TokenRow} (v : Stored text ps K) (j : ℕ) (l : j < length ps) where
  pub stored_bracket : 4 ≤ kind K j → kind K j ≤ 5 → size K j ≡ 0
  stored_bracket p q =
      let k = stored_kind v j l in stored_size v j l ∙ bracket_size (token_in text K j) (omega arith) (omega arith)

  -- The bytes of a token, from the place where they begin.
  bytes_here : (s : ℕ) → s ≡ offset_of text ps j → take (length (spelling (token_in text K j))) (drop s text) ≡ spelling (token_in text K j)
  bytes_here s e =
      ap (λ k. take (length (spelling (token_in text K j))) (drop k text)) e
      ∙ ap (take (length (spelling (token_in text K j)))) (stored_here v j l).written
      ∙ take_at (spelling (token_in text K j)) _ (length (spelling (token_in text K j))) refl

  -- Those in the row are all its bytes, but for quoted names and brackets.
  whole_token : (3 ≤ kind K j → kind K j ≤ 5 → ⊥) → written_of text K j ≡ spelling (token_in text K j)
  whole_token d =
      let k = stored_kind v j l in
      let t = token_in text K j in
      let e = (token_ends t 0).plain (λ a b. d (omega arith) (omega arith)) in
      let z : size K j ≡ length (spelling t) = omega (arith, stored_size v j l, e, place_plain t 0 (λ q. d (omega arith) (omega arith))) in
      ap (λ n. take n (drop (start K j) text)) z ∙ bytes_here (start K j) (stored_offset v j l (λ q. d (omega arith) (omega arith)))

  -- A quoted name.
  quoted_is : kind K j ≡ 3 → (c : Bytes) × (written_of text K j ≡ doubled c) × (token_in text K j ≡ atom (quoted c))
  unfolding token_in
  quoted_is k = let (c, d) = stored_doubled v j l k in (c, d, quoted_token (kind K j) (written_of text K j) c k d)

  quoted_long : kind K j ≡ 3 → size K j + 2 ≡ length (spelling (token_in text K j))
  unfolding spelling
  quoted_long k =
      let (c, d, e) = quoted_is k in
      omega (arith, ap (λ t. length (spelling t)) e, length-append (doubled c) (39 ∷ []), ap length d, stored_written v j l)

  quoted_named : kind K j ≡ 3 → IsName (written_of text K j)
  quoted_named k =
      let (c, d, e) = quoted_is k in (
        omega (arith, stored_written v j l, stored_sized v j l (omega arith)),
        rw d (short_run c (ap is_token (sym e) ∙ stored_valid v j l)),
      )

  quoted_bytes : kind K j ≡ 3 → take (size K j + 2) (drop (start K j - 1) text) ≡ 39 ∷ written_of text K j ++ 39 ∷ []
  unfolding spelling
  quoted_bytes k =
      let s : start K j - 1 ≡ offset_of text ps j = omega (arith, stored_quoted v j l k) in
      let (c, d, e) = quoted_is k in
      ap (λ m. take m (drop (start K j - 1) text)) (quoted_long k) ∙ bytes_here (start K j - 1) s
      ∙ ap spelling e ∙ ap (λ w. 39 ∷ w ++ 39 ∷ []) (sym d)

  -- In the row in which the brackets that stay have their bytes.
  module _ {K₁ : TokenRow} {T : Table} {t : Tree} (k : KeptRow K T t K₁) where
    same_kind : kind K₁ j ≡ kind K j
    same_kind = ap (λ t. kind_code t.kind) (k.fields j)

    same_start : start K₁ j ≡ start K j
    same_start = ap (λ t. t.start) (k.fields j)

    same-written : (4 ≤ kind K j → kind K j ≤ 5 → ⊥) → written_of text K₁ j ≡ written_of text K j
    same-written d =
        ap₂ (λ n s. take n (drop s text)) (k.others j (λ e. d (omega arith) (omega arith)) (λ e. d (omega arith) (omega arith))) same_start

    module _ (R : NoteRow) where
      pub kept_trimmable : length text ≤ longest_text → Trimmable text (token K₁ j)
      kept_trimmable short =
          let z : (kind K₁ j ≡ 3) → size K₁ j ≡ size K j =
          λ e. k.others j (λ q. omega (arith, same_kind)) (λ q. omega (arith, same_kind)) in
          record {
            short = short;
            within = omega (arith, same_start, k.small j, stored_within v j l, stored_begins v j l);
            number =
                λ e. omega (
                  arith,
                  same_kind,
                  k.others j (λ q. omega (arith, same_kind)) (λ q. omega (arith, same_kind)),
                  stored_sized v j l (omega (arith, same_kind)),
                );
            name =
                λ e. rw (same-written (λ p q. omega (arith, same_kind))) (quoted_named (sym same_kind ∙ e));
            quoted =
                λ e. let q = sym same_kind ∙ e in
                rw (same-written (λ p q. omega (arith, same_kind)), same_start, z e) (
                  omega (arith, stored_quoted v j l q),
                  omega (arith, stored_quoted v j l q, spelled-within v j l, quoted_long q),
                  quoted_bytes q,
                );
          }

      -- A token that is no number, quoted name or bracket leaves all its bytes.
      pub part_token :
          (u : Token) → token_in text K j ≡ u → (kind_of u ≡ 2 → ⊥) → (3 ≤ kind_of u → kind_of u ≤ 5 → ⊥) → part_of text R K₁ j ≡ spelling u
      part_token u e d f =
          let n : kind K j ≡ kind_of u = stored_kind v j l ∙ ap kind_of e in
          part_plain (note R j).roles _ (λ q. d (sym n ∙ sym same_kind ∙ q)) (λ q. f (omega (arith, same_kind)) (omega (arith, same_kind)))
          ∙ same-written (λ p q. f (omega arith) (omega arith))
          ∙ whole_token (λ p q. f (omega arith) (omega arith))
          ∙ ap spelling e

      -- A number leaves its digits without zeros.
      pub part_digits : (d : Bytes) → token_in text K j ≡ atom (number d) → part_of text R K₁ j ≡ strip d
      unfolding kind_of spelling
      part_digits d e =
          let n : kind K j ≡ 2 = stored_kind v j l ∙ ap kind_of e in
          part_number (note R j).roles _ (same_kind ∙ n)
          ∙ ap strip (same-written (λ p q. omega arith) ∙ whole_token (λ p q. omega arith) ∙ ap spelling e)

      -- A quoted name leaves what is written of its characters under the operators in force.
      pub part_name :
          (U : Table) (c : Bytes) → token_in text K j ≡ atom (quoted c) → Noted U R j (quoted c)
          → part_of text R K₁ j ≡ spelling (atom (written_name U c))
      unfolding kind_of spelling written_name stays_quoted
      part_name U c e w = go (is_symbol (doubled c)) refl (in_force U (doubled c)) refl
        where
          n : kind K j ≡ 3
          n = stored_kind v j l ∙ ap kind_of e

          named : written_of text K₁ j ≡ doubled c
          named =
              let (d, h, i) = quoted_is n in
              same-written (λ p q. omega (arith, n)) ∙ h ∙ ap doubled (quoted_told (sym i ∙ e))

          stays : (b : Bool) → has_roles (note R j).roles || not (is_symbol (doubled c)) ≡ b → stays_quoted (note R j).roles (written_of text K₁ j) ≡ b
          stays b f = ap (stays_quoted (note R j).roles) named ∙ f

          roles : (b : Bool) → in_force U (doubled c) ≡ b → has_roles (note R j).roles ≡ b
          roles b f = roles_noted U R j c w ∙ f

          -- It is written bare or quoted as its bytes as written would be; bare they are its characters.
          bare : is_symbol c && not (in_force U c) ≡ true → doubled c ≡ spelling (atom (written_name U c))
          bare f = symbol_doubled c (and_left (is_symbol c) (not (in_force U c)) f) ∙ rw (f, written_name)

          enclosed : is_symbol c && not (in_force U c) ≡ false → 39 ∷ doubled c ++ 39 ∷ [] ≡ spelling (atom (written_name U c))
          enclosed f = rw (f, written_name)

          go :
              (x : Bool) → is_symbol (doubled c) ≡ x → (y : Bool) → in_force U (doubled c) ≡ y
              → part_of text R K₁ j ≡ spelling (atom (written_name U c))
          go true p true q =
              part_quoted (note R j).roles _ (same_kind ∙ n) (stays true (rw (roles true q))) ∙ ap (λ b. 39 ∷ b ++ 39 ∷ []) named
              ∙ enclosed (sym (bare_alike U c) ∙ rw (p, q))
          go true p false q =
              part_bare (note R j).roles _ (same_kind ∙ n) (stays false (rw (roles false q, p))) ∙ named ∙ bare (sym (bare_alike U c) ∙ rw (p, q))
          go false p y q =
              part_quoted (note R j).roles _ (same_kind ∙ n) (stays true (rw (roles y q, p) (or-true y))) ∙ ap (λ b. 39 ∷ b ++ 39 ∷ []) named
              ∙ enclosed (sym (bare_alike U c) ∙ rw p)

      -- A bracket that stays leaves its byte.
      pub part_bracket :
          (u : Token) → token_in text K j ≡ u → 4 ≤ kind_of u → kind_of u ≤ 5 → length (spelling u) ≡ 1 → size K₁ j ≡ 1
          → part_of text R K₁ j ≡ spelling u
      part_bracket u e p q o z =
          let n : kind K j ≡ kind_of u = stored_kind v j l ∙ ap kind_of e in
          let m : 1 ≡ length (spelling (token_in text K j)) = sym (ap (λ x. length (spelling x)) e ∙ o) in
          part_plain (note R j).roles _ (λ x. omega (arith, same_kind)) (λ x. omega (arith, same_kind))
          ∙ ap₂ (λ x s. take x (drop s text)) (z ∙ m) same_start
          ∙ bytes_here (start K j) (stored_offset v j l (λ x. omega arith))
          ∙ ap spelling e

      pub part_none : 4 ≤ kind K j → kind K j ≤ 5 → size K₁ j ≡ 0 → part_of text R K₁ j ≡ []
      part_none p q z =
          part_plain (note R j).roles _ (λ x. omega (arith, same_kind)) (λ x. omega (arith, same_kind)) ∙ ap (λ x. take x (drop (start K₁ j) text)) z
