-- Where the tokens of a row begin and end, told from the text. The scan takes at a token's offset as many bytes as `token_size` says, and
-- the next token stands behind the blanks.
use mathlib.Core.Path.{◌≡◌, refl, sym, ap, ap₂, ◌∙◌}
use mathlib.Core.List.{List, []}
use Prim.Native.Nat.{ℕ, suc, ◌+◌, ◌≤◌, ◌<◌}
use native.Mathlib.Omega.{arith}
use lib.ListN.{length, drop}
use Rattle.grammar.specs.Bytes.{Bytes, every}
use Rattle.grammar.specs.Token.{is_blank_byte, spelling}
use Rattle.grammar.specs.Scan.{Placed}
use Rattle.grammar.specs.Coded.{kind_of}
use Rattle.grammar.specs.Answer.{offset_of}
use Rattle.grammar.proofs.Runs.{run-append}
use Rattle.grammar.proofs.Scanned.{taken_not_blank}
use Rattle.byte_strings.proofs.Suffixes.{run-within}
use Rattle.rows.specs.Fields.{TokenRow, kind, start, size}
use Rattle.rows.specs.Tokens.{token_in, Stored}
use Rattle.rows.proofs.TokenBytes.{token_ends}
use Rattle.rows.proofs.Stored.{stored_kind, stored_place, stored_size, stored_offset, stored_front, stored_next}
use Rattle.scanner.specs.Places.{token_size, token_end, blanks_end}
use Rattle.scanner.proofs.TokenSizes.{taken-size, token_within}
use Rattle.declaration_part.specs.declared.walk.Span.{Span}
use Rattle.declaration_part.specs.declared.walk.Places.{Places}
use Rattle.declaration_part.specs.Walking.{Next, second_begin, Walked}
use Rattle.declaration_part.specs.Parts.{IsPart}

-- A quoted name or a bracket: the row has not all their bytes.
abbrev pub Enclosed : ℕ → Type 0
Enclosed k = (3 ≤ k) × (k ≤ 5)

module _ {text : Bytes} {ps : List Placed} {K : TokenRow} (v : Stored text ps K) where
  module _ (j : ℕ) (h : j < length ps) where
    -- No blank stands where a token begins.
    pub begins_there : blanks_end text (offset_of text ps j) ≡ offset_of text ps j
    unfolding every
    begins_there =
        omega (arith, run-append is_blank_byte [] (drop (offset_of text ps j) text) refl (taken_not_blank _ _ _ (stored_front v j h)))

    module _ (d : Enclosed (kind K j) → ⊥) where
      plain : kind_of (token_in text K j) ≡ 3 → ⊥
      plain e = d (omega (arith, stored_kind v j h))

      spelled : length (spelling (token_in text K j)) ≡ token_size (drop (offset_of text ps j) text)
      spelled = taken-size _ _ _ (stored_front v j h) plain

      begins_offset : start K j ≡ offset_of text ps j
      begins_offset = stored_offset v j h (λ e. plain (sym (stored_kind v j h) ∙ e))

      -- A token ends where its bytes do, ..
      pub ends_there : {p : ℕ} → p ≡ start K j → token_end text p ≡ start K j + size K j
      ends_there e =
          ap (token_end text) (e ∙ begins_offset)
          ∙ ap (λ n. offset_of text ps j + n) (sym spelled)
          ∙ sym ((token_ends (token_in text K j) (offset_of text ps j)).plain (λ l m. d (omega (arith, stored_kind v j h))))
          ∙ sym (ap₂ ◌+◌ (stored_place v j h) (stored_size v j h))

      -- .. and the next one begins behind the blanks there.
      pub next_there : {e : ℕ} → e ≡ start K j + size K j → blanks_end text e ≡ offset_of text ps (suc j)
      next_there e = ap (blanks_end text) e ∙ sym (stored_next v j h (λ l m. d (l, m)))

      second_there : (p : ℕ) → blanks_end text p ≡ offset_of text ps j → second_begin text p ≡ offset_of text ps (suc j)
      second_there p e = ap (λ b. blanks_end text (token_end text b)) e ∙ next_there (ends_there (sym begins_offset))

      -- So from the place of a token on the second one is the next.
      pub second_behind : {p : ℕ} → p ≡ start K j → second_begin text p ≡ offset_of text ps (suc j)
      second_behind e = second_there _ (ap (blanks_end text) (e ∙ begins_offset) ∙ begins_there)

  -- From the end of a token on the second one is the one behind the next.
  pub second_next :
      (j : ℕ) → suc j < length ps → (Enclosed (kind K j) → ⊥) → (Enclosed (kind K (suc j)) → ⊥) → {p : ℕ} → p ≡ start K j + size K j
      → second_begin text p ≡ offset_of text ps (suc (suc j))
  second_next j h d d' e = second_there (suc j) h d' _ (next_there j (omega arith) d e)

-- What the reader passes lies in the text.
module _ (text : Bytes) where
  part_at : {place : Span} → place.start ≤ length text → place.end ≡ token_end text place.start → IsPart text place
  part_at {place} h e = omega (arith, token_within text place.start h)

  part_next : (before : Span) {place : Span} → before.end ≤ length text → Next text before place → IsPart text place
  part_next before h n = part_at (omega (arith, n.0, run-within is_blank_byte text before.end h)) n.1

  module _ (before : ℕ) {p : Places} (w : Walked text before p) (h : second_begin text before ≤ length text) where
    pub first_part : IsPart text p.first
    first_part = part_at (omega (arith, w.first.0)) w.first.1

    pub second_part_lem : IsPart text p.second
    second_part_lem = part_next p.first first_part.1 w.second

    pub third_part : IsPart text p.third
    third_part = part_next p.second second_part_lem.1 w.third
