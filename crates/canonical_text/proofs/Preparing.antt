-- The two stages over the rows of a text that is read: the pairs that stay are kept, then each token is trimmed; what is left joined is the
-- canonical text.
use mathlib.Core.Path.{◌≡◌, ap, ◌∙◌}
use Prim.Native.Nat.{ℕ, ◌<◌}
use native.Mathlib.Omega.{arith}
use lib.ListN.{length}
use Rattle.grammar.specs.Bytes.{Bytes}
use Rattle.grammar.specs.Declaration.{start_table}
use Rattle.grammar.specs.Canonical.{canonical_text, join_pieces, join_tokens}
use Rattle.grammar.specs.Answer.{Reading, reading_text}
use Rattle.rows.specs.Fields.{TokenRow, NoteRow, RootRow, token, Holds}
use Rattle.rows.specs.Tokens.{written_of}
use Rattle.rows.specs.Reading.{Ready}
use Rattle.canonical_text.specs.Pieces.{parts, Prepared}
use Rattle.canonical_text.specs.Brackets.{Keepable, KeptRow}
use Rattle.canonical_text.specs.Trimming.{part_of, Trimmable, TrimmedRow}
use Rattle.canonical_text.proofs.Parts.{parts_same}
use Rattle.canonical_text.proofs.ReadyTree.{ready_spelled, ready_whole, ready_tree}
use Rattle.canonical_text.proofs.TokenParts.{stored_bracket, kept_trimmable}
use Rattle.canonical_text.proofs.TreeParts.{whole_parts}

module _ {text : Bytes} {K : TokenRow} {R : NoteRow} {O : RootRow} {r : Reading} (h : Ready text K R O r) {n : ℕ} (c : n ≡ length r.tokens) where
  pub ready_keepable : Keepable K R O n start_table r.tree
  ready_keepable = rw c (record { tree = ready_tree h; whole = ready_whole h; none = stored_bracket h.stored })

  module _ {K₁ : TokenRow} (k : KeptRow K start_table r.tree K₁) where
    pub ready_held : Holds K₁ n × Holds R n
    ready_held = rw c (omega (arith, h.tokens, k.long), h.roles)

    pub ready_trimmable : (j : ℕ) → j < n → Trimmable text (token K₁ j)
    ready_trimmable j l =
        let m : j < length r.tokens = omega arith in
        kept_trimmable h.stored j m k R h.short

    -- What the tokens leave, joined.
    joined : join_pieces (parts (part_of text R K₁) 0 n) ≡ reading_text r
    unfolding reading_text canonical_text join_tokens
    joined =
        ap (λ m. join_pieces (parts (part_of text R K₁) 0 m)) (c ∙ ready_whole h)
        ∙ ap join_pieces (whole_parts h.stored k R start_table r.tree (ready_tree h) (ready_spelled h) k.sized)

    pub ready_prepared : {K₂ : TokenRow} {total : ℕ} → TrimmedRow text R K₁ n K₂ total → Prepared text K₂ n r total
    ready_prepared {K₂} {total} t = record {
      in_text = t.in_text;
      joined = ap join_pieces (parts_same (written_of text K₂) (part_of text R K₁) 0 n (λ j l m. t.left j (omega arith))) ∙ joined;
      counted = t.counted ∙ ap length joined;
    }
