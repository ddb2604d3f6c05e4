-- The row between turns of the loop that trims: tokens passed have what they leave, the others are as they were.
use Rattle.rows.proofs.Fields.{same_entry, other_entry, within}
use mathlib.Core.Path.{subst, ◌≡◌, sym, ap, ◌∙◌}
use Prim.Native.Nat.{ℕ, suc, ◌+◌, ◌-◌, ◌*◌, ◌≤◌, ◌<◌}
use native.Mathlib.Omega.{arith}
use lib.ListN.{length, drop, set, length-set, length-take, length-drop}
use Rattle.grammar.specs.Canonical.{spaced_pieces}
use Rattle.grammar.specs.Bytes.{Bytes}
use Rattle.grammar.proofs.Logic.{below}
use Rattle.rows.specs.Fields.{TokenRow, NoteRow, blank, token, note, Within, start, size, Holds}
use Rattle.rows.specs.declared.token.Token.{Token}
use Rattle.rows.specs.Tokens.{written_of}
use Rattle.canonical_text.specs.Pieces.{before, parts}
use Rattle.canonical_text.specs.Trimming.{bytes_of, token_part, part_of, Trimmable, Trimmed, TrimmedRow}
use Rattle.canonical_text.proofs.Parts.{before_none, parts_end, parts_next, spaced_next, joined_length}

pub record TrimmedTo (text : Bytes) (R : NoteRow) (K : TokenRow) (n at total : ℕ) (K' : TokenRow) : Type 0 where
  pub upto : at ≤ n
  pub long : length K' ≡ length K
  pub later : (j : ℕ) → at ≤ j → token K' j ≡ token K j
  pub left : (j : ℕ) → j < at → written_of text K' j ≡ part_of text R K j
  pub within : (j : ℕ) → j < at → start K' j + size K' j ≤ length text
  pub sum :
      total + length (spaced_pieces (parts (part_of text R K) at (n - at))) ≡ length (spaced_pieces (parts (part_of text R K) 0 n))
  pub small : total ≤ 16385 * at

module _ {text : Bytes} {R : NoteRow} {K : TokenRow} {n : ℕ} (rows : Holds K n) (h : (j : ℕ) → j < n → Trimmable text (token K j)) where
  module _ {at total : ℕ} {K' : TokenRow} (v : TrimmedTo text R K n at total K') where
    module _ (l : at < n) where
      pub here_trimmable : Trimmable text (token K' at)
      here_trimmable = rw (v.later at (omega arith)) (h at l)

      pub in_row : Within K' at
      in_row = let w = within n K at rows l in (w.0, omega (arith, v.long, w.1))

      module _ {u : Token} (t : Trimmed text (note R at).roles (token K' at) u) where
        abbrev K'' : TokenRow
        K'' = set K' at u

        here : token K'' at ≡ u
        here = same_entry K' at u blank in_row.1

        elsewhere : (j : ℕ) → (j ≡ at → ⊥) → token K'' j ≡ token K' j
        elsewhere j d = other_entry K' at j u blank (λ e. d (sym e))

        left_here : written_of text K'' at ≡ part_of text R K at
        left_here = ap (bytes_of text) here ∙ t.part ∙ ap (token_part text (note R at).roles) (v.later at (omega arith))

        ends_here : start K'' at + size K'' at ≤ length text
        ends_here = subst (λ x. x.start + x.size ≤ length text) (sym here) t.within

        sized_here : size K'' at ≡ length (part_of text R K at)
        sized_here =
            sym (length-take (size K'' at) (drop (start K'' at) text) ∙ omega (arith, ends_here, length-drop (start K'' at) text))
            ∙ ap length left_here

        pub size_bound : size K'' at ≤ 16384
        size_bound = omega (arith, ends_here, (h at l).short)

        -- A turn.
        next :
            (total' : ℕ) → total' ≤ 16385 * suc at
            → total' + length (spaced_pieces (parts (part_of text R K) (suc at) (n - suc at))) ≡ length (spaced_pieces (parts (part_of text R K) 0 n))
            → TrimmedTo text R K n (suc at) total' K''
        next total' small sum = record {
          upto = l;
          long = length-set K' at u ∙ v.long;
          later = λ j q. elsewhere j (λ e. omega arith) ∙ v.later j (omega arith);
          left =
              λ j q. below j at
              (λ m. ap (bytes_of text) (elsewhere j (λ e. omega arith)) ∙ v.left j m)
              (λ m. let e : j ≡ at = omega arith in rw e left_here);
          within =
              λ j q. below j at
              (λ m. subst (λ x. x.start + x.size ≤ length text) (sym (elsewhere j (λ e. omega arith))) (v.within j m))
              (λ m. let e : j ≡ at = omega arith in rw e ends_here);
          sum = sum;
          small = small;
        }

        left_over : parts (part_of text R K) at (n - at) ≡ before (part_of text R K at) (parts (part_of text R K) (suc at) (n - suc at))
        left_over = parts_next (part_of text R K) n at l

        pub trimmed_some : (size K'' at ≡ 0 → ⊥) → TrimmedTo text R K n (suc at) (total + (size K'' at + 1)) K''
        trimmed_some d =
            next (total + (size K'' at + 1)) (omega (arith, v.small, size_bound))
            (omega (
              arith,
              v.sum,
              ap (λ ps. length (spaced_pieces ps)) left_over,
              spaced_next (part_of text R K at) (parts (part_of text R K) (suc at) (n - suc at)) (λ q. d (sized_here ∙ q)),
              sized_here,
            ))

        pub trimmed_none : size K'' at ≡ 0 → TrimmedTo text R K n (suc at) total K''
        trimmed_none d =
            next total (omega (arith, v.small))
            (omega (
              arith,
              v.sum,
              ap (λ ps. length (spaced_pieces ps)) (left_over ∙ before_none (part_of text R K at) _ (sym sized_here ∙ d)),
            ))

    pub trimming_end : n ≤ at → {r : ℕ} → r ≡ total - 1 → TrimmedRow text R K n K' r
    unfolding spaced_pieces
    trimming_end l e =
        let o = ap (λ ps. length (spaced_pieces ps)) (parts_end (part_of text R K) n at l) in
        record {
          in_text = record { rows = (rows.0, omega (arith, v.long, rows.1)); within = λ j m. v.within j (omega (arith, v.upto)) };
          left = λ j m. v.left j (omega (arith, v.upto));
          counted = omega (arith, e, v.sum, o, joined_length (parts (part_of text R K) 0 n));
        }
