-- A paired range by the kind of its first token: what a loop over its items finds there, with the closers that the row holds.
-- It speaks of kinds and closers alone, so a row that keeps these keeps it.
use mathlib.Core.Path.{◌≡◌, sym, ◌∙◌}
use Prim.Native.Nat.{ℕ, suc, ◌≤◌, ◌<◌}
use native.Mathlib.Omega.{arith}
use Rattle.grammar.specs.Bytes.{Bytes}
use Rattle.grammar.specs.Operator.{Table}
use Rattle.rows.specs.Fields.{TokenRow, NoteRow, kind, closer}
use Rattle.rows.specs.Tokens.{IsAtomKind, IsQuietKind, Paired, done, single, bracket, block}
use Rattle.rows.specs.Agreeing.{Agrees, ends, atoms, brackets, blocks}

-- It does not end before it begins.
pub paired_ordered : {K : TokenRow} {i to : ℕ} → Paired K i to → i ≤ to
paired_ordered done = omega arith
paired_ordered (single l k p) = omega arith
paired_ordered (bracket c k w l m y p q) = omega arith
paired_ordered (block c e k w v l m n y z f p q) = omega arith

-- An atom.
pub paired_single : {K : TokenRow} {i to : ℕ} → Paired K i to → i < to → kind K i ≤ 3 → IsAtomKind (kind K i) × Paired K (suc i) to
paired_single done a h = absurd (omega arith)
paired_single (single l k p) a h = (k, p)
paired_single (bracket c k w l m y p q) a h = absurd (omega arith)
paired_single (block c e k w v l m n y z f p q) a h = absurd (omega arith)

-- A bracket pair from `i` to `c`.
pub record BracketAt (K : TokenRow) (i c to : ℕ) : Type 0 where
  pub before : i < c
  pub within : c < to
  pub is_closing : kind K c ≡ 5
  pub inner : Paired K (suc i) c
  pub rest : Paired K (suc c) to

pub paired_bracket :
    {K : TokenRow} {i to : ℕ} → Paired K i to → i < to → kind K i ≡ 4 → (c : ℕ) → closer K i ≡ c → BracketAt K i c to
paired_bracket done a h b g = absurd (omega arith)
paired_bracket (single l k p) a h b g = absurd (omega (arith, k.1))
paired_bracket (bracket c k w l m y p q) a h b g =
    let same : b ≡ c = sym g ∙ w in
    rw same (record { before = l; within = m; is_closing = y; inner = p; rest = q })
paired_bracket (block c e k w v l m n y z f p q) a h b g = absurd (omega arith)

-- A block with `let` at `i`, `in` at `c` and `end` at `e`.
pub record BlockAt (K : TokenRow) (i c e to : ℕ) : Type 0 where
  pub is_let : kind K i ≡ 7
  pub before : i < c
  pub between : c < e
  pub within : e < to
  pub is_in : kind K c ≡ 8
  pub is_end : kind K e ≡ 9
  pub quiet : (j : ℕ) → i < j → j < c → IsQuietKind (kind K j)
  pub body : Paired K (suc c) e
  pub rest : Paired K (suc e) to

pub paired_block :
    {K : TokenRow} {i to : ℕ} → Paired K i to → i < to → 5 ≤ kind K i → (c e : ℕ) → closer K i ≡ c → closer K c ≡ e
    → BlockAt K i c e to
paired_block done a h b d g r = absurd (omega arith)
paired_block (single l k p) a h b d g r = absurd (omega (arith, k.1))
paired_block (bracket c k w l m y p q) a h b d g r = absurd (omega arith)
paired_block (block c e k w v l m n y z f p q) a h b d g r =
    let same : b ≡ c = sym g ∙ w in
    let same' : d ≡ e = sym (rw same at r) ∙ v in
    rw (same, same')
    (record { is_let = k; before = l; between = m; within = n; is_in = y; is_end = z; quiet = f; body = p; rest = q })

-- Where the roles of a range stand in a row, it is paired.
pub agrees_paired : {text : Bytes} {K : TokenRow} {R : NoteRow} {T : Table} {i to : ℕ} → Agrees text K R T i to → Paired K i to
agrees_paired ends = done
agrees_paired (atoms l k n r) = single l k (agrees_paired r)
agrees_paired (brackets c k w l m y z p q) = bracket c k w l m y (agrees_paired p) (agrees_paired q)
agrees_paired (blocks c e k w v l m n y z f a t b p q) = block c e k w v l m n y z f (agrees_paired p) (agrees_paired q)

-- A row with the same kinds and closers is paired too.
module _ (K K' : TokenRow) (kinds : (j : ℕ) → kind K' j ≡ kind K j) (closers : (j : ℕ) → closer K' j ≡ closer K j) where
  pub paired_kept : {i to : ℕ} → Paired K i to → Paired K' i to
  paired_kept done = done
  paired_kept (single {i = i} l k p) = single l (rw (kinds i) k) (paired_kept p)
  paired_kept (bracket {i = i} c k w l m y p q) =
      bracket c (kinds i ∙ k) (closers i ∙ w) l m (kinds c ∙ y) (paired_kept p) (paired_kept q)
  paired_kept (block {i = i} c e k w v l m n y z f p q) =
      block c e (kinds i ∙ k) (closers i ∙ w) (closers c ∙ v) l m n (kinds c ∙ y) (kinds e ∙ z)
      (λ j a b. rw (kinds j) (f j a b)) (paired_kept p) (paired_kept q)
