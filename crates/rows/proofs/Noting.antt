-- What is noted of an atom: the note that is stored at its token has the numbers of its roles under the operators of a table, and the rest of
-- the row is kept. Which atom it is, its kind says.
use mathlib.Core.Path.{◌≡◌, refl, sym, ap, subst, ◌∙◌}
use mathlib.Core.Logic.{◌⊎◌, inl, inr}
use Prim.Native.Nat.{ℕ, suc, ◌≤◌, ◌<◌}
use native.Mathlib.Omega.{arith}
use lib.Dec.{eqb}
use lib.ListN.{set, length-set}
use borrow.Author.Tests.{eq-eqb, ne_eqb}
use Rattle.grammar.specs.Bytes.{Bytes}
use Rattle.grammar.specs.Token.{Atom, symbol, number, quoted, undoubled}
use Rattle.grammar.specs.Operator.{Prefix, Infix, Postfix}
use Rattle.grammar.specs.Operator as G
use Rattle.grammar.proofs.Doubling.{IsDoubled, undoubled-doubled}
use Rattle.rows.specs.declared.roles.Note.{Note}
use Rattle.rows.specs.Fields.{TokenRow, NoteRow, no_note, note, kind, prefix, infixed, postfix, arrival, Within}
use Rattle.rows.specs.Codes.{role_code}
use Rattle.rows.specs.Tokens.{written_of, atom_of, atom_in, IsAtomKind}
use Rattle.rows.specs.Agreeing.{roles_for, arrival_for, Noted, KeptOutside, NotedAt, NameNoted}
use Rattle.rows.proofs.Fields.{same_entry, other_entry}

-- What is kept twice is kept.
pub kept_none : (R : NoteRow) (from to : ℕ) → KeptOutside R from to R
kept_none R from to = record { long = refl; same = λ j o. refl }

pub kept_join :
    {R M R' : NoteRow} {a b c d : ℕ} (from to : ℕ) → KeptOutside R a b M → KeptOutside M c d R'
    → from ≤ a → b ≤ to → from ≤ c → d ≤ to → KeptOutside R from to R'
kept_join {R} {M} {R'} {a} {b} {c} {d} from to x y h l m n =
    record { long = y.long ∙ x.long; same = λ j o. y.same j (outer o m n) ∙ x.same j (outer o h l) }
  where
    outer : {j u v : ℕ} → (j < from) ⊎ (to ≤ j) → from ≤ u → v ≤ to → (j < u) ⊎ (v ≤ j)
    outer (inl o) h l = inl (omega arith)
    outer (inr o) h l = inr (omega arith)

-- What is noted of a token stays where its note does.
pub noted_kept : {T : G.Table} {R R' : NoteRow} {i : ℕ} {a : Atom} → note R' i ≡ note R i → Noted T R i a → Noted T R' i a
noted_kept e n = record { prefixed = cc; between = cc; postfixed = cc; arrives = cc }

-- The numbers of a token's roles and its arrival.
pub record WordsAt (R : NoteRow) (i p q s a : ℕ) (R' : NoteRow) : Type 0 where
  pub prefixed : prefix R' i ≡ p
  pub between : infixed R' i ≡ q
  pub postfixed : postfix R' i ≡ s
  pub arrives : arrival R' i ≡ a
  pub kept : KeptOutside R i (suc i) R'

module _ (i : ℕ) where
  set_outside : (R : NoteRow) (n : Note) → KeptOutside R i (suc i) (set R i n)
  set_outside R n = record { long = length-set R i n; same = λ j o. other_entry R i j n no_note (apart o) }
    where
      apart : {j : ℕ} → (j < i) ⊎ (suc i ≤ j) → i ≡ j → ⊥
      apart (inl l) e = omega arith
      apart (inr l) e = omega arith

  pub words_stored :
      {R R' : NoteRow} {p q s a : ℕ} (n : Note) → Within R i → R' ≡ set R i n → n.roles.prefix.code ≡ p → n.roles.«infix».code ≡ q
      → n.roles.postfix.code ≡ s → n.arrival ≡ a → WordsAt R i p q s a R'
  words_stored {R} {R'} n w e x y z v =
      let f : note R' i ≡ n = rw e (same_entry R i n no_note w.1) in
      record { prefixed = cc; between = cc; postfixed = cc; arrives = cc; kept = rw e (set_outside R n) }

-- Those that an atom has.
module _ (T : G.Table) (R : NoteRow) (i : ℕ) (R' : NoteRow) (a : Atom) where
  pub noted : {p q s : ℕ} → p ≡ role_code (roles_for T a Prefix) → q ≡ role_code (roles_for T a Infix) → s ≡ role_code (roles_for T a Postfix)
      → WordsAt R i p q s (arrival_for T a) R' → NotedAt T R i a R'
  noted p q s w =
      record {
        noted =
            record {
              prefixed = w.prefixed ∙ p;
              between = w.between ∙ q;
              postfixed = w.postfixed ∙ s;
              arrives = w.arrives;
            };
        kept = w.kept;
      }

module _ (R : NoteRow) (i : ℕ) (R' : NoteRow) where
  pub number_noted : (T : G.Table) (d : Bytes) → WordsAt R i 0 0 0 0 R' → NotedAt T R i (number d) R'
  unfolding roles_for arrival_for role_code
  number_noted T d w = noted T R i R' (number d) refl refl refl w

-- What is noted of an atom, by the kind of its token.
module _ (text : Bytes) (K : TokenRow) (T : G.Table) (R : NoteRow) (i : ℕ) (R' : NoteRow) where
  abbrev pub NotedAtom : Type 0
  NotedAtom = IsAtomKind (kind K i) × NotedAt T R i (atom_in text K i) R'

  pub symbol_item : kind K i ≡ 1 → NotedAt T R i (symbol (written_of text K i)) R' → NotedAtom
  unfolding atom_in atom_of
  symbol_item e n = rw e (omega arith, n)

  pub number_item : kind K i ≡ 2 → NotedAt T R i (number (written_of text K i)) R' → NotedAtom
  unfolding atom_in atom_of
  number_item e n = rw e (omega arith, n)

  pub quoted_item : kind K i ≡ 3 → NotedAt T R i (quoted (undoubled (written_of text K i))) R' → NotedAtom
  unfolding atom_in atom_of
  quoted_item e n = rw e (omega arith, n)

  -- A name is quoted or no operator.
  pub name_item :
      (NoOperator : Bytes → Type 0) {k : ℕ} {m : Bytes} → k ≡ kind K i → m ≡ written_of text K i
      → ((kind K i ≡ 1) × NoOperator (written_of text K i)) ⊎ (kind K i ≡ 3) → (kind K i ≡ 3 → IsDoubled (written_of text K i))
      → NameNoted (eqb k 3) NoOperator T m R i R' → NotedAtom
  name_item P {k} e d (inl h) w n = symbol_item h.0 (rw (ne_eqb k 3 (λ z. omega (arith, h.0)), d) at n h.1)
  name_item P {k} e d (inr h) w n =
      let (c, x) = w h in
      quoted_item h (subst (λ b. NotedAt T R i (quoted b) R') (sym (ap undoubled x ∙ undoubled-doubled c)) (rw (eq-eqb k 3 (e ∙ h), d) at n c x))
