-- What is noted of a token under the starting operators: a name has the roles of the operator with its number, of which none is postfix;
-- a number and a bracket have none. One token after the other, the notes of those before it are kept.
use mathlib.Core.Path.{◌≡◌, refl, sym, ap, fun_ext, ◌∙◌}
use mathlib.Core.Logic.{inl}
use Prim.Native.Nat.{ℕ, suc, ◌≤◌, ◌<◌}
use native.Mathlib.Omega.{arith}
use lib.ListN.{length, set}
use lib.Dec.{eqb}
use denote.Enum.Bare.{sameb}
use Rattle.rows.specs.contracts.token.Kind.{the_type}
use Rattle.rows.specs.declared.token.Kind.{Kind}
use Rattle.rows.specs.declared.token.Kind.TheVariants.{Symbol, Number, Quoted, Opening, Closing, Semicolon, Let, In, End}
use Rattle.rows.specs.Kinds.{kind_code}
use Rattle.grammar.specs.Bytes.{Bytes}
use Rattle.grammar.specs.Token.{Atom, symbol, quoted, doubled}
use Rattle.grammar.specs.Operator.{Fixity, Prefix, Infix, Postfix, role}
use Rattle.grammar.specs.Declaration.{start_table}
use Rattle.grammar.proofs.Logic.{below}
use Rattle.rows.specs.declared.roles.Note.{Note}
use Rattle.rows.specs.Fields.{TokenRow, NoteRow, kind, Within}
use Rattle.rows.specs.Codes.{role_code, arrival_of}
use Rattle.rows.specs.Agreeing.{roles_for, arrival_for, KeptOutside, NotedAt}
use Rattle.rows.proofs.Fields.{within}
use Rattle.rows.proofs.Noting.{kept_none, kept_join, noted_kept, WordsAt, words_stored, noted, number_noted, NotedAtom, number_item}
use Rattle.starting_operators.specs.Starting.{
  start_number,
  start_roles,
  start_count,
  Unnumbered,
  HasRoles,
  Notable,
  NotedToken,
  NotesToken,
  NotesAll,
}
use Rattle.starting_operators.proofs.Numbers.{start_roles_lem}
use Rattle.starting_operators.proofs.Roles.{no_arrival_beyond, no_roles_coded}

-- A token of those in the rows.
module _ {text : Bytes} {K : TokenRow} {R : NoteRow} {n : ℕ} (g : Notable text K R n) {i : ℕ} (h : i < n) where
  pub stands : i < length g.placed
  stands = omega (arith, g.within)

  pub roles_within : Within R i
  roles_within = within n R i g.roles h

-- The rows are those of as many tokens when the row of roles is changed.
pub notable_kept : {text : Bytes} {K : TokenRow} {R R' : NoteRow} {n : ℕ} → Notable text K R n → length R' ≡ length R → Notable text K R' n
notable_kept g e =
    record {
      placed = g.placed;
      stored = g.stored;
      within = g.within;
      flat = g.flat;
      tokens = g.tokens;
      roles = omega (arith, g.roles);
    }

-- A note without roles.
pub record IsBlank (x : Note) : Type 0 where
  pub prefixed : x.roles.prefix.code ≡ 0
  pub between : x.roles.«infix».code ≡ 0
  pub postfixed : x.roles.postfix.code ≡ 0
  pub arrives : x.arrival ≡ 0

-- A name, by the roles that are noted of it: those of the operator with its number.
module _ (name : Bytes) (R : NoteRow) (i : ℕ) (R' : NoteRow) (w : Within R i) where
  name_code : {n : ℕ} → n ≡ start_number name → (f : Fixity) → role_code (start_roles n f) ≡ role_code (role start_table name f)
  name_code e f = ap (λ m. role_code (start_roles m f)) e ∙ ap role_code (start_roles_lem name f)

  module _ {n : ℕ} (x : Note) (e : n ≡ start_number name) (h : HasRoles n x.roles) (s : R' ≡ set R i x) where
    name_notes :
        (b : Atom) → ((f : Fixity) → role start_table name f ≡ roles_for start_table b f) → x.arrival ≡ arrival_for start_table b
        → NotedAt start_table R i b R'
    name_notes b r z =
        noted start_table R i R' b
        (h.prefixed ∙ name_code e Prefix ∙ ap role_code (r Prefix))
        (h.between ∙ name_code e Infix ∙ ap role_code (r Infix))
        (h.postfixed ∙ name_code e Postfix ∙ ap role_code (r Postfix))
        (words_stored i x w s refl refl refl z)

    pub symbol_noted : x.arrival ≡ arrival_of (start_roles n) → NotedAt start_table R i (symbol name) R'
    unfolding roles_for arrival_for
    symbol_noted z =
        name_notes (symbol name) (λ f. refl) (z ∙ ap (λ m. arrival_of (start_roles m)) e ∙ ap arrival_of (fun_ext (start_roles_lem name)))

    pub quoted_noted : x.arrival ≡ 0 → (c : Bytes) → name ≡ doubled c → NotedAt start_table R i (quoted c) R'
    unfolding roles_for arrival_for
    quoted_noted z c d = name_notes (quoted c) (λ f. ap (λ w. role start_table w f) d) z

  -- One that has no number, by a note without roles.
  module _ (u : Unnumbered name) (x : Note) (z : IsBlank x) (s : R' ≡ set R i x) where
    no_more : start_count ≤ start_count
    no_more = omega arith

    none_there : HasRoles start_count x.roles
    none_there = no_roles_coded start_count no_more z.prefixed z.between z.postfixed

    pub unnumbered_noted : NotedAt start_table R i (symbol name) R'
    unnumbered_noted = symbol_noted x (sym u) none_there s (z.arrives ∙ no_arrival_beyond start_count no_more)

    pub unnumbered_quoted : (c : Bytes) → name ≡ doubled c → NotedAt start_table R i (quoted c) R'
    unnumbered_quoted = quoted_noted x (sym u) none_there s z.arrives

-- A token, by what is noted of it.
module _ (text : Bytes) (K : TokenRow) (R : NoteRow) (i : ℕ) (R' : NoteRow) where
  pub atom_notes : NotedAtom text K start_table R i R' → NotesToken text K R i R'
  atom_notes (k, n) = record { noted = record { atoms = λ _. n.noted; opens = λ e. absurd (omega arith) }; kept = n.kept }

  module _ (w : Within R i) (x : Note) (z : IsBlank x) (s : R' ≡ set R i x) where
    words : WordsAt R i 0 0 0 0 R'
    words = words_stored i x w s z.prefixed z.between z.postfixed z.arrives

    pub number_notes : kind K i ≡ 2 → NotesToken text K R i R'
    number_notes k = atom_notes (number_item text K start_table R i R' k (number_noted R i R' start_table _ words))

    pub bracket_notes : kind K i ≡ 4 → NotesToken text K R i R'
    bracket_notes k = record { noted = record { atoms = λ h. absurd (omega arith); opens = λ _. words.arrives }; kept = words.kept }

-- One token more.
module _ {text : Bytes} {K : TokenRow} where
  noted_token_kept : {R R' : NoteRow} {j : ℕ} (i : ℕ) → j < i → KeptOutside R i (suc i) R' → NotedToken text K R j → NotedToken text K R' j
  noted_token_kept {R} {R'} {j} i l k t =
      record {
        atoms = λ h. noted_kept (k.same j (inl l)) (t.atoms h);
        opens = λ d. ap (λ x. x.arrival) (k.same j (inl l)) ∙ t.opens d;
      }

  pub none_noted : (R : NoteRow) → NotesAll text K 0 R R
  none_noted R = record { noted = λ j h. absurd (omega arith); kept = kept_none R 0 0 }

  pub next_noted :
      {i : ℕ} {R : NoteRow} {M : NoteRow} {R' : NoteRow} → NotesAll text K i R M → NotesToken text K M i R' → NotesAll text K (suc i) R R'
  next_noted {i} {R} {M} {R'} a t =
      record {
        noted = λ j h. below j i (λ l. noted_token_kept i l t.kept (a.noted j l)) (λ l. let e : j ≡ i = omega arith in rw e t.noted);
        kept = kept_join 0 (suc i) a.kept t.kept (omega arith) (omega arith) (omega arith) (omega arith);
      }

  -- Nothing is noted of a closing bracket.
  pub passed_over : {i : ℕ} {R : NoteRow} {M : NoteRow} → NotesAll text K i R M → kind K i ≡ 5 → NotesAll text K (suc i) R M
  passed_over {i} {R} {M} a k =
      next_noted a
      (record { noted = record { atoms = λ h. absurd (omega arith); opens = λ e. absurd (omega arith) }; kept = kept_none M i (suc i) })

-- The tests of a token's kind, by its number.
pub is_quoted : (k : Kind) → sameb the_type k Quoted ≡ eqb (kind_code k) 3
is_quoted Symbol = refl
is_quoted Number = refl
is_quoted Quoted = refl
is_quoted Opening = refl
is_quoted Closing = refl
is_quoted Semicolon = refl
is_quoted Let = refl
is_quoted In = refl
is_quoted End = refl

pub is_closing : (k : Kind) → sameb the_type k Closing ≡ eqb (kind_code k) 5
is_closing Symbol = refl
is_closing Number = refl
is_closing Quoted = refl
is_closing Opening = refl
is_closing Closing = refl
is_closing Semicolon = refl
is_closing Let = refl
is_closing In = refl
is_closing End = refl
