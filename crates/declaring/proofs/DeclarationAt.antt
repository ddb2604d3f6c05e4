-- One declaration at the front of a part of the row: its tokens are the first ones, so its operator's name is a part of the text, the next
-- one begins behind its `;`, and the checks behind it go on there, with less fuel.
use mathlib.Core.Path.{◌≡◌, refl, sym, ap, subst, ◌∙◌}
use mathlib.Core.Bool.{true, false}
use mathlib.Core.List.{List, ◌++◌}
use mathlib.Core.Option.{some}
use Prim.Native.Nat.{ℕ, suc, ◌+◌, ◌-◌, ◌≤◌, ◌<◌}
use native.Mathlib.Omega.{arith}
use lib.Dec.{leb}
use lib.ListN.{length, drop, get_or, length-append}
use lib.Seq.{drop_at}
use borrow.Author.Tests.{leb-true, le-leb, lt-leb}
use Rattle.grammar.specs.Bytes.{Bytes}
use Rattle.grammar.specs.Token.{Token, Structure, atom, structure, symbol, semicolon, structure_number}
use Rattle.grammar.specs.Outcome.{Outcome, refused, passed}
use Rattle.grammar.specs.Scan.{Placed}
use Rattle.grammar.specs.Answer.{offset_of}
use Rattle.grammar.specs.Operator.{allowed, Role, Table, declare_role, remove_roles}
use Rattle.grammar.specs.Coded.{kind_of}
use Rattle.grammar.specs.Declaration.{
  Declaration,
  declares,
  clears,
  declare,
  value,
  declaration_tokens,
  is_precedence,
  is_declaration,
  unfit,
  parsed,
  declaration,
  operator_place,
  operator_of,
  is_reserved,
  most_operators,
  widest_precedence,
  has_room,
  unchecked,
  enter_part,
}
use Rattle.grammar.specs.Declaration as D
use Rattle.grammar.proofs.Logic.{impossible, and_left, and_right}
use Rattle.grammar.proofs.Declarations.{declaration_sound, enter_end, enter_reserved, enter_step}
use Rattle.grammar.proofs.EnterBehind.{enter_fuel, enter_unfit}
use Rattle.rows.specs.Fields.{TokenRow, kind, start, size}
use Rattle.std.specs.Prelude.{Result, Ok, Err}
use Rattle.rows.specs.declared.fixity.Fixity as F
use Rattle.rows.specs.declared.role.Role as Coded
use Rattle.rows.specs.Codes.{role_code, role_of, fixity_in}
use Rattle.rows.specs.Tokens.{written_of, token_in, atom_of, atom_in, range, size_of, structure_size, Stored}
use Rattle.rows.proofs.Codes.{role-code}
use Rattle.rows.proofs.Ranges.{token_atom, length-range, range_none, range_split, range_token}
use Rattle.rows.proofs.Stored.{stored_kind, stored_size}
use Rattle.declaration_part.proofs.TokenPlaces.{second_next}
use Rattle.declaration_part.specs.Walking.{second_begin}
use Rattle.declaration_part.specs.declared.walk.Span.{Span}
use Rattle.declaration_part.specs.declared.parse.Declaration as C
use Rattle.declaration_part.specs.declared.parse.Declaration.TheVariants as P
use Rattle.declaration_part.specs.Parsing.{IsPlace, Parses}

-- A token of a text by what it is: its kind and its bytes, or how many bytes it has.
module _ {text : Bytes} {ps : List Placed} {K : TokenRow} (v : Stored text ps K) (j : ℕ) (h : j < length ps) where
  pub symbol_kind : (m : Bytes) → token_in text K j ≡ atom (symbol m) → kind K j ≡ 1
  unfolding kind_of
  symbol_kind m e = stored_kind v j h ∙ ap kind_of e

  symbol_name : (m : Bytes) → token_in text K j ≡ atom (symbol m) → written_of text K j ≡ m
  unfolding atom_in atom_of
  symbol_name m e =
      let k = symbol_kind m e in
      let a : atom_in text K j ≡ symbol (written_of text K j) = rw k in
      let t : token_in text K j ≡ atom (atom_in text K j) = token_atom text K j (omega arith) in
      cc

  pub structure_kind : (s : Structure) → token_in text K j ≡ structure s → (kind K j ≡ structure_number s) × (size K j ≡ structure_size s)
  unfolding kind_of size_of
  structure_kind s e = (stored_kind v j h ∙ ap kind_of e, stored_size v j h ∙ ap size_of e)

-- The tokens of a declaration end with its operator and a `;`.
module _ (d : Declaration) where
  operator_second : length (declaration_tokens d) ≡ suc (suc (operator_place d))
  unfolding declaration_tokens operator_place
  operator_second = elim d as (λ d. length (declaration_tokens d) ≡ suc (suc (operator_place d))) [ declares f a v m ↦ refl | clears m ↦ refl ]

  module _ (rest : List Token) where
    operator_token : get_or (declaration_tokens d ++ rest) (operator_place d) (structure semicolon) ≡ atom (symbol (operator_of d))
    unfolding declaration_tokens operator_place operator_of
    operator_token =
        elim d as (λ d. get_or (declaration_tokens d ++ rest) (operator_place d) (structure semicolon) ≡ atom (symbol (operator_of d))) [
          | declares f a v m ↦ refl
          | clears m ↦ refl
        ]

    semicolon_token : get_or (declaration_tokens d ++ rest) (suc (operator_place d)) (structure semicolon) ≡ structure semicolon
    unfolding declaration_tokens operator_place
    semicolon_token =
        elim d as (λ d. get_or (declaration_tokens d ++ rest) (suc (operator_place d)) (structure semicolon) ≡ structure semicolon) [
          | declares f a v m ↦ refl
          | clears m ↦ refl
        ]

module _ (text : Bytes) (K : TokenRow) (to : ℕ) where
  -- What the checks answer of the tokens from number `at` on, under the operators `T`.
  abbrev pub entered : Table → ℕ → Outcome Table
  entered T at = enter_part (to - at) T at (range text K at to)

  entered_unfit : (T : Table) (at n : ℕ) → at < to → declaration (range text K at to) ≡ unfit n → entered T at ≡ refused 8 (at + n)
  entered_unfit T at n h e =
      let l = length-range text K at to in
      enter_unfit unchecked (to - at) T at (range text K at to) n (omega arith) (omega arith) e

  -- Behind the last token.
  pub entered_end : (T : Table) (at : ℕ) → at ≡ to → entered T at ≡ passed T
  entered_end T at h = ap (entered T) h ∙ ap (enter_part (to - to) T to) (range_none text K to) ∙ enter_end unchecked (to - to) T to

  -- A declaration of `n` tokens at `at`, with its operator at token `place` of it, that makes `change` of the operators in force.
  pub record DeclarationAt (ps : List Placed) (at : ℕ) (change : Table → Table) (place n : ℕ) : Type 0 where
    pub within : at + n ≤ to
    pub is_symbol : kind K (at + place) ≡ 1
    pub behind : {p : ℕ} → p ≡ start K (at + place) + size K (at + place) → second_begin text p ≡ offset_of text ps (at + n)
    pub reserves : (T : Table) → is_reserved (written_of text K (at + place)) ≡ true → entered T at ≡ refused 17 (at + place)
    pub refuses :
        (T : Table) → is_reserved (written_of text K (at + place)) ≡ false → most_operators < length (change T)
        → entered T at ≡ refused 9 (at + place)
    pub passes :
        (T : Table) → is_reserved (written_of text K (at + place)) ≡ false → length (change T) ≤ most_operators
        → entered T at ≡ entered (change T) (at + n)

  module _ (ps : List Placed) (v : Stored text ps K) (h : to < length ps) (at : ℕ) (l : at < to) where
    module _ (d : Declaration) (rest : List Token) (e : declaration (range text K at to) ≡ parsed d rest) where
      abbrev place : ℕ
      place = operator_place d

      abbrev n : ℕ
      n = length (declaration_tokens d)

      tokens : range text K at to ≡ declaration_tokens d ++ rest
      tokens = (declaration_sound (range text K at to) d rest e).0

      within : at + n ≤ to
      within = omega (arith, ap length tokens, length-append (declaration_tokens d) rest, length-range text K at to)

      rest_range : rest ≡ range text K (at + n) to
      rest_range =
          sym (drop_at (declaration_tokens d) rest n refl)
          ∙ ap (drop n) (sym tokens ∙ range_split text K at (at + n) to (omega arith) within)
          ∙ drop_at (range text K at (at + n)) (range text K (at + n) to) n (omega (arith, length-range text K at (at + n)))

      token_at : (j : ℕ) → at + j < to → token_in text K (at + j) ≡ get_or (declaration_tokens d ++ rest) j (structure semicolon)
      token_at j k = sym (range_token text K at to j (structure semicolon) k) ∙ ap (λ ts. get_or ts j (structure semicolon)) tokens

      named : token_in text K (at + place) ≡ atom (symbol (operator_of d))
      named = token_at place (omega (arith, within, operator_second d)) ∙ operator_token d rest

      closed : token_in text K (suc (at + place)) ≡ structure semicolon
      closed =
          ap (token_in text K) (omega arith)
          ∙ token_at (suc place) (omega (arith, within, operator_second d))
          ∙ semicolon_token d rest

      operator_name : written_of text K (at + place) ≡ operator_of d
      operator_name = symbol_name v (at + place) (omega (arith, within, operator_second d)) (operator_of d) named

      operator_kind_lem : kind K (at + place) ≡ 1
      operator_kind_lem = symbol_kind v (at + place) (omega (arith, within, operator_second d)) (operator_of d) named

      next_begins : {p : ℕ} → p ≡ start K (at + place) + size K (at + place) → second_begin text p ≡ offset_of text ps (at + n)
      unfolding structure_number structure_size
      next_begins e =
          let w = within in
          let s = operator_second d in
          let b : suc (at + place) < length ps = omega arith in
          let k = operator_kind_lem in
          let z = structure_kind v (suc (at + place)) b semicolon closed in
          second_next v (at + place) b (λ x. omega arith) (λ x. omega (arith, z.0)) e ∙ ap (offset_of text ps) (omega arith)

      -- The checks at this declaration, by the bytes of its operator.
      fuelled : (T : Table) → entered T at ≡ enter_part (suc (to - suc at)) T at (range text K at to)
      fuelled T = let k : to - at ≡ suc (to - suc at) = omega arith in ap (λ k. enter_part k T at (range text K at to)) k

      reserved_step : (T : Table) → is_reserved (written_of text K (at + place)) ≡ true → entered T at ≡ refused 17 (at + place)
      reserved_step T r = fuelled T ∙ enter_reserved unchecked (to - suc at) T at (range text K at to) e (rw operator_name at r)

      step :
          (T : Table) → is_reserved (written_of text K (at + place)) ≡ false
          → entered T at
          ≡ elim (has_room T d) [
            | true ↦ enter_part (to - suc at) (declare T d) (at + n) rest
            | false ↦ refused 9 (at + place)
          ]
      step T r = fuelled T ∙ enter_step unchecked (to - suc at) T at (range text K at to) e (rw operator_name at r)

      further : (T : Table) → enter_part (to - suc at) (declare T d) (at + n) rest ≡ entered (declare T d) (at + n)
      further T =
          let k = length-range text K (at + n) to in
          let s = operator_second d in
          ap (enter_part (to - suc at) (declare T d) (at + n)) rest_range
          ∙ enter_fuel unchecked (to - suc at) (to - (at + n)) (declare T d) (at + n) (range text K (at + n) to) (omega arith) (omega arith)

      declaration_at_lem : DeclarationAt ps at (λ T. declare T d) place n
      unfolding has_room
      declaration_at_lem =
          record {
            within = within;
            is_symbol = operator_kind_lem;
            behind = next_begins;
            reserves = reserved_step;
            refuses = λ T r g. step T r ∙ rw (lt-leb _ _ g, has_room) refl;
            passes = λ T r g. step T r ∙ rw (le-leb _ _ g, has_room) (further T);
          }

    -- What the code answers for it.
    abbrev Said : Result C.Declaration ℕ → Type 0
    Said = Parses K at (declaration (range text K at to))

    pub unfit_at : (T : Table) (m : ℕ) → Said (Err m) → entered T at ≡ refused 8 m
    unfit_at T m = go (declaration (range text K at to)) refl
      where
        go : (p : D.Parsed) → declaration (range text K at to) ≡ p → Parses K at p (Err m) → entered T at ≡ refused 8 m
        go (unfit k) e s = entered_unfit T at k l e ∙ ap (refused 8) (cc)
        go (parsed d rest) e s = absurd s

    -- A role that is declared ..
    pub record RoleAt (f : F.Fixity) (role : Coded.Role) (operator : Span) : Type 0 where
      pub place : IsPlace K (at + 3) operator
      pub is_role : 0 < role.code
      pub declared : Role
      pub coded : role_of role.code ≡ some declared
      pub step : DeclarationAt ps at (declare_role (written_of text K (at + 3)) (fixity_in f) declared) 3 5

    pub role_at : (f : F.Fixity) (role : Coded.Role) (operator : Span) → Said (Ok (P.Role f role operator)) → RoleAt f role operator
    unfolding declare operator_place declaration_tokens operator_of is_declaration is_precedence role_code
    role_at f role operator = go (declaration (range text K at to)) refl
      where
        go : (p : D.Parsed) → declaration (range text K at to) ≡ p → Parses K at p (Ok (P.Role f role operator)) → RoleAt f role operator
        go (unfit k) e s = impossible (cc)
        go (parsed (clears w) rest) e s = absurd s
        go (parsed (declares g a w m) rest) e (x, y, z) =
            let d : Declaration = declares g a w m in
            let q : Role = record { precedence = value w; associativity = a } in
            let p = and_right (allowed g a) _ (declaration_sound (range text K at to) d rest e).1 in
            let low = leb-true 1 (value w) (and_left _ _ p) in
            let high = leb-true (value w) widest_precedence (and_right (leb 1 (value w)) _ p) in
            let name = sym (operator_name d rest e) in
            record {
              place = z;
              is_role = omega arith;
              declared = q;
              coded = ap role_of y ∙ role-code (some q) (low, high);
              step = subst (λ change. DeclarationAt ps at change 3 5) (λ i T. declare_role (name i) (sym x i) q T) (declaration_at_lem d rest e);
            }

    -- .. and a name that is cleared.
    pub record ClearsAt (operator : Span) : Type 0 where
      pub place : IsPlace K (at + 1) operator
      pub step : DeclarationAt ps at (remove_roles (written_of text K (at + 1))) 1 3

    pub clears_at : (operator : Span) → Said (Ok (P.Clears operator)) → ClearsAt operator
    unfolding declare operator_place declaration_tokens operator_of
    clears_at operator = go (declaration (range text K at to)) refl
      where
        go : (p : D.Parsed) → declaration (range text K at to) ≡ p → Parses K at p (Ok (P.Clears operator)) → ClearsAt operator
        go (unfit k) e s = impossible (cc)
        go (parsed (declares g a w m) rest) e s = absurd s
        go (parsed (clears m) rest) e s =
            let name = sym (operator_name (clears m) rest e) in
            record {
              place = s;
              step = subst (λ change. DeclarationAt ps at change 1 3) (λ i T. remove_roles (name i) T) (declaration_at_lem (clears m) rest e);
            }
