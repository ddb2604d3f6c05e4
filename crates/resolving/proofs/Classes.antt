-- The class of a token by its kind: each law takes the tests up to the one that holds. What a class says of the first token of an item,
-- and where its bytes stand.
use mathlib.Core.Path.{◌≡◌, refl, sym, ap, subst, ◌∙◌}
use mathlib.Core.Logic.{◌⊎◌, inl, inr}
use Prim.Native.Nat.{ℕ, ◌+◌, ◌-◌, ◌≤◌, ◌<◌}
use native.Mathlib.Omega.{arith}
use lib.ListN.{length, take, drop}
use Rattle.std.specs.Prelude.{Option, Some, None}
use borrow.Author.Tests.{eq-eqb, ne_eqb}
use Rattle.grammar.specs.Bytes.{Bytes}
use Rattle.grammar.specs.Operator.{Table}
use Rattle.grammar.proofs.Doubling.{IsDoubled}
use Rattle.grammar.proofs.Logic.{below}
use Rattle.rows.specs.Fields.{TokenRow, NoteRow, kind, start, size, closer, Within}
use Rattle.rows.specs.Tokens.{written_of, Paired, done, single, bracket, block}
use Rattle.rows.proofs.Fields.{within}
use Rattle.rows.proofs.Noting.{WordsAt, number_noted, number_item}
use Rattle.rows.proofs.Stored.{part_ends, stored_sized, stored_doubled, stored_written, part_written}
use Rattle.operators.specs.Entries.{coded_find, IsName}
use Rattle.operators.specs.declared.table.Table as E
use Rattle.rows.specs.declared.class.Class.{Class}
use Rattle.rows.specs.declared.class.Class.TheVariants.{Name, Number, Operator, Bracket, Block}
use Rattle.resolving.specs.Resolving.{end_of, found_class, coded_class, Ranged, AtomNoted, Notes}

module _ (text : Bytes) (K : TokenRow) (i : ℕ) (t : E.Table) where
  abbrev class : Class
  class = coded_class text K i t

  abbrev finds : Option ℕ
  finds = coded_find text t.entries (written_of text K i) 0 t.count

  -- A word or sign: what the search of its name finds.
  class_symbol : kind K i ≡ 1 → class ≡ found_class (start K i) (size K i) finds
  unfolding coded_class
  class_symbol e = rw (eq-eqb (kind K i) 1 e, coded_class)

  pub class_operator : kind K i ≡ 1 → (k : ℕ) → finds ≡ Some k → class ≡ Operator k
  unfolding found_class
  class_operator e k f = class_symbol e ∙ ap (found_class (start K i) (size K i)) f

  pub class_name : kind K i ≡ 1 → finds ≡ None → class ≡ Name (start K i) (size K i)
  unfolding found_class
  class_name e f = class_symbol e ∙ ap (found_class (start K i) (size K i)) f

  -- Any other.
  pub class_number : kind K i ≡ 2 → class ≡ Number
  unfolding coded_class
  class_number e = rw (ne_eqb (kind K i) 1 (λ z. omega arith), eq-eqb (kind K i) 2 e, coded_class)

  pub class_bracket : kind K i ≡ 4 → class ≡ Bracket (closer K i)
  unfolding coded_class
  class_bracket e =
      rw (ne_eqb (kind K i) 1 (λ z. omega arith), ne_eqb (kind K i) 2 (λ z. omega arith), eq-eqb (kind K i) 4 e, coded_class)

  pub class_block : kind K i ≡ 7 → class ≡ Block (end_of K i)
  unfolding coded_class
  class_block e =
      rw (
        ne_eqb (kind K i) 1 (λ z. omega arith),
        ne_eqb (kind K i) 2 (λ z. omega arith),
        ne_eqb (kind K i) 4 (λ z. omega arith),
        eq-eqb (kind K i) 7 e,
        coded_class,
      )

  pub class-other :
      (kind K i ≡ 1 → ⊥) → (kind K i ≡ 2 → ⊥) → (kind K i ≡ 4 → ⊥) → (kind K i ≡ 7 → ⊥) → class ≡ Name (start K i) (size K i)
  unfolding coded_class
  class-other a b c d = rw (ne_eqb (kind K i) 1 a, ne_eqb (kind K i) 2 b, ne_eqb (kind K i) 4 c, ne_eqb (kind K i) 7 d, coded_class)

  -- What a class says: of a name, that it is no operator or that it is quoted.
  abbrev pub Says : Class → Type 0
  Says (Operator k) = (kind K i ≡ 1) × (finds ≡ Some k)
  Says (Name s n) = (s ≡ start K i) × (n ≡ size K i) × (((kind K i ≡ 1) × (finds ≡ None)) ⊎ (kind K i ≡ 3))
  Says Number = kind K i ≡ 2
  Says (Bracket c) = (kind K i ≡ 4) × (closer K i ≡ c)
  Says (Block e) = (kind K i ≡ 7) × (end_of K i ≡ e)

  symbol_says : kind K i ≡ 1 → (f : Option ℕ) → finds ≡ f → Says (found_class (start K i) (size K i) f)
  unfolding found_class
  symbol_says k (Some e) f = (k, f)
  symbol_says k None f = (refl, refl, inl (k, f))

  atom_says : (1 ≤ kind K i) × (kind K i ≤ 3) → Says class
  atom_says h =
      below (kind K i) 2
      (λ l. let k : kind K i ≡ 1 = omega (arith, h.0) in rw (class_symbol k) (symbol_says k finds refl))
      (λ l. below (kind K i) 3
      (λ m. let k : kind K i ≡ 2 = omega arith in rw (class_number k) k)
      (λ m. let k : kind K i ≡ 3 = omega (arith, h.1) in
      rw (class-other (λ z. omega arith) (λ z. omega arith) (λ z. omega arith) (λ z. omega arith)) (refl, refl, inr k)))

  class_says : {to : ℕ} → Paired K i to → i < to → Says class
  class_says done l = absurd (omega arith)
  class_says (single l k p) m = atom_says k
  class_says (bracket c k w l m y p q) n = rw (class_bracket k) (k, refl)
  class_says (block c e k w v l m n y z f p q) o = rw (class_block k) (k, refl)

  pub found_says : {to : ℕ} → Paired K i to → i < to → (x : Class) → x ≡ class → Says x
  found_says p l x e = subst Says (sym e) (class_says p l)

-- A token of a range stands in the row of roles, and its bytes in the text.
module _ {text : Bytes} {K : TokenRow} {R : NoteRow} {i to : ℕ} (g : Ranged text K R i to) (l : i < to) where
  pub stands : i < length g.placed
  stands = omega (arith, g.within)

  pub roles_within : Within R i
  roles_within = within (length g.placed) R i g.roles stands

  pub part_within : {s n : ℕ} → s ≡ start K i → n ≡ size K i → s + n ≤ length text
  part_within a b = part_ends g.stored i stands a b

  pub part_is : {s n : ℕ} → s ≡ start K i → n ≡ size K i → take (s + n - s) (drop s text) ≡ written_of text K i
  part_is a b = part_written text K i a b

  pub part_doubled : kind K i ≡ 3 → IsDoubled (written_of text K i)
  part_doubled = stored_doubled g.stored i stands

  pub token_ends : start K i + size K i ≤ length text
  token_ends = part_ends g.stored i stands refl refl

  pub token_named : {m : Bytes} → m ≡ written_of text K i → kind K i ≤ 3 → IsName m
  token_named e k = rw e (omega (arith, stored_written g.stored i stands, stored_sized g.stored i stands k))

  pub part_named : {s n : ℕ} → s ≡ start K i → n ≡ size K i → kind K i ≤ 3 → IsName (take (s + n - s) (drop s text))
  part_named a b k =
      rw (part_is a b) (omega (arith, stored_written g.stored i stands, stored_sized g.stored i stands k))

-- A name is quoted or no operator.
pub name_kind_lem : {X : Type 0} {k : ℕ} → ((k ≡ 1) × X) ⊎ (k ≡ 3) → k ≤ 3
name_kind_lem (inl h) = omega (arith, h.0)
name_kind_lem (inr h) = omega arith

-- By the class: a number, bracket pair or block is noted without roles; a name, number or operator is an atom.
module _ (text : Bytes) (K : TokenRow) (T : Table) (R : NoteRow) (i : ℕ) (R' : NoteRow) where
  pub no_roles_noted :
      (t : E.Table) (x : Class) → ((k : ℕ) → x ≡ Operator k → ⊥) → ((s n : ℕ) → x ≡ Name s n → ⊥) → Says text K i t x
      → WordsAt R i 0 0 0 0 R' → Notes text K T R i R' x
  no_roles_noted t (Name s n) o m h w = absurd (m s n refl)
  no_roles_noted t (Operator e) o m h w = absurd (o e refl)
  no_roles_noted t Number o m h w = number_item text K T R i R' h (number_noted R i R' T _ w)
  no_roles_noted t (Bracket c) o m h w = (h.0, h.1, w.arrives, w.kept)
  no_roles_noted t (Block e) o m h w = (h.0, h.1, w.arrives, w.kept)

  pub atom_noted : (x : Class) → ((c : ℕ) → x ≡ Bracket c → ⊥) → ((e : ℕ) → x ≡ Block e → ⊥) → Notes text K T R i R' x → AtomNoted text K T R i R'
  atom_noted (Name s n) o m h = h
  atom_noted Number o m h = h
  atom_noted (Operator e) o m h = h
  atom_noted (Bracket c) o m h = absurd (o c refl)
  atom_noted (Block e) o m h = absurd (m e refl)
