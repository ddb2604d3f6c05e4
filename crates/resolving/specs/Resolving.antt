-- Refusals 8 to 10 and 17 over all blocks, and the roles in force of each item.
use Rattle.std.specs.Prelude.{◌≡◌, true, false, List, ℕ, suc, ◌-◌, ◌≤◌, ◌<◌, eqb, length, Option, Some, None, Result, Ok}
use Rattle.grammar.specs.Fault.{longest_text}
use Rattle.grammar.specs.Bytes.{Bytes}
use Rattle.grammar.specs.Token.{symbol}
use Rattle.grammar.specs.Outcome.{Outcome, refused, passed}
use Rattle.grammar.specs.Scan.{Placed}
use Rattle.grammar.specs.Operator.{Table, permitted}
use Rattle.grammar.specs.Declaration.{enter}
use Rattle.grammar.specs.Blocks.{check_blocks}
use Rattle.rows.specs.Fields.{TokenRow, NoteRow, kind, start, size, closer, arrival, Holds}
use Rattle.rows.specs.Tokens.{written_of, atom_in, range, IsAtomKind, Paired, Stored}
use Rattle.rows.specs.Agreeing.{KeptOutside, NotedAt, Agrees}
use Rattle.refusals.specs.declared.Refused.{Refused}
use Rattle.refusals.specs.Numbers.{Refuses}
use Rattle.operators.specs.Entries.{coded_find, table_of, Sound}
use Rattle.operators.specs.declared.table.Table as E
use Rattle.rows.specs.declared.class.Class.{Class}
use Rattle.rows.specs.declared.class.Class.TheVariants.{Name, Number, Operator, Bracket, Block}

-- The `end` of the block whose `let` is token number `i`.
abbrev pub end_of : TokenRow → ℕ → ℕ
end_of K i = closer K (closer K i)

-- The class of the first token of an item by its kind: of a symbol, by whether its name is that of an operator.
unfoldable pub found_class : ℕ → ℕ → Option ℕ → Class
found_class at n (Some i) = Operator i
found_class at n None = Name at n

unfoldable pub coded_class : Bytes → TokenRow → ℕ → E.Table → Class
coded_class text K i t =
    elim (eqb (kind K i) 1) [
      | true ↦ found_class (start K i) (size K i) (coded_find text t.entries (written_of text K i) 0 t.count)
      | false ↦
          elim (eqb (kind K i) 2) [
            | true ↦ Number
            | false ↦
                elim (eqb (kind K i) 4) [
                  | true ↦ Bracket (closer K i)
                  | false ↦
                      elim (eqb (kind K i) 7) [ true ↦ Block (end_of K i) | false ↦ Name (start K i) (size K i) ]
                ]
          ]
    ]

-- The tokens of the text, paired from `from` to `to`, with a row for their notes.
pub record Ranged (text : Bytes) (K : TokenRow) (R : NoteRow) (from to : ℕ) : Type 0 where
  pub placed : List Placed
  pub stored : Stored text placed K
  pub short : length text ≤ longest_text
  pub within : to ≤ length placed
  pub tokens : Holds K (length placed)
  pub roles : Holds R (length placed)
  pub paired : Paired K from to

-- A table that keeps the overloading rule.
pub record PermittedTable (text : Bytes) (t : E.Table) : Type 0 where
  pub sound : Sound text t
  pub kept : permitted (table_of text t) ≡ true

-- What it answers: 01's number and the token of a refusal; or that it passed, and the row has the roles.
abbrev pub Resolves : Bytes → TokenRow → NoteRow → Table → ℕ → ℕ → Outcome (Unit {0}) → Result (Unit {0}) Refused → Type 0
Resolves text K R T from to (refused n p) r = Refuses n p r
Resolves text K R T from to (passed u) r = (r ≡ Ok tt) × Agrees text K R T from to

-- What is noted of the operator of an entry, by whatever name it is found.
abbrev pub OperatorNoted : E.Table → ℕ → NoteRow → ℕ → NoteRow → Type 0
OperatorNoted t k R i R' =
    (text : Bytes) → Sound text t → (name : Bytes) → coded_find text t.entries name 0 t.count ≡ Some k
    → NotedAt (table_of text t) R i (symbol name) R'

-- A name that no operator of the table has.
abbrev pub Unfound : Bytes → E.Table → Bytes → Type 0
Unfound text t name = coded_find text t.entries name 0 t.count ≡ None

-- What is noted of an item by the class of its first token: of an atom its roles; a bracket pair or block is no operator.
abbrev pub AtomNoted : Bytes → TokenRow → Table → NoteRow → ℕ → NoteRow → Type 0
AtomNoted text K T R i R' = IsAtomKind (kind K i) × NotedAt T R i (atom_in text K i) R'

abbrev pub Notes : Bytes → TokenRow → Table → NoteRow → ℕ → NoteRow → Class → Type 0
Notes text K T R i R' (Name s n) = AtomNoted text K T R i R'
Notes text K T R i R' Number = AtomNoted text K T R i R'
Notes text K T R i R' (Operator k) = AtomNoted text K T R i R'
Notes text K T R i R' (Bracket c) = (kind K i ≡ 4) × (closer K i ≡ c) × (arrival R' i ≡ 0) × KeptOutside R i (suc i) R'
Notes text K T R i R' (Block e) = (kind K i ≡ 7) × (end_of K i ≡ e) × (arrival R' i ≡ 0) × KeptOutside R i (suc i) R'

-- That, of the tokens from `from` to `to`, whatever the fuel that is more than they are.
pub record Resolving (text : Bytes) (K : TokenRow) (T : Table) (from to : ℕ) (R R' : NoteRow) (r : Result (Unit {0}) Refused) : Type 0 where
  pub answer : (k : ℕ) → to - from < k → Resolves text K R' T from to (check_blocks k T from (range text K from to)) r
  pub kept : KeptOutside R from to R'

-- What the declarations of a block answer under the operators `T`, with its `let` at token number `i` and its `in` at `c`: checks 8, 17, 9
-- and 10.
abbrev pub block_entered : Bytes → TokenRow → Table → ℕ → ℕ → Outcome Table
block_entered text K T i c = let ds = range text K (suc i) c in enter (length ds) T (suc i) ds

-- What the code answers of them, and the table that it leaves: 01's number and the token of a refusal; or a table of the operators.
abbrev pub Enters : Bytes → Outcome Table → E.Table → Result (Unit {0}) Refused → Type 0
Enters text (refused n p) u r = Refuses n p r
Enters text (passed U) u r = (r ≡ Ok tt) × PermittedTable text u × (table_of text u ≡ U)
