-- The operators in force as entries: the table that a struct stands for, over a text.
use Rattle.std.specs.Prelude.{◌≡◌, true, false, List, [], ◌∷◌, ℕ, zero, suc, ◌+◌, ◌-◌, ◌*◌, ◌≤◌, ◌<◌, ltb, leb, length, take, drop, get_or, set, Option, Some, None}
use Rattle.std.proofs.Math.Option.{some}
use Rattle.grammar.specs.Fault.{longest_text}
use Rattle.grammar.specs.Bytes.{Bytes, same}
use Rattle.grammar.specs.Operator as G
use Rattle.grammar.specs.Declaration.{most_operators, start_table}
use Rattle.rows.specs.declared.fixity.Fixity.{Fixity}
use Rattle.rows.specs.declared.fixity.Fixity.TheVariants.{Infix, Prefix, Postfix}
use Rattle.rows.specs.declared.role.Role.{Role}
use Rattle.rows.specs.declared.roles.Roles.{Roles}
use Rattle.rows.specs.Fields.{no_roles}
use Rattle.rows.specs.Codes.{role_of, fixity_in}
use Rattle.rows.specs.InUse.{roles_by}
use Rattle.starting_operators.specs.Starting.{start_name, start_count, HasRoles}
use Rattle.operators.specs.declared.table.Entry.{Entry}
use Rattle.operators.specs.declared.table.Quick.{Quick}
use Rattle.operators.specs.declared.table.Quick.TheVariants as Known
use Rattle.operators.specs.declared.table.Table.{Table}

-- Entry `i`, and its fields: where its name begins and how many bytes it has, and its roles.
abbrev pub no_entry : Entry
no_entry = record { start = 0; size = 0; roles = no_roles }

abbrev pub entry : List Entry → ℕ → Entry
entry E i = get_or E i no_entry

abbrev pub name_start : List Entry → ℕ → ℕ
name_start E i = (entry E i).start

abbrev pub name_size : List Entry → ℕ → ℕ
name_size E i = (entry E i).size

-- A name: a part of the text, or, from offset 16,384 on, that of the starting operator with the number that is left.
unfoldable pub name_in : Bytes → ℕ → ℕ → Bytes
name_in text start size =
    elim (ltb start longest_text) [ true ↦ take size (drop start text) | false ↦ start_name (start - longest_text) ]

abbrev pub name_at : Bytes → List Entry → ℕ → Bytes
name_at text E i = name_in text (name_start E i) (name_size E i)

-- A name lies within the text, or is that of a starting operator, with as many bytes.
abbrev pub InText : Bytes → ℕ → ℕ → Type 0
InText text start size = start < longest_text → start + size ≤ length text

abbrev pub AtStart : ℕ → ℕ → Type 0
AtStart start size = longest_text ≤ start → (start - longest_text < start_count) × (size ≡ length (start_name (start - longest_text)))

abbrev pub Stands : Bytes → ℕ → ℕ → Type 0
Stands text start size = InText text start size × AtStart start size

-- The first of `n` entries from number `i` on that has the name.
unfoldable pub coded_find : Bytes → List Entry → Bytes → ℕ → ℕ → Option ℕ
coded_find text E name i zero = None
coded_find text E name i (suc n) =
    elim (same name (name_at text E i)) [ true ↦ Some i | false ↦ coded_find text E name (suc i) n ]

-- The operator that an entry stands for, `n` operators from entry `i` on, and those that a table stands for.
abbrev pub operator_of : Bytes → Entry → G.Operator
operator_of text e = record { name = name_in text e.start e.size; roles = roles_by e.roles }

unfoldable pub operators_from : Bytes → List Entry → ℕ → ℕ → G.Table
operators_from text E i zero = []
operators_from text E i (suc n) = operator_of text (entry E i) ∷ operators_from text E (suc i) n

unfoldable pub table_of : Bytes → Table → G.Table
table_of text t = operators_from text t.entries 0 t.count

-- A number below 128 from the last two bytes of a name.
unfoldable pub less_by : ℕ → ℕ → ℕ
less_by n h = elim (leb n h) [ true ↦ h - n | false ↦ h ]

unfoldable pub last_two : Bytes → ℕ
last_two name =
    elim (ltb 1 (length name)) [
      | true ↦ get_or name (length name - 1) 0 + get_or name (length name - 2) 0 * 10
      | false ↦ get_or name (length name - 1) 0
    ]

unfoldable pub hash_of : Bytes → ℕ
hash_of name = less_by 128 (less_by 256 (less_by 512 (less_by 1024 (less_by 2048 (last_two name)))))

-- What holds of every table: room for its operators; a name that is a part of the text, or a starting operator's; a hint for its hash. No
-- two operators have one name, and each has a role.
pub record Sound (text : Bytes) (t : Table) : Type 0 where
  pub sized : t.count ≤ most_operators
  pub in_text : (j : ℕ) → j < t.count → InText text (name_start t.entries j) (name_size t.entries j)
  pub at_start : (j : ℕ) → j < t.count → AtStart (name_start t.entries j) (name_size t.entries j)
  pub named : (j : ℕ) → j < t.count → 1 ≤ name_size t.entries j
  pub hinted : (j : ℕ) → j < t.count → 0 < get_or t.hints (hash_of (name_at text t.entries j)) 0
  pub distinct : G.Distinct (table_of text t)
  pub alive : G.Alive (table_of text t)

-- The entry of the starting operator with number `n`.
pub record IsStart (n : ℕ) (e : Entry) : Type 0 where
  pub placed : e.start ≡ longest_text + n
  pub sized : e.size ≡ length (start_name n)
  pub roled : HasRoles n e.roles

-- A table with that entry at place `n` and the hint for it, as `u`; and what is asked for it.
pub record PutsStart (t : Table) (n : ℕ) (u : Table) : Type 0 where
  pub new_entry : Entry
  pub is_start : IsStart n new_entry
  pub entries : u.entries ≡ set t.entries n new_entry
  pub hints : u.hints ≡ set t.hints (hash_of (start_name n)) (n + 1)
  pub counted : u.count ≡ t.count

abbrev pub Puttable : Table → ℕ → Type 0
Puttable t n = n < start_count

-- The table of the starting operators, whatever the text.
abbrev pub Starting : Table → Type 0
Starting t = (text : Bytes) → Sound text t × (table_of text t ≡ start_table)

-- A name that can be looked for.
abbrev pub IsName : Bytes → Type 0
IsName name = 1 ≤ length name

-- What is said of a name at once, where anything is.
abbrev pub Quickly : Option ℕ → Quick → Type 0
Quickly f (Known.At k) = f ≡ Some k
Quickly f Known.Nothing = f ≡ None
Quickly f Known.Unknown = Unit {0}

-- Roles with one in the place of the former one of its fixity.
abbrev pub with_role : Fixity → Role → Roles → Roles
with_role Infix c r = record { prefix = r.prefix; «infix» = c; postfix = r.postfix }
with_role Prefix c r = record { prefix = c; «infix» = r.«infix»; postfix = r.postfix }
with_role Postfix c r = record { prefix = r.prefix; «infix» = r.«infix»; postfix = c }

-- What declaring a role asks: a name that stands in the text, what the table has of it, and room for it.
pub record Declarable (text : Bytes) (t : Table) (found : Option ℕ) (start size hash : ℕ) (fixity : Fixity) (role : Role) : Type 0 where
  pub sound : Sound text t
  pub in_text : start + size ≤ length text
  pub short : length text ≤ longest_text
  pub named : (1 ≤ size) × (size ≤ 63)
  pub looked : found ≡ coded_find text t.entries (take size (drop start text)) 0 t.count
  pub hashed : (hash ≡ hash_of (take size (drop start text))) × (hash < 128)
  pub is_role : 0 < role.code
  pub room : found ≡ None → t.count < most_operators

-- What it gives: "A declared role replaces the mark's former role of that kind."
pub record Declared (text : Bytes) (t : Table) (start size : ℕ) (fixity : Fixity) (role : Role) (u : Table) : Type 0 where
  pub sound : Sound text u
  pub table :
      (r : G.Role) → role_of role.code ≡ some r
      → table_of text u ≡ G.declare_role (take size (drop start text)) (fixity_in fixity) r (table_of text t)

-- What removing the roles of a name asks: what the table has of it.
pub record Clearable (text : Bytes) (t : Table) (found : Option ℕ) (name : Bytes) : Type 0 where
  pub sound : Sound text t
  pub looked : found ≡ coded_find text t.entries name 0 t.count

-- What it gives: "`plain` removes all roles and does nothing to a word or sign that has none."
pub record Cleared (text : Bytes) (t : Table) (name : Bytes) (u : Table) : Type 0 where
  pub sound : Sound text u
  pub table : table_of text u ≡ G.remove_roles name (table_of text t)
