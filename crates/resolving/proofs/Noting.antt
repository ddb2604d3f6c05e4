-- What is noted of a name: one that is found has the roles of its entry, one that is not found has none.
use mathlib.Core.Path.{◌≡◌, refl, sym, ap, ◌∙◌}
use Prim.Native.Nat.{ℕ, ◌<◌}
use lib.ListN.{length, get_or, set}
use Rattle.std.proofs.lemmas.List.{get_or_default}
use Rattle.std.specs.Prelude.{Some, None}
use Rattle.grammar.specs.Bytes.{Bytes}
use Rattle.grammar.specs.Token.{symbol, quoted, doubled}
use Rattle.grammar.specs.Operator.{Fixity, Prefix, Infix, Postfix, role}
use Rattle.grammar.specs.Operator as G
use Rattle.grammar.specs.Climb.{first_role}
use Rattle.rows.specs.Fields.{NoteRow, Within}
use Rattle.rows.specs.Codes.{role_code, arrival_of}
use Rattle.rows.specs.InUse.{roles_by}
use Rattle.rows.specs.Agreeing.{roles_for, arrival_for, NotedAt}
use Rattle.rows.proofs.Noting.{WordsAt, words_stored, noted}
use Rattle.operators.specs.Entries.{no_entry, entry, coded_find, table_of}
use Rattle.operators.specs.declared.table.Entry.{Entry}
use Rattle.operators.specs.declared.table.Table.{Table}
use Rattle.operators.proofs.Lookups.{found_roles, found_codes, unfound_role, unfound_roles}

module _ (R : NoteRow) (i : ℕ) (R' : NoteRow) where
  -- A name, by what is found of it.
  module _ (text : Bytes) (t : Table) (name : Bytes) where
    abbrev T : G.Table
    T = table_of text t

    -- Nothing: it has no role.
    module _ (h : coded_find text t.entries name 0 t.count ≡ None) where
      no_code : (f : Fixity) → 0 ≡ role_code (role T name f)
      unfolding role_code
      no_code f = sym (ap role_code (unfound_role text t name h f))

      no_arrival : arrival_of (role T name) ≡ 0
      unfolding arrival_of first_role
      no_arrival = ap arrival_of (unfound_roles text t name h)

      pub name_noted : WordsAt R i 0 0 0 0 R' → NotedAt T R i (symbol name) R'
      unfolding roles_for arrival_for
      name_noted w = noted T R i R' (symbol name) (no_code Prefix) (no_code Infix) (no_code Postfix) (rw no_arrival w)

      pub unlisted_noted : WordsAt R i 0 0 0 0 R' → (c : Bytes) → name ≡ doubled c → NotedAt T R i (quoted c) R'
      unfolding roles_for arrival_for
      unlisted_noted w c e =
          noted T R i R' (quoted c) (rw e at (no_code Prefix)) (rw e at (no_code Infix)) (rw e at (no_code Postfix)) w

    -- An entry that was read, as `d`: it has the roles of the entry.
    module _ (k : ℕ) (h : coded_find text t.entries name 0 t.count ≡ Some k) (l : k < length t.entries) (d : Entry) (within : Within R i) where
      abbrev read : Entry
      read = get_or t.entries k d

      read_entry : read ≡ entry t.entries k
      read_entry = get_or_default t.entries k d no_entry l

      words :
          (a b : ℕ) → R' ≡ set R i (record { roles = read.roles; arrival = a }) → a ≡ b
          → let r = (entry t.entries k).roles in WordsAt R i r.prefix.code r.«infix».code r.postfix.code b R'
      words a b w e =
          words_stored i (record { roles = read.roles; arrival = a }) within w
          (ap (λ (x : Entry). x.roles.prefix.code) read_entry) (ap (λ (x : Entry). x.roles.«infix».code) read_entry)
          (ap (λ (x : Entry). x.roles.postfix.code) read_entry) e

      pub operator_noted :
          (a : ℕ) → a ≡ arrival_of (roles_by read.roles) → R' ≡ set R i (record { roles = read.roles; arrival = a })
          → NotedAt T R i (symbol name) R'
      unfolding roles_for arrival_for
      operator_noted a e w =
          let (x, y, z) = found_codes text t name h in
          let f : a ≡ arrival_of (role T name) =
          e ∙ ap (λ (x : Entry). arrival_of (roles_by x.roles)) read_entry ∙ ap arrival_of (sym (found_roles text t name h))
          in
          noted T R i R' (symbol name) x y z (words a _ w f)

      pub listed_noted :
          R' ≡ set R i (record { roles = read.roles; arrival = 0 }) → (c : Bytes) → name ≡ doubled c → NotedAt T R i (quoted c) R'
      unfolding roles_for arrival_for
      listed_noted w c e =
          let (x, y, z) = found_codes text t name h in
          noted T R i R' (quoted c) (rw e at x) (rw e at y) (rw e at z) (words 0 0 w refl)
