-- A role that is declared: at an entry that is there, or at one more behind the others. The other entries are kept, so what they
-- stand for is kept too; that no name stands twice and every operator has a role are laws of declarations.
use mathlib.Core.Path.{◌≡◌, refl, sym, ap, subst, ◌∙◌}
use mathlib.Core.Bool.{Bool, true, false}
use mathlib.Core.List.{List, [], ◌∷◌}
use mathlib.Core.Option.{none, some}
use Prim.Native.Nat.{ℕ, ◌+◌, ◌-◌, ◌*◌, ◌≤◌, ◌<◌}
use native.Mathlib.Numerals.{add-one}
use native.Mathlib.Omega.{arith}
use lib.Dec.{eqb}
use lib.ListN.{length, take, drop, get_or, set}
use lib.Seq.{get_or-set_same}
use borrow.Author.Tests.{eqb-true, eqb-false}
use Rattle.grammar.specs.Bytes.{Bytes}
use Rattle.grammar.specs.Operator.{Fixity, Prefix, Infix, Postfix, Role, same_fixity, replaced, declare_role, Distinct, Alive}
use Rattle.grammar.specs.Operator as G
use Rattle.grammar.specs.Declaration.{declares, value, value_from, declare, declare_all}
use Rattle.grammar.proofs.Operators.{distinct_declared, alive_declared}
use Rattle.std.specs.Prelude.{Option, Some, None}
use Rattle.rows.specs.declared.fixity.Fixity as F
use Rattle.rows.specs.declared.fixity.Fixity.TheVariants as Fixities
use Rattle.rows.specs.declared.role.Role as Coded
use Rattle.rows.specs.Codes.{role_of, roles_of, fixity_in}
use Rattle.rows.specs.InUse.{roles_by}
use Rattle.rows.proofs.Codes.{no_role, some_role}
use Rattle.operators.specs.Entries.{no_entry, entry, name_in, operator_of, table_of, with_role, Declarable, Declared}
use Rattle.operators.specs.declared.table.Entry.{Entry}
use Rattle.operators.specs.declared.table.Table.{Table}
use Rattle.operators.proofs.Changed.{Changed, set_changed, changed_again, changed_to}
use Rattle.std.proofs.lemmas.List.{get_or_default}
use Rattle.rows.specs.declared.roles.Roles as Sides
use Rattle.operators.proofs.Numbered.{roles_equal, operators_equal, from, declared_found, declared_new}
use Rattle.operators.proofs.TableEntries.{name_in_text}
use Rattle.operators.proofs.Searches.{operator_at, found_within, table_entries, placed}
use Rattle.operators.proofs.Hashes.{hint_kept}
use Rattle.operators.proofs.SoundEntries.{SoundEntry, SoundAt, sound_at, all_sound, other_hints}

-- The laws of declarations speak of digits; a precedence is the value of a digit of its own.
abbrev as_declared : Fixity → Role → Bytes → G.Table → G.Table
as_declared x r m T = declare_all T (declares x r.associativity ((r.precedence + 48) ∷ []) m ∷ [])

declares_role : (x : Fixity) (r : Role) (m : Bytes) (T : G.Table) → declare_role m x r T ≡ as_declared x r m T
unfolding declare_all declare value value_from
declares_role x r m T =
    let p : r.precedence ≡ 0 * 10 + (r.precedence + 48 - 48) = omega arith in
    ap (λ n. declare_role m x (record { precedence = n; associativity = r.associativity }) T) p

distinct_role : (x : Fixity) (r : Role) (m : Bytes) (T : G.Table) → Distinct T → Distinct (declare_role m x r T)
distinct_role x r m T d = rw (declares_role x r m T) (distinct_declared T _ d)

alive_role : (x : Fixity) (r : Role) (m : Bytes) (T : G.Table) → Alive T → Alive (declare_role m x r T)
alive_role x r m T d = rw (declares_role x r m T) (alive_declared T _ d)

-- An entry with a role in the place of the former one of that fixity.
abbrev pub role_put : F.Fixity → Coded.Role → Entry → Entry
role_put x c e = record { start = e.start; size = e.size; roles = with_role x c e.roles }

put_changed :
    (E : List Entry) (k : ℕ) (d y : Entry) (x : F.Fixity) (c : Coded.Role) (r : Sides.Roles) → k < length E
    → r ≡ with_role x c (get_or E k y).roles
    → Changed E k (role_put x c (entry E k)) (set E k (record { start = (get_or E k d).start; size = (get_or E k d).size; roles = r }))
put_changed E k d y x c r h e =
    let put : Entry = record { start = (get_or E k d).start; size = (get_or E k d).size; roles = r } in
    let a : r ≡ with_role x c (get_or E k d).roles =
    e ∙ ap (λ (e : Entry). with_role x c e.roles) (get_or_default E k y d h) in
    let q : put ≡ role_put x c (get_or E k d) = ap (λ (r : Sides.Roles). record { start = (get_or E k d).start; size = (get_or E k d).size; roles = r }) a in
    subst (λ (e : Entry). Changed E k e (set E k put)) (q ∙ ap (role_put x c) (get_or_default E k d no_entry h)) (set_changed E k put h)

module _ (text : Bytes) (c : Coded.Role) (e : Entry) where
  -- The operator has the role ..
  role_entry :
      (x : F.Fixity) (r : Role) → role_of c.code ≡ some r
      → operator_of text (role_put x c e) ≡ record { name = name_in text e.start e.size; roles = replaced (fixity_in x) r (roles_by e.roles) }
  unfolding replaced same_fixity roles_of
  role_entry Fixities.Prefix r d = operators_equal refl (roles_equal _ _ d refl refl)
  role_entry Fixities.Infix r d = operators_equal refl (roles_equal _ _ refl d refl)
  role_entry Fixities.Postfix r d = operators_equal refl (roles_equal _ _ refl refl d)

  -- .. and its entry is sound.
  role_sound : (x : F.Fixity) (H : List ℕ) → SoundEntry text H e → SoundEntry text H (role_put x c e)
  role_sound Fixities.Prefix H s = record { in_text = s.in_text; at_start = s.at_start; named = s.named; hinted = s.hinted }
  role_sound Fixities.Infix H s = record { in_text = s.in_text; at_start = s.at_start; named = s.named; hinted = s.hinted }
  role_sound Fixities.Postfix H s = record { in_text = s.in_text; at_start = s.at_start; named = s.named; hinted = s.hinted }

-- A declaration meets its contract: at an operator that is there ..
module _ (text : Bytes) (t : Table) (found : Option ℕ) (start size hash : ℕ) (x : F.Fixity) (role : Coded.Role)
    (asked : Declarable text t found start size hash x role) where
  abbrev name : Bytes
  name = take size (drop start text)

  -- A table that stands for the declared operators, with sound entries, is what is asked.
  declared :
      (u : Table) → u.count ≤ 64 → ((j : ℕ) → j < u.count → SoundAt text u j)
      → ((r : Role) → role_of role.code ≡ some r → table_of text u ≡ declare_role name (fixity_in x) r (table_of text t))
      → Declared text t start size x role u
  declared u n s e =
      record {
        sound = some_role role.code (λ z. omega arith) (λ r c.
            all_sound text u n s
            (rw (e r c) (distinct_role (fixity_in x) r name (table_of text t) asked.sound.distinct))
            (rw (e r c) (alive_role (fixity_in x) r name (table_of text t) asked.sound.alive)));
        table = e;
      }

  module _ (k : ℕ) (f : found ≡ Some k) where
    within : k < t.count
    within = found_within text t.entries name t.count k (sym asked.looked ∙ f)

    pub found_small : k < 64
    found_small = let n = asked.sound.sized in omega (arith, within)

    module _ (u : Table) (changed : Changed t.entries k (role_put x role (entry t.entries k)) u.entries)
        (hints : u.hints ≡ t.hints) (counted : u.count ≡ t.count) where
      role-table : (r : Role) → role_of role.code ≡ some r → table_of text u ≡ declare_role name (fixity_in x) r (table_of text t)
      role-table r e =
          table_entries text u
          ∙ ap (from (operator_at text u.entries) 0) counted
          ∙ sym (declared_found name (fixity_in x) r (operator_at text t.entries) (operator_at text u.entries) 0 t.count k
          (placed text t name (sym asked.looked ∙ f))
          (ap (operator_of text) changed.here ∙ role_entry text role (entry t.entries k) x r e)
          (λ j d. sym (ap (operator_of text) (changed.others j d))))
          ∙ ap (declare_role name (fixity_in x) r) (sym (table_entries text t))

      pub declared_at : Declared text t start size x role u
      declared_at = declared u (omega (arith, asked.sound.sized)) (λ j h. go j (omega arith) (eqb j k) refl) role-table
        where
          go : (j : ℕ) → j < t.count → (b : Bool) → eqb j k ≡ b → SoundAt text u j
          go j h true e =
              rw (eqb-true j k e, changed.here, hints) (role_sound text role (entry t.entries k) x t.hints (sound_at text t asked.sound k within))
          go j h false e = rw (changed.others j (eqb-false j k e), hints) (sound_at text t asked.sound j h)

    -- The table as the code has it.
    pub declared_found_at :
        (m : Table) (j : ℕ) (z y : Entry) (r : Sides.Roles) → length t.entries ≡ 64 → m ≡ t → j ≡ k
        → r ≡ with_role x role (get_or m.entries j y).roles
        → Declared text t start size x role (record {
          entries = set m.entries j (record { start = (get_or m.entries j z).start; size = (get_or m.entries j z).size; roles = r });
          hints = m.hints;
          count = m.count;
        })
    declared_found_at m j z y r n p q e =
        let b = found_small in
        let d = rw (p, q) at e in
        rw (p, q) (declared_at _ (put_changed t.entries k z y x role r (omega arith) d) refl refl)

  -- .. or at a new one, for which there is room: it has the name, and no role yet.
  module _ (f : found ≡ None) (new : Entry) (begins : new.start ≡ start) (sized : new.size ≡ size)
      (prefixed : new.roles.prefix.code ≡ 0) (between : new.roles.«infix».code ≡ 0) (postfixed : new.roles.postfix.code ≡ 0) where
    abbrev n : ℕ
    n = t.count

    room : n < 64
    room = asked.room f

    -- The name is the one in the text.
    in_text_lem : name_in text new.start new.size ≡ name
    in_text_lem =
        let s = asked.short in
        let i = asked.in_text in
        let z = asked.named in
        rw (begins, sized) (name_in_text text start size (omega arith))

    roleless : roles_by new.roles ≡ (λ y. none)
    unfolding roles_of
    roleless = roles_equal _ _ (no_role _ prefixed) (no_role _ between) (no_role _ postfixed)

    module _ (u : Table) (changed : Changed t.entries n (role_put x role new) u.entries)
        (hints : u.hints ≡ set t.hints hash (n + 1)) (counted : u.count ≡ n + 1) (long : length t.hints ≡ 128) where
      new_entry :
          (r : Role) → role_of role.code ≡ some r
          → operator_at text u.entries n ≡ record { name = name; roles = replaced (fixity_in x) r (λ y. none) }
      new_entry r e =
          ap (operator_of text) changed.here
          ∙ role_entry text role new x r e
          ∙ operators_equal in_text_lem (ap (replaced (fixity_in x) r) roleless)

      -- The entries before it are kept.
      old_entry : (j : ℕ) → j < n → entry u.entries j ≡ entry t.entries j
      old_entry j h = changed.others j (λ e. omega arith)

      new_table : (r : Role) → role_of role.code ≡ some r → table_of text u ≡ declare_role name (fixity_in x) r (table_of text t)
      new_table r e =
          let z : 0 + n ≡ n = omega arith in
          table_entries text u
          ∙ ap (from (operator_at text u.entries) 0) (counted ∙ add-one n)
          ∙ sym (declared_new name (fixity_in x) r (operator_at text t.entries) (operator_at text u.entries) 0 n
          (placed text t name (sym asked.looked ∙ f))
          (rw z (new_entry r e))
          (λ j a. sym (ap (operator_of text) (old_entry j (omega arith)))))
          ∙ ap (declare_role name (fixity_in x) r) (sym (table_entries text t))

      new_sound : SoundAt text u n
      new_sound =
          rw changed.here
          (role_sound text role new x u.hints
          (record {
            in_text = λ h. rw (begins, sized) asked.in_text;
            at_start = λ h. let s = asked.short in let i = asked.in_text in let z = asked.named in absurd (omega arith);
            named = rw sized asked.named.0;
            hinted = rw (in_text_lem, hints, ← asked.hashed.0, get_or-set_same t.hints hash (n + 1) 0 (omega arith)) (omega arith);
          }))

      old_sound : (j : ℕ) → j < n → SoundAt text u j
      old_sound j h =
          let s = sound_at text t asked.sound j h in
          rw (old_entry j h) (other_hints u.hints s (rw hints (hint_kept t.hints hash n _ (omega arith) s.hinted)))

      pub declared_behind : Declared text t start size x role u
      declared_behind = declared u (omega (arith, room)) (λ j h. go j (omega arith) (eqb j n) refl) new_table
        where
          go : (j : ℕ) → j < n + 1 → (b : Bool) → eqb j n ≡ b → SoundAt text u j
          go j h true e = rw (eqb-true j n e) new_sound
          go j h false e = let d = eqb-false j n e in old_sound j (omega arith)

    -- The table as the code has it.
    pub declared_new_at :
        (m : Table) (j : ℕ) (z y : Entry) (r : Sides.Roles) → length t.entries ≡ 64 → length t.hints ≡ 128
        → m ≡ record { entries = set t.entries n new; hints = set t.hints hash (n + 1); count = n + 1 } → j ≡ n
        → r ≡ with_role x role (get_or m.entries j y).roles
        → Declared text t start size x role (record {
          entries = set m.entries j (record { start = (get_or m.entries j z).start; size = (get_or m.entries j z).size; roles = r });
          hints = m.hints;
          count = m.count;
        })
    declared_new_at m j z y r l h p q e =
        let b = room in
        let d = rw (p, q) at e in
        let a = set_changed t.entries n new (omega arith) in
        let s : n < length (set t.entries n new) = omega (arith, a.long) in
        let c = put_changed (set t.entries n new) n z y x role r s d in
        rw (p, q) (declared_behind _ (changed_again a (changed_to (ap (role_put x role) a.here) c)) refl refl h)
