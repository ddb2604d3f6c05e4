-- One turn of the loop over the declarations of a part. Between turns the checks of all its tokens answer what those of the tokens from
-- `at` on answer, under the operators that are then in force. A turn answers, or moves `at` behind one declaration.
use mathlib.Core.Path.{◌≡◌, refl, sym, ap, ◌∙◌}
use mathlib.Core.Bool.{Bool, true, false, true≢false}
use mathlib.Core.List.{List}
use Prim.Native.Nat.{ℕ, suc, ◌+◌, ◌-◌, ◌≤◌, ◌<◌}
use native.Mathlib.Omega.{arith}
use native.Mathlib.Numerals.{add-one}
use lib.ListN.{length}
use Rattle.std.specs.Prelude.{Option, Some, None, Result, Ok, Err, IsErrAnd}
use Rattle.grammar.proofs.Logic.{impossible}
use Rattle.refusals.specs.declared.Refused.{Refused}
use Rattle.refusals.specs.Numbers.{IsRefused, Refuses}
use borrow.Author.Tests.{leb-true, leb-false}
use Rattle.grammar.specs.Fault.{longest_text}
use Rattle.grammar.specs.Bytes.{Bytes}
use Rattle.grammar.specs.Outcome.{Outcome, refused}
use Rattle.grammar.specs.Scan.{Placed}
use Rattle.grammar.specs.Answer.{offset_of}
use Rattle.grammar.specs.Operator.{declare_role, remove_roles, permitted}
use Rattle.grammar.specs.Operator as G
use Rattle.grammar.specs.Declaration.{declaration, is_reserved, most_operators, enter_part}
use Rattle.rows.specs.Fields.{TokenRow, kind, start, size, Holds}
use Rattle.rows.specs.declared.fixity.Fixity as F
use Rattle.rows.specs.declared.role.Role.{Role}
use Rattle.rows.specs.Codes.{fixity_in}
use Rattle.rows.specs.Tokens.{written_of, range, Stored}
use Rattle.rows.proofs.Ranges.{length-range}
use Rattle.rows.proofs.Stored.{stored_within, stored_sized, stored_short, stored_written}
use Rattle.operators.specs.Entries.{coded_find, hash_of, table_of, Sound, IsName, Declarable, Declared, Cleared}
use Rattle.operators.specs.declared.table.Table.{Table}
use Rattle.operators.proofs.Lookups.{table-count, unfound_role, unfound_count, declared-permitted, cleared_permitted}
use Rattle.declaration_part.specs.Walking.{second_begin}
use Rattle.declaration_part.specs.Parsing.{IsPlace, Parses}
use Rattle.declaration_part.specs.Parts.{IsPart, part}
use Rattle.declaration_part.proofs.TokenPlaces.{second_behind}
use Rattle.declaration_part.specs.declared.walk.Span.{Span}
use Rattle.declaring.specs.Declaring.{is_full, RefusedIf, PartAt, part_of, Declares}
use Rattle.declaring.proofs.DeclarationAt.{entered, entered_end, unfit_at, DeclarationAt, RoleAt, ClearsAt}

-- The part under the operators of a table.
module _ (text : Bytes) (K : TokenRow) (i c : ℕ) (t₀ : Table) where
  abbrev outer : G.Table
  outer = table_of text t₀

  abbrev answer : Outcome G.Table
  answer = part_of text K i c outer

  -- What holds between turns.
  pub record Entering (t : Table) (replaced : Bool) (before at : ℕ) : Type 0 where
    pub placed : List Placed
    pub stored : Stored text placed K
    pub short : length text ≤ longest_text
    pub room : Holds K (length placed)
    pub within : c < length placed
    pub low : i < at
    pub high : at ≤ c
    pub sound : Sound text t
    pub keeps : replaced ≡ false → permitted outer ≡ true → permitted (table_of text t) ≡ true
    pub begins : second_begin text before ≡ offset_of text placed at
    pub answered : answer ≡ entered text K c (table_of text t) at

  answer_first : answer ≡ entered text K c outer (i + 1)
  answer_first =
      ap (λ k. enter_part k outer (suc i) (range text K (suc i) c)) (length-range text K (suc i) c)
      ∙ ap (entered text K c outer) (sym (add-one i))

  pub entering_first : PartAt text K i c → Sound text t₀ → {before : ℕ} → before ≡ start K i → Entering t₀ false before (i + 1)
  entering_first g sound s =
      let n : i < length g.placed = omega (arith, g.ordered, g.within) in
      record {
        placed = g.placed;
        stored = g.stored;
        short = g.short;
        room = g.room;
        within = g.within;
        low = omega arith;
        high = omega (arith, g.ordered);
        sound = sound;
        keeps = λ r h. h;
        begins =
            second_behind g.stored i n (λ x. omega (arith, g.is_let)) s ∙ ap (offset_of text g.placed) (sym (add-one i));
        answered = answer_first;
      }

  -- What the code answers: a refusal, or the table behind the last declaration.
  pub declares_refused : (n p : ℕ) (r : Result Bool Refused) → answer ≡ refused n p → Refuses n p r → Declares text t₀ answer t₀ r
  declares_refused n p r h e = rw h (e, refl)

  pub declares_passed :
      {t : Table} {replaced : Bool} {before at : ℕ} → Entering t replaced before at → c ≤ at → Declares text t₀ answer t (Ok replaced)
  declares_passed {t} {at = at} inv l =
      let high = inv.high in
      let h = inv.answered ∙ entered_end text K c (table_of text t) at (omega arith) in
      rw h (record { sound = inv.sound; table = refl; kept = inv.keeps })

-- What a test answered.
pub passed_test : (b : Bool) (n p : ℕ) (u : Unit {0}) → RefusedIf b n p (Ok u) → b ≡ false
passed_test true n p u h = absurd h
passed_test false n p u h = refl

pub refused_test : (b : Bool) (n p : ℕ) (x : Refused) → RefusedIf b n p (Err x) → (b ≡ true) × IsRefused n p x
refused_test true n p x h = (refl, h)
refused_test false n p x h = impossible (cc)

-- A refusal that is handed on.
pub handed : {A : Type 0} (n p : ℕ) (x : Refused) (r : Result A Refused) → IsErrAnd r (λ e. e ≡ x) → IsRefused n p x → Refuses n p r
handed n p x (Ok a) h s = absurd h
handed n p x (Err e) h s = rw h s

-- The name at a token that is a word or sign.
module _
    {text : Bytes} {K : TokenRow} {i c : ℕ} {t₀ t : Table} {replaced : Bool} {before at : ℕ} (inv : Entering text K i c t₀ t replaced before at)
  where
    module _
        {j : ℕ} (l : j < length inv.placed) (k : kind K j ≡ 1) {o : Span} (a : IsPlace K j o)
      where
        name_size_lem : o.end - o.start ≡ size K j
        name_size_lem = omega arith

        name_written : part text o ≡ written_of text K j
        name_written = rw (name_size_lem, a.0)

        name_part : IsPart text o
        name_part = omega (arith, stored_within inv.stored j l)

        name_sized : (1 ≤ o.end - o.start) × (o.end - o.start ≤ 63)
        name_sized =
            omega (arith, name_size_lem, stored_sized inv.stored j l (omega arith), stored_short inv.stored j l (λ e. omega arith))

        is_name : IsName (part text o)
        is_name = rw name_written (omega (arith, name_size_lem, stored_written inv.stored j l, name_sized.0))

    abbrev operators : G.Table
    operators = table_of text t

    pub unfit_stops : at < c → (m : ℕ) → Parses K at (declaration (range text K at c)) (Err m) → answer text K i c t₀ ≡ refused 8 m
    unfit_stops l m s = inv.answered ∙ unfit_at text K c inv.placed inv.stored inv.within at l operators m s

    -- A declaration of a reserved operator.
    reserved_stops :
        {change : G.Table → G.Table} {k n : ℕ} → DeclarationAt text K c inv.placed at change k n
        → is_reserved (written_of text K (at + k)) ≡ true → answer text K i c t₀ ≡ refused 17 (at + k)
    reserved_stops step r = inv.answered ∙ step.reserves operators r

    -- Another declaration is passed over: the operators are those that it leaves in force.
    passed_over :
        {change : G.Table → G.Table} {k n : ℕ} → DeclarationAt text K c inv.placed at change k n
        → is_reserved (written_of text K (at + k)) ≡ false → (u : Table) → Sound text u → table_of text u ≡ change operators
        → (replaces : Bool) → (replaces ≡ false → permitted (table_of text t₀) ≡ true → permitted (table_of text u) ≡ true)
        → {next : ℕ} → next ≡ start K (at + k) + size K (at + k) → Entering text K i c t₀ u replaces next (at + n)
    passed_over {n = n} step free u s e replaces k b =
        let low = inv.low in
        let few = s.sized in
        let counted = table-count text u in
        let same = ap length e in
        record {
          placed = inv.placed;
          stored = inv.stored;
          short = inv.short;
          room = inv.room;
          within = inv.within;
          low = omega arith;
          high = step.within;
          sound = s;
          keeps = k;
          begins = step.behind b;
          answered =
              inv.answered ∙ step.passes operators free (omega arith) ∙ ap (λ U. entered text K c U (at + n)) (sym e);
        }

    -- A role for the operator at token `at + 3`, for which there is room or not.
    module _
        (l : at < c) {f : F.Fixity} {r : Role} {o : Span} (role : RoleAt text K c inv.placed inv.stored inv.within at l f r o)
      where
        abbrev name : Bytes
        name = part text o

        there : at + 3 < length inv.placed
        there = omega (arith, role.step.within, inv.within)

        is_written : name ≡ written_of text K (at + 3)
        is_written = name_written there role.step.is_symbol role.place

        pub role_name : IsName name
        role_name = is_name there role.step.is_symbol role.place

        pub role_part : IsPart text o
        role_part = name_part there role.step.is_symbol role.place

        pub role_reserved : is_reserved name ≡ true → answer text K i c t₀ ≡ refused 17 (at + 3)
        role_reserved r = reserved_stops role.step (rw is_written at r)

        -- What is found of its name.
        module _ (found : Option ℕ) (looked : found ≡ coded_find text t.entries name 0 t.count) where
          pub overfull : is_reserved name ≡ false → is_full t.count found ≡ true → answer text K i c t₀ ≡ refused 9 (at + 3)
          overfull free = go found refl
            where
              go : (x : Option ℕ) → found ≡ x → is_full t.count x ≡ true → answer text K i c t₀ ≡ refused 9 (at + 3)
              go (Some k) e z = absurd (true≢false (sym z))
              go None e z =
                  let many = unfound_count text t name (sym looked ∙ e) (fixity_in f) role.declared in
                  let full = leb-true most_operators t.count z in
                  inv.answered ∙ role.step.refuses operators (rw is_written at free) (rw (← is_written) (omega arith))

          pub declarable :
              {hash : ℕ} → (hash ≡ hash_of name) × (hash < 128) → is_full t.count found ≡ false
              → Declarable text t found o.start (o.end - o.start) hash f r
          declarable d z =
              record {
                sound = inv.sound;
                in_text = let p = role_part in omega arith;
                short = inv.short;
                named = name_sized there role.step.is_symbol role.place;
                looked = looked;
                hashed = d;
                is_role = role.is_role;
                room = λ e. leb-false most_operators t.count (ap (is_full t.count) (sym e) ∙ z);
              }

          -- The rule is kept still, if it was and the operator is new.
          pub declared-over :
              is_reserved name ≡ false → (u : Table) → Declared text t o.start (o.end - o.start) f r u → (replaces : Bool)
              → (replaces ≡ false → (replaced ≡ false) × (found ≡ None)) → Entering text K i c t₀ u replaces o.end (at + 5)
          declared-over free u d replaces m =
              let table = d.table role.declared role.coded in
              passed_over role.step (rw is_written at free) u d.sound
              (table ∙ ap (λ w. declare_role w (fixity_in f) role.declared operators) is_written) replaces
              (λ z h. rw table
              (declared-permitted name (fixity_in f) role.declared operators (inv.keeps (m z).0 h)
              (unfound_role text t name (sym looked ∙ (m z).1))))
              role.place.1

    -- The roles of the name at token `at + 1` are removed.
    module _
        (l : at < c) {o : Span} (clears : ClearsAt text K c inv.placed inv.stored inv.within at l o)
      where
        behind : at + 1 < length inv.placed
        behind = omega (arith, clears.step.within, inv.within)

        cleared_written : part text o ≡ written_of text K (at + 1)
        cleared_written = name_written behind clears.step.is_symbol clears.place

        pub cleared_name : IsName (part text o)
        cleared_name = is_name behind clears.step.is_symbol clears.place

        pub cleared_part : IsPart text o
        cleared_part = name_part behind clears.step.is_symbol clears.place

        pub cleared_reserved : is_reserved (part text o) ≡ true → answer text K i c t₀ ≡ refused 17 (at + 1)
        cleared_reserved r = reserved_stops clears.step (rw cleared_written at r)

        pub cleared_over :
            is_reserved (part text o) ≡ false → (u : Table) → Cleared text t (part text o) u → Entering text K i c t₀ u replaced o.end (at + 3)
        cleared_over free u d =
            passed_over clears.step (rw cleared_written at free) u d.sound
            (d.table ∙ ap (λ w. remove_roles w operators) cleared_written) replaced
            (λ z h. rw d.table (cleared_permitted _ operators (inv.keeps z h)))
            clears.place.1
