-- The children of a tree that stands in the rows are its parts as the builder's tests see them: what its root's token has as first and
-- second part. The words of its last node go by the same tests.
use mathlib.Core.Path.{◌≡◌, refl, sym, ap, ◌∙◌}
use mathlib.Core.Bool.{Bool, true, false, not, ◌||◌}
use mathlib.Core.List.{List, ◌++◌, append_assoc, append-nil}
use mathlib.Core.Option.{Option, none, some}
use Prim.Native.Nat.{ℕ, zero, suc, pred, ◌+◌, ◌-◌, ◌*◌, ◌≤◌, ◌<◌}
use native.Mathlib.Numerals.{add-one}
use native.Mathlib.Nat.{add-zero}
use native.Mathlib.Omega.{arith}
use lib.Dec.{eqb}
use lib.ListN.{length, length-append}
use borrow.Author.Tests.{eq-eqb, ne_eqb}
use Rattle.grammar.specs.Bytes.{Bytes}
use Rattle.grammar.specs.Token.{Atom, atom, symbol, number, quoted}
use Rattle.grammar.specs.Operator.{Fixity, Prefix, Infix, Postfix, Table, role}
use Rattle.grammar.specs.Declaration.{Declaration, declare_all, all_tokens}
use Rattle.grammar.specs.SpanTree.{SpanTree, present, fixity, fixity_by, role_over, role_of_fixity, root_precedence}
use Rattle.grammar.specs.Tree.{Tree, nothing, leaf, bracket, block, node, flat, span_tree}
use Rattle.grammar.specs.Nodes.{leaf_kind, count, operator_words, words_per_node, precedence_over, words}
use Rattle.grammar.specs.Coded.{kind_of}
use Rattle.grammar.proofs.Logic.{impossible}
use Rattle.grammar.proofs.Operands.{Operated, words-length}
use Rattle.grammar.proofs.Present.{counted}
use Rattle.grammar.proofs.WordsOffsets.{bracket_size, block_size, node-size}
use Rattle.rows.specs.Fields.{TokenRow, NoteRow, RootRow, token, kind, start, left, right}
use Rattle.rows.specs.Codes.{Fit}
use Rattle.rows.specs.Agreeing.{Noted}
use Rattle.rows.specs.InUse.{role_beside}
use Rattle.rows.specs.Standing.{mark, Rooted, Tokened, Roled}
use Rattle.rows.proofs.Codes.{role-code}
use Rattle.rows.proofs.InUse.{beside_code, mark-present}
use Rattle.nodes.specs.Node.{precedence_of, atom_kind}
use Rattle.nodes.specs.First.{opener_of, operand_part, first_part}
use Rattle.rows.specs.Standing.{Rows, Stands}
use Rattle.nodes.specs.declared.build.Part.{Part}
use Rattle.std.specs.Prelude.{Option as PartOption, Some, None}
use Rattle.nodes.proofs.Parts.{
  prefix-words,
  infix_words,
  opener_bracket,
  opener_block,
  operand_none,
  operand_some,
  second_part,
  last_role,
  last_words,
  first_span,
  second_none,
  last_bracket,
  last_block,
  first_left,
  second_right,
  second_absent,
  last_atom,
  last_postfix,
  last_right,
}

-- A tree with no mark is not there, and one with a mark is: its root is among its tokens, and it has a node.
unmarked : (i : ℕ) (t : Tree) → mark i t ≡ 0 → t ≡ nothing
unfolding mark
unmarked i nothing e = refl
unmarked i (leaf a) e = absurd (omega arith)
unmarked i (bracket t) e = absurd (omega arith)
unmarked i (block ds t) e = absurd (omega arith)
unmarked i (node l m r) e = absurd (omega arith)

record Marked (i : ℕ) (t : Tree) : Type 0 where
  there : present (span_tree t) ≡ true
  some : 1 ≤ count t
  first : suc i ≤ mark i t
  last : mark i t ≤ i + length (flat t)

marked : (i : ℕ) (t : Tree) → 1 ≤ mark i t → Marked i t
unfolding mark present span_tree count flat
marked i nothing h = absurd (omega arith)
marked i (leaf a) h = record { there = refl; some = omega arith; first = omega arith; last = omega arith }
marked i (bracket t) h = record { there = refl; some = omega arith; first = omega arith; last = omega arith }
marked i (block ds t) h = record { there = refl; some = omega arith; first = omega arith; last = omega arith }
marked i (node l m r) h = record { there = refl; some = omega arith; first = omega arith; last = simp length-append (omega arith) }

present_marked : (i : ℕ) (t : Tree) → present (span_tree t) ≡ true → 1 ≤ mark i t
unfolding mark present span_tree
present_marked i nothing e = impossible cc
present_marked i (leaf a) e = omega arith
present_marked i (bracket t) e = omega arith
present_marked i (block ds t) e = omega arith
present_marked i (node l m r) e = omega arith

uncounted : (t : Tree) → present (span_tree t) ≡ false → count t ≡ 0
unfolding count present span_tree
uncounted nothing e = refl
uncounted (leaf a) e = impossible cc
uncounted (bracket t) e = impossible cc
uncounted (block ds t) e = impossible cc
uncounted (node l m r) e = impossible cc

-- The kind of an atom's token, and of its node.
atom_low : (a : Atom) → kind_of (atom a) ≤ 3
unfolding kind_of
atom_low (symbol w) = omega arith
atom_low (number d) = omega arith
atom_low (quoted c) = omega arith

leaf_kind_lem : (a : Atom) → leaf_kind a ≡ atom_kind (kind_of (atom a))
unfolding leaf_kind atom_kind kind_of
leaf_kind_lem (symbol w) = refl
leaf_kind_lem (number d) = refl
leaf_kind_lem (quoted c) = refl

-- The last of some nodes.
last_one : (n : ℕ) → pred n ≡ n - 1
last_one n = omega arith

last_two_lem : (n l r : ℕ) → pred (n + l + r) ≡ n + (l + r) - 1
last_two_lem n l r = omega arith

-- Which fixity an operator has.
formed_by : (a b : Bool) → a || b ≡ true → (f : Fixity) × (fixity_by a b ≡ some f)
unfolding fixity_by
formed_by true true e = (Infix, refl)
formed_by true false e = (Postfix, refl)
formed_by false true e = (Prefix, refl)
formed_by false false e = impossible cc

formed : (l r : SpanTree) → present l || present r ≡ true → (f : Fixity) × (fixity l r ≡ some f)
unfolding fixity
formed l r e = formed_by (present l) (present r) e

formed_of : (l r : Tree) (a b : Bool) → present (span_tree l) ≡ a → present (span_tree r) ≡ b
    → fixity (span_tree l) (span_tree r) ≡ fixity_by a b
unfolding fixity
formed_of l r a b p q = rw (p, q)

absent : present (span_tree nothing) ≡ false
unfolding present span_tree
absent = refl

no_operand : present (span_tree nothing) || present (span_tree nothing) ≡ true → ⊥
unfolding present span_tree
no_operand e = impossible cc

-- The children of a tree, `nothing` for one that is missing, and where the tokens of the first begin; those of the second begin behind the
-- root's token. Their words come before those of the last node.
unfoldable pub first_of : Tree → Tree
first_of nothing = nothing
first_of (leaf a) = nothing
first_of (bracket t) = t
first_of (block ds t) = t
first_of (node l m r) = l

unfoldable pub second_of : Tree → Tree
second_of nothing = nothing
second_of (leaf a) = nothing
second_of (bracket t) = nothing
second_of (block ds t) = nothing
second_of (node l m r) = r

unfoldable pub first_from : ℕ → Tree → ℕ
first_from i nothing = i
first_from i (leaf a) = i
first_from i (bracket t) = suc i
first_from i (block ds t) = suc (suc (i + length (all_tokens ds)))
first_from i (node l m r) = i

-- The operators in force in the first child.
unfoldable pub first_table : Table → Tree → Table
first_table T nothing = T
first_table T (leaf a) = T
first_table T (bracket t) = T
first_table T (block ds t) = declare_all T ds
first_table T (node l m r) = T

abbrev pub children_words : (ℕ → ℕ) → Table → Tree → ℕ → ℕ → List ℕ
children_words places T t i n =
    words places (first_table T t) (first_of t) (first_from i t) n ++ words places T (second_of t) (mark i t) (n + count (first_of t))

-- A tree is there if it has a node.
count-present : (t : Tree) → eqb (count t) 0 ≡ not (present (span_tree t))
count-present t = go (present (span_tree t)) refl
  where
    go : (b : Bool) → present (span_tree t) ≡ b → eqb (count t) 0 ≡ not (present (span_tree t))
    go true p = rw p (ne_eqb (count t) 0 (λ e. omega (arith, counted t p)))
    go false p = rw p (eq-eqb (count t) 0 (uncounted t p))

-- The precedence of the role that an operator has by its operands, as the row of notes has it.
module _ {T : Table} {R : NoteRow} {i : ℕ} {m : Bytes} (n : Noted T R i (symbol m)) (fit : (f : Fixity) → Fit (role T m f)) where
  fit_of : (g : Option Fixity) → Fit (role_of_fixity T m g)
  unfolding role_of_fixity
  fit_of none = tt
  fit_of (some f) = fit f

  beside_operands : (l r : Tree) (x y : ℕ) → eqb x 0 ≡ not (present (span_tree l)) → eqb y 0 ≡ not (present (span_tree r))
      → precedence_of (role_beside R i x y) ≡ precedence_over T l m r
  unfolding role_over fixity
  beside_operands l r x y e f =
      let o = role_over T (span_tree l) m (span_tree r) in
      let fits = fit_of (fixity (span_tree l) (span_tree r)) in
      rw (beside_code T R i m n x y (present (span_tree l)) (present (span_tree r)) e f) (ap root_precedence (role-code o fits))

module _ (places : ℕ → ℕ) (M : Rows) where
  abbrev K : TokenRow
  K = M.tokens

  abbrev R : NoteRow
  R = M.roles

  abbrev O : RootRow
  O = M.roots

  -- Every operator that stands there has an operand, so there are six words to a node.
  tokened_operated : (i : ℕ) (t : Tree) → Tokened places K i t → Operated t
  tokened_operated i nothing h = tt
  tokened_operated i (leaf a) h = tt
  tokened_operated i (bracket t) h = tokened_operated (suc i) t h.3
  tokened_operated i (block ds t) h = tokened_operated (suc (suc (i + length (all_tokens ds)))) t h.6
  tokened_operated i (node l m r) h = (
    tokened_operated i l h.4,
    tokened_operated (suc (i + length (flat l))) r h.5,
    formed (span_tree l) (span_tree r) h.3,
  )

  -- A tree as it stands at equal numbers.
  stand : (U : Table) (i : ℕ) (t : Tree) {from at to : ℕ} → Tokened places K i t → Roled R U i t → Rooted O i t → i ≡ from → suc at ≡ mark i t
      → to ≡ i + length (flat t) → Stands places U M from at to t
  stand U i t k c o e m f = rw (← e) (record { tokened = k; roled = c; rooted = o; root = m; end = f })

  -- Its root is among its tokens, and it has a node; six words to each.
  pub stands-root : {T : Table} {from at to : ℕ} {t : Tree} → Stands places T M from at to t → (1 ≤ count t) × (from ≤ at) × (at < to)
  stands-root {T} {from} {at} {to} {t} s =
      let e = s.root in
      let m = marked from t (omega arith) in
      (m.some, omega arith, omega (arith, s.end))

  pub stands-size :
      {T : Table} {from at to : ℕ} {t : Tree} → Stands places T M from at to t → (n : ℕ) → length (words places T t from n) ≡ count t * words_per_node
  stands-size {T} {from} {at} {to} {t} s n = omega (arith, words-length places T t from n (tokened_operated from t s.tokened))

  -- A child, under the operators `U`, of the tree that stands from `from` to `to`: it has fewer tokens and nodes.
  pub record Child (U : Table) (from to : ℕ) (t : Tree) (from' at' to' : ℕ) (u : Tree) : Type 0 where
    pub stands : Stands places U M from' at' to' u
    pub fewer : count u < count t
    pub falls : to' - from' < to - from
    pub within : to' ≤ to

  -- The child `u`, whose tokens begin at `i`, stands in its part; where there is no part the child is missing.
  abbrev pub StandsIn : Table → ℕ → ℕ → Tree → ℕ → Tree → PartOption Part → Type 0
  StandsIn U from to t i u None = u ≡ nothing
  StandsIn U from to t i u (Some p) = (p.from ≡ i) × Child U from to t p.from p.root p.to u

  -- The opener of a bracket pair or a block.
  pub record Opened (at to o : ℕ) : Type 0 where
    pub starts : ((i j : ℕ) → i ≤ j → j ≤ to → places i ≤ places j) → start K at ≤ start K o
    pub within : o < to
    pub root : 1 ≤ left O o

  pub record Shape (T : Table) (from at to : ℕ) (t : Tree) : Type 0 where
    pub opened : 3 < kind K at → Opened at to (opener_of K at)
    pub first : StandsIn (first_table T t) from to t (first_from from t) (first_of t) (first_part K O from at)
    pub second : StandsIn T from to t (mark from t) (second_of t) (second_part K O at to)
    pub nodes : count t ≡ count (first_of t) + count (second_of t) + 1
    pub text : (n : ℕ) → words places T t from n
        ≡ children_words places T t from n ++ last_words M at n (count (first_of t)) (count (first_of t) + count (second_of t))

  leaf_shape : {T : Table} (a : Atom) {from to : ℕ} → Stands places T M from from to (leaf a) → Shape T from from to (leaf a)
  unfolding count words first_of second_of
  leaf_shape {T} a {from} {to} s =
      let k = s.tokened in
      let is_atom_lem : kind K from ≤ 3 = omega (arith, atom_low a, k.0) in
      record {
        opened = λ h. absurd (omega arith);
        first = rw (first_left K O from is_atom_lem from, operand_none (left O from) from from s.rooted.0);
        second = rw (second_absent K O from is_atom_lem to s.rooted.1);
        nodes = refl;
        text = λ n. rw (last_atom M from is_atom_lem s.rooted.1 n 0 0 refl, k.0, k.1, k.2, leaf_kind_lem a);
      }

  bracket_shape : {T : Table} (t : Tree) {from to : ℕ} → Stands places T M from from to (bracket t) → Shape T from from to (bracket t)
  unfolding count words first_of second_of first_from first_table
  bracket_shape {T} t {from} {to} s =
      let k = s.tokened in
      let o = s.rooted in
      let m = present_marked (suc from) t k.2 in
      let z = bracket_size t in
      let e = s.end in
      let is_structure_lem : 3 < kind K from = omega (arith, k.0) in
      let opener = opener_bracket K from k.0 in
      record {
        opened = λ h. rw opener (record { starts = λ up. omega arith; within = omega arith; root = omega (arith, o.0) });
        first = rw (first_span K O from is_structure_lem from, opener) (
          add-one from,
          record {
            stands = stand T (suc from) t k.3 s.roled o.1 (sym (add-one from)) (omega (arith, o.0)) (omega (arith, k.1));
            fewer = omega arith;
            falls = omega (arith, k.1);
            within = omega (arith, k.1);
          },
        );
        second = rw (second_none K O from is_structure_lem to);
        nodes = omega arith;
        text = λ n. rw (last_bracket M from is_structure_lem k.0 n (count t) (count t + 0), append-nil, add-zero (count t), last_one (n + count t));
      }

  block_shape :
      {T : Table} (ds : List Declaration) (t : Tree) {from to : ℕ} → Stands places T M from from to (block ds t)
      → Shape T from from to (block ds t)
  unfolding count words first_of second_of first_from first_table
  block_shape {T} ds t {from} {to} s =
      let c = suc (from + length (all_tokens ds)) in
      let k = s.tokened in
      let o = s.rooted in
      let m = present_marked (suc c) t k.5 in
      let z = block_size ds t in
      let e = s.end in
      let is_structure_lem : 3 < kind K from = omega (arith, k.0) in
      let opener : opener_of K from ≡ c = opener_block K from (λ e. omega (arith, k.0)) ∙ k.2 in
      record {
        opened = λ h. rw opener (record {
          starts = λ up. omega (arith, k.1, k.3, up from c (omega arith) (omega arith));
          within = omega arith;
          root = omega (arith, o.0);
        });
        first = rw (first_span K O from is_structure_lem from, opener) (
          add-one c,
          record {
            stands = stand (declare_all T ds) (suc c) t k.6 s.roled o.1 (sym (add-one c)) (omega (arith, o.0)) (omega (arith, k.4));
            fewer = omega arith;
            falls = omega (arith, k.4);
            within = omega (arith, k.4);
          },
        );
        second = rw (second_none K O from is_structure_lem to);
        nodes = omega arith;
        text = λ n.
            rw (
              last_block M from is_structure_lem (λ e. omega (arith, k.0)) n (count t) (count t + 0),
              opener,
              k.1,
              k.3,
              append-nil,
              add-zero (count t),
              last_one (n + count t),
            );
      }

  module _ {T : Table} (l : Tree) (m : Bytes) (r : Tree) {from to : ℕ} (s : Stands places T M from (from + length (flat l)) to (node l m r)) where
    abbrev place : ℕ
    place = from + length (flat l)

    abbrev last : ℕ → Type 0
    last n =
        operator_words (fixity (span_tree l) (span_tree r)) (pred (n + count l)) (pred (n + count l + count r)) (places place) (length m)
        (precedence_over T l m r)
        ≡ last_words M place n (count l) (count l + count r)

    is_atom_lem : kind K place ≤ 3
    is_atom_lem = omega (arith, s.tokened.0)

    role_here : precedence_of (last_role M place (count l)) ≡ precedence_over T l m r
    role_here =
        beside_operands s.roled.0 s.roled.1 l r (count l) (right O place) (count-present l)
        (ap (λ x. eqb x 0) s.rooted.1 ∙ mark-present (suc place) r)

    -- An operand stands in its part, or it is missing.
    operand_stands :
        (u : Tree) (i x from' to' : ℕ) → Tokened places K i u → Roled R T i u → Rooted O i u → x ≡ mark i u → from' ≡ i → to' ≡ i + length (flat u)
        → count u < count (node l m r) → to' - from' < to - from → to' ≤ to → StandsIn T from to (node l m r) i u (operand_part x from' to')
    operand_stands u i x from' to' k c o e f g fewer falls within = go x refl
      where
        go : (y : ℕ) → x ≡ y → StandsIn T from to (node l m r) i u (operand_part x from' to')
        go zero p = rw (operand_none x from' to' p) (unmarked i u (sym e ∙ p))
        go (suc y) p =
            rw (operand_some x from' to' (λ q. omega arith))
            (f, record { stands = stand T i u k c o (sym f) (omega arith) g; fewer = fewer; falls = falls; within = within })

    -- The last node of an operator by the operands that there are.
    prefix_last : mark from l ≡ 0 → 1 ≤ mark (suc place) r → (n : ℕ) → last n
    unfolding operator_words count fixity_by
    prefix_last p h n =
        let e = unmarked from l p in
        let none : count l ≡ 0 = rw e in
        let f = formed_of l r false true (rw e absent) (marked (suc place) r h).there in
        rw (
          last_right M place is_atom_lem (λ q. omega (arith, s.rooted.1)) n (count l) (count l + count r),
          prefix-words n (count l) (count l + count r) (token K place) _ none,
          role_here,
          f,
          s.tokened.1,
          s.tokened.2,
          last_two_lem n (count l) (count r),
        )

    postfix_last_lem : 1 ≤ mark from l → mark (suc place) r ≡ 0 → (n : ℕ) → last n
    unfolding operator_words count fixity_by
    postfix_last_lem h q n =
        let e = unmarked (suc place) r q in
        let none : count l + count r ≡ count l = rw (e, add-zero (count l)) in
        let f = formed_of l r true false (marked from l h).there (rw e absent) in
        rw (
          last_postfix M place is_atom_lem (s.rooted.1 ∙ q) n (count l) (count l + count r) (λ z. omega (arith, (marked from l h).some)),
          role_here,
          f,
          s.tokened.1,
          s.tokened.2,
          none,
          last_one (n + count l),
        )

    infix_last : 1 ≤ mark from l → 1 ≤ mark (suc place) r → (n : ℕ) → last n
    unfolding operator_words fixity_by
    infix_last h g n =
        let f = formed_of l r true true (marked from l h).there (marked (suc place) r g).there in
        rw (
          last_right M place is_atom_lem (λ q. omega (arith, s.rooted.1)) n (count l) (count l + count r),
          infix_words n (count l) (count l + count r) (token K place) _ (λ z. omega (arith, (marked from l h).some)),
          role_here,
          f,
          s.tokened.1,
          s.tokened.2,
          last_one (n + count l),
          last_two_lem n (count l) (count r),
        )

    node_last : (n : ℕ) → last n
    node_last n = go (mark from l) refl (mark (suc place) r) refl
      where
        go : (x : ℕ) → mark from l ≡ x → (y : ℕ) → mark (suc place) r ≡ y → last n
        go zero p zero q = absurd (no_operand (rw (unmarked from l p, unmarked (suc place) r q) at s.tokened.3))
        go zero p (suc y) q = prefix_last p (omega arith) n
        go (suc x) p zero q = postfix_last_lem (omega arith) q n
        go (suc x) p (suc y) q = infix_last (omega arith) (omega arith) n

    node_shape : Shape T from place to (node l m r)
    unfolding count words first_of second_of first_from first_table mark
    node_shape =
        let z = node-size l m r in
        let e = s.end in
        let k = s.tokened in
        let o = s.rooted in
        record {
          opened = λ h. absurd (omega (arith, is_atom_lem));
          first = rw (first_left K O place is_atom_lem from)
              (operand_stands l from (left O place) from place k.4 s.roled.2 o.2 o.0 refl refl (omega arith) (omega arith) (omega arith));
          second = rw (second_right K O place is_atom_lem to)
              (operand_stands r (suc place) (right O place) (place + 1) to k.5 s.roled.3 o.3 o.1 (add-one place)
              (omega arith) (omega arith) (omega arith) (omega arith));
          nodes = refl;
          text = λ n. rw (node_last n, append_assoc);
        }

  pub shape : {T : Table} {from at to : ℕ} (t : Tree) → Stands places T M from at to t → Shape T from at to t
  unfolding mark
  shape nothing s = absurd (omega (arith, s.root))
  shape {T} {from} {at} {to} (leaf a) s = let e : at ≡ from = omega (arith, s.root) in rw e (leaf_shape a (rw e at s))
  shape {T} {from} {at} {to} (bracket t) s = let e : at ≡ from = omega (arith, s.root) in rw e (bracket_shape t (rw e at s))
  shape {T} {from} {at} {to} (block ds t) s = let e : at ≡ from = omega (arith, s.root) in rw e (block_shape ds t (rw e at s))
  shape {T} {from} {at} {to} (node l m r) s =
      let e : at ≡ from + length (flat l) = omega (arith, s.root) in rw e (node_shape l m r (rw e at s))
