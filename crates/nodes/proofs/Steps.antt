-- What each call of the builder asks, and what the calls leave. The tree that is asked for has the children that the tests show, so the
-- calls are in order; and whatever tree stands there has them too, so the words that the calls leave are its words.
use mathlib.Core.Path.{◌≡◌, refl, sym, ap, ◌∙◌}
use mathlib.Core.List.{List, [], ◌++◌, append-nil}
use Prim.Native.Nat.{ℕ, ◌+◌, ◌-◌, ◌*◌, ◌≤◌, ◌<◌}
use native.Mathlib.Omega.{arith}
use lib.ListN.{length, length-append}
use lib.Seq.{sets}
use borrow.Rule.Slice.PartMut.{mid_of, put_mid}
use Rattle.grammar.specs.Operator.{Table}
use Rattle.grammar.specs.Tree.{Tree, nothing}
use Rattle.grammar.specs.Nodes.{count, words, words_per_node}
use Rattle.grammar.specs.Answer.{over}
use Rattle.rows.specs.Fields.{token, kind, start, left, right, Within}
use Rattle.rows.specs.Standing.{mark}
use Rattle.nodes.specs.Node.{atom_words, HasNode, Appended}
use Rattle.nodes.specs.First.{opener_of, part, first_part, HasFirst}
use Rattle.nodes.specs.Building.{Buildable, Built}
use Rattle.rows.specs.Standing.{Rows, Stands}
use Rattle.nodes.specs.declared.build.Part.{Part}
use Rattle.std.specs.Prelude.{Option, Some, None}
use Rattle.nodes.proofs.Over.{over_none, over-length, over-node, lent_length, over-lent}
use Rattle.nodes.proofs.Parts.{second_part, last_words, operand_none, first_left, second_absent, last_atom}
use Rattle.nodes.proofs.Shapes.{
  first_of,
  second_of,
  first_from,
  first_table,
  children_words,
  Child,
  StandsIn,
  Shape,
  stands-root,
  stands-size,
  shape,
}

-- What is built first: of every tree that stands there the words of its first child. Where there is no first part the child is missing,
-- and nothing is written.
pub record FirstBuilt (M : Rows) (from at to : ℕ) (N : List ℕ) (base : ℕ) (N₁ : List ℕ) (l : ℕ) : Type 0 where
  pub counted : (places : ℕ → ℕ) (T : Table) (t : Tree) → Stands places T M from at to t → l ≡ count (first_of t)
  pub written : (places : ℕ → ℕ) (T : Table) (t : Tree) → Stands places T M from at to t
      → N₁ ≡ over (words places (first_table T t) (first_of t) (first_from from t) base) N

-- The same of both children: all nodes but the last.
pub record ChildrenBuilt (M : Rows) (from at to : ℕ) (N : List ℕ) (base : ℕ) (N₂ : List ℕ) (m : ℕ) : Type 0 where
  pub counted : (places : ℕ → ℕ) (T : Table) (t : Tree) → Stands places T M from at to t → m ≡ count (first_of t) + count (second_of t)
  pub written : (places : ℕ → ℕ) (T : Table) (t : Tree) → Stands places T M from at to t → N₂ ≡ over (children_words places T t from base) N

-- A missing child has no nodes and no words.
none_counted : {u : Tree} → u ≡ nothing → count u ≡ 0
unfolding count
none_counted e = rw e

none_words : {u : Tree} (places : ℕ → ℕ) (T : Table) (i n : ℕ) → u ≡ nothing → words places T u i n ≡ []
unfolding words
none_words places T i n e = rw e

-- Six words to each node of the children.
child_size :
    (places : ℕ → ℕ) (M : Rows) (U : Table) (from to : ℕ) (t : Tree) (i : ℕ) (u : Tree) (p : Option Part) → StandsIn places M U from to t i u p
    → (n : ℕ) → length (words places U u i n) ≡ count u * words_per_node
unfolding words count
child_size places M U from to t i u None e n = rw e
child_size places M U from to t i u (Some p) c n = rw c.0 at (stands-size places M c.1.stands n)

module _ {places : ℕ → ℕ} {M : Rows} {T : Table} {from at to : ℕ} {t : Tree} (s : Shape places M T from at to t) (n : ℕ) where
  first_size_lem : length (words places (first_table T t) (first_of t) (first_from from t) n) ≡ count (first_of t) * words_per_node
  first_size_lem =
      child_size places M (first_table T t) from to t (first_from from t) (first_of t) (first_part M.tokens M.roots from at) s.first n

  children_size : length (children_words places T t from n) ≡ (count (first_of t) + count (second_of t)) * words_per_node
  children_size =
      let b = child_size places M T from to t (mark from t) (second_of t) (second_part M.tokens M.roots at to) s.second (n + count (first_of t)) in
      simp length-append (omega (arith, first_size_lem))

-- What a part asks.
module _ {M : Rows} {N : List ℕ} {from at to base : ℕ} (h : Buildable M from at to N base) where
  abbrev its_shape : Shape h.places M h.table from at to h.tree
  its_shape = shape h.places M h.tree h.stands

  pub root_token : Within M.tokens at
  root_token = let r = stands-root h.places M h.stands in omega (arith, r.2, h.tokens)

  pub root-role : Within M.roles at
  root-role = let r = stands-root h.places M h.stands in omega (arith, r.2, h.roles)

  pub root-root : Within M.roots at
  root-root = let r = stands-root h.places M h.stands in omega (arith, r.2, h.roots)

  pub node-room : HasNode N 0
  node-room = let r = stands-root h.places M h.stands in omega (arith, r.0, h.room)

  pub opener_asks : 3 < kind M.tokens at
      → Within M.tokens (opener_of M.tokens at) × Within M.roots (opener_of M.tokens at) × (1 ≤ left M.roots (opener_of M.tokens at))
  opener_asks s = let o = its_shape.opened s in (omega (arith, o.within, h.tokens), omega (arith, o.within, h.roots), o.root)

  pub opener_order : 3 < kind M.tokens at → start M.tokens at ≤ start M.tokens (opener_of M.tokens at)
  opener_order s = (its_shape.opened s).starts h.ascend

  pub has_first : HasFirst M.tokens M.roots at
  has_first = record { tokens = root_token; roots = root-root; opens = opener_asks }

  child_asks : {U : Table} {from' at' to' : ℕ} {u : Tree} {N' : List ℕ} {base' : ℕ} → Child h.places M U from to h.tree from' at' to' u
      → count u * words_per_node ≤ length N' → base' + count u ≤ 4096 → Buildable M from' at' to' N' base'
  child_asks {U} {u = u} c room few =
      let w = c.within in
      record {
        tokens = omega (arith, h.tokens);
        roles = omega (arith, h.roles);
        roots = omega (arith, h.roots);
        places = h.places;
        table = U;
        tree = u;
        stands = c.stands;
        ascend = λ i j a b. h.ascend i j a (omega (arith, w));
        room = room;
        few = few;
      }

  pub first_asks : {from' at' to' : ℕ} → first_part M.tokens M.roots from at ≡ part from' at' to'
      → (to' - from' < to - from) × Buildable M from' at' to' N base
  first_asks p =
      let c = (rw p at its_shape.first).1 in
      (c.falls, child_asks c (omega (arith, c.fewer, h.room)) (omega (arith, c.fewer, h.few)))

-- What a call leaves: at least one node.
module _ {M : Rows} {N N₁ : List ℕ} {from at to base n : ℕ} (h : Buildable M from at to N base) (w : Built M from at to N base N₁ n) where
  pub built_counts : 1 ≤ n
  built_counts = omega (arith, w.counted h.places h.table h.tree h.stands, (stands-root h.places M h.stands).0)

-- The first part is there or not.
module _ {M : Rows} {N : List ℕ} {from at to base : ℕ} where
  pub first_missing : first_part M.tokens M.roots from at ≡ None → FirstBuilt M from at to N base N 0
  first_missing p = record {
    counted = λ places T t s. sym (none_counted (rw p at (shape places M t s).first));
    written = λ places T t s. rw (none_words places (first_table T t) (first_from from t) base (rw p at (shape places M t s).first), over_none N);
  }

  pub first_there : {N₁ : List ℕ} {l from' at' to' : ℕ} → first_part M.tokens M.roots from at ≡ part from' at' to' → Built M from' at' to' N base N₁ l
      → FirstBuilt M from at to N base N₁ l
  first_there p w = record {
    counted = λ places T t s. w.counted places (first_table T t) (first_of t) (rw p at (shape places M t s).first).1.stands;
    written = λ places T t s.
        let c = rw p at (shape places M t s).first in
        rw c.0 at (w.written places (first_table T t) (first_of t) c.1.stands);
  }

-- What the call for the second part asks, and what both leave.
module _ {M : Rows} {N N₁ : List ℕ} {from at to base l : ℕ} (h : Buildable M from at to N base) (b : FirstBuilt M from at to N base N₁ l) where
  first_room : (l + 1 ≤ count h.tree) × (length N₁ ≡ length N)
  first_room =
      let e = b.counted h.places h.table h.tree h.stands in
      let a = first_size_lem (its_shape h) base in
      let w = words h.places (first_table h.table h.tree) (first_of h.tree) (first_from from h.tree) base in
      let n = (its_shape h).nodes in
      (omega arith, ap length (b.written h.places h.table h.tree h.stands) ∙ over-length w N (omega (arith, h.room)))

  pub lent_starts : (l ≤ 4096) × (l * words_per_node ≤ length N₁)
  lent_starts = let s = first_room in (omega (arith, h.few), omega (arith, h.room))

  pub first_counts : {from' at' to' : ℕ} → first_part M.tokens M.roots from at ≡ part from' at' to' → 1 ≤ l
  first_counts p =
      let c = rw p at (its_shape h).first in
      omega (arith, b.counted h.places h.table h.tree h.stands, (stands-root h.places M c.1.stands).0)

  -- There is no second part.
  pub children_one : {m : ℕ} → second_part M.tokens M.roots at to ≡ None → m ≡ l → ChildrenBuilt M from at to N base N₁ m
  children_one p e = record {
    counted = λ places T t s. omega (arith, b.counted places T t s, none_counted (rw p at (shape places M t s).second));
    written = λ places T t s.
        rw (none_words places T (mark from t) (base + count (first_of t)) (rw p at (shape places M t s).second), append-nil) (b.written places T t s);
  }

  -- It is built in the lent part of the table.
  abbrev lent : List ℕ
  lent = mid_of (l * words_per_node) (length N₁ - l * words_per_node) N₁

  module _ {from' at' to' : ℕ} (p : second_part M.tokens M.roots at to ≡ part from' at' to') where
    pub second_asks : (to' - from' < to - from) × Buildable M from' at' to' lent (base + l)
    second_asks =
        let c = (rw p at (its_shape h).second).1 in
        let e = b.counted h.places h.table h.tree h.stands in
        let n = (its_shape h).nodes in
        let s = first_room in
        (c.falls, child_asks h c (omega (arith, h.room, lent_length (l * words_per_node) N₁)) (omega (arith, h.few)))

    pub children_two : {P : List ℕ} {r : ℕ} → Built M from' at' to' lent (base + l) P r
        → ChildrenBuilt M from at to N base (put_mid (l * words_per_node) (length N₁ - l * words_per_node) N₁ P) (l + r)
    children_two {P} {r} v = record {
      counted = λ places T t s.
          let c = rw p at (shape places M t s).second in
          omega (arith, b.counted places T t s, v.counted places T (second_of t) c.1.stands);
      written = λ places T t s.
          let d = shape places M t s in
          let c = rw p at d.second in
          let e = b.written places T t s in
          let i = b.counted places T t s in
          let w = words places (first_table T t) (first_of t) (first_from from t) base in
          let m = v.written places T (second_of t) c.1.stands in
          let z = first_size_lem d base in
          rw (e, ← i, ← c.0)
          (over-lent w (words places T (second_of t) from' (base + l)) N P (l * words_per_node) (omega arith) (omega (arith, lent_starts, first_room))
          (rw e at m));
    }

-- All but the last node are there: it has room, and with it the tree is whole.
module _ {M : Rows} {N N₂ : List ℕ} {from at to base m : ℕ} (h : Buildable M from at to N base) (g : ChildrenBuilt M from at to N base N₂ m) where
  pub last_room : (base + m ≤ 4096) × HasNode N₂ m × (length N₂ ≡ length N)
  last_room =
      let e = g.counted h.places h.table h.tree h.stands in
      let a = children_size (its_shape h) base in
      let n = (its_shape h).nodes in
      let f = children_words h.places h.table h.tree from base in
      let z = ap length (g.written h.places h.table h.tree h.stands) ∙ over-length f N (omega (arith, h.room)) in
      (omega (arith, h.few), omega (arith, h.room), z)

  pub done : {N₁ N₃ : List ℕ} {l a : ℕ} (w : List ℕ) → FirstBuilt M from at to N base N₁ l → Appended w N₂ m N₃ a
      → w ≡ last_words M at base l m → Built M from at to N base N₃ a
  done {l = l} w b a e = record {
    counted = λ places T t s. omega (arith, a.answer, g.counted places T t s, (shape places M t s).nodes);
    written = λ places T t s.
        let d = shape places M t s in
        let f = children_words places T t from base in
        let i = b.counted places T t s in
        let j = g.counted places T t s in
        let k : last_words M at base (count (first_of t)) (count (first_of t) + count (second_of t)) ≡ w = rw (← j, ← i) (sym e) in
        let x = d.text base ∙ ap (λ v. f ++ v) k in
        let y = ap length x ∙ length-append f w in
        let z = children_size d base in
        let n = d.nodes in
        let q = stands-size places M s base in
        a.written
        ∙ ap (λ P. sets P (m * words_per_node) w) (g.written places T t s)
        ∙ over-node f w N (m * words_per_node) (omega arith) (omega (arith, last_room))
        ∙ ap (λ v. over v N) (sym x);
  }

-- A tree of one atom.
pub atom_done : {M : Rows} {N N' : List ℕ} {from at to base r : ℕ} → Buildable M from at to N base
    → kind M.tokens at ≤ 3 → left M.roots at ≡ 0 → right M.roots at ≡ 0 → Appended (atom_words (token M.tokens at)) N 0 N' r → Built M from at to N base N' r
atom_done {M} {from = from} {at} {to} {base} h is_atom_lem e f a =
    let b = first_missing (first_left M.tokens M.roots at is_atom_lem from ∙ operand_none (left M.roots at) from at e) in
    let g = children_one h b (second_absent M.tokens M.roots at is_atom_lem to f) refl in
    done h g (atom_words (token M.tokens at)) b a (sym (last_atom M at is_atom_lem f base 0 0 refl))
