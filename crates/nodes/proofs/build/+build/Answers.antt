-- What is built first is said once, where the two ways behind it meet (`first-here`); what each call asks, and what the calls leave, are the laws
-- of `Steps`, put together here for each case of the root: a bracket pair or a block, nothing on its right, an operand on its right.
use Rattle.std.proofs.Common.{◌≡◌, true, false, Bool, ◌-◌, ◌≤◌, ℕ, ◌+◌, ◌*◌, ◌<◌, List, length, get_or, leb, refl, sym, ap, ◌∙◌, arith, rules}
use Rattle.std.proofs.lemmas.List.{get_or_default}
use borrow.Author.Tests.{leb-true, leb-false}
use borrow.Rule.Slice.PartMut.{mid_of, put_mid}
use Rattle.grammar.specs.Nodes.{postfix_kind, words_per_node}
use Rattle.rows.specs.declared.roles.Note.{Note}
use Rattle.rows.specs.Fields.{NoteRow, no_note, note, token, kind, right, Within}
use Rattle.rows.specs.Below.{stands_alone}
use Rattle.rows.specs.InUse.{role_between, role_beside}
use Rattle.rows.specs.Standing.{Rows}
use Rattle.rows.proofs.InUse.{beside_right_lem}
use Rattle.rows.proofs.BelowTokens.{alone}
use Rattle.nodes.specs.Node.{precedence_of, token_words, atom_words, block_words, prefix_or_infix_words, HasNode, EndsInChild, Appended}
use Rattle.nodes.specs.First.{part}
use Rattle.nodes.specs.Building.{Buildable, Built, rows_of}
use Rattle.nodes.proofs.Parts.{
  second_part,
  last_role,
  first_span,
  second_none,
  last_bracket,
  last_block,
  second_absent,
  second_some,
  last_atom,
  last_postfix,
  last_right,
}
use Rattle.nodes.proofs.Steps.{
  FirstBuilt,
  ChildrenBuilt,
  built_counts,
  root_token,
  root-role,
  root-root,
  node-room,
  opener_asks,
  opener_order,
  has_first,
  first_asks,
  first_missing,
  first_there,
  lent_starts,
  first_counts,
  children_one,
  second_asks,
  children_two,
  last_room,
  done,
  atom_done,
}
use Rattle.nodes.proofs.build.+build.Goals as goal
use Rattle.nodes.proofs.build.+build.Goals.{Joined-first, in-Some, in-None}

-- Where the ways meet: the first part is missing, or it is built.
first-here : (t : ℕ) (c : Joined-first t)
    → let a = c.args in
    FirstBuilt (rows_of a.rows.now) a.from a.at a.to a.nodes.now a.base c.match-first.nodes c.match-first.l
first-here t c =
    elim c.match-first.branch [
      | in-None w ↦ rw (w.nodes-is, w.l-is) (first_missing (sym c.first.ensures ∙ w.in-None.is))
      | in-Some w ↦ rw (w.nodes-is, w.l-is) (first_there (sym c.first.ensures ∙ w.in-Some.is) w.build-l.ensures)
    ]

-- What the test of a kind shows.
is_low : {k : ℕ} {b : Bool} → b ≡ leb k 3 → b ≡ true → k ≤ 3
is_low e f = leb-true _ _ (sym e ∙ f)

is_high : {k : ℕ} {b : Bool} → b ≡ leb k 3 → b ≡ false → 3 < k
is_high e f = leb-false _ _ (sym e ∙ f)

-- A note that is read is that of the row.
known : (R : NoteRow) (i : ℕ) (x : Note) → Within R i → get_or R i x ≡ note R i
known R i x w = get_or_default R i x no_note w.1

module _ {M : Rows} {N N₁ : List ℕ} {from at to base l : ℕ} (h : Buildable M from at to N base) (b : FirstBuilt M from at to N base N₁ l) where
  -- A bracket pair or a block: what it holds is all but its last node.
  module _ (is_structure : 3 < kind M.tokens at) where
    span-children : ChildrenBuilt M from at to N base N₁ l
    span-children = children_one h b (second_none _ _ _ is_structure _) refl

    span-ends : EndsInChild (base + l) × HasNode N₁ l
    span-ends =
        let r = last_room h span-children in
        let n = first_counts h b (first_span _ _ _ is_structure _) in
        (omega (arith, r.0), r.1)

  module _ (is_atom : kind M.tokens at ≤ 3) where
    -- Neither, and nothing on its right: what stands on its left is all but its last node.
    left-children : right M.roots at ≡ 0 → {n : ℕ} → n ≡ l → ChildrenBuilt M from at to N base N₁ n
    left-children e = children_one h b (second_absent _ _ _ is_atom _ e)

    -- An operand on its right: it is asked for in the lent part behind the nodes of the left one.
    abbrev lent : List ℕ
    lent = mid_of (l * words_per_node) (length N₁ - l * words_per_node) N₁

    abbrev back : List ℕ → List ℕ
    back P = put_mid (l * words_per_node) (length N₁ - l * words_per_node) N₁ P

    module _ (some : right M.roots at ≡ 0 → ⊥) where
      second-here : second_part M.tokens M.roots at to ≡ part (at + 1) (right M.roots at - 1) to
      second-here = second_some _ _ _ is_atom _ refl some

      right-asks : (to - (at + 1) < to - from) × Buildable M (at + 1) (right M.roots at - 1) to lent (base + l)
      right-asks = second_asks h b second-here

      -- One atom.
      one_atom : {P : List ℕ} {r : ℕ} → stands_alone M.tokens M.roots (right M.roots at - 1) ≡ true
          → Appended (atom_words (token M.tokens (right M.roots at - 1))) lent 0 P r
          → Built M (at + 1) (right M.roots at - 1) to lent (base + l) P r
      one_atom e w = let a = alone _ _ _ e in atom_done right-asks.1 a.0 a.1 a.2 w

      -- It is built: both operands are all but the last node.
      module _ {P : List ℕ} {r : ℕ} (v : Built M (at + 1) (right M.roots at - 1) to lent (base + l) P r) where
        both-children : ChildrenBuilt M from at to N base (back P) (l + r)
        both-children = children_two h b second-here v

        -- The role by its operands.
        role_here : role_beside M.roles at l r ≡ last_role M at l
        role_here = beside_right_lem M.roles at l r (right M.roots at) (λ e. omega (arith, built_counts right-asks.1 v)) some

        both_ends : (1 ≤ r) × (base + (l + r) ≤ 4096) × HasNode (back P) (l + r)
        both_ends = let e = last_room h both-children in (built_counts right-asks.1 v, e.0, e.1)

        both-done : {N' : List ℕ} {n : ℕ} {x : Note} → x ≡ note M.roles at
            → Appended (prefix_or_infix_words base l (l + r) (token M.tokens at) (precedence_of (role_between x.roles l r))) (back P) (l + r) N' n
            → Built M from at to N base N' n
        both-done {x = x} e w =
            let u : ℕ → List ℕ = λ p. prefix_or_infix_words base l (l + r) (token M.tokens at) (precedence_of p) in
            done h both-children (u (role_between x.roles l r)) b w
            (ap u (ap (λ y. role_between y.roles l r) e ∙ role_here) ∙ sym (last_right _ _ is_atom some _ _ _))

pub first-requires : goal.first-requires
first-requires t c = has_first c.requires

pub build-l-requires : goal.build-l-requires
build-l-requires t c =
    let f = first_asks c.requires (sym c.first.ensures ∙ c.in-Some.is) in
    (omega (arith, c.decreases, f.0), f.1)

pub offset_bounds-rows-at : goal.offset_bounds-rows-at
offset_bounds-rows-at t c = omega (arith, root_token c.requires)

pub bounds-rows-at : goal.bounds-rows-at
bounds-rows-at t c = (root_token c.requires).1

pub bracket-requires : goal.bracket-requires
bracket-requires t c =
    span-ends c.requires (first-here t (goal.at.bracket-requires t c).Joined-first) (is_high c.is_atom.ensures c.if-not-is_atom.true)

pub returns-then-eq : goal.returns-then-eq
returns-then-eq t c =
    let h = c.requires in
    let b = first-here t (goal.at.returns-then-eq t c).Joined-first in
    let s = is_high c.is_atom.ensures c.if-not-is_atom.true in
    done h (span-children h b s) _ b c.bracket.ensures (sym (last_bracket _ _ s (search rules) _ _ _))

pub opener-requires : goal.opener-requires
opener-requires t c = root_token c.requires

pub bounds-rows-opener : goal.bounds-rows-opener
bounds-rows-opener t c =
    rw c.opener.ensures (opener_asks c.requires (is_high c.is_atom.ensures c.if-not-is_atom.true)).0.1

pub offset_bounds-rows-opener : goal.offset_bounds-rows-opener
offset_bounds-rows-opener t c =
    let o = opener_asks c.requires (is_high c.is_atom.ensures c.if-not-is_atom.true) in
    omega (arith, o.0, c.opener.ensures)

pub block-requires : goal.block-requires
block-requires t c =
    let h = c.requires in
    let s = is_high c.is_atom.ensures c.if-not-is_atom.true in
    let e = span-ends h (first-here t (goal.at.block-requires t c).Joined-first) s in
    rw c.opener.ensures (opener_order h s, e.0, e.1)

pub returns-then-not-is_atom : goal.returns-then-not-is_atom
returns-then-not-is_atom t c =
    let h = c.requires in
    let b = first-here t (goal.at.returns-then-not-is_atom t c).Joined-first in
    let s = is_high c.is_atom.ensures c.if-not-is_atom.true in
    let K = c.args.rows.now.tokens.now in
    let w = block_words (c.args.base + c.match-first.l - 1) (token K c.args.at) (token K c.opener.result) in
    done h (span-children h b s) w b c.block.ensures (rw c.opener.ensures (sym (last_block _ _ s (search rules) _ _ _)))

pub offset_bounds-rows-at-2 : goal.offset_bounds-rows-at-2
offset_bounds-rows-at-2 t c = omega (arith, root_token c.requires)

pub bounds-rows-at-2 : goal.bounds-rows-at-2
bounds-rows-at-2 t c = (root-root c.requires).1

pub leaf-requires : goal.leaf-requires
leaf-requires t c =
    let h = c.requires in
    let b = first-here t (goal.at.leaf-requires t c).Joined-first in
    let s = is_low c.is_atom.ensures c.if-not-is_atom.false in
    (last_room h (left-children h b s c.if-right-eq0.true (sym c.if-l-eq0.true))).1

pub returns-then-l-eq0 : goal.returns-then-l-eq0
returns-then-l-eq0 t c =
    let h = c.requires in
    let b = first-here t (goal.at.returns-then-l-eq0 t c).Joined-first in
    let s = is_low c.is_atom.ensures c.if-not-is_atom.false in
    let n = c.if-right-eq0.true in
    let e = c.if-l-eq0.true in
    done h (left-children h b s n (sym e)) _ b c.leaf.ensures (sym (last_atom _ _ s n _ _ _ e))

pub offset_bounds-rows-at-then-right-eq0 : goal.offset_bounds-rows-at-then-right-eq0
offset_bounds-rows-at-then-right-eq0 t c = omega (arith, root_token c.requires)

pub bounds-rows-at-then-right-eq0 : goal.bounds-rows-at-then-right-eq0
bounds-rows-at-then-right-eq0 t c = (root-role c.requires).1

pub unary-requires : goal.unary-requires
unary-requires t c =
    let h = c.requires in
    let b = first-here t (goal.at.unary-requires t c).Joined-first in
    let s = is_low c.is_atom.ensures c.if-not-is_atom.false in
    let r = last_room h (left-children h b s c.if-right-eq0.true refl) in
    let l : 1 ≤ c.match-first.l = omega (arith, c.if-l-eq0.false) in
    (omega (arith, r.0), r.1)

pub returns-then-right-eq0 : goal.returns-then-right-eq0
returns-then-right-eq0 t c =
    let a = c.args in
    let h = c.requires in
    let b = first-here t (goal.at.returns-then-right-eq0 t c).Joined-first in
    let s = is_low c.is_atom.ensures c.if-not-is_atom.false in
    let n = c.if-right-eq0.true in
    let w : ℕ → List ℕ = λ x. token_words postfix_kind (a.base + c.match-first.l - 1) 0 (token a.rows.now.tokens.now a.at) (precedence_of x) in
    let k = known _ _ _ (root-role h) in
    done h (left-children h b s n refl) (w c.between-role.result.code) b c.unary.ensures
    (ap w (c.between-role.ensures ∙ ap (λ x. role_between x.roles c.match-first.l (right a.rows.now.roots.now a.at)) k) ∙ sym (last_postfix _ _ s n _ _ _ c.if-l-eq0.false))

pub overflow_mul-after : goal.overflow_mul-after
overflow_mul-after t c = omega (arith, lent_starts c.requires (first-here t (goal.at.overflow_mul-after t c).Joined-first))

pub stands_alone-requires : goal.stands_alone-requires
stands_alone-requires t c =
    let b = first-here t (goal.at.stands_alone-requires t c).Joined-first in
    let h = (right-asks c.requires b (is_low c.is_atom.ensures c.if-not-is_atom.false) c.if-right-eq0.false).1 in
    (root_token h, root-root h)

pub bounds-rows-right : goal.bounds-rows-right
bounds-rows-right t c =
    let b = first-here t (goal.at.bounds-rows-right t c).Joined-first in
    (root_token (right-asks c.requires b (is_low c.is_atom.ensures c.if-not-is_atom.false) c.if-right-eq0.false).1).1

pub offset_bounds-nodes-after : goal.offset_bounds-nodes-after
offset_bounds-nodes-after t c = omega (arith, lent_starts c.requires (first-here t (goal.at.offset_bounds-nodes-after t c).Joined-first))

pub slice_bounds-leaf-count : goal.slice_bounds-leaf-count
slice_bounds-leaf-count t c = (lent_starts c.requires (first-here t (goal.at.slice_bounds-leaf-count t c).Joined-first)).1

pub slice_bounds-leaf-start : goal.slice_bounds-leaf-start
slice_bounds-leaf-start t c = omega (arith, lent_starts c.requires (first-here t (goal.at.slice_bounds-leaf-start t c).Joined-first))

pub leaf-r-requires : goal.leaf-r-requires
leaf-r-requires t c =
    let b = first-here t (goal.at.leaf-r-requires t c).Joined-first in
    node-room (right-asks c.requires b (is_low c.is_atom.ensures c.if-not-is_atom.false) c.if-right-eq0.false).1

pub bounds-rows-at-then-stands_alone : goal.bounds-rows-at-then-stands_alone
bounds-rows-at-then-stands_alone t c = (root-role c.requires).1

pub prefix_or_infix-requires : goal.prefix_or_infix-requires
prefix_or_infix-requires t c =
    let h = c.requires in
    let b = first-here t (goal.at.prefix_or_infix-requires t c).Joined-first in
    let s = is_low c.is_atom.ensures c.if-not-is_atom.false in
    let e = c.if-right-eq0.false in
    both_ends h b s e (one_atom h b s e (sym c.stands_alone.ensures ∙ c.if-stands_alone.true) c.leaf-r.ensures)

pub returns-then-stands_alone : goal.returns-then-stands_alone
returns-then-stands_alone t c =
    let h = c.requires in
    let b = first-here t (goal.at.returns-then-stands_alone t c).Joined-first in
    let s = is_low c.is_atom.ensures c.if-not-is_atom.false in
    let e = c.if-right-eq0.false in
    let v = one_atom h b s e (sym c.stands_alone.ensures ∙ c.if-stands_alone.true) c.leaf-r.ensures in
    both-done h b s e v (known _ _ _ (root-role h)) c.prefix_or_infix.ensures

pub offset_bounds-nodes-after-2 : goal.offset_bounds-nodes-after-2
offset_bounds-nodes-after-2 t c = omega (arith, lent_starts c.requires (first-here t (goal.at.offset_bounds-nodes-after-2 t c).Joined-first))

pub slice_bounds-build-count : goal.slice_bounds-build-count
slice_bounds-build-count t c = (lent_starts c.requires (first-here t (goal.at.slice_bounds-build-count t c).Joined-first)).1

pub slice_bounds-build-start : goal.slice_bounds-build-start
slice_bounds-build-start t c = omega (arith, lent_starts c.requires (first-here t (goal.at.slice_bounds-build-start t c).Joined-first))

pub overflow_add-base : goal.overflow_add-base
overflow_add-base t c =
    omega (arith, lent_starts c.requires (first-here t (goal.at.overflow_add-base t c).Joined-first), c.requires.few)

pub build-r-requires : goal.build-r-requires
build-r-requires t c =
    let b = first-here t (goal.at.build-r-requires t c).Joined-first in
    let f = right-asks c.requires b (is_low c.is_atom.ensures c.if-not-is_atom.false) c.if-right-eq0.false in
    (omega (arith, c.decreases, f.0), f.1)

pub bounds-rows-at-3 : goal.bounds-rows-at-3
bounds-rows-at-3 t c = (root_token c.requires).1

pub bounds-rows-at-4 : goal.bounds-rows-at-4
bounds-rows-at-4 t c = (root-role c.requires).1

pub prefix_or_infix-requires-2 : goal.prefix_or_infix-requires-2
prefix_or_infix-requires-2 t c =
    let b = first-here t (goal.at.prefix_or_infix-requires-2 t c).Joined-first in
    let s = is_low c.is_atom.ensures c.if-not-is_atom.false in
    both_ends c.requires b s c.if-right-eq0.false c.build-r.ensures

pub returns : goal.returns
returns t c =
    let h = c.requires in
    let b = first-here t (goal.at.returns t c).Joined-first in
    let s = is_low c.is_atom.ensures c.if-not-is_atom.false in
    both-done h b s c.if-right-eq0.false c.build-r.ensures (known _ _ _ (root-role h)) c.prefix_or_infix-2.ensures
