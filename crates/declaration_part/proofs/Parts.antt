-- The parts of a declaration as the code reads them: what stands at a token's number, by its kind, and what is read there.
-- The laws follow the tests of the definitions.
use mathlib.Core.Path.{◌≡◌, refl, ◌∙◌}
use mathlib.Core.Bool.{Bool, true, false}
use Prim.Native.Nat.{ℕ, ◌+◌, ◌≤◌, ◌<◌}
use lib.Dec.{eqb, leb}
use Rattle.std.specs.Prelude.{Some, None, Ok, Err}
use borrow.Author.Tests.{le-leb, lt-leb, eq-eqb, ne_eqb, eqb-true, eqb-false, leb-true, leb-false}
use Rattle.grammar.specs.Bytes.{Bytes}
use Rattle.grammar.proofs.Logic.{clash, impossible}
use Rattle.rows.specs.Fields.{TokenRow, kind}
use Rattle.declaration_part.specs.declared.walk.Span.{Span}
use Rattle.declaration_part.specs.Named.{precedence_read}
use Rattle.declaration_part.specs.Parts.{stands, part, written_from, precedence_from, operator_at}

module _ (k : ℕ) (K : TokenRow) (at to : ℕ) where
  pub stands_end : to ≤ at → stands k K at to ≡ false
  unfolding stands
  stands_end h = rw (le-leb to at h, stands)

  module _ (h : at < to) where
    pub stands_here : kind K at ≡ k → stands k K at to ≡ true
    unfolding stands
    stands_here e = rw (lt-leb to at h, eq-eqb (kind K at) k e, stands)

    pub stands-other : (kind K at ≡ k → ⊥) → stands k K at to ≡ false
    unfolding stands
    stands-other n = rw (lt-leb to at h, ne_eqb (kind K at) k n, stands)

  -- The three cases.
  pub stands-cases : {X : Type 0} → (to ≤ at → X) → (at < to → kind K at ≡ k → X) → (at < to → (kind K at ≡ k → ⊥) → X) → X
  stands-cases {X} end here other = go (leb to at) (eqb (kind K at) k) refl refl
    where
      go : (a b : Bool) → leb to at ≡ a → eqb (kind K at) k ≡ b → X
      go true b e f = end (leb-true to at e)
      go false true e f = here (leb-false to at e) (eqb-true (kind K at) k f)
      go false false e f = other (leb-false to at e) (eqb-false (kind K at) k f)

  -- A token of the kind stands there.
  pub standing : stands k K at to ≡ true → (at < to) × (kind K at ≡ k)
  standing s =
      stands-cases (λ h. absurd (clash s (stands_end h))) (λ h e. (h, e)) (λ h n. absurd (clash s (stands-other h n)))

  module _ (text : Bytes) (place : Span) where
    pub from_here : stands k K at to ≡ true → written_from k text K at to place ≡ Some (part text place)
    unfolding written_from
    from_here s = rw (s, written_from)

    pub from_none : stands k K at to ≡ false → written_from k text K at to place ≡ None
    unfolding written_from
    from_none s = rw (s, written_from)

    -- What was read.
    pub written_none : None ≡ written_from k text K at to place → stands k K at to ≡ false
    written_none e = go (stands k K at to) refl
      where
        go : (b : Bool) → stands k K at to ≡ b → stands k K at to ≡ false
        go true s = impossible (cc (from_here s))
        go false s = s

    pub written_some : (w : Bytes) → Some w ≡ written_from k text K at to place → (stands k K at to ≡ true) × (w ≡ part text place)
    written_some w e = go (stands k K at to) refl
      where
        go : (b : Bool) → stands k K at to ≡ b → (stands k K at to ≡ true) × (w ≡ part text place)
        go true s = (s, cc (from_here s))
        go false s = impossible (cc (from_none s))

-- The precedence that is read is that of the number's bytes.
module _ (K : TokenRow) (at to : ℕ) (text : Bytes) (place : Span) where
  pub level_here : stands 2 K at to ≡ true → precedence_from text K at to place ≡ precedence_read (part text place)
  unfolding precedence_from
  level_here s = rw (s, precedence_from)

  pub level_none : stands 2 K at to ≡ false → precedence_from text K at to place ≡ None
  unfolding precedence_from
  level_none s = rw (s, precedence_from)

  pub level_some : (p : ℕ) → Some p ≡ precedence_from text K at to place → (stands 2 K at to ≡ true) × (Some p ≡ precedence_read (part text place))
  level_some p e = go (stands 2 K at to) refl
    where
      go : (b : Bool) → stands 2 K at to ≡ b → (stands 2 K at to ≡ true) × (Some p ≡ precedence_read (part text place))
      go true s = (s, e ∙ level_here s)
      go false s = impossible (cc (level_none s))

-- The operator and its `;`.
module _ (K : TokenRow) (at to : ℕ) (place : Span) where
  pub closed_operator : stands 1 K at to ≡ false → operator_at K at to place ≡ Err at
  unfolding operator_at
  closed_operator s = rw (s, operator_at)

  module _ (s : stands 1 K at to ≡ true) where
    pub closed_semicolon : stands 6 K (at + 1) to ≡ false → operator_at K at to place ≡ Err (at + 1)
    unfolding operator_at
    closed_semicolon z = rw (s, z, operator_at)

    pub closed_behind : stands 6 K (at + 1) to ≡ true → operator_at K at to place ≡ Ok place
    unfolding operator_at
    closed_behind z = rw (s, z, operator_at)
