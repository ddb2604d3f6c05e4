-- Which trees are there: those that have nodes, and so tokens. So the fixity of an operator tells which operands it has.
use mathlib.Core.Path.{◌≡◌, refl, sym}
use mathlib.Core.Bool.{Bool, true, false, true≢false}
use mathlib.Core.List.{◌∷◌}
use mathlib.Core.Option.{some}
use Prim.Native.Nat.{◌≤◌}
use native.Mathlib.Omega.{arith}
use lib.ListN.{length, length-append}
use Rattle.grammar.specs.Token.{symbol, atom}
use Rattle.grammar.specs.Operator.{Fixity, Prefix, Infix, Postfix}
use Rattle.grammar.specs.SpanTree.{present, fixity_by, fixity}
use Rattle.grammar.specs.Tree.{Tree, nothing, leaf, bracket, block, node, flat, span_tree}
use Rattle.grammar.specs.Nodes.{count}
use Rattle.grammar.proofs.Logic.{impossible}

-- A tree that is there has nodes, and one with nodes is there; one that is not is `nothing`.
pub counted : (t : Tree) → present (span_tree t) ≡ true → 1 ≤ count t
unfolding count present span_tree
counted nothing e = absurd (true≢false (sym e))
counted (leaf a) e = omega arith
counted (bracket t) e = omega arith
counted (block ds t) e = omega arith
counted (node l m r) e = omega arith

pub some_node : (t : Tree) → 1 ≤ count t → present (span_tree t) ≡ true
unfolding count present span_tree
some_node nothing l = absurd (omega arith)
some_node (leaf a) l = refl
some_node (bracket t) l = refl
some_node (block ds t) l = refl
some_node (node l m r) h = refl

pub no_node : (t : Tree) → count t ≡ 0 → t ≡ nothing
unfolding count
no_node nothing e = refl
no_node (leaf a) e = absurd (omega arith)
no_node (bracket t) e = absurd (omega arith)
no_node (block ds t) e = absurd (omega arith)
no_node (node l m r) e = absurd (omega arith)

-- So it is with tokens.
pub some_token : (t : Tree) → 1 ≤ length (flat t) → present (span_tree t) ≡ true
unfolding flat present span_tree
some_token nothing l = absurd (omega arith)
some_token (leaf a) l = refl
some_token (bracket t) l = refl
some_token (block ds t) l = refl
some_token (node l m r) h = refl

pub no_token : (t : Tree) → length (flat t) ≡ 0 → t ≡ nothing
unfolding flat
no_token nothing e = refl
no_token (leaf a) e = absurd (omega arith)
no_token (bracket t) e = absurd (omega arith)
no_token (block ds t) e = absurd (omega arith)
no_token (node l m r) e = absurd (omega (arith, length-append (flat l) (atom (symbol m) ∷ flat r)))

absent : (t : Tree) → present (span_tree t) ≡ false → t ≡ nothing
unfolding present span_tree
absent nothing e = refl
absent (leaf a) e = absurd (true≢false e)
absent (bracket t) e = absurd (true≢false e)
absent (block ds t) e = absurd (true≢false e)
absent (node l m r) e = absurd (true≢false e)

-- Which operands an operator of each fixity has.
abbrev pub Operands : Fixity → Tree → Tree → Type 0
Operands Prefix l r = (l ≡ nothing) × (present (span_tree r) ≡ true)
Operands Infix l r = (present (span_tree l) ≡ true) × (present (span_tree r) ≡ true)
Operands Postfix l r = (present (span_tree l) ≡ true) × (r ≡ nothing)

pub operands : (f : Fixity) (l r : Tree) → fixity (span_tree l) (span_tree r) ≡ some f → Operands f l r
unfolding fixity fixity_by
operands f l r e = go f (present (span_tree l)) (present (span_tree r)) refl refl e
  where
    go : (g : Fixity) (a b : Bool) → present (span_tree l) ≡ a → present (span_tree r) ≡ b → fixity_by a b ≡ some g → Operands g l r
    go Prefix true true p q e = impossible cc
    go Prefix true false p q e = impossible cc
    go Prefix false true p q e = (absent l p, q)
    go Prefix false false p q e = impossible cc
    go Infix true true p q e = (p, q)
    go Infix true false p q e = impossible cc
    go Infix false true p q e = impossible cc
    go Infix false false p q e = impossible cc
    go Postfix true true p q e = impossible cc
    go Postfix true false p q e = (p, absent r q)
    go Postfix false true p q e = impossible cc
    go Postfix false false p q e = impossible cc
