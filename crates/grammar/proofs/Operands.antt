-- Every operator of a tree has an operand, so it has a fixity, and its node has six words.
use mathlib.Core.Path.{◌≡◌, refl}
use mathlib.Core.Option.{some}
use Prim.Native.Nat.{ℕ, suc, ◌+◌, ◌*◌}
use native.Mathlib.Omega.{arith}
use lib.ListN.{length, length-append}
use Rattle.grammar.specs.Operator.{Fixity, Prefix, Infix, Postfix, Table}
use Rattle.grammar.specs.Declaration.{declare_all}
use Rattle.grammar.specs.SpanTree.{fixity, Admitted}
use Rattle.grammar.specs.Tree.{Tree, nothing, leaf, bracket, block, node, flat, span_tree, InnerOk}
use Rattle.grammar.specs.Nodes.{count, node_words, words_per_node, operator_words, words}
use Rattle.grammar.proofs.AdmittingRole.{admitting_role}

abbrev pub Operated : Tree → Type 0
Operated nothing = Unit {0}
Operated (leaf a) = Unit {0}
Operated (bracket t) = Operated t
Operated (block ds t) = Operated t
Operated (node l m r) = Operated l × Operated r × ((f : Fixity) × (fixity (span_tree l) (span_tree r) ≡ some f))

pub operated : (T : Table) (t : Tree) → Admitted T (span_tree t) → InnerOk T t → Operated t
unfolding span_tree
operated T nothing a i = tt
operated T (leaf x) a i = tt
operated T (bracket t) a i = operated T t i.0.0 i.1
operated T (block ds t) a i = operated (declare_all T ds) t i.0.0 i.1
operated T (node l m r) a i =
    let c = admitting_role T (span_tree l) m (span_tree r) a in
    (operated T l a.0 i.0, operated T r a.1 i.1, (c.form, c.formed))

operator_length : (f : Fixity) (l r o s p : ℕ) → length (operator_words (some f) l r o s p) ≡ words_per_node
unfolding operator_words node_words
operator_length Prefix l r o s p = refl
operator_length Infix l r o s p = refl
operator_length Postfix l r o s p = refl

-- A tree has six words for each of its nodes, whatever the operators.
sized : (s : ℕ → ℕ) (t : Tree) → Operated t → (T : Table) (i n : ℕ) → length (words s T t i n) ≡ words_per_node * count t
unfolding words count node_words
sized s nothing h T i n = refl
sized s (leaf a) h T i n = refl
sized s (bracket t) h T i n = let inside = sized s t h in simp (length-append, inside) (omega arith)
sized s (block ds t) h T i n = let body = sized s t h in simp (length-append, body) (omega arith)
sized s (node l m r) h T i n =
    rw h.2.1
    (simp (length-append, operator_length)
    (omega (arith, sized s l h.0 T i n, sized s r h.1 T (suc (i + length (flat l))) (n + count l))))

pub words-length : (s : ℕ → ℕ) (T : Table) (t : Tree) (i n : ℕ) → Operated t → length (words s T t i n) ≡ words_per_node * count t
words-length s T t i n h = sized s t h T i n
