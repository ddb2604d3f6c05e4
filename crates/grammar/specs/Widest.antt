-- Document 01, "that the root has the widest level then follows and isn't asked besides", and document 02, §2: "the widest level of a span is
-- sought among roles in use". Nothing is found by it.
use Rattle.std.specs.Prelude.{ℕ, max}
use Rattle.grammar.specs.Operator.{Table}
use Rattle.grammar.specs.SpanTree.{SpanTree, missing, operand, apply, role_over, root_precedence}

-- The widest precedence of the roles in which the operators of a tree stand; 0 where it has none.
unfoldable pub widest : Table → SpanTree → ℕ
widest T missing = 0
widest T (operand i) = 0
widest T (apply l m r) = max (root_precedence (role_over T l m r)) (max (widest T l) (widest T r))
