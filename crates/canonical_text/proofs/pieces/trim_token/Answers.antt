-- By the kind: a number by its zeros, a quoted name by whether it stays quoted, any other token is left.
use Rattle.std.proofs.Common.{rules}
use Rattle.canonical_text.proofs.TrimToken.{trimmed_plain, trimmed_number, trimmed_quoted, trimmed_bare}
use Rattle.canonical_text.proofs.pieces.trim_token.Goals as goal

pub returns-in-Number : goal.returns-in-Number
returns-in-Number c =
    let z = rw c.written.ensures at c.zeros-zeros.ensures in
    trimmed_number c.args.roles c.requires (search rules) c.zeros-zeros.result z.0 z.1

pub returns-then-stays_quoted : goal.returns-then-stays_quoted
returns-then-stays_quoted c = trimmed_quoted c.args.roles c.requires (search rules) (search rules)

pub returns-else-stays_quoted : goal.returns-else-stays_quoted
returns-else-stays_quoted c = trimmed_bare c.args.roles c.requires (search rules) (search rules)

pub returns-in_default : goal.returns-in_default
returns-in_default c = trimmed_plain c.args.roles c.requires (search rules) (search rules)
