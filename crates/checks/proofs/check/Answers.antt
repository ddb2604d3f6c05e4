-- What the scan answers is checks 2 to 5; a text without a token is blank, and one without tokens of structure needs no pairing.
use Rattle.checks.proofs.Stages.{positive, not_scanned, passed_on, tokenized, blank, flat_matched}
use borrow.Author.Rules.{rules}
use Rattle.checks.proofs.check.Goals as goal

pub returns-in_err-scanned : goal.returns-in_err-scanned
returns-in_err-scanned c =
    let a = c.args in
    passed_on _ _ _ _ _ _ c.from_residual.ensures.1
    (not_scanned _ c.requires.short _ a.notes.now a.roots.now _ c.in_err-scanned.ensures.scanned)

pub returns-then-count-eq0 : goal.returns-then-count-eq0
returns-then-count-eq0 c = blank c.requires _ _ c.in_ok-scanned.ensures.scanned c.if-count-eq0.true

pub check_tokens-requires : goal.check_tokens-requires
check_tokens-requires c =
    (tokenized c.requires _ _ c.in_ok-scanned.ensures.scanned c.in_ok-scanned.ensures.long (positive c.if-count-eq0.false)).0

pub check_blocks-requires : goal.check_blocks-requires
check_blocks-requires c =
    let t = tokenized c.requires _ _ c.in_ok-scanned.ensures.scanned c.in_ok-scanned.ensures.long (positive c.if-count-eq0.false) in
    let (m, u) = flat_matched t.0 _ (t.1 (search rules)) in
    (m, λ z. u)
