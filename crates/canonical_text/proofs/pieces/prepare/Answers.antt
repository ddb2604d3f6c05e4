-- The pairs that stay, then what each token leaves.
use Rattle.canonical_text.proofs.Preparing.{ready_keepable, ready_held, ready_trimmable, ready_prepared}
use Rattle.canonical_text.proofs.pieces.prepare.Goals as goal

pub keep-requires : goal.keep-requires
keep-requires c = let p = c.requires in (_, _, ready_keepable p.1 p.2)

pub trim-requires : goal.trim-requires
trim-requires c =
    let p = c.requires in
    let e = c.keep.ensures _ _ (ready_keepable p.1 p.2) in
    let n = ready_held p.1 p.2 e in
    (n.0, n.1, ready_trimmable p.1 p.2 e)

pub returns : goal.returns
returns c r h e =
    ready_prepared h e (c.keep.ensures _ _ (ready_keepable h e)) c.trim.ensures
