-- What the front leaves is what the service promises.
use Rattle.reader.proofs.HandedOut.{canonicalize_handed_out}
use Rattle.reader.proofs.canonicalize.Goals as goal

pub returns : goal.returns
returns c = canonicalize_handed_out c.into.ensures c.serve.ensures
