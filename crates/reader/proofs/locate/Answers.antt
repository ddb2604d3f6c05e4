-- What the front leaves is what the service promises.
use Rattle.reader.proofs.HandedOut.{locate_handed_out}
use Rattle.reader.proofs.locate.Goals as goal

pub returns : goal.returns
returns c = locate_handed_out c.into.ensures c.serve.ensures
