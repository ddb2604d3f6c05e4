-- What the front leaves is what the service promises.
use Rattle.reader.proofs.HandedOut.{read_handed_out}
use Rattle.reader.proofs.read.Goals as goal

pub returns : goal.returns
returns c = read_handed_out c.into.ensures c.serve.ensures
