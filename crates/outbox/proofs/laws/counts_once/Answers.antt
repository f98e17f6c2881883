use Rattle.outbox.proofs.Once.{counts_once}
use Rattle.outbox.proofs.laws.counts_once.Goals as goal

pub returns : goal.returns
returns c = counts_once c.every_id_is_seen.ensures
