use Rattle.outbox.proofs.Held.{fixed}
use Rattle.outbox.proofs.laws.submits_what_is_kept.Goals as goal

pub returns : goal.returns
returns c = fixed
