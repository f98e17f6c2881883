use Rattle.outbox.proofs.Worked.{worked_journal, worked_states}
use Rattle.outbox.proofs.laws.worked.Goals as goal

pub returns : goal.returns
returns c = record { journal = worked_journal; states = worked_states }
