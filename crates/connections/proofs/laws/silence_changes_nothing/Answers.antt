use Rattle.connections.proofs.Silence.{silence_changes_nothing}
use Rattle.connections.proofs.laws.silence_changes_nothing.Goals as goal

pub returns : goal.returns
returns g c = silence_changes_nothing g.D.Desk
