use Rattle.attempts.proofs.MultiBlind.{ordered as law}
use Rattle.attempts.proofs.laws.multi_blind_is_ordered.Goals as goal

pub returns : goal.returns
returns c = law
