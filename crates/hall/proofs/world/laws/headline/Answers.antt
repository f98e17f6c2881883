use Rattle.hall.proofs.world.Agreeing.{desks_agree}
use Rattle.hall.proofs.world.laws.headline.Goals as goal

pub returns : goal.returns
returns c = desks_agree c.logs_agree.ensures c.logs_are_submitted.ensures
