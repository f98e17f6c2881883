use Rattle.wcif_results.proofs.FilledRounds.{others_stay}
use Rattle.wcif_results.proofs.laws.others_stay.Goals as goal

pub returns : goal.returns
returns c = others_stay
