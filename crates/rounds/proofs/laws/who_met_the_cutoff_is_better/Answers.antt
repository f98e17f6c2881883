use Rattle.rounds.proofs.Allotted.{met_is_better}
use Rattle.rounds.proofs.laws.who_met_the_cutoff_is_better.Goals as goal

pub returns : goal.returns
returns c = met_is_better
