use Rattle.std.proofs.Common.{length}
use Rattle.hall_survey.proofs.asked.+one_speaks_five.Given as goal

abbrev pub decreases-one_speaks_five : goal.decreases-one_speaks_five
decreases-one_speaks_five l = length l.asked.now
