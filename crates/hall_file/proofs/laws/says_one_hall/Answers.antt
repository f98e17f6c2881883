use Rattle.hall_file.proofs.Choices.{one_hall}
use Rattle.hall_file.proofs.laws.says_one_hall.Goals as goal

pub returns : goal.returns
returns c = one_hall
