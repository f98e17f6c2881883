use Rattle.scorecard.proofs.Whole.{field-once}
use Rattle.scorecard.proofs.laws.spelled_once.Goals as goal

pub returns : goal.returns
returns c = field-once
