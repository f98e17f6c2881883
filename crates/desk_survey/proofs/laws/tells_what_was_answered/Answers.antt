use Rattle.desk_survey.proofs.Answered.{tells_what_was_answered}
use Rattle.desk_survey.proofs.laws.tells_what_was_answered.Goals as goal

pub returns : goal.returns
returns c = tells_what_was_answered
