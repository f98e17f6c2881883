use Rattle.mirror.proofs.Fronts as fronts
use Rattle.answers.proofs.Fronts.{same_sheet}
use Rattle.mirror.proofs.laws.mirrors_hold_fronts.Goals as goal

pub returns-clause-fronts : goal.returns-clause-fronts
returns-clause-fronts c = fronts.mirrors_hold_fronts

pub returns-clause-alike : goal.returns-clause-alike
returns-clause-alike c = same_sheet
