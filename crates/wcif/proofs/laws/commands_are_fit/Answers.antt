use Rattle.wcif.proofs.Together.{fit}
use Rattle.wcif.proofs.laws.commands_are_fit.Goals as goal

pub returns : goal.returns
returns c = fit
