use Rattle.hall_file.proofs.Choices.{refused_for}
use Rattle.hall_file.proofs.laws.says_or_is_refused.Goals as goal

pub returns : goal.returns
returns c = refused_for
