use Rattle.commands.proofs.Known.{answers_as_earlier}
use Rattle.commands.proofs.laws.later_editions_change_no_answer.Goals as goal

pub returns : goal.returns
returns c = answers_as_earlier
