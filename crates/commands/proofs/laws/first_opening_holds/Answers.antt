use Rattle.commands.proofs.FirstOpening.{opened_is_first}
use Rattle.commands.proofs.laws.first_opening_holds.Goals as goal

pub returns : goal.returns
returns c = opened_is_first
