use Rattle.commands.proofs.Mended.{closes_as_before}
use Rattle.commands.proofs.laws.closes_as_before.Goals as goal

pub returns : goal.returns
returns c = closes_as_before
