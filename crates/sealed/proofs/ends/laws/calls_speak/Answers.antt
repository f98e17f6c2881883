use Rattle.sealed.proofs.ends.Speaking.{calls_speak}
use Rattle.sealed.proofs.ends.laws.calls_speak.Goals as goal

pub returns : goal.returns
returns c = calls_speak
