use Rattle.kept_mirror.proofs.Kept.{holds_what_was_answered}
use Rattle.kept_mirror.proofs.laws.holds_what_was_answered.Goals as goal

pub returns : goal.returns
returns c = holds_what_was_answered
