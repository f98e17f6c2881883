use Rattle.links.proofs.Kept.{frames_are_kept}
use Rattle.links.proofs.laws.frames_are_kept.Goals as goal

pub returns : goal.returns
returns c = frames_are_kept
