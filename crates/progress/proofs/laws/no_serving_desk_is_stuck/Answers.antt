use Rattle.progress.proofs.Queue.{no_serving_desk_is_stuck as proved}
use Rattle.progress.proofs.laws.no_serving_desk_is_stuck.Goals as goal

pub returns : goal.returns
returns c = proved
