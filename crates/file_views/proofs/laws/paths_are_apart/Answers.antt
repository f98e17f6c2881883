use Rattle.file_views.proofs.Apart.{apart}
use Rattle.file_views.proofs.laws.paths_are_apart.Goals as goal

pub returns : goal.returns
returns c = apart
