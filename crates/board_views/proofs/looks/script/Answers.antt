use Rattle.std.proofs.Common.{refl}
use Rattle.board_views.specs.Looks.{script}
use Rattle.board_views.proofs.looks.script.Goals as goal

pub returns : goal.returns
unfolding script
returns c = refl
