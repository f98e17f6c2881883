use Rattle.std.proofs.Common.{refl}
use Rattle.board_views.specs.Looks.{style}
use Rattle.board_views.proofs.looks.style.Goals as goal

pub returns : goal.returns
unfolding style
returns c = refl
