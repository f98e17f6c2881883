use Rattle.progress.proofs.Tangle.{tangle_is_decided}
use Rattle.progress.proofs.witness.a_tangle_is_decided.Goals as goal

pub returns : goal.returns
returns c = tangle_is_decided c.no_desk_is_stuck.ensures.first c.no_serving_desk_is_stuck.ensures
