use Rattle.std.proofs.Common.{◌≡◌, drop}
use Rattle.competition_file.proofs.Firsts.{first}
use Rattle.competition_file.specs.Bests.{best_in}
use Rattle.serde_json.specs.View.{view}
use Rattle.competition_file.proofs.bests.best_of.Given as goal

abbrev pub invariant-loop-best : goal.invariant-loop-best
invariant-loop-best l =
    first view (best_in l.event l.kind) (drop l.best-index l.bests) ≡ first view (best_in l.event l.kind) l.bests
