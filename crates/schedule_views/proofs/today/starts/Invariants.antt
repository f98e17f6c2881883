use Rattle.std.proofs.Common.{◌≡◌, map, take}
use Rattle.serde_json.specs.View.{view}
use Rattle.schedule_views.specs.{Spots.seen, Today.starts}
use Rattle.schedule_views.proofs.today.starts.Given as goal

abbrev pub invariant-loop-assignment : goal.invariant-loop-assignment
invariant-loop-assignment l =
    map (λ text. text.now) l.all.items
    ≡ starts (map seen l.spots) (map view (take l.assignment-index l.assignments))
