use Rattle.std.proofs.Common.{◌≡◌, map, take}
use Rattle.serde_json.specs.View.{view}
use Rattle.schedule_views.specs.Schedule.{starts}
use Rattle.schedule_views.proofs.schedule.starts.Given as goal

abbrev pub invariant-loop-activity : goal.invariant-loop-activity
invariant-loop-activity l =
    map (λ text. text.now) l.all.items ≡ starts (map view (take l.activity-index l.activities))
