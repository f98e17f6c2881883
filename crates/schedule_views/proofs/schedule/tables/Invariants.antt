use Rattle.std.proofs.Common.{◌≡◌, map, take, flat_map}
use Rattle.serde_json.specs.View.{view}
use Rattle.schedule_views.specs.Schedule.{venue_tables}
use Rattle.schedule_views.proofs.schedule.tables.Given as goal

abbrev pub invariant-loop-venue : goal.invariant-loop-venue
invariant-loop-venue l =
    l.text.items ≡ flat_map (venue_tables l.meet.accepted) (map view (take l.venue-index l.venues))
