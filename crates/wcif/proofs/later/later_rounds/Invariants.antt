use Rattle.std.proofs.Common.{◌≡◌, map, take, flat_map}
use Rattle.serde_json.specs.View.{view}
use Rattle.wcif.specs.Later.{later_of}
use Rattle.wcif.proofs.later.later_rounds.Given as goal

abbrev pub invariant-loop-event : goal.invariant-loop-event
invariant-loop-event l =
    l.later.items ≡ flat_map (later_of l.how) (map view (take l.event-index l.events))
