use Rattle.std.proofs.Common.{◌≡◌, ◌++◌, map, take}
use Rattle.serde_json.specs.View.{view}
use Rattle.wcif.specs.{Events.event_faults, Told.told}
use Rattle.wcif.proofs.events.push_events.Given as goal

abbrev pub invariant-loop-index : goal.invariant-loop-index
invariant-loop-index l =
    l.faults.items ≡ l.initial.faults.items ++ told (event_faults l.how (map view l.persons))
    (map view (take l.index l.events))
