use Rattle.std.proofs.Common.{◌≡◌, false, map, take}
use Rattle.std.specs.List.{list_any}
use Rattle.serde_json.specs.View.{view}
use Rattle.wcif.specs.Persons.{has_id}
use Rattle.wcif.proofs.entries.has_id.Given as goal

abbrev pub invariant-loop-event : goal.invariant-loop-event
invariant-loop-event l = list_any (has_id l.id) (map view (take l.event-index l.events)) ≡ false
