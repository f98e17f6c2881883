use Rattle.std.proofs.Common.{◌≡◌, ◌≤◌, map, take}
use Rattle.std.specs.Prelude.{count_by}
use Rattle.serde_json.specs.View.{view}
use Rattle.wcif.specs.Events.{enters}
use Rattle.wcif.proofs.events.entrants.Given as goal

abbrev pub invariant-loop-person : goal.invariant-loop-person
invariant-loop-person l = record {
  count : l.count ≡ count_by (enters l.event) (map view (take l.person-index l.persons));
  few : l.count ≤ l.person-index;
}
