use Rattle.std.proofs.Common.{◌≡◌, false, map, take}
use Rattle.std.specs.List.{list_any}
use Rattle.serde_json.specs.View.{view}
use Rattle.wcif.specs.Persons.{is_id}
use Rattle.wcif.proofs.entries.holds_id.Given as goal

abbrev pub invariant-loop-item : goal.invariant-loop-item
invariant-loop-item l = list_any (is_id l.id) (map view (take l.item-index l.ids)) ≡ false
