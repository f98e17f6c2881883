use Rattle.std.proofs.Common.{◌≡◌, ◌++◌, map, take}
use Rattle.serde_json.specs.View.{view}
use Rattle.wcif.specs.{Persons.id_faults, Told.told}
use Rattle.wcif.proofs.entries.push_id_faults.Given as goal

abbrev pub invariant-loop-index : goal.invariant-loop-index
invariant-loop-index l =
    l.faults.items
    ≡ l.initial.faults.items ++ told (id_faults (map view l.events)) (map view (take l.index l.ids))
