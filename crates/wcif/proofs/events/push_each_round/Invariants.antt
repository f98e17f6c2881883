use Rattle.std.proofs.Common.{◌≡◌, ◌++◌, map, take}
use Rattle.serde_json.specs.View.{view}
use Rattle.wcif.specs.{Events.each_round, Told.told}
use Rattle.wcif.proofs.events.push_each_round.Given as goal

abbrev pub invariant-loop-index : goal.invariant-loop-index
invariant-loop-index l =
    l.faults.items
    ≡ l.initial.faults.items ++ told (each_round l.how l.event) (map view (take l.index l.rounds))
