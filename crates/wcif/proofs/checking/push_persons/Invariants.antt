use Rattle.std.proofs.Common.{◌≡◌, ◌++◌, map, take}
use Rattle.serde_json.specs.View.{view}
use Rattle.wcif.specs.{Faults.person_faults, Told.told, model.Kept.AreKept}
use Rattle.wcif.proofs.checking.push_persons.Given as goal

abbrev pub invariant-loop-index : goal.invariant-loop-index
invariant-loop-index l = record {
  faults : l.faults.items ≡ l.initial.faults.items ++ told
      (person_faults l.how (map view l.events) (map view l.persons))
      (map view (take l.index l.persons));
  kept : AreKept l.how (map view l.persons) (map view (take l.index l.persons)) l.people;
}
