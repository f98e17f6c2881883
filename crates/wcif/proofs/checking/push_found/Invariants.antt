use Rattle.std.proofs.Common.{◌≡◌, ◌++◌, map, take}
use Rattle.serde_json.specs.View.{view}
use Rattle.wcif.specs.{Faults.who, declared.fault.CompetitionFault.TheVariants.Person}
use Rattle.wcif.proofs.checking.push_found.Given as goal

abbrev pub invariant-loop-fault : goal.invariant-loop-fault
invariant-loop-fault l =
    l.faults.items ≡ l.initial.faults.items ++ map (Person l.place (who (view l.person)))
    (take l.fault-index l.found)
