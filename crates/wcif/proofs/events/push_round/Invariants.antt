use Rattle.std.proofs.Common.{◌≡◌, ◌++◌, map, take}
use Rattle.wcif.specs.declared.fault.CompetitionFault.TheVariants.{Round}
use Rattle.wcif.proofs.events.push_round.Given as goal

abbrev pub invariant-loop-fault : goal.invariant-loop-fault
invariant-loop-fault l =
    l.faults.items
    ≡ l.initial.faults.items ++ map (Round l.event l.round) (take l.fault-index l.found)
