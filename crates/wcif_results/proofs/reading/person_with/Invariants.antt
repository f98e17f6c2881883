use Rattle.std.proofs.Common.{◌≡◌, map, drop}
use Rattle.json.specs.Value.{value_view}
use Rattle.wcif_results.specs.Faults.{person_with}
use Rattle.wcif_results.proofs.reading.person_with.Given as goal

-- the answer is that of what is left
abbrev pub invariant-loop-person : goal.invariant-loop-person
invariant-loop-person l =
    person_with l.all l.number (map value_view l.persons)
    ≡ person_with l.all l.number (map value_view (drop l.person-index l.persons))
