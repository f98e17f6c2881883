use Rattle.std.proofs.Common.{◌≡◌, map, take}
use Rattle.serde_json.specs.View.{view}
use Rattle.competition_file.specs.Kept.{kept_of, seen}
use Rattle.competition_file.proofs.kept.all_people.Given as goal

abbrev pub invariant-loop-person : goal.invariant-loop-person
invariant-loop-person l =
    map seen l.all.items ≡ map kept_of (map view (take l.person-index l.persons))
