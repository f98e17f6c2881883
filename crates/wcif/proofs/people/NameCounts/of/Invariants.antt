use Rattle.std.proofs.Common.{map, take}
use Rattle.serde_json.specs.View.{view}
use Rattle.wcif.specs.model.Kept.{CountsNames}
use Rattle.wcif.proofs.people.NameCounts.of.Given as goal

abbrev pub invariant-loop-person : goal.invariant-loop-person
invariant-loop-person l = CountsNames (map view (take l.person-index l.persons)) l.kept
