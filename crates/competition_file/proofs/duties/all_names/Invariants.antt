use Rattle.std.proofs.Common.{map, take}
use Rattle.serde_json.specs.View.{view}
use Rattle.competition_file.specs.Kept.{AreHelpers}
use Rattle.competition_file.proofs.duties.all_names.Given as goal

abbrev pub invariant-loop-person : goal.invariant-loop-person
invariant-loop-person l = AreHelpers l.duty (map view (take l.person-index l.persons)) l.names
