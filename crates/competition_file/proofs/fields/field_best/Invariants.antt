use Rattle.std.proofs.Common.{◌≡◌, map, take}
use Rattle.serde_json.specs.View.{view}
use Rattle.competition_file.specs.Fields.{field_best}
use Rattle.competition_file.proofs.fields.field_best.Given as goal

abbrev pub invariant-loop-person : goal.invariant-loop-person
invariant-loop-person l =
    l.least ≡ field_best l.event l.table (map view (take l.person-index l.persons))
