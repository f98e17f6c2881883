use Rattle.std.proofs.Common.{◌≡◌, map, drop}
use Rattle.std.specs.Prelude.{find}
use Rattle.serde_json.specs.View.{view}
use Rattle.wcif.specs.Persons.{has_id}
use Rattle.competition_file.proofs.limits.with_id.Given as goal

abbrev pub invariant-loop-item : goal.invariant-loop-item
invariant-loop-item l =
    find (has_id l.id) (map view (drop l.item-index l.items))
    ≡ find (has_id l.id) (map view l.items)
