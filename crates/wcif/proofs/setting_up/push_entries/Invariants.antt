use Rattle.std.proofs.Common.{◌≡◌, ◌++◌, map, take}
use Rattle.std.specs.Prelude.{flat_map}
use Rattle.serde_json.specs.View.{view}
use Rattle.wcif.specs.Commands.{entering}
use Rattle.wcif.proofs.setting_up.push_entries.Given as goal

abbrev pub invariant-loop-id : goal.invariant-loop-id
invariant-loop-id l =
    l.commands.items
    ≡ l.initial.commands.items ++ flat_map (entering l.number) (map view (take l.id-index l.ids))
