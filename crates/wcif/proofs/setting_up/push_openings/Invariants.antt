use Rattle.std.proofs.Common.{◌≡◌, ◌++◌, map, take}
use Rattle.std.specs.Prelude.{flat_map}
use Rattle.serde_json.specs.View.{view}
use Rattle.wcif.specs.Commands.{opened}
use Rattle.wcif.proofs.setting_up.push_openings.Given as goal

abbrev pub invariant-loop-event : goal.invariant-loop-event
invariant-loop-event l =
    l.commands.items
    ≡ l.initial.commands.items ++ flat_map (opened l.how) (map view (take l.event-index l.events))
