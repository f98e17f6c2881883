use Rattle.std.proofs.Common.{◌≡◌, ◌++◌, List}
use Rattle.std.specs.Prelude.{flat_map}
use Rattle.serde_json.specs.Data.{Data}
use Rattle.wcif.specs.{declared.options.SameNames.SameNames, model.Kept.AreKept}
use Rattle.wcif.specs.Commands.{entered, numbers_to}
use Rattle.wcif.proofs.setting_up.push_all_entries.Given as goal

abbrev pub invariant-loop-index : goal.invariant-loop-index
invariant-loop-index l =
    (how : SameNames) (persons : List Data) → AreKept how persons persons l.people
    → l.commands.items ≡ l.initial.commands.items ++ flat_map (entered persons) (numbers_to l.index)
