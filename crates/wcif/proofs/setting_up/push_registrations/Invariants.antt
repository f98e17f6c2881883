use Rattle.std.proofs.Common.{◌≡◌, ◌++◌, List}
use Rattle.std.specs.Prelude.{flat_map}
use Rattle.serde_json.specs.Data.{Data}
use Rattle.wcif.specs.{Commands.registered, Commands.numbers_to, model.Kept.AreKept}
use Rattle.wcif.proofs.setting_up.push_registrations.Given as goal

abbrev pub invariant-loop-index : goal.invariant-loop-index
invariant-loop-index l =
    (persons : List Data) → AreKept l.how persons persons l.people → l.commands.items
    ≡ l.initial.commands.items ++ flat_map (registered l.how persons) (numbers_to l.index)
