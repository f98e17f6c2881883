use Rattle.std.proofs.Common.{◌≡◌, take}
use Rattle.commands.specs.model.Kept.{table_opened}
use Rattle.commands.proofs.openings.table_with.Given as goal

abbrev pub invariant-loop-number : goal.invariant-loop-number
invariant-loop-number l =
    l.table ≡ table_opened l.fn.event l.fn.settings (take l.number-index l.numbers)
