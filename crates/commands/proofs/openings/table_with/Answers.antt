use Rattle.std.proofs.Common.{refl}
use Rattle.formats.specs.Events.{unit_of}
use Rattle.commands.proofs.Newcomers.{may_enter}
use Rattle.commands.proofs.openings.table_with.Goals as goal

pub enter_next-requires : goal.enter_next-requires
enter_next-requires c =
    rw c.loop-number.invariant
    (may_enter c.args.settings.format (unit_of c.args.event) c.args.settings.cutoff
    c.args.numbers.now _ c.loop-number.number-index 0 c.requires.each_once c.requires.few
    c.loop-number-test.true refl)
