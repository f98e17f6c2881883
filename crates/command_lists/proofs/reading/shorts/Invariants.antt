use Rattle.std.proofs.Common.{◌≡◌, [], drop}
use Rattle.command_lists.specs.Lists.{shorts}
use Rattle.command_lists.proofs.reading.shorts.Given as goal

abbrev pub invariant-loop-command : goal.invariant-loop-command
invariant-loop-command l =
    shorts l.texts.items (drop l.command-index l.commands) ≡ shorts [] l.commands
