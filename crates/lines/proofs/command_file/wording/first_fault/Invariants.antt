use Rattle.std.proofs.Common.{◌≡◌, drop}
use Rattle.lines.specs.command_file.Faults.{first_fault}
use Rattle.lines.proofs.command_file.wording.first_fault.Given as goal

-- those so far are commands
abbrev pub invariant-loop-command : goal.invariant-loop-command
invariant-loop-command l =
    first_fault (drop l.command-index l.commands) ≡ first_fault l.commands
