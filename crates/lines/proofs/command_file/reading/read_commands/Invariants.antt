use Rattle.std.proofs.Common.{◌≡◌, List, ℕ, ◌-◌}
use Rattle.lines.specs.{Lines.lines_of, Reading.HasGiven, command_file.Commands.commands_from}
use Rattle.lines.proofs.command_file.reading.read_commands.Given as goal

-- the commands of the lines that were given
abbrev pub invariant-loop-commands : goal.invariant-loop-commands
invariant-loop-commands g l =
    (given : List ℕ)
    × HasGiven l.lines given (g.R.Read.remaining l.initial.reader) (g.R.Read.remaining l.reader)
    × (l.commands.items ≡ commands_from 1 (lines_of given))

abbrev pub decreases-loop-commands : goal.decreases-loop-commands
decreases-loop-commands g l = 65537 - l.lines.lines
