use Rattle.std.proofs.Common.{◌≡◌, take}
use Rattle.wcif.specs.Lines.{lines}
use Rattle.wcif.proofs.text.print_lines.Given as goal

abbrev pub invariant-loop-command : goal.invariant-loop-command
invariant-loop-command l = l.out.items ≡ lines (take l.command-index l.commands)
