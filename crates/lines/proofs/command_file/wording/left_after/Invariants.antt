use Rattle.std.proofs.Common.{◌≡◌}
use Rattle.std.specs.Option.{option_copied}
use Rattle.lines.specs.command_file.Faults.{left_after}
use Rattle.lines.proofs.command_file.wording.left_after.Given as goal

abbrev pub invariant-loop-field : goal.invariant-loop-field
invariant-loop-field l = option_copied l.left ≡ left_after l._field l.text
