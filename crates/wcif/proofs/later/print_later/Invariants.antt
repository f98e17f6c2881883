use Rattle.std.proofs.Common.{◌≡◌, take}
use Rattle.wcif.specs.Later.{later_lines}
use Rattle.wcif.proofs.later.print_later.Given as goal

abbrev pub invariant-loop-one : goal.invariant-loop-one
invariant-loop-one l = l.out.items ≡ later_lines (take l.one-index l.later)
