use Rattle.std.proofs.Common.{◌-◌, length}
use Rattle.last_change.specs.Changes.{HasNoChangeFrom}
use Rattle.last_change.proofs.origins.last_change.Given as goal

abbrev pub invariant-loop-later : goal.invariant-loop-later
invariant-loop-later l =
    HasNoChangeFrom l.mirror l.round l.number (length l.mirror - l.later)
