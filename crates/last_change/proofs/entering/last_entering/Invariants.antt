use Rattle.std.proofs.Common.{◌≡◌, ◌-◌, length}
use Rattle.last_change.proofs.Found.{AreLastFrom}
use Rattle.last_change.proofs.entering.last_entering.Given as goal

abbrev pub invariant-loop-later : goal.invariant-loop-later
invariant-loop-later l =
    (length l.last ≡ 5) × AreLastFrom l.mirror l.round l.number (length l.mirror - l.later) l.last
