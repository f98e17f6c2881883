use Rattle.std.proofs.Common.{◌≡◌, ◌-◌, ◌++◌, List, length}
use Rattle.wire.specs.{declared.frame.Frame.Frame, model.Steps.AreFirst}
use Rattle.wire.proofs.stream.take_frames.Given as goal

-- the frames taken here are after those that were taken before
abbrev pub invariant-loop-frame : goal.invariant-loop-frame
invariant-loop-frame l =
    (frames : List Frame) × (l.frames.items ≡ l.fn.before.items ++ frames)
    × AreFirst l.bytes frames l.size

abbrev pub decreases-loop-frame : goal.decreases-loop-frame
decreases-loop-frame l = length l.bytes - l.size
