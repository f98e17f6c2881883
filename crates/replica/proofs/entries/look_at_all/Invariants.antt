use Rattle.std.proofs.Common.{take}
use Rattle.replica.specs.Handles.{FitInFrames}
use Rattle.replica.proofs.entries.look_at_all.Given as goal

abbrev pub invariant-loop-message : goal.invariant-loop-message
invariant-loop-message l = FitInFrames (take l.message-index l.messages)
