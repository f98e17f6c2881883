use Rattle.std.proofs.Common.{length}
use Rattle.serving.proofs.runs.+gather.Given as goal

abbrev pub decreases-gather : goal.decreases-gather
decreases-gather l = length l.messages.now
