use Rattle.std.proofs.Common.{arith}
use Rattle.serving.proofs.runs.+gather.Goals as goal

pub gather-requires : goal.gather-requires
gather-requires t c = omega arith
