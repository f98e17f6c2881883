use Rattle.std.proofs.Common.{arith}
use Rattle.desk_file.proofs.mark.front_of.Goals as goal

pub returns-then-len-lt-FRONT_LEN-clause-bytes : goal.returns-then-len-lt-FRONT_LEN-clause-bytes
returns-then-len-lt-FRONT_LEN-clause-bytes g c clean long = absurd (omega arith)

pub returns-clause-bytes : goal.returns-clause-bytes
returns-clause-bytes g c clean long = c.in_ok-read_at.ensures.read clean (omega arith)
