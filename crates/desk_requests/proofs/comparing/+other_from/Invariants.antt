use Rattle.std.proofs.Common.{length}
use Rattle.desk_requests.proofs.comparing.+other_from.Given as goal

abbrev pub decreases-other_from : goal.decreases-other_from
decreases-other_from l = length l.known.now
