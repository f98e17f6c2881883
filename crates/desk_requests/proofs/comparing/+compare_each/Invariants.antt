use Rattle.std.proofs.Common.{length}
use Rattle.desk_requests.proofs.comparing.+compare_each.Given as goal

abbrev pub decreases-compare_each : goal.decreases-compare_each
decreases-compare_each g l = length l.polled.now
