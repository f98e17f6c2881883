use Rattle.std.proofs.Common.{length}
use Rattle.desk_requests.proofs.comparing.+common_length.Given as goal

abbrev pub decreases-common_length : goal.decreases-common_length
decreases-common_length l = length l.polled.now
