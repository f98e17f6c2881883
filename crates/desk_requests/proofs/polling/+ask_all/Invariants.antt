use Rattle.std.proofs.Common.{length}
use Rattle.desk_requests.proofs.polling.+ask_all.Given as goal

abbrev pub decreases-ask_all : goal.decreases-ask_all
decreases-ask_all g l = length l.addresses.now
