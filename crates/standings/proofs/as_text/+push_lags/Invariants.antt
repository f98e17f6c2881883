use Rattle.std.proofs.Common.{length}
use Rattle.standings.proofs.as_text.+push_lags.Given as goal

abbrev pub decreases-push_lags : goal.decreases-push_lags
decreases-push_lags l = length l.desks.now
