use Rattle.ticking.proofs.{Pauses.bounded, Kept.reached_ticker}
use Rattle.ticking.proofs.laws.pauses_are_bounded.Goals as goal

pub returns : goal.returns
returns c t r = bounded t (reached_ticker t r)
