use Rattle.ticking.proofs.{Kept.reached_ticker, Ticks.fallen_back}
use Rattle.ticking.proofs.laws.falls_back.Goals as goal

pub returns : goal.returns
returns c t l r e = fallen_back t l (reached_ticker t r) e
