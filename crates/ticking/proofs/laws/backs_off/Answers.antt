use Rattle.ticking.proofs.{Kept.reached_ticker, Ticks.backed_off}
use Rattle.ticking.proofs.laws.backs_off.Goals as goal

pub returns : goal.returns
returns c t l r e = backed_off t l (reached_ticker t r) e
