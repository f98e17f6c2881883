use Rattle.ticking.proofs.{Kept.reached_ticker, Spread.due_apart}
use Rattle.ticking.proofs.laws.are_spread.Goals as goal

pub returns : goal.returns
returns c a b waiting r s f =
    due_apart a b waiting (reached_ticker a r) (reached_ticker b s) f
