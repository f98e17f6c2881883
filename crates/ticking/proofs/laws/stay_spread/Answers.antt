use Rattle.ticking.proofs.{Kept.reached_ticker, Rows.spread_rows}
use Rattle.ticking.proofs.laws.stay_spread.Goals as goal

pub returns : goal.returns
returns c a b j k r s e u v =
    spread_rows a b j k (reached_ticker a r) (reached_ticker b s) e u v
