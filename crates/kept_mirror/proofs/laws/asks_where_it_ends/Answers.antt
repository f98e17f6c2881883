use Rattle.kept_mirror.proofs.Kept.{asks_where_it_ends}
use Rattle.kept_mirror.proofs.laws.asks_where_it_ends.Goals as goal

pub returns : goal.returns
returns c = asks_where_it_ends
