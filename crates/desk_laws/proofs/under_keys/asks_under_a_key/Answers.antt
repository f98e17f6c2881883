use Rattle.desk_laws.proofs.UnderKeys.{each_asks_under_a_key}
use Rattle.desk_laws.proofs.under_keys.asks_under_a_key.Goals as goal

pub returns : goal.returns
returns c = each_asks_under_a_key
