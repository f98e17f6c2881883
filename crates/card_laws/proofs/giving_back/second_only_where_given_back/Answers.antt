use Rattle.card_laws.proofs.Returning.{second_only_where_given_back}
use Rattle.card_laws.proofs.giving_back.second_only_where_given_back.Goals as goal

pub returns : goal.returns
returns c = second_only_where_given_back
