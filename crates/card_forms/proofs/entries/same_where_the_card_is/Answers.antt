use Rattle.card_forms.proofs.SameCards.{same_where}
use Rattle.card_forms.proofs.entries.same_where_the_card_is.Goals as goal

pub returns : goal.returns
returns c = same_where
