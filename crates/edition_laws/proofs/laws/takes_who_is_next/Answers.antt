use Rattle.edition_laws.proofs.InTurn.{takes_who_is_next}
use Rattle.edition_laws.proofs.laws.takes_who_is_next.Goals as goal

pub returns : goal.returns
returns c = takes_who_is_next
