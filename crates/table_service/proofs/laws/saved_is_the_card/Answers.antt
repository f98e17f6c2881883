use Rattle.table_service.proofs.Saved.{saved_is_the_card}
use Rattle.table_service.proofs.laws.saved_is_the_card.Goals as goal

pub returns : goal.returns
returns c =
    saved_is_the_card c.told_by_the_log.ensures.never_by_guess c.saved_is_entered.ensures.card
