use Rattle.card_forms.proofs.Notes.{notes}
use Rattle.card_forms.proofs.remarks.remark_alone_is_added.Goals as goal

pub returns : goal.returns
returns c = notes
