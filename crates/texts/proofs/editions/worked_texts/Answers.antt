use Rattle.texts.proofs.WorkedTexts.{worked_texts}
use Rattle.texts.proofs.editions.worked_texts.Goals as goal

pub returns : goal.returns
returns c = worked_texts
