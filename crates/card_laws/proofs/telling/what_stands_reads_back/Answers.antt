use Rattle.texts.proofs.CardSpellings.{was_spelled}
use Rattle.card_laws.proofs.telling.what_stands_reads_back.Goals as goal

pub returns : goal.returns
returns c = was_spelled.found
