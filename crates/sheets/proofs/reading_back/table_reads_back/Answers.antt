use Rattle.sheets.proofs.ReadingBack.{reads_back}
use Rattle.sheets.proofs.reading_back.table_reads_back.Goals as goal

pub returns : goal.returns
returns c = reads_back
