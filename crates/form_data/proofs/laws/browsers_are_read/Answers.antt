use Rattle.form_data.proofs.WrittenParts.{reads_written}
use Rattle.form_data.proofs.laws.browsers_are_read.Goals as goal

pub returns : goal.returns
returns c = reads_written
