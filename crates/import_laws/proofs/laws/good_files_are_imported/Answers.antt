use Rattle.import_laws.proofs.Whole.{good_files}
use Rattle.import_laws.proofs.laws.good_files_are_imported.Goals as goal

pub returns : goal.returns
returns c = good_files
