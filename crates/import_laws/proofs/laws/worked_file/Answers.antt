use Rattle.import_laws.proofs.WorkedFile.{bytes_are, is_held, is_imported, lines_are}
use Rattle.import_laws.proofs.laws.worked_file.Goals as goal

pub returns : goal.returns
returns c = record {
  held = is_held;
  bytes = bytes_are;
  imported = is_imported;
  commands = lines_are;
}
