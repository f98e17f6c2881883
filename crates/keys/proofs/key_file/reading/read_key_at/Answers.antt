use Rattle.keys.proofs.key_file.Told.{refused_at}
use Rattle.keys.proofs.key_file.reading.read_key_at.Goals as goal

pub returns-clause-refused : goal.returns-clause-refused
returns-clause-refused g c =
    refused_at (g.R.KeyFiles.file_at c.args.rt.now c.args.path.now) _ c.key_from.result
    c.in-Ok-open_to_read.ensures.bytes c.key_from.ensures.refused
