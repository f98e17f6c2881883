use Rattle.commands.proofs.Entries.{each_id_seen}
use Rattle.commands.proofs.laws.every_id_is_seen.Goals as goal

pub returns : goal.returns
returns c = each_id_seen
