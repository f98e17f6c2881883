use Rattle.archive.proofs.Replaying.{is_replayed}
use Rattle.archive.proofs.laws.archives_are_replayed.Goals as goal

pub returns : goal.returns
returns c = is_replayed c.one_spelling.ensures.only c.every_id_is_seen.ensures
