use Rattle.clap.specs.Words.{found_of}
use Rattle.replay_arguments.proofs.Found.{text_found}
use Rattle.replay_arguments.proofs.values.text_at.Goals as goal

pub returns : goal.returns
returns c = text_found (found_of c.args.found.now) c.args.id.now c.get_str.result c.get_str.ensures
