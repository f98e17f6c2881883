use Rattle.clap.specs.Words.{found_of}
use Rattle.arguments.proofs.Found.{none_found}
use Rattle.arguments.proofs.values.optional_byte_at.Goals as goal

pub returns-in-None : goal.returns-in-None
returns-in-None c =
    none_found (found_of c.args.found.now) c.args.id.now c.get_str.result c.get_str.ensures
    c.in-None.is
