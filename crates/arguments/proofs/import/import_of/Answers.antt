use Rattle.std.proofs.Common.{refl}
use Rattle.arguments.proofs.import.import_of.Goals as goal

pub returns : goal.returns
returns c = (
  refl,
  record {
    file = c.in_ok-file.ensures;
    edition = c.chosen.ensures;
    limits = c.chosen-2.ensures;
    names = c.chosen-3.ensures;
  },
)
