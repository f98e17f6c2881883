use Rattle.commands.proofs.Indexed.{no_rounds}
use Rattle.commands.proofs.index.Index.new.Goals as goal

pub returns : goal.returns
returns c =
    record {
      competitors = c.new.ensures;
      rounds = no_rounds c.new-2.result.opened.items c.new-2.ensures;
    }
