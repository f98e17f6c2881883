use Rattle.std.proofs.Common.{refl}
use Rattle.commands.proofs.Indexed.{opened}
use Rattle.commands.proofs.index.Index.open.Goals as goal

pub returns-clause-index : goal.returns-clause-index
returns-clause-index c =
    opened c.args.accepted.now c.args.id.event c.args.id.round c.args.settings c.args.self.now _
    c.requires.index c.requires.round refl c.in_ok-add.ensures.ok
