use Rattle.commands.proofs.KeptLemmas.{kept_at}
use Rattle.commands.proofs.kept_rounds.KeptRounds.place_of.Goals as goal

pub returns-clause-kept : goal.returns-clause-kept
returns-clause-kept c =
    rw (c.place_in.ensures, c.deref.ensures.value)
    (kept_at c.args.id.event c.args.id.round c.args.self.now.opened.items)
