use Rattle.std.proofs.Common.{refl}
use Rattle.commands.{specs.model.Kept.with_advance, proofs.KeptLemmas.round_set_to}
use Rattle.commands.proofs.kept_rounds.KeptRounds.set_advance.Goals as goal

pub returns-clause-done : goal.returns-clause-done
returns-clause-done c =
    round_set_to c.args.self.now.opened.items c.args.id.event c.args.id.round c.in-Some.place
    c.index_mut-kept.result.now _ c.index_mut-kept.result.now.table (with_advance c.args.advance)
    c.in-Some.ensures.kept c.index_mut-kept.ensures.value (refl)
