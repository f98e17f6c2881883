use Rattle.std.proofs.Common.{refl}
use Rattle.commands.{specs.model.Kept.with_entry, proofs.KeptLemmas.round_set_to}
use Rattle.commands.proofs.kept_rounds.KeptRounds.enter.Goals as goal

pub returns-in-Ok-clause-done : goal.returns-in-Ok-clause-done
returns-in-Ok-clause-done c =
    round_set_to c.args.self.now.opened.items c.args.event 1 c.in-Some.place
    c.index_mut-kept.result.now _ c.enter.new.self (with_entry c.args.number)
    c.in-Some.ensures.kept c.index_mut-kept.ensures.value (rw c.in-Ok.ensures.entered refl)
