use Rattle.std.proofs.Common.{refl}
use Rattle.commands.{specs.model.Kept.with_settings, proofs.KeptLemmas.round_set_to}
use Rattle.commands.proofs.kept_rounds.KeptRounds.set_round.Goals as goal

pub returns-in-Ok-clause-done : goal.returns-in-Ok-clause-done
returns-in-Ok-clause-done c =
    round_set_to c.args.self.now.opened.items c.args.id.event c.args.id.round c.in-Some.place
    c.index_mut-kept.result.now _ c.set_rules.new.self
    (with_settings c.args.format c.args.cutoff c.args.limit)
    c.in-Some.ensures.kept c.index_mut-kept.ensures.value (rw c.in-Ok.ensures.set refl)
