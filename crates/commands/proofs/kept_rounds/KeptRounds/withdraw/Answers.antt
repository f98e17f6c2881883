use Rattle.std.proofs.Common.{ap, ◌∙◌}
use Rattle.rounds.specs.Tables.{withdrawn}
use Rattle.commands.proofs.KeptLemmas.{round_exited_to}
use Rattle.commands.proofs.kept_rounds.KeptRounds.withdraw.Goals as goal

pub returns-in-Ok-clause-done : goal.returns-in-Ok-clause-done
returns-in-Ok-clause-done c =
    round_exited_to c.args.self.now.opened.items c.args.id.event c.args.id.round c.in-Some.place
    c.args.number c.index_mut-kept.result.now c.withdraw.new.self c.take_first.new.waiting
    c.in-Some.ensures.kept c.index_mut-kept.ensures.value c.take_first.ensures
    (c.in-Ok.ensures.withdrawn
    ∙ ap (withdrawn c.index_mut-kept.result.now.table c.args.number)
    (rw c.deref.ensures.value at c.first_of-next.ensures))
