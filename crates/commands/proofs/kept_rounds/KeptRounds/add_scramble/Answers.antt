use Rattle.std.proofs.Common.{rules}
use Rattle.commands.proofs.KeptLemmas.{scramble_set_to}
use Rattle.commands.proofs.kept_rounds.KeptRounds.add_scramble.Goals as goal

pub returns-clause-done : goal.returns-clause-done
returns-clause-done c =
    rw c.from.ensures
    (scramble_set_to c.args.self.now.opened.items c.args.id.event c.args.id.round c.args.attempt
    c.args.place c.in-Some.index c.index_mut-kept.result.now c.in-Some.ensures.kept
    c.index_mut-kept.ensures.value c.requires (search rules))
