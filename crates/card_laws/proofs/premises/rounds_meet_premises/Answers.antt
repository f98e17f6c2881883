use Rattle.std.proofs.Common.{List, Bor}
use Rattle.attempts.specs.declared.Value.{Value}
use Rattle.commands.specs.Accepted.{round_of}
use Rattle.card_laws.proofs.Alone.{meets_there}
use Rattle.card_laws.proofs.premises.rounds_meet_premises.Goals as goal

pub returns-in-Some : goal.returns-in-Some
returns-in-Some c =
    meets_there (λ (values : Bor (List Value)). values.now) c.args.number
    (round_of c.args.meet.now.accepted c.args.event c.args.round) c.in-Some.table.now
    c.values.result c.in-Some.ensures c.cutoff.ensures.rules c.cutoff.ensures.allotted
    c.values.ensures
