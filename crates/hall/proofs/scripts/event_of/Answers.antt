use Rattle.std.proofs.Common.{◌≤◌, arith}
use Rattle.hall.proofs.Spelled.{gives_event, gives_memory}
use Rattle.hall.proofs.scripts.event_of.Goals as goal

pub returns-clause-spelled : goal.returns-clause-spelled
returns-clause-spelled c =
    let small : c.args.desks ≤ 255 = omega arith in
    gives_event c.args.desks c.args.line.now _ c.event_of_word.result small c.cut.ensures
    c.event_of_word.ensures.value

pub returns-clause-memory : goal.returns-clause-memory
returns-clause-memory c =
    let small : c.args.desks ≤ 255 = omega arith in
    gives_memory c.args.desks c.args.line.now _ c.event_of_word.result small c.cut.ensures
    c.event_of_word.ensures.memory
