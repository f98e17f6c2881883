use Rattle.commands.proofs.Known.{read_fit}
use Rattle.commands.proofs.meet.do_text.Goals as goal

pub returns-in-Ok-clause-answer : goal.returns-in-Ok-clause-answer
returns-in-Ok-clause-answer c =
    rw (
      c.in-Ok.ensures.value,
      read_fit c.args.accepted.now c.in-Ok.command c.in-Ok.ensures.only.0.0,
    )
    c.apply.ensures.answer

pub returns-in-Ok-clause-added : goal.returns-in-Ok-clause-added
returns-in-Ok-clause-added c =
    rw (
      c.in-Ok.ensures.value,
      read_fit c.args.accepted.now c.in-Ok.command c.in-Ok.ensures.only.0.0,
    )
    c.apply.ensures.added
