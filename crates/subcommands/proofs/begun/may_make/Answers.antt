use Rattle.subcommands.proofs.begun.may_make.Goals as goal

pub returns : goal.returns
returns g c = (
  c.ask_all-known.result,
  c.ask_all-known.ensures,
  c.may_begin-may.ensures,
  c.tell_known.ensures,
)
