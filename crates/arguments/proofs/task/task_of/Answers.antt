use Rattle.replay_arguments.proofs.Found.{entered_rows}
use Rattle.arguments.proofs.task.task_of.Goals as goal

pub returns-clause-task : goal.returns-clause-task
returns-clause-task c = (
  _,
  _,
  entered_rows _ _ _ c.in_ok-name.ensures.name c.in_ok-name.ensures.rows,
  c.in_ok-task.ensures,
)

pub returns-clause-explains : goal.returns-clause-explains
returns-clause-explains c = (
  _,
  _,
  entered_rows _ _ _ c.in_ok-name.ensures.name c.in_ok-name.ensures.rows,
  c.flag_at-explains.ensures,
)
