use Rattle.replay_arguments.proofs.Found.{entered_rows, finds_replay}
use Rattle.replay_arguments.proofs.parsing.replay_task.Goals as goal

pub returns-in-replay : goal.returns-in-replay
returns-in-replay c =
    finds_replay _ _ _ c.replay_of.result
    (entered_rows _ _ _ c.in_ok-name.ensures.name c.in_ok-name.ensures.rows) c.in-replay.is
    c.replay_of.ensures
