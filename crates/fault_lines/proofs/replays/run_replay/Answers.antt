use Rattle.fault_lines.proofs.Replayed.{ends_apart, ends_whole}
use Rattle.fault_lines.proofs.replays.run_replay.Goals as goal

pub returns-then-task : goal.returns-then-task
returns-then-task g c =
    ends_apart c.replay_apart-ran.result c.args.task _ _ _ _ _ c.if-task.true
    c.replay_apart-ran.ensures.ok c.replay_apart-ran.ensures.err
    c.tell_replay.ensures.ok c.tell_replay.ensures.err c.tell_replay.ensures.quiet

pub returns : goal.returns
returns g c =
    ends_whole c.replay-ran.result c.args.task _ _ _ c.if-task.false
    c.replay-ran.ensures.ok c.replay-ran.ensures.err
    c.tell_replay-2.ensures.ok c.tell_replay-2.ensures.err c.tell_replay-2.ensures.quiet
