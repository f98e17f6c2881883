use Rattle.std.proofs.Common.{[], inl, inr}
use Rattle.std.proofs.KnownBytes.{Appends-nil, Keeps-refl}
use Rattle.arguments.proofs.Found.{found_ids}
use Rattle.desk.proofs.Few.{found_few}
use Rattle.desk.proofs.running.run_arguments.Goals as goal

pub returns-in-Err : goal.returns-in-Err
returns-in-Err g c = inr (Keeps-refl _, c.tell_parse_error.ensures)

pub returns-in_default : goal.returns-in_default
returns-in_default g c = inr (Keeps-refl _, inl (c.tell_bad_number.ensures, [], Appends-nil _))

pub run_task-requires-clause-ids : goal.run_task-requires-clause-ids
run_task-requires-clause-ids g c = found_ids _ c.in-Some.asked.task c.in-Some.ensures.task

pub run_task-requires-clause-few : goal.run_task-requires-clause-few
run_task-requires-clause-few g c = found_few _ c.in-Some.asked.task c.in-Some.ensures.task

pub returns : goal.returns
returns g c =
    inl (
      c.in-Some.asked.task,
      (c.in-Ok.ensures.0, rw c.in-Ok.ensures.1 at c.in-Some.ensures.task),
      c.run_task.ensures,
    )
