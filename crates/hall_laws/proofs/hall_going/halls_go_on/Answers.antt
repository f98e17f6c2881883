use Rattle.hall_laws.proofs.HallFrames.{frames_go_on, messages_go_on, runs_go_on}
use Rattle.hall_laws.proofs.{HallGoing.ticks_go_on, HallGoing.worlds_follow, HallStarts.starts_come}
use Rattle.hall_laws.proofs.hall_going.halls_go_on.Goals as goal

pub returns-clause-ticks : goal.returns-clause-ticks
returns-clause-ticks g c = ticks_go_on _

pub returns-clause-frames : goal.returns-clause-frames
returns-clause-frames g c = frames_go_on _ c.calls_are_happenings.ensures

pub returns-clause-messages : goal.returns-clause-messages
returns-clause-messages g c = messages_go_on _ c.calls_are_happenings.ensures

pub returns-clause-runs : goal.returns-clause-runs
returns-clause-runs g c = runs_go_on _ c.calls_are_happenings.ensures

pub returns-clause-starts : goal.returns-clause-starts
returns-clause-starts g c = starts_come

pub returns-clause-worlds : goal.returns-clause-worlds
returns-clause-worlds g c = worlds_follow _ c.calls_are_happenings.ensures
