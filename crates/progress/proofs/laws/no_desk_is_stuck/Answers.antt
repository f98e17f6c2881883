use Rattle.progress.proofs.Queue.{no_desk_is_stuck, no_queue_is_stuck}
use Rattle.progress.proofs.laws.no_desk_is_stuck.Goals as goal

pub returns-clause-first : goal.returns-clause-first
returns-clause-first c = no_desk_is_stuck

pub returns-clause-queue : goal.returns-clause-queue
returns-clause-queue c = no_queue_is_stuck
