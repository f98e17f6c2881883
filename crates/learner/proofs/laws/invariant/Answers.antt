use Rattle.learner.proofs.{Runs.after_sound, Origins.contents_stand}
use Rattle.learner.proofs.InRange.{messages_are_in_range, desks_are_in_range}
use Rattle.learner.proofs.Parts.{has_one_entry, votes_stand, promises_stand, accepts_are_backed}
use Rattle.learner.proofs.Parts.{decisions_are_chosen, roles_stand}
use Rattle.learner.proofs.laws.invariant.Goals as goal

pub returns-clause-sound : goal.returns-clause-sound
returns-clause-sound c = after_sound

pub returns-clause-contents : goal.returns-clause-contents
returns-clause-contents c = contents_stand

pub returns-clause-messages : goal.returns-clause-messages
returns-clause-messages c = messages_are_in_range

pub returns-clause-desks : goal.returns-clause-desks
returns-clause-desks c = desks_are_in_range

pub returns-clause-one_entry : goal.returns-clause-one_entry
returns-clause-one_entry c = λ n events. has_one_entry n _ (after_sound n events)

pub returns-clause-votes : goal.returns-clause-votes
returns-clause-votes c = λ n events. votes_stand n _ (after_sound n events)

pub returns-clause-promises : goal.returns-clause-promises
returns-clause-promises c = λ n events. promises_stand n _ (after_sound n events)

pub returns-clause-backed : goal.returns-clause-backed
returns-clause-backed c = λ n events. accepts_are_backed n _ (after_sound n events)

pub returns-clause-chosen : goal.returns-clause-chosen
returns-clause-chosen c = λ n events. decisions_are_chosen n _ (after_sound n events)

pub returns-clause-roles : goal.returns-clause-roles
returns-clause-roles c = λ n events. roles_stand n _ (after_sound n events)
