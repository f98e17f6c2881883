use Rattle.hall_laws.proofs.OwnMessages.{own_messages, frames_sent, fronts_sent}
use Rattle.hall_laws.proofs.own_messages.own_messages_were_sent.Goals as goal

pub returns-clause-request : goal.returns-clause-request
returns-clause-request c = own_messages

pub returns-clause-frames : goal.returns-clause-frames
returns-clause-frames c = frames_sent

pub returns-clause-fronts : goal.returns-clause-fronts
returns-clause-fronts c = fronts_sent
