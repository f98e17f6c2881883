use Rattle.hall_laws.proofs.OwnMessages.{requests_happen, frames_happen}
use Rattle.hall_laws.proofs.own_messages.served_frames_happen.Goals as goal

pub returns-clause-request : goal.returns-clause-request
returns-clause-request g c =
    requests_happen _ c.calls_are_a_run.ensures c.own_messages_were_sent.ensures.request

pub returns-clause-frames : goal.returns-clause-frames
returns-clause-frames g c =
    frames_happen _ c.calls_are_a_run.ensures c.own_messages_were_sent.ensures.fronts
