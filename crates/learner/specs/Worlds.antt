-- n desks and all that they ever sent, under a list of events: the model of 'Paxos Made Simple',
-- section 2.1. Desks stop and restart. Messages take any time, and may be lost (no event names
-- one), repeated (events name one twice) and overtaken; none is altered.
use Rattle.std.specs.Prelude.{ℕ, zero, suc, if◌then◌else◌, List, [], ◌∷◌, ◌++◌, Option, Some, None}
use Rattle.std.specs.Prelude.{Result, Ok, Err, ◌==◌, slice_get}
use Rattle.acceptor.specs.declared.{entry.Entry.Entry, message.Message.Message}
use Rattle.proposer.specs.declared.fault.Refusal.{Refusal}
use Rattle.learner.specs.{declared.event.DeskEvent.DeskEvent, Steps.Done, Steps.is_desk, Steps.step}
use Rattle.learner.specs.declared.event.DeskEvent.TheVariants.{Submit, Start, Tick, Deliver}
use Rattle.learner.specs.declared.event.WorldEvent.{WorldEvent, TheVariants.Submit as SubmitAt}
use Rattle.learner.specs.declared.event.WorldEvent.TheVariants.{Start as StartAt, Tick as TickAt}
use Rattle.learner.specs.declared.event.WorldEvent.TheVariants.{Deliver as DeliverNth}
use Rattle.learner.specs.declared.event.WorldEvent.TheVariants.{Restart as RestartAt}
use Rattle.learner.specs.Desks.{Desk, first_desk, restarted}

-- the desks by number, and the messages in the order in which they were sent
pub record World : Type 0 where
  pub desks : ℕ → Desk
  pub sent : List Message

abbrev pub new_world : World
new_world = record { desks = λ d. first_desk; sent = [] }

-- desk d is as x, and the others are as they were
abbrev pub put : (ℕ → Desk) → ℕ → Desk → ℕ → Desk
put desks d x k = if d == k then x else desks k

-- a refusal changes nothing
abbrev pub world_after : World → ℕ → Result Done Refusal → World
world_after w d (Ok r) = record { desks = put w.desks d r.desk; sent = w.sent ++ r.messages }
world_after w d (Err why) = w

-- the event is done at desk d, where there is such a desk
abbrev pub at_desk : ℕ → World → ℕ → DeskEvent → World
at_desk n w d event = if is_desk n d then world_after w d (step n d (w.desks d) event) else w

-- the k-th message ever sent, counted from 1
abbrev pub nth_sent : List Message → ℕ → Option Message
nth_sent sent zero = None
nth_sent sent (suc k) = slice_get sent k

-- a message comes to its receiver, and can come again
abbrev pub delivered : ℕ → World → Option Message → World
delivered n w None = w
delivered n w (Some m) = at_desk n w m.to (Deliver m)

abbrev pub restart_at : ℕ → World → ℕ → World
restart_at n w d =
    if is_desk n d then record { desks = put w.desks d (restarted (w.desks d)); sent = w.sent }
    else w

abbrev pub happens : ℕ → World → WorldEvent → World
happens n w (SubmitAt d e) = at_desk n w d (Submit e)
happens n w (StartAt d) = at_desk n w d Start
happens n w (TickAt d) = at_desk n w d Tick
happens n w (DeliverNth k) = delivered n w (nth_sent w.sent k)
happens n w (RestartAt d) = restart_at n w d

-- a whole list of events
abbrev pub run : ℕ → World → List WorldEvent → World
run n w [] = w
run n w (e ∷ es) = run n (happens n w e) es

-- n desks after these events
abbrev pub after : ℕ → List WorldEvent → World
after n events = run n new_world events

-- the log of desk d after these events
abbrev pub log_of : ℕ → List WorldEvent → ℕ → List Entry
log_of n events d = ((after n events).desks d).log
