-- What a world is seen as: the number of its desks and the events that were done; and the refusal
-- of the last (the project's own).
use Rattle.std.specs.Prelude.{ℕ, if◌then◌else◌, List, [], ◌∷◌, ◌++◌, Option, Some, None, Result, Ok}
use Rattle.std.specs.{Prelude.Err, Option.option_map}
use Rattle.proposer.specs.declared.fault.Refusal.{Refusal}
use Rattle.learner.specs.{declared.event.DeskEvent.DeskEvent, Steps.Done, Steps.is_desk, Steps.step}
use Rattle.learner.specs.declared.event.DeskEvent.TheVariants.{Submit, Start, Tick}
use Rattle.learner.specs.declared.event.WorldEvent.{WorldEvent, TheVariants.Submit as SubmitAt}
use Rattle.learner.specs.declared.event.WorldEvent.TheVariants.{Start as StartAt, Tick as TickAt}
use Rattle.learner.specs.declared.event.WorldEvent.TheVariants.{Deliver as DeliverNth}
use Rattle.learner.specs.declared.event.WorldEvent.TheVariants.{Restart as RestartAt}
use Rattle.learner.specs.Worlds.{World, new_world, happens}
use Rattle.replica.specs.{roles.Faults.refused_as, declared.roles.fault.NodeFault.NodeFault}

-- this many desks, and the events that were done, in order
pub record WorldValue : Type 0 where
  pub desks : ℕ
  pub events : List WorldEvent

-- these events were done after those
abbrev pub extended : WorldValue → List WorldEvent → WorldValue
extended w events = record { desks = w.desks; events = w.events ++ events }

abbrev pub refusal_of : Result Done Refusal → Option Refusal
refusal_of (Ok r) = None
refusal_of (Err why) = Some why

-- why desk d refuses the event, where there is such a desk and it refuses
abbrev pub refusal_at : ℕ → World → ℕ → DeskEvent → Option Refusal
refusal_at n w d event = if is_desk n d then refusal_of (step n d (w.desks d) event) else None

-- why the event is refused, where it is; a delivery and a restart never are
abbrev pub refusal : ℕ → World → WorldEvent → Option Refusal
refusal n w (SubmitAt d e) = refusal_at n w d (Submit e)
refusal n w (StartAt d) = refusal_at n w d Start
refusal n w (TickAt d) = refusal_at n w d Tick
refusal n w (DeliverNth k) = None
refusal n w (RestartAt d) = None

-- the refusal of the last of these events; `before` is that of the event before them
abbrev pub refused_by : ℕ → World → Option Refusal → List WorldEvent → Option Refusal
refused_by n w before [] = before
refused_by n w before (e ∷ es) = refused_by n (happens n w e) (refusal n w e) es

abbrev pub last_refusal : ℕ → List WorldEvent → Option Refusal
last_refusal n events = refused_by n new_world None events

abbrev pub last_fault : ℕ → List WorldEvent → Option NodeFault
last_fault n events = option_map refused_as (last_refusal n events)
