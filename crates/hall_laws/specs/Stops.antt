-- Desks that stop, or whose save fails, in the middle of a call (the project's own).
use Rattle.std.specs.Prelude.{ℕ, ◌≡◌, ◌⊎◌, Bool, true, false, List, [], ◌∷◌, ◌++◌, Option, Some}
use Rattle.std.specs.Prelude.{None, Ok, Err, IfOk, slice_get, take}
use Rattle.acceptor.specs.declared.{entry.Entry.Entry, message.Message.Message}
use Rattle.acceptor.specs.declared.stored.Stored.{Stored}
use Rattle.learner.specs.{declared.event.DeskEvent.DeskEvent, Laws.IsPrefix, Submitted.IsTaken}
use Rattle.learner.specs.declared.event.DeskEvent.TheVariants.{Submit, Start, Tick, Deliver}
use Rattle.learner.specs.declared.event.WorldEvent.{WorldEvent, TheVariants.Submit as SubmitAt}
use Rattle.learner.specs.declared.event.WorldEvent.TheVariants.{Start as StartAt, Tick as TickAt}
use Rattle.learner.specs.{declared.event.WorldEvent.TheVariants.Deliver as DeliverNth, Desks.Desk}
use Rattle.learner.specs.{declared.event.WorldEvent.TheVariants.Restart as RestartAt, Worlds.after}
use Rattle.learner.specs.Steps.{IsDesk, step}
use Rattle.learner.specs.Worlds.{World, new_world, put, at_desk, nth_sent, restart_at, happens, run}
use Rattle.replica.specs.declared.roles.fault.NodeFault.{NodeFault, TheVariants.Down}
use Rattle.replica.specs.{Nodes.NodeValue, Opens.Opens, roles.Opening.opened}
use Rattle.store.specs.declared.keeper.Keeper.{Ghosts}
use Rattle.replica.specs.Handles.{Takes, Handles}

-- What happens among real desks: a call that is answered; or one in which its desk stops, or a save
-- fails, with the change in the store or without it. Such a desk hands nothing out, and does
-- nothing more until it is opened again. A call that is answered NoMemory, or Down by a desk that
-- is Down, does nothing, and is not among these.
pub data Happening : Type 0 where
  Answered : WorldEvent → Happening
  Stopped : Bool → WorldEvent → Happening

-- 0 where there is none
abbrev pub receiver : Option Message → ℕ
receiver None = 0
receiver (Some m) = m.to

-- the desk at which an event happens; 0 for a message that was not sent
abbrev pub place : World → WorldEvent → ℕ
place w (SubmitAt d e) = d
place w (StartAt d) = d
place w (TickAt d) = d
place w (DeliverNth k) = receiver (nth_sent w.sent k)
place w (RestartAt d) = d

-- the desk is opened again with what is stored: the state after the event where its change is
-- there, else the one before it
abbrev pub stopped : ℕ → World → Bool → WorldEvent → World
stopped n w true e =
    record { desks = (restart_at n (happens n w e) (place w e)).desks; sent = w.sent }
stopped n w false e = restart_at n w (place w e)

abbrev pub goes_on : ℕ → World → Happening → World
goes_on n w (Answered e) = happens n w e
goes_on n w (Stopped stored e) = stopped n w stored e

abbrev pub real_run : ℕ → World → List Happening → World
real_run n w [] = w
real_run n w (h ∷ hs) = real_run n (goes_on n w h) hs

-- The state after these steps, each of which has the state after it.
abbrev pub state_after : {S Step : Type 0} → (Step → S) → S → List Step → S
state_after after h [] = h
state_after after h (s ∷ ss) = state_after after (after s) ss

-- each step leads from the state before it
abbrev pub AreTaken : {S Step : Type 0} → (Step → S) → (S → Step → Type 0) → S → List Step → Type 0
AreTaken after goes h [] = Unit {0}
AreTaken after goes h (s ∷ ss) = goes h s × AreTaken after goes (after s) ss

-- the state is as the world, at first and after each step, where each step is these happenings
abbrev pub AreMoments : {S Step : Type 0} → (Step → S) → (S → World → Type 0) → ℕ → S → World
    → List Step → List (List Happening) → Type 0
AreMoments after is n h w [] [] = is h w
AreMoments after is n h w [] (hs ∷ rest) = ⊥
AreMoments after is n h w (s ∷ ss) [] = ⊥
AreMoments after is n h w (s ∷ ss) (hs ∷ rest) =
    is h w × AreMoments after is n (after s) (real_run n w hs) ss rest

abbrev pub IsAmong : Message → List Message → Type 0
IsAmong m [] = ⊥
IsAmong m (x ∷ xs) = (x ≡ m) ⊎ IsAmong m xs

-- the desks are the same, and what the first has handed out is among what the second has sent
pub record Follows (real world : World) : Type 0 where
  pub desks : real.desks ≡ world.desks
  pub sent : (m : Message) → IsAmong m real.sent → IsAmong m world.sent

-- The event of the world for an event among the real desks is the same event. A delivery is of the
-- same message, but the message's number may differ there: in the world what a stopped call did not
-- hand out was sent too.
abbrev pub IsSameEvent : List Message → List Message → WorldEvent → WorldEvent → Type 0
IsSameEvent real sent (SubmitAt d e) there = there ≡ SubmitAt d e
IsSameEvent real sent (StartAt d) there = there ≡ StartAt d
IsSameEvent real sent (TickAt d) there = there ≡ TickAt d
IsSameEvent real sent (DeliverNth k) there =
    (j : ℕ) × (there ≡ DeliverNth j) × (nth_sent sent j ≡ nth_sent real k)
IsSameEvent real sent (RestartAt d) there = there ≡ RestartAt d

abbrev pub event_of : Happening → WorldEvent
event_of (Answered e) = e
event_of (Stopped stored e) = e

-- an answered call is its event; a stopped one is its event or nothing, as its change is stored or
-- not, and then a restart of its desk
abbrev pub group : World → Happening → WorldEvent → List WorldEvent
group real (Answered e) there = there ∷ []
group real (Stopped true e) there = there ∷ RestartAt (place real e) ∷ []
group real (Stopped false e) there = RestartAt (place real e) ∷ []

abbrev pub events_of : ℕ → World → List Happening → List WorldEvent → List WorldEvent
events_of n real [] there = []
events_of n real (h ∷ hs) [] = []
events_of n real (h ∷ hs) (e ∷ there) = group real h e ++ events_of n (goes_on n real h) hs there

-- Before and after each happening the real desks are those of the world, what they handed out was
-- sent in the world, and the happening's event is the world's event. So the world delivers only
-- messages that a real desk handed out.
abbrev pub KeepsStep : ℕ → World → World → List Happening → List WorldEvent → Type 0
KeepsStep n real world [] [] = Follows real world
KeepsStep n real world [] (e ∷ there) = ⊥
KeepsStep n real world (h ∷ hs) [] = ⊥
KeepsStep n real world (h ∷ hs) (e ∷ there) =
    Follows real world × IsSameEvent real.sent world.sent (event_of h) e
    × KeepsStep n (goes_on n real h) (run n world (group real h e)) hs there

-- the happenings are these events of the world, step by step; so each moment of the real desks is a
-- moment of the world
pub record IsRun (n : ℕ) (hs : List Happening) (there : List WorldEvent) : Type 0 where
  pub steps : KeepsStep n new_world new_world hs there
  pub moments : (i : ℕ) → (m : ℕ) × Follows (real_run n new_world (take i hs))
      (after n (take m (events_of n new_world hs there)))

-- desks that stop and fail anywhere make a run of the world
abbrev pub StopsMakeARun : Type 0
StopsMakeARun = (n : ℕ) (hs : List Happening) → (there : List WorldEvent) × IsRun n hs there

-- the log of desk d after the first i of these
abbrev pub real_log : ℕ → List Happening → ℕ → ℕ → List Entry
real_log n hs i d = ((real_run n new_world (take i hs)).desks d).log

-- of the logs of any two real desks at any two moments one is a prefix of the other
abbrev pub RealLogsAgree : Type 0
RealLogsAgree =
    (n : ℕ) (hs : List Happening) (i j d k : ℕ) → IsPrefix (real_log n hs i d) (real_log n hs j k)
    ⊎ IsPrefix (real_log n hs j k) (real_log n hs i d)

-- The entry was submitted to a desk that accepted it, by a call that was answered. An entry whose
-- call stopped was not submitted: nothing of it is stored, and the queue is gone.
pub record WasSubmitted (n : ℕ) (hs : List Happening) (e : Entry) : Type 0 where
  pub at : ℕ
  pub desk : ℕ
  pub call : slice_get hs at ≡ Some (Answered (SubmitAt desk e))
  pub taken : IsTaken n (real_run n new_world (take at hs)) desk e

-- every entry of a real desk's log was submitted before
abbrev pub RealEntriesAreSubmitted : Type 0
RealEntriesAreSubmitted =
    (n : ℕ) (hs : List Happening) (i d pos : ℕ) (e : Entry)
    → slice_get (real_log n hs i d) pos ≡ Some e → WasSubmitted n (take i hs) e

-- ---- how what `Node::handle` and `Node::open` say of one desk is what the happenings say of the
-- world

-- an answered call is its event: it puts the desk that it leaves in place of its desk, and adds the
-- messages that it hands out to those sent before
abbrev pub AnswerIsEvent : Type 0
AnswerIsEvent =
    (n d : ℕ) (w : World) (event : DeskEvent) (y : Desk) (messages : List Message)
    → IsDesk n d → Takes (step n d (w.desks d) event) n d (w.desks d) y (Ok messages)
    → at_desk n w d event ≡ record { desks = put w.desks d y; sent = w.sent ++ messages }

-- a desk that is opened again with the state before a call is its desk after a restart; with the
-- state after the step, its desk after the event and a restart
pub record OpeningIsRestart (n d : ℕ) (w : World) (event : DeskEvent) : Type 0 where
  pub before : opened (w.desks d).stored (w.desks d).log ≡ (restart_at n w d).desks d
  pub later : IfOk (step n d (w.desks d) event)
      (λ r. opened r.desk.stored r.desk.log ≡ (restart_at n (at_desk n w d event) d).desks d)

abbrev pub OpeningsAreRestarts : Type 0
OpeningsAreRestarts =
    (n d : ℕ) (w : World) (event : DeskEvent) → IsDesk n d → OpeningIsRestart n d w event

-- this event of the world is that event at desk d
abbrev pub IsEventAt : World → WorldEvent → ℕ → DeskEvent → Type 0
IsEventAt w (SubmitAt k e) d event = (k ≡ d) × (event ≡ Submit e)
IsEventAt w (StartAt k) d event = (k ≡ d) × (event ≡ Start)
IsEventAt w (TickAt k) d event = (k ≡ d) × (event ≡ Tick)
IsEventAt w (DeliverNth k) d event =
    (m : Message) × (nth_sent w.sent k ≡ Some m) × (m.to ≡ d) × (event ≡ Deliver m)
IsEventAt w (RestartAt k) d event = ⊥

-- The node is desk d of n, it is not Down, and it knows what that desk knows in the world; and this
-- event of the world is its next.
pub record IsNext {K : Type 0} (k : Ghosts K) (n d : ℕ) (w : World) (e : WorldEvent)
    (event : DeskEvent) (node : NodeValue K) : Type 0 where
  pub ours : IsDesk n d
  pub desks : (k.home_of node.keeper).desks ≡ n
  pub desk : (k.home_of node.keeper).desk ≡ d
  pub known : node.desk ≡ w.desks d
  pub up : node.is_down ≡ false
  pub event_is : IsEventAt w e d event

-- The world in which desk d is as it is here, and these messages are sent.
abbrev pub with_desk : World → ℕ → Desk → List Message → World
with_desk w d x messages = record { desks = put w.desks d x; sent = w.sent ++ messages }

-- What `handle` does, whatever the keeper, is what happens in the world.
pub record CallsAreHappenings {K : Type 0} (k : Ghosts K) : Type 0 where
  -- a call that is answered Ok is its event
  pub answered : (n d : ℕ) (w : World) (e : WorldEvent) (event : DeskEvent) (old new : NodeValue K)
      (messages : List Message) → IsNext k n d w e event old → Handles k old event (Ok messages) new
      → with_desk w d new.desk messages ≡ goes_on n w (Answered e)
  -- a call that is refused leaves the world as it was
  pub refused : (n d : ℕ) (w : World) (e : WorldEvent) (event : DeskEvent) (old new : NodeValue K)
      (fault : NodeFault) → IsNext k n d w e event old → Handles k old event (Err fault) new
      → with_desk w d new.desk [] ≡ w
  -- A call that is answered Down, and then an opening of what the store may hold, is a stopped call
  -- with its change in the store or without it.
  pub stopped : (n d : ℕ) (w : World) (e : WorldEvent) (event : DeskEvent) (old new : NodeValue K)
      (s : Stored) (log : List Entry)
      → IsNext k n d w e event old → Handles k old event (Err Down) new
      → k.is_honest new.keeper → k.may_hold new.keeper s log
      → (stored : Bool) × (with_desk w d (opened s log) [] ≡ goes_on n w (Stopped stored e))
  -- So it is where `open` opens a node over a keeper of the same store: one that is honest only
  -- where the keeper before it was, and that finds nothing but what that keeper's store may hold.
  pub reopened : (n d : ℕ) (w : World) (e : WorldEvent) (event : DeskEvent) (old new : NodeValue K)
      (keeper : K) (node : NodeValue K)
      → IsNext k n d w e event old → Handles k old event (Err Down) new
      → (k.is_honest keeper → k.is_honest new.keeper)
      → ((s : Stored) (log : List Entry) → k.may_hold keeper s log → k.may_hold new.keeper s log)
      → Opens k keeper node → k.is_honest node.keeper
      → (stored : Bool) × (with_desk w d node.desk [] ≡ goes_on n w (Stopped stored e))
