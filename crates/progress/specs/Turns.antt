-- That no desk is stuck, of desks that serve (the project's own). A desk that serves gives itself a
-- Start after an event by which its log has grown. What it says to itself comes as a message does.
use Rattle.std.specs.Prelude.{ℕ, ◌≡◌, ◌≤◌, ◌+◌, ◌-◌, ◌*◌, ◌&&◌, nat_lt, Bool, if◌then◌else◌, List}
use Rattle.std.specs.Prelude.{[], ◌∷◌, ◌++◌, Option, Some, None, length}
use Rattle.acceptor.specs.declared.{entry.Entry.Entry, message.Message.Message}
use Rattle.learner.specs.{Chosen.Has, Chosen.IsMajority, Worlds.at_desk, Worlds.nth_sent}
use Rattle.learner.specs.{Desks.Desk, Worlds.World, declared.event.DeskEvent.DeskEvent}
use Rattle.learner.specs.{Worlds.after, declared.event.WorldEvent.TheVariants.Deliver as DeliverNth}
use Rattle.learner.specs.declared.event.DeskEvent.TheVariants.{Start, Tick, Deliver}
use Rattle.learner.specs.declared.event.WorldEvent.{WorldEvent, TheVariants.Tick as TickAt}
use Rattle.progress.specs.Progress.{IsHelp, StandFrom, longest, enough}

-- ---- a turn

-- the log has more than this many entries, and entries wait in the queue
abbrev pub has_grown : ℕ → Desk → Bool
has_grown before x = nat_lt before (length x.log) && nat_lt 0 (length x.queue)

-- a Start of desk d, where its log has more than this many entries
abbrev pub started : ℕ → ℕ → ℕ → World → World
started n d before w = if has_grown before (w.desks d) then at_desk n w d Start else w

-- desk d of n takes the event, and starts where its log has grown
abbrev pub turn : ℕ → World → ℕ → DeskEvent → World
turn n w d event = started n d (length (w.desks d).log) (at_desk n w d event)

abbrev pub turn_of : ℕ → World → Option Message → World
turn_of n w None = w
turn_of n w (Some m) = turn n w m.to (Deliver m)

-- a Tick or a message is taken so; other events are no turns
abbrev pub takes_turn : ℕ → World → WorldEvent → World
takes_turn n w (TickAt d) = turn n w d Tick
takes_turn n w (DeliverNth k) = turn_of n w (nth_sent w.sent k)
takes_turn n w _ = w

abbrev pub take_turns : ℕ → World → List WorldEvent → World
take_turns n w [] = w
take_turns n w (e ∷ es) = take_turns n (takes_turn n w e) es

-- ---- the law

-- each of the turns is desk d's Tick, or a message among these desks that was sent after the first
-- `start`
abbrev pub AreTurns : ℕ → ℕ → List ℕ → ℕ → World → List WorldEvent → Type 0
AreTurns n d desks start w [] = Unit {0}
AreTurns n d desks start w (e ∷ es) =
    IsHelp d desks start w e × AreTurns n d desks start (takes_turn n w e) es

-- by such turns alone, and no more of them than that, these entries come to be in desk d's log,
-- past what is there, and these are left in its queue
pub record TurnsDecide (n d : ℕ) (desks : List ℕ) (w : World) (es rest : List Entry) : Type 0 where
  pub turns : List WorldEvent
  pub help : AreTurns n d desks (length w.sent) w turns
  pub few : length turns ≤ enough w desks (length es)
  pub decided : StandFrom (length (w.desks d).log) es ((take_turns n w turns).desks d).log
  pub queue : ((take_turns n w turns).desks d).queue ≡ rest

-- This many ballot numbers are enough for this many entries: two for each, and one for each entry
-- that desk d lacks of a log that is longer than the longest of these desks' by two for each entry,
-- since it may start where it learns one.
abbrev pub numbers_needed : ℕ → List ℕ → World → ℕ → ℕ
numbers_needed d desks w count =
    ((longest w desks + 2 * count) - length (w.desks d).log) + 2 * count

-- each log of these desks has room for twice as many entries, and above the numbers that they have
-- promised, and that desk d has tried or seen, there are enough left
pub record HasTurnRoom (d : ℕ) (desks : List ℕ) (w : World) (count : ℕ) : Type 0 where
  pub logs : (k : ℕ) → Has desks k → length (w.desks k).log + 2 * count ≤ 65536
  pub promised : (k : ℕ) → Has desks k
      → (w.desks k).stored.promised.number + numbers_needed d desks w count ≤ 4294967295
  pub tried : (w.desks d).stored.tried + numbers_needed d desks w count ≤ 4294967295
  pub seen : (w.desks d).seen + numbers_needed d desks w count ≤ 4294967295

-- Whatever happened, every majority of desks that serve can decide the first entries of the queue
-- of a desk of it, as many as there is room for.
abbrev pub NoServingDeskIsStuck : Type 0
NoServingDeskIsStuck =
    (n : ℕ) (past : List WorldEvent) (d : ℕ) (desks : List ℕ) (es rest : List Entry)
    → IsMajority n desks → Has desks d → ((after n past).desks d).queue ≡ es ++ rest
    → HasTurnRoom d desks (after n past) (length es) → TurnsDecide n d desks (after n past) es rest
