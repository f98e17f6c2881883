-- What the desks of a hall agree on, after every list of events, for every number n of desks (the
-- safety of 'Paxos Made Simple', section 2.1, of every position).
use Rattle.std.specs.Prelude.{ℕ, ◌≡◌, ◌≤◌, ◌<◌, ◌⊎◌, List, ◌++◌, Some, slice_get, take, length}
use Rattle.acceptor.specs.declared.{entry.Entry.Entry, message.Message.Message}
use Rattle.learner.specs.declared.event.{WorldEvent.WorldEvent, DeskEvent.DeskEvent}
use Rattle.learner.specs.{Worlds.World, Worlds.after, Worlds.log_of, Contents.IsTried, Steps.IsDesk}
use Rattle.learner.specs.{Chosen.IsChosen, Submitted.IsSubmitted, Contents.WorldHolds, Desks.Desk}
use Rattle.learner.specs.{Ranges.DeskIsInRange, Ranges.IsInRange, Ranges.DoneIsInRange, Steps.step}

-- what is in a log is chosen: nobody learns that a value is chosen unless it is ('Paxos Made
-- Simple', section 2.1)
abbrev pub LogsAreChosen : Type 0
LogsAreChosen =
    (n : ℕ) (events : List WorldEvent) (d pos : ℕ) (e : Entry)
    → slice_get (log_of n events d) pos ≡ Some e → IsChosen n (after n events).sent pos e

-- at a position one entry at most is chosen ('Paxos Made Simple', section 2.1)
abbrev pub OneIsChosen : Type 0
OneIsChosen =
    (n : ℕ) (events : List WorldEvent) (pos : ℕ) (e f : Entry)
    → IsChosen n (after n events).sent pos e → IsChosen n (after n events).sent pos f → e ≡ f

-- what is in a log was submitted before, to a desk that took it: only what was proposed is chosen
-- ('Paxos Made Simple', section 2.1)
abbrev pub LogsAreSubmitted : Type 0
LogsAreSubmitted =
    (n : ℕ) (events : List WorldEvent) (d pos : ℕ) (e : Entry)
    → slice_get (log_of n events d) pos ≡ Some e → IsSubmitted n events e

-- the first list begins the second
abbrev pub IsPrefix : List Entry → List Entry → Type 0
IsPrefix xs ys = (rest : List Entry) × (xs ++ rest ≡ ys)

-- of the logs of two desks, after the first i and after the first j events, one begins the other
abbrev pub LogsAgree : Type 0
LogsAgree =
    (n : ℕ) (events : List WorldEvent) (i j d k : ℕ)
    → IsPrefix (log_of n (take i events) d) (log_of n (take j events) k)
    ⊎ IsPrefix (log_of n (take j events) k) (log_of n (take i events) d)

-- a log only grows
abbrev pub LogsGrow : Type 0
LogsGrow =
    (n : ℕ) (events : List WorldEvent) (i j d : ℕ)
    → i ≤ j → IsPrefix (log_of n (take i events) d) (log_of n (take j events) d)

-- what is at a position of one log is there in every longer log, at every moment
abbrev pub EntriesStay : Type 0
EntriesStay =
    (n : ℕ) (events : List WorldEvent) (i j d k pos : ℕ) (e : Entry)
    → slice_get (log_of n (take i events) d) pos ≡ Some e
    → pos < length (log_of n (take j events) k)
    → slice_get (log_of n (take j events) k) pos ≡ Some e

-- this holds after every list of events
abbrev pub Always : (ℕ → World → Type 0) → Type 0
Always P = (n : ℕ) (events : List WorldEvent) → P n (after n events)

-- each entry in a queue, a role, a vote, a log or a message was submitted, and each ballot there is
-- of a number that the desk which it names has tried
abbrev pub ContentsStand : Type 0
ContentsStand =
    (n : ℕ) (events : List WorldEvent)
    → WorldHolds (IsSubmitted n events) (IsTried n (after n events)) (after n events)

-- each message is from a desk of the hall to a desk of the hall, with its fields in their ranges
abbrev pub MessagesAreInRange : Type 0
MessagesAreInRange =
    (n : ℕ) (events : List WorldEvent) (k : ℕ) (m : Message)
    → slice_get (after n events).sent k ≡ Some m → IsInRange n m

-- no log is longer than 65,536 entries, no desk gathers promises or proposes at a full one, and all
-- ballots are real
abbrev pub DesksAreInRange : Type 0
DesksAreInRange =
    (n : ℕ) (events : List WorldEvent) (d : ℕ) → DeskIsInRange n ((after n events).desks d)

-- a step of a desk in range leaves it in range, and what it sends is from that desk and in range
abbrev pub StepsStayInRange : Type 0
StepsStayInRange =
    (n d : ℕ) (x : Desk) (event : DeskEvent) → IsDesk n d → DeskIsInRange n x
    → DoneIsInRange n d (step n d x event)
