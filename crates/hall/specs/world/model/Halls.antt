-- A model of the code: the desks of a hall as they run, the world that they show, and what one
-- event makes of them.
use Rattle.std.specs.Prelude.{ℕ, suc, ◌≡◌, ◌+◌, ◌==◌, if◌then◌else◌, List, [], ◌∷◌, ◌++◌, Option}
use Rattle.std.specs.Prelude.{Some, None, Result, Ok, Err}
use Rattle.acceptor.specs.declared.message.Message.{Message}
use Rattle.proposer.specs.declared.fault.Refusal.{Refusal}
use Rattle.learner.specs.{declared.event.WorldEvent.WorldEvent, Steps.Done}
use Rattle.learner.specs.{Desks.Desk, Desks.first_desk, Worlds.World, Worlds.after}
use Rattle.hall.specs.world.WorldValues.{last_refusal}
use Rattle.replica.specs.roles.model.RunningDesks.{RunningDesk}

-- the desk of a number among these, the first of which has the number `first`; where there is none,
-- a desk as it is at first
abbrev pub desk_from : ℕ → List Desk → ℕ → Desk
desk_from first [] d = first_desk
desk_from first (x ∷ xs) d = if first == d then x else desk_from (suc first) xs d

-- this many desks, numbered from 1, and all messages that they have sent
pub record HallValue : Type 0 where
  pub desks : ℕ
  pub places : List Desk
  pub sent : List Message

-- what a hall shows
abbrev pub world_of : HallValue → World
world_of h = record { desks = desk_from 1 h.places; sent = h.sent }

-- what the desks know
abbrev pub known_by : List RunningDesk → List Desk
known_by [] = []
known_by (x ∷ xs) = x.desk ∷ known_by xs

-- these are the desks of n from the one of this number on
abbrev pub AreNumbered : ℕ → ℕ → List RunningDesk → Type 0
AreNumbered n first [] = first ≡ n + 1
AreNumbered n first (x ∷ xs) = (x.number ≡ first) × (x.desks ≡ n) × AreNumbered n (suc first) xs

-- a desk and the messages after a step, where the step was refused or not
abbrev pub Does : RunningDesk → RunningDesk → List Message → List Message → Option Refusal
    → Result Done Refusal → Type 0
Does old new sent more refused (Ok r) =
    (new.desk ≡ r.desk) × (more ≡ sent ++ r.messages) × (refused ≡ None)
Does old new sent more refused (Err why) =
    (new.desk ≡ old.desk) × (more ≡ sent) × (refused ≡ Some why)

-- the desks and what they sent are those after these events, and this is the refusal of the last
pub record IsAfter (hall : HallValue) (events : List WorldEvent) (why : Option Refusal) : Type 0
  where
    pub world : world_of hall ≡ after hall.desks events
    pub refused : why ≡ last_refusal hall.desks events
