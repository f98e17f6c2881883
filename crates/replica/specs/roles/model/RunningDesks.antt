-- A model of the code: a desk as it runs, and when a plan fits it.
use Rattle.std.specs.Prelude.{ℕ, ◌≡◌, ◌⊎◌, ◌<◌, if◌then◌else◌, [], length, Option, Some, Result, Ok}
use Rattle.acceptor.specs.declared.{message.Message.Message, stored.Stored.Stored}
use Rattle.acceptor.specs.declared.stored.Change.{Change, TheVariants.Appended}
use Rattle.proposer.specs.declared.{fault.Refusal.Refusal, plan.Plan.Plan}
use Rattle.proposer.specs.{Plans.only_say, Proposing.start, Proposing.tick, Sides.Side}
use Rattle.learner.specs.{Desks.Desk, Logs.LogValue, declared.event.DeskEvent.DeskEvent}
use Rattle.learner.specs.{Desks.adopt, Desks.passing, Ranges.DeskIsInRange, Ranges.AreInRange}
use Rattle.learner.specs.Steps.{IsDesk, is_heeded, on_body, done, step}

-- this desk of this many, all that it knows, and the room that its log has for the next entry
pub record RunningDesk : Type 0 where
  pub number : ℕ
  pub desks : ℕ
  pub desk : Desk
  pub room : ℕ

-- the desk that has these parts
abbrev pub desk_of : Stored → LogValue → Side → RunningDesk
desk_of stored log side =
    record {
      number = side.desk;
      desks = side.desks;
      desk =
          record {
            stored = stored;
            log = log.entries;
            role = side.passing.role;
            queue = side.passing.queue;
            seen = side.passing.seen;
          };
      room = log.room;
    }

-- it is one of three or five desks, and all that it knows is in its ranges
pub record IsRunning (x : RunningDesk) : Type 0 where
  pub ours : IsDesk x.desks x.number
  pub count : (x.desks ≡ 3) ⊎ (x.desks ≡ 5)
  pub desk : DeskIsInRange x.desks x.desk

-- where an entry is appended, the log has room for it
abbrev pub HasRoom : ℕ → Option Change → Type 0
HasRoom room (Some (Appended e)) = 0 < room
HasRoom room _ = Unit {0}

-- the plan is that of a step
abbrev pub IsStep : RunningDesk → Plan → Type 0
IsStep x plan = (event : DeskEvent) × (step x.desks x.number x.desk event ≡ Ok (done x.desk plan))

-- there is room for the plan's change, the desk after it is in range, and its messages are from
-- this desk and in range
pub record Fits (x : RunningDesk) (plan : Plan) : Type 0 where
  pub room : HasRoom x.room plan.change
  pub desk : DeskIsInRange x.desks (adopt x.desk plan)
  pub messages : AreInRange x.desks x.number plan.messages

-- what the desk plans when it is told to start
abbrev pub start_of : RunningDesk → Result Plan Refusal
start_of x = start x.desks x.number x.desk.stored (length x.desk.log) (passing x.desk)

-- what the desk plans from time to time
abbrev pub tick_of : RunningDesk → Result Plan Refusal
tick_of x = tick x.desks x.number x.desk.stored (length x.desk.log) (passing x.desk)

-- what the desk plans at a message
abbrev pub delivery : RunningDesk → Message → Plan
delivery x m =
    if is_heeded x.desks x.number m
    then on_body x.desks x.number x.desk m.from m.body
    else only_say (passing x.desk) []
