-- What a client is answered (the project's own).
use Rattle.std.specs.Prelude.{◌≡◌, ℕ, nat_lt, ◌==◌, if◌then◌else◌, List, length, take, drop, Option}
use Rattle.std.specs.Prelude.{None, Some, Result, Ok, Err}
use Rattle.acceptor.specs.declared.{ballot.Ballot.Ballot, entry.Entry.Entry}
use Rattle.acceptor.specs.declared.message.Message.{Message}
use Rattle.proposer.specs.declared.role.Role.{Role}
use Rattle.store.specs.declared.home.Home.{Home}
use Rattle.formats.specs.declared.{events.Event.Event, styles.SheetStyle.SheetStyle as Style}
use Rattle.answers.specs.Answers.{told, sheet_at}
use Rattle.answers.specs.{declared.answers.IdState.IdState, Seen.Seen}
use Rattle.replica.specs.declared.roles.fault.NodeFault.{NodeFault}
use Rattle.wire.specs.{Numbers.state_in, Numbers.refusal_in, Numbers.standing_in, Ranges.way_of}
use Rattle.wire.specs.{Ranges.IsBody, Ranges.ToClient, declared.frame.FrameBody.FrameBody}
use Rattle.wire.specs.declared.values.{ClientRefusal.ClientRefusal as Refusal, Version.Version}
use Rattle.wire.specs.declared.values.{CommandState.CommandState, DeskRole.DeskRole}
use Rattle.wire.specs.declared.values.CommandState.TheVariants.{Unknown, Pending, Done}
use Rattle.wire.specs.declared.standing.{Difference.Difference, DeskStatus.DeskStatus}
use Rattle.wire.specs.declared.standing.Lengths.{Lengths, TheVariants.OfThree, TheVariants.OfFive}
use Rattle.serving.specs.Nodes.{Fate, Goes, Starves, Breaks}
use Rattle.serving.specs.declared.calls.NodeAnswer.{NodeAnswer}
use Rattle.serving.specs.declared.calls.NodeAnswer.TheVariants.{Taken, Refused}
use Rattle.proposer.specs.declared.role.Role.TheVariants as doing
use Rattle.answers.specs.declared.answers.IdState.TheVariants as tells
use Rattle.replica.specs.declared.roles.fault.NodeFault.TheVariants as fault
use Rattle.wire.specs.declared.values.ClientRefusal.TheVariants as refusal
use Rattle.wire.specs.declared.values.DeskRole.TheVariants as role
use Rattle.wire.specs.declared.frame.FrameBody.TheVariants as what

-- how the node answered
abbrev pub answer_of : Result (List Message) NodeFault → NodeAnswer
answer_of (Ok ms) = Taken
answer_of (Err why) = Refused why

abbrev pub refusal_of : NodeFault → Refusal
refusal_of fault.Busy = refusal.Busy
refusal_of fault.LogFull = refusal.LogFull
refusal_of fault.BallotsSpent = refusal.BallotsSpent
refusal_of fault.NoMemory = refusal.NoMemory
refusal_of fault.Down = refusal.Down

-- the answer to what the node said of the first call; at Down, in whichever call, it is Refused
abbrev pub answer_first : FrameBody → NodeAnswer → Seen → FrameBody
answer_first good Taken x = if x.is_down then what.Refused refusal.Down else good
answer_first good (Refused why) x = what.Refused (refusal_of why)

abbrev pub state_of : IdState → CommandState
state_of (tells.Done pos answer) = Done pos answer
state_of tells.Pending = Pending
state_of tells.Unknown = Unknown

-- what has become of an id at this desk
abbrev pub state : Seen → ℕ → CommandState
state x id = state_of (told x.desk.log x.desk.queue id)

abbrev pub told_what : ℕ → Fate → CommandState → FrameBody
told_what id Goes s = what.Told id s
told_what id Starves s = what.Refused refusal.NoMemory
told_what id Breaks s = what.Refused refusal.NoMemory

-- the sheet of this desk's log at the position
abbrev pub sheet : Seen → Event → ℕ → ℕ → Style → Option (List ℕ)
sheet x event round position style = sheet_at style x.desk.log position event round

abbrev pub printed_as : Fate → Option (List ℕ) → FrameBody
printed_as Goes None = what.Refused refusal.NoSuchRound
printed_as Goes (Some text) = what.SheetText text
printed_as Starves text = what.Refused refusal.NoMemory
printed_as Breaks text = what.Refused refusal.NoMemory

abbrev pub printed : Seen → Fate → Event → ℕ → ℕ → Style → FrameBody
printed x fate event round position style =
    if nat_lt (length x.desk.log) position then what.Refused refusal.NotThere
    else printed_as fate (sheet x event round position style)

-- ---- how the desk stands

abbrev pub role_of : Role → DeskRole
role_of doing.Idle = role.Idle
role_of (doing.Gathering ballot pos heard) = role.Gathering
role_of (doing.Proposing ballot pos e heard) = role.Proposing
role_of (doing.Leading ballot) = role.Leading

-- a promise, if there is one: real ballots have numbers from 1 on
abbrev pub promised_of : Ballot → Option Ballot
promised_of b = if b.number == 0 then None else Some b

-- what the desks of a hall of this many reported
abbrev pub lengths_of_hall : ℕ → List ℕ → Lengths
lengths_of_hall desks told = if desks == 3 then OfThree (take 3 told) else OfFive told

abbrev pub standing : Home → Seen → Option Difference → DeskStatus
standing home x differs =
    record {
      length = length x.desk.log;
      waiting = length x.desk.queue;
      role = role_of x.desk.role;
      promised = promised_of x.desk.stored.promised;
      told = lengths_of_hall home.desks x.told;
      differs = differs;
    }

-- the log's entries from a position on, as many as an answer has
abbrev pub entries_from : ℕ → List Entry → List Entry
entries_from position log = take 400 (drop position log)

abbrev pub copied : Seen → Fate → ℕ → FrameBody
copied x Goes position =
    what.Entries position (length x.desk.log) (entries_from position x.desk.log)
copied x Starves position = what.Refused refusal.NoMemory
copied x Breaks position = what.Refused refusal.NoMemory

-- ---- versions

-- what a version tells of an answer: of a command's code that it does not have, that it is Unread;
-- of a refusal that it does not have, that the desk is down; before version 5 of no difference
abbrev pub said_in : Version → FrameBody → FrameBody
said_in version (what.Told id s) = what.Told id (state_in version s)
said_in version (what.Refused r) = what.Refused (refusal_in version r)
said_in version (what.Standing s) = what.Standing (standing_in version s)
said_in version w = w

-- ---- ranges

-- what is said of it in each version is a frame for a client
pub record IsAnswer (w : FrameBody) : Type 0 where
  pub body : (version : Version) → IsBody version (said_in version w)
  pub way : (version : Version) → way_of (said_in version w) ≡ ToClient

-- and in this version
pub record IsAnswerIn (version : Version) (w : FrameBody) : Type 0 where
  pub body : IsBody version (said_in version w)
  pub way : way_of (said_in version w) ≡ ToClient
