-- The numbers that versions, answers, refusals and roles have on the wire (as docs/FORMATS.md has
-- it).
use Rattle.std.specs.Prelude.{ℕ, ◌≤◌, nat_le, if◌then◌else◌, List, [], ◌∷◌, map, None}
use Rattle.texts.specs.declared.answer.{Answer.Answer, Code.TheVariants.Unread}
use Rattle.texts.specs.declared.answer.Answer.TheVariants.{Done, Refused}
use Rattle.texts.specs.Codes.{every_code, code_number}
use Rattle.wire.specs.declared.values.{ClientRefusal.ClientRefusal, CommandState.CommandState}
use Rattle.wire.specs.declared.values.{DeskRole.DeskRole, Version.Version}
use Rattle.wire.specs.declared.values.DeskRole.TheVariants.{Idle, Gathering, Proposing, Leading}
use Rattle.formats.specs.declared.styles.SheetStyle.{SheetStyle}
use Rattle.formats.specs.declared.styles.SheetStyle.TheVariants.{Text, Table}
use Rattle.wire.specs.declared.standing.DeskStatus.{DeskStatus}
use Rattle.wire.specs.declared.values.Version.TheVariants.{One, Two, Three, Four, Five}
use Rattle.wire.specs.declared.values.ClientRefusal.TheVariants as refusal
use Rattle.wire.specs.declared.values.CommandState.TheVariants as state

abbrev pub version_number : Version → ℕ
version_number One = 1
version_number Two = 2
version_number Three = 3
version_number Four = 4
version_number Five = 5

abbrev pub versions : List Version
versions = One ∷ Two ∷ Three ∷ Four ∷ Five ∷ []

-- it has the kinds that came with version 3
abbrev pub IsFromThree : Version → Type 0
IsFromThree version = 3 ≤ version_number version

-- it has what came with version 5
abbrev pub IsFromFive : Version → Type 0
IsFromFive version = 5 ≤ version_number version

-- the last event whose sheets can be asked for in a version
abbrev pub last_event : Version → ℕ
last_event One = 16
last_event _ = 17

abbrev pub refusal_number : ClientRefusal → ℕ
refusal_number refusal.Busy = 1
refusal_number refusal.LogFull = 2
refusal_number refusal.BallotsSpent = 3
refusal_number refusal.NoMemory = 4
refusal_number refusal.Down = 5
refusal_number refusal.NotThere = 6
refusal_number refusal.NoSuchRound = 7
refusal_number refusal.Foreign = 8
refusal_number refusal.NotAllowed = 9
refusal_number refusal.HallDiffers = 10

abbrev pub style_number : SheetStyle → ℕ
style_number Text = 0
style_number Table = 1

-- 0, or the code
abbrev pub answer_number : Answer → ℕ
answer_number Done = 0
answer_number (Refused c) = code_number c

-- the last code that a version tells: versions 1 and 2 were there before the codes of edition 3,
-- and version 3 before that of edition 4
abbrev pub last_code : Version → ℕ
last_code One = 22
last_code Two = 22
last_code Three = 24
last_code Four = 25
last_code Five = 25

-- what a version tells of an answer: of a code that it does not have, that it is no command
abbrev pub answer_in : Version → Answer → Answer
answer_in version answer =
    if nat_le (answer_number answer) (last_code version) then answer else Refused Unread

abbrev pub state_in : Version → CommandState → CommandState
state_in version (state.Done pos answer) = state.Done pos (answer_in version answer)
state_in version state.Pending = state.Pending
state_in version state.Unknown = state.Unknown

-- the last refusal that a version tells
abbrev pub last_refusal : Version → ℕ
last_refusal Five = 10
last_refusal _ = 9

-- what a version tells of a refusal: of one that it does not have, that the desk takes part no more
abbrev pub refusal_in : Version → ClientRefusal → ClientRefusal
refusal_in version r =
    if nat_le (refusal_number r) (last_refusal version) then r else refusal.Down

-- what a version tells of how a desk is: before version 5 nothing of a difference
abbrev pub standing_in : Version → DeskStatus → DeskStatus
standing_in Five s = s
standing_in _ s = record s { differs = None }

abbrev pub answers : List Answer
answers = Done ∷ map (λ c. Refused c) every_code

abbrev pub refusals : List ClientRefusal
refusals =
    refusal.Busy ∷ refusal.LogFull ∷ refusal.BallotsSpent ∷ refusal.NoMemory ∷ refusal.Down ∷
    refusal.NotThere ∷ refusal.NoSuchRound ∷ refusal.Foreign ∷ refusal.NotAllowed ∷
    refusal.HallDiffers ∷ []

abbrev pub styles : List SheetStyle
styles = Text ∷ Table ∷ []

-- what a desk does for its ballots
abbrev pub role_number : DeskRole → ℕ
role_number Idle = 0
role_number Gathering = 1
role_number Proposing = 2
role_number Leading = 3

abbrev pub roles : List DeskRole
roles = Idle ∷ Gathering ∷ Proposing ∷ Leading ∷ []
