-- What a frame may hold: the ranges of its fields (as docs/FORMATS.md has it).
use Rattle.std.specs.Prelude.{◌≡◌, ◌⊎◌, ℕ, ◌+◌, ◌^◌, ◌≤◌, ◌<◌, List, length, nat_le, if◌then◌else◌}
use Rattle.std.specs.{Prelude.Option, Prelude.Some, Prelude.None, List.AllByRecursion}
use Rattle.acceptor.specs.declared.{ballot.Ballot.Ballot, entry.Entry.Entry, message.Report.Report}
use Rattle.wire.specs.declared.frame.{Frame.Frame, FrameBody.FrameBody}
use Rattle.wire.specs.declared.values.{CommandState.CommandState, ClientRefusal.ClientRefusal}
use Rattle.wire.specs.declared.values.CommandState.TheVariants.{Unknown, Pending, Done}
use Rattle.wire.specs.declared.frame.FrameBody.TheVariants.{Prepare, Promise, Accept, Accepted}
use Rattle.wire.specs.declared.frame.FrameBody.TheVariants.{Nack, Behind, Decided, Submit, Ask}
use Rattle.wire.specs.declared.frame.FrameBody.TheVariants.{Sheet, Taken, Told, SheetText, Refused}
use Rattle.wire.specs.declared.frame.FrameBody.TheVariants.{Status, Log, Await}
use Rattle.wire.specs.declared.standing.{Lengths.Lengths, Difference.Difference}
use Rattle.wire.specs.declared.standing.Lengths.TheVariants.{OfThree, OfFive}
use Rattle.wire.specs.declared.standing.Difference.TheVariants.{OtherEntry, Shorter}
use Rattle.wire.specs.declared.{standing.DeskStatus.DeskStatus, values.Version.Version}
use Rattle.formats.specs.{declared.events.Event.Event, Events.event_number}
use Rattle.wire.specs.declared.values.Version.TheVariants.{One, Four, Five}
use Rattle.texts.specs.declared.answer.Answer.{Answer}
use Rattle.wire.specs.Numbers.{IsFromThree, IsFromFive, answer_number, last_code, last_event}
use Rattle.wire.specs.{Numbers.last_refusal, Numbers.refusal_number, Spelling.kind_of}
use Rattle.wire.specs.declared.frame.FrameBody.TheVariants as variant
pub use Rattle.wire.specs.Entries.{IsId, IsEntry}

-- a desk of a hall
abbrev pub IsDesk : ℕ → Type 0
IsDesk d = (1 ≤ d) × (d ≤ 5)

abbrev pub IsClient : ℕ → Type 0
IsClient d = d ≡ 0

-- a ballot that a desk has made
abbrev pub IsBallot : Ballot → Type 0
IsBallot b = (1 ≤ b.number) × (b.number < 2 ^ 32) × IsDesk b.desk

abbrev pub IsPosition : ℕ → Type 0
IsPosition pos = pos ≤ 65535

abbrev pub IsReport : Option Report → Type 0
IsReport None = Unit {0}
IsReport (Some r) = IsBallot r.ballot × IsEntry r.entry

-- an answer that a version tells
abbrev pub IsAnswerOf : Version → Answer → Type 0
IsAnswerOf version answer = answer_number answer ≤ last_code version

abbrev pub IsCommandState : Version → CommandState → Type 0
IsCommandState version Unknown = Unit {0}
IsCommandState version Pending = Unit {0}
IsCommandState version (Done pos answer) = IsPosition pos × IsAnswerOf version answer

-- how many entries a Decided has in a version
abbrev pub IsCount : Version → ℕ → Type 0
IsCount One n = n ≡ 1
IsCount _ n = (1 ≤ n) × (n ≤ 16)

-- the entries from a position on, of which the last is at 65,535 at most
abbrev pub AreDecided : Version → ℕ → List Entry → Type 0
AreDecided version pos entries =
    IsCount version (length entries) × (pos + length entries ≤ 65536)
    × AllByRecursion IsEntry entries

-- an event whose sheets can be asked for in a version
abbrev pub IsEventOf : Version → Event → Type 0
IsEventOf version event = event_number event ≤ last_event version

-- a refusal that a version tells
abbrev pub IsRefusalOf : Version → ClientRefusal → Type 0
IsRefusalOf version refusal = refusal_number refusal ≤ last_refusal version

-- how many entries a log has, or a position in it, its end included
abbrev pub IsLogLength : ℕ → Type 0
IsLogLength n = n ≤ 65536

abbrev pub IsPromised : Option Ballot → Type 0
IsPromised None = Unit {0}
IsPromised (Some b) = IsBallot b

abbrev pub AreLengths : Lengths → Type 0
AreLengths (OfThree lengths) = (length lengths ≡ 3) × AllByRecursion IsLogLength lengths
AreLengths (OfFive lengths) = (length lengths ≡ 5) × AllByRecursion IsLogLength lengths

-- how a desk differs, if one does
abbrev pub IsDifference : Option Difference → Type 0
IsDifference None = Unit {0}
IsDifference (Some (OtherEntry desk position)) = IsDesk desk × IsPosition position
IsDifference (Some (Shorter desk len)) = IsDesk desk × IsPosition len

-- what a version tells of it: before version 5 nothing
abbrev pub IsDiffering : Version → Option Difference → Type 0
IsDiffering Five d = IsDifference d
IsDiffering _ d = d ≡ None

-- how a desk is: its log, its queue of at most 255 commands, its ballots, the hall's logs, and how
-- another desk differs
pub record IsStanding (version : Version) (s : DeskStatus) : Type 0 where
  pub log : IsLogLength s.length
  pub queue : s.waiting < 256
  pub promised : IsPromised s.promised
  pub told : AreLengths s.told
  pub differs : IsDiffering version s.differs

-- at most 400 entries of a log of this length, from a position on: none, or they end within the
-- log. So there is none where the log ends at the position or before it.
pub record AreOfLog (position len : ℕ) (entries : List Entry) : Type 0 where
  pub from : IsLogLength position
  pub log : IsLogLength len
  pub most : length entries ≤ 400
  pub within : (length entries ≡ 0) ⊎ (position + length entries ≤ len)
  pub each : AllByRecursion IsEntry entries

-- the fields of a kind in a version; a sheet and all that is in front of it fill at most 300,000
-- bytes. Four kinds are of the versions from 3 on, and one is of version 5.
abbrev pub IsBody : Version → FrameBody → Type 0
IsBody v (Prepare b pos) = IsBallot b × IsPosition pos
IsBody v (Promise b pos vote) = IsBallot b × IsPosition pos × IsReport vote
IsBody v (Accept b pos e) = IsBallot b × IsPosition pos × IsEntry e
IsBody v (Accepted b pos) = IsBallot b × IsPosition pos
IsBody v (Nack b pos promised) = IsBallot b × IsPosition pos × IsBallot promised
IsBody v (Behind len) = len ≤ 65536
IsBody v (Decided pos entries) = AreDecided v pos entries
IsBody v (Submit e) = IsEntry e
IsBody v (Ask id) = IsId id
IsBody v (Sheet event round position style) =
    IsEventOf v event × (round < 256) × (position < 2 ^ 32)
IsBody v Status = IsFromThree v
IsBody v (Log position) = IsFromThree v × IsLogLength position
IsBody v (Await id seconds) = IsFromFive v × IsId id × (seconds < 256)
IsBody v (Taken id) = IsId id
IsBody v (Told id s) = IsId id × IsCommandState v s
IsBody v (SheetText bytes) = length bytes ≤ 299992
IsBody v (Refused refusal) = IsRefusalOf v refusal
IsBody v (variant.Standing standing) = IsFromThree v × IsStanding v standing
IsBody v (variant.Entries position len entries) = IsFromThree v × AreOfLog position len entries
IsBody v _ = Unit {0}

-- who sends a kind to whom: desk to desk, client to desk, desk to client
pub data Way : Type 0 where
  Between : Way
  FromClient : Way
  ToClient : Way

abbrev pub way_of_kind : ℕ → Way
way_of_kind kind =
    if nat_le kind 7 then Between
    else if nat_le kind 23 then FromClient
    else ToClient

abbrev pub way_of : FrameBody → Way
way_of what = way_of_kind (kind_of what)

abbrev pub Goes : Way → ℕ → ℕ → Type 0
Goes Between from to = IsDesk from × IsDesk to
Goes FromClient from to = IsClient from × IsDesk to
Goes ToClient from to = IsDesk from × IsClient to

-- a frame that has a spelling
pub record IsFrame (f : Frame) : Type 0 where
  pub hall : f.hall < 2 ^ 32
  pub goes : Goes (way_of f.what) f.from f.to
  pub body : IsBody f.version f.what
