-- The bytes of a frame: one spelling for each (as docs/FORMATS.md has it). Numbers are unsigned,
-- the highest byte first.
use Rattle.std.specs.Prelude.{ℕ, List, [], ◌∷◌, ◌++◌, length, Option, Some, None}
use Rattle.std.specs.{List.flat_map, Int.w16, Int.w32, Int.w64, Int.to_be_bytes}
use Rattle.acceptor.specs.declared.{ballot.Ballot.Ballot, entry.Entry.Entry, message.Report.Report}
use Rattle.formats.specs.Events.{event_number}
use Rattle.wire.specs.declared.frame.{Frame.Frame, FrameBody.FrameBody}
use Rattle.wire.specs.declared.values.{CommandState.CommandState, Version.Version}
use Rattle.wire.specs.declared.values.CommandState.TheVariants.{Unknown, Pending, Done}
use Rattle.wire.specs.declared.frame.FrameBody.TheVariants.{Prepare, Promise, Accepted, SheetText}
use Rattle.wire.specs.declared.frame.FrameBody.TheVariants.{Accept, Behind, Decided, Sheet, Refused}
use Rattle.wire.specs.declared.frame.FrameBody.TheVariants.{Nack, Submit, Ask, Taken, Status, Await}
use Rattle.wire.specs.declared.frame.FrameBody.TheVariants.{Tick, Stop, Told, Fine, Log}
use Rattle.wire.specs.declared.standing.{Difference.Difference, Lengths.Lengths}
use Rattle.wire.specs.declared.standing.Difference.TheVariants.{OtherEntry, Shorter}
use Rattle.wire.specs.declared.standing.Lengths.TheVariants.{OfThree, OfFive}
use Rattle.wire.specs.{declared.standing.DeskStatus.DeskStatus, Numbers.version_number}
use Rattle.wire.specs.declared.values.Version.TheVariants.{One, Five}
use Rattle.wire.specs.Numbers.{answer_number, refusal_number, role_number, style_number}
use Rattle.wire.specs.declared.frame.FrameBody.TheVariants as variant

abbrev pub ballot_bytes : Ballot → List ℕ
ballot_bytes b = to_be_bytes w32 b.number ++ b.desk ∷ []

abbrev pub text_bytes : List ℕ → List ℕ
text_bytes bytes = to_be_bytes w16 (length bytes) ++ bytes

abbrev pub entry_bytes : Entry → List ℕ
entry_bytes e = to_be_bytes w64 e.id ++ text_bytes e.text

-- the vote that a promise reports: 0, or 1 and the vote
abbrev pub report_bytes : Option Report → List ℕ
report_bytes None = 0 ∷ []
report_bytes (Some r) = 1 ∷ ballot_bytes r.ballot ++ entry_bytes r.entry

abbrev pub state_bytes : CommandState → List ℕ
state_bytes Unknown = 0 ∷ []
state_bytes Pending = 1 ∷ []
state_bytes (Done pos answer) = 2 ∷ to_be_bytes w32 pos ++ answer_number answer ∷ []

-- the number of a kind of frame
abbrev pub kind_of : FrameBody → ℕ
kind_of (Prepare b pos) = 1
kind_of (Promise b pos vote) = 2
kind_of (Accept b pos e) = 3
kind_of (Accepted b pos) = 4
kind_of (Nack b pos promised) = 5
kind_of (Behind len) = 6
kind_of (Decided pos entries) = 7
kind_of (Submit e) = 16
kind_of (Ask id) = 17
kind_of (Sheet event round position style) = 18
kind_of Tick = 19
kind_of Stop = 20
kind_of Status = 21
kind_of (Log position) = 22
kind_of (Await id seconds) = 23
kind_of (Taken id) = 32
kind_of (Told id s) = 33
kind_of (SheetText bytes) = 34
kind_of (Refused refusal) = 35
kind_of Fine = 36
kind_of (variant.Standing standing) = 37
kind_of (variant.Entries position len entries) = 38

-- how many entries a Decided has, which version 1 does not say
abbrev pub count_bytes : Version → ℕ → List ℕ
count_bytes One n = []
count_bytes _ n = n ∷ []

abbrev pub decided_bytes : Version → ℕ → List Entry → List ℕ
decided_bytes version pos entries =
    to_be_bytes w32 pos ++ count_bytes version (length entries) ++ flat_map entry_bytes entries

-- the ballot that a desk has promised; five zero bytes where it has promised none
abbrev pub promised_bytes : Option Ballot → List ℕ
promised_bytes None = 0 ∷ 0 ∷ 0 ∷ 0 ∷ 0 ∷ []
promised_bytes (Some b) = ballot_bytes b

-- a length for each desk of the hall, in the order of the desks
abbrev pub lengths_of : Lengths → List ℕ
lengths_of (OfThree lengths) = lengths
lengths_of (OfFive lengths) = lengths

-- how many desks the hall has, and a length for each
abbrev pub lengths_bytes : Lengths → List ℕ
lengths_bytes told =
    length (lengths_of told) ∷ flat_map (λ n. to_be_bytes w32 n) (lengths_of told)

-- how a desk differs: 0 where none does; 1, the desk and a position at which it has another entry;
-- or 2, the desk and the length of its log, which was longer
abbrev pub difference_bytes : Option Difference → List ℕ
difference_bytes None = 0 ∷ []
difference_bytes (Some (OtherEntry desk position)) = 1 ∷ desk ∷ to_be_bytes w32 position
difference_bytes (Some (Shorter desk len)) = 2 ∷ desk ∷ to_be_bytes w32 len

-- which the versions before 5 do not say
abbrev pub differs_bytes : Version → Option Difference → List ℕ
differs_bytes Five d = difference_bytes d
differs_bytes _ d = []

abbrev pub standing_bytes : Version → DeskStatus → List ℕ
standing_bytes version s =
    to_be_bytes w32 s.length ++ s.waiting ∷ role_number s.role ∷
    promised_bytes s.promised ++ lengths_bytes s.told ++ differs_bytes version s.differs

-- a position, the length of the log, how many entries follow, and the entries
abbrev pub log_bytes : ℕ → ℕ → List Entry → List ℕ
log_bytes position len entries =
    to_be_bytes w32 position ++ to_be_bytes w32 len ++
    to_be_bytes w16 (length entries) ++ flat_map entry_bytes entries

-- the fields of a frame of a version, in their order
abbrev pub body : Version → FrameBody → List ℕ
body v (Prepare b pos) = ballot_bytes b ++ to_be_bytes w32 pos
body v (Promise b pos vote) = ballot_bytes b ++ to_be_bytes w32 pos ++ report_bytes vote
body v (Accept b pos e) = ballot_bytes b ++ to_be_bytes w32 pos ++ entry_bytes e
body v (Accepted b pos) = ballot_bytes b ++ to_be_bytes w32 pos
body v (Nack b pos promised) = ballot_bytes b ++ to_be_bytes w32 pos ++ ballot_bytes promised
body v (Behind len) = to_be_bytes w32 len
body v (Decided pos entries) = decided_bytes v pos entries
body v (Submit e) = entry_bytes e
body v (Ask id) = to_be_bytes w64 id
body v (Sheet event round position style) =
    event_number event ∷ round ∷ to_be_bytes w32 position ++ style_number style ∷ []
body v (Log position) = to_be_bytes w32 position
body v (Await id seconds) = to_be_bytes w64 id ++ seconds ∷ []
body v (Taken id) = to_be_bytes w64 id
body v (Told id s) = to_be_bytes w64 id ++ state_bytes s
body v (SheetText bytes) = bytes
body v (Refused refusal) = refusal_number refusal ∷ []
body v (variant.Standing standing) = standing_bytes v standing
body v (variant.Entries position len entries) = log_bytes position len entries
body v _ = []

-- what is after the length: version, hall, sender, receiver, kind, fields
abbrev pub inside : Frame → List ℕ
inside f =
    version_number f.version ∷ to_be_bytes w32 f.hall ++ f.from ∷ f.to ∷ kind_of f.what ∷
    body f.version f.what

abbrev pub spelling : Frame → List ℕ
spelling f = to_be_bytes w32 (length (inside f)) ++ inside f
