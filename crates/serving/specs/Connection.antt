-- One frame after the other, and how a connection ends (the project's own).
use Rattle.std.specs.Prelude.{◌≡◌, ◌≢◌, ◌⊎◌, ◌≤◌, ◌<◌, ℕ, List, [], ◌∷◌, ◌++◌, length, Option, None}
use Rattle.std.specs.{Prelude.Some, List.flat_map, List.AllByRecursion}
use Rattle.std.specs.Io.KnownBytes.{Appends, Consumes, IsAtEnd}
use Rattle.wire.specs.declared.{values.Version.Version, standing.Difference.Difference}
use Rattle.wire.specs.declared.frame.{Frame.Frame, FrameBody.FrameBody}
use Rattle.wire.specs.{Ranges.IsFrame, Spelling.spelling}
use Rattle.wire.specs.Stream.{Waits, Breaks, front, IsOfStream}
use Rattle.store.specs.declared.home.Home.{Home}
use Rattle.serving.specs.declared.ends.{FrameEnd.FrameEnd, ConnectionEnd.ConnectionEnd}
use Rattle.serving.specs.declared.ends.{FrameFault.FrameFault, ServingOutcome.ServingOutcome}
use Rattle.lines.specs.Bytes.{AppendsPart}
use Rattle.serving.specs.{Making.Way, Making.Outside, Making.Makes, Asking.request, Asking.closes}
use Rattle.answers.specs.Seen.{Seen}
use Rattle.serving.specs.{Nodes.Fate, Answering.said_in, Differing.withheld, Permissions.permitted}
use Rattle.serving.specs.declared.{permission.Permission.Permission, request.Request.Request}
use Rattle.serving.specs.Serving.{Act, served, answer, seen_after}
use Rattle.serving.specs.declared.ends.FrameEnd.TheVariants as close
use Rattle.serving.specs.declared.ends.ConnectionEnd.TheVariants as end
use Rattle.serving.specs.declared.ends.FrameFault.TheVariants as fault

-- a frame that was begun, with what its connection may ask, how another desk of the hall differed
-- by then, if one did, and the fates of its calls
pub record Begun : Type 0 where
  pub frame : Frame
  pub may : Permission
  pub differs : Option Difference
  pub fates : List Fate

abbrev pub frames_of : List Begun → List Frame
frames_of [] = []
frames_of (b ∷ bs) = b.frame ∷ frames_of bs

-- each of these frames came on a connection that may ask so much
abbrev pub AreUnder : Permission → List Begun → Type 0
AreUnder may begun = AllByRecursion (λ (b : Begun). b.may ≡ may) begun

-- what frames come to: calls and pushes, answers, and what is seen of the node afterwards
pub record Outcome : Type 0 where
  pub acts : List Act
  pub answers : List Frame
  pub seen : Seen

-- an answer is this desk's, for the client, in the version of what it answers
abbrev pub answer_frame : Version → Home → FrameBody → Frame
answer_frame version home w =
    record { version = version; hall = home.hall; from = home.desk; to = 0; what = w }

abbrev pub framed_answer : Version → Home → Option FrameBody → List Frame
framed_answer version home None = []
framed_answer version home (Some w) = answer_frame version home (said_in version w) ∷ []

abbrev pub serve_request : Version → Home → Seen → List Fate → Request → Outcome
serve_request version home x fates r =
    record {
      acts = (served home x fates r).done;
      answers = framed_answer version home (answer home x fates r);
      seen = (served home x fates r).seen;
    }

-- what it asks of the desk, as far as its connection may, and no command where a desk differs
abbrev pub asked : Home → Begun → Request
asked home b = withheld b.differs (permitted b.may (request home b.frame))

unfoldable pub serve_frame : Home → Seen → Begun → Outcome
serve_frame home x b = serve_request b.frame.version home x b.fates (asked home b)

-- how the frame ends the connection of itself, if it does
unfoldable pub close_of : Home → Seen → Begun → Option FrameEnd
close_of home x b = closes (serve_frame home x b).seen (asked home b)

-- the first frame, and then the others
abbrev pub then_others : Outcome → Outcome → Outcome
then_others first others =
    record {
      acts = first.acts ++ others.acts;
      answers = first.answers ++ others.answers;
      seen = others.seen;
    }

-- frames, one after the other
abbrev pub serve_frames : Home → Seen → List Begun → Outcome
serve_frames home x [] = record { acts = []; answers = []; seen = x }
serve_frames home x (b ∷ bs) =
    then_others (serve_frame home x b) (serve_frames home (serve_frame home x b).seen bs)

-- none of these frames ends the connection of itself
abbrev pub StaysOpen : Home → Seen → List Begun → Type 0
StaysOpen home x [] = Unit {0}
StaysOpen home x (b ∷ bs) =
    (close_of home x b ≡ None) × StaysOpen home (serve_frame home x b).seen bs

abbrev pub answer_bytes : List Frame → List ℕ
answer_bytes frames = flat_map spelling frames

-- the bytes that were read are the frames begun, and then a rest
pub record AreBegun (bytes : List ℕ) (begun : List Begun) (rest : List ℕ) : Type 0 where
  pub whole : bytes ≡ flat_map spelling (frames_of begun) ++ rest
  pub each : AllByRecursion IsFrame (frames_of begun)

-- what serving changes: what is seen of the node, what the writer was given, and, beside what is
-- seen, the node itself and what the desks were handed
pub record Sides {V : Type 0} (way : Way V) : Type 0 where
  pub seen : Seen
  pub written : Option (List ℕ)
  pub outside : Outside way

abbrev pub sides : {V : Type 0} → {way : Way V} → Seen → Option (List ℕ) → Outside way → Sides way
sides x written outside = record { seen = x; written = written; outside = outside }

-- ---- one frame

-- the frame was served whole
pub record ServesOne {V : Type 0} {way : Way V} (home : Home) (a b : Sides way) (one : Begun)
    (ends : Option FrameEnd) : Type 0 where
  pub close : ends ≡ close_of home a.seen one
  pub answered : Appends a.written b.written (answer_bytes (serve_frame home a.seen one).answers)
  pub made : Makes home.hall a.outside b.outside (serve_frame home a.seen one).acts
  pub node : b.seen ≡ (serve_frame home a.seen one).seen

-- it has an answer, and all was done for it but that this was not written whole
pub record BreaksOff {V : Type 0} {way : Way V} (home : Home) (a b : Sides way)
    (one : Begun) : Type 0 where
  pub due : (serve_frame home a.seen one).answers ≢ []
  pub answered : AppendsPart a.written b.written
      (answer_bytes (serve_frame home a.seen one).answers)
  pub made : Makes home.hall a.outside b.outside (serve_frame home a.seen one).acts
  pub node : b.seen ≡ (serve_frame home a.seen one).seen

-- a front part of its calls and pushes was done, and nothing was answered
pub record DoesFront {V : Type 0} {way : Way V} (home : Home) (a b : Sides way) (one : Begun)
    (acts rest : List Act) : Type 0 where
  pub parts : (serve_frame home a.seen one).acts ≡ acts ++ rest
  pub silent : Appends a.written b.written []
  pub made : Makes home.hall a.outside b.outside acts
  pub node : b.seen ≡ seen_after home a.seen acts one.fates

abbrev pub FailsIn : {V : Type 0} → {way : Way V} → FrameFault → Home → Sides way → Sides way
    → Begun → Type 0
FailsIn fault.Write home a b one = BreaksOff home a b one
FailsIn fault.NoMemory home a b one =
    (acts : List Act) × (rest : List Act) × DoesFront home a b one acts rest

-- ---- frames

-- what was written, the calls made, what was pushed, and the node afterwards, are what the frames
-- come to
pub record IsServed {V : Type 0} {way : Way V} (home : Home) (a b : Sides way)
    (begun : List Begun) : Type 0 where
  pub answered : Appends a.written b.written (answer_bytes (serve_frames home a.seen begun).answers)
  pub made : Makes home.hall a.outside b.outside (serve_frames home a.seen begun).acts
  pub node : b.seen ≡ (serve_frames home a.seen begun).seen

-- the frames were served, and the connection stayed open
pub record Serves {V : Type 0} {way : Way V} (home : Home) (a b : Sides way)
    (begun : List Begun) : Type 0 where
  pub stays : StaysOpen home a.seen begun
  pub served : IsServed home a b begun

-- the frames were served, and the last one ended the connection
pub record ServesUntil {V : Type 0} {way : Way V} (ends : FrameEnd) (home : Home) (a b : Sides way)
    (begun front : List Begun) (last : Begun) : Type 0 where
  pub parts : begun ≡ front ++ last ∷ []
  pub stays : StaysOpen home a.seen front
  pub close : close_of home (serve_frames home a.seen front).seen last ≡ Some ends
  pub served : IsServed home a b begun

abbrev pub Closes : {V : Type 0} → {way : Way V} → FrameEnd → Home → Sides way → Sides way
    → List Begun → Type 0
Closes ends home a b begun =
    (front : List Begun) × (last : Begun) × ServesUntil ends home a b begun front last

-- the frames but the last were served, and the last one failed
pub record FailsLast {V : Type 0} {way : Way V} (why : FrameFault) (home : Home) (a m b : Sides way)
    (begun front : List Begun) (last : Begun) : Type 0 where
  pub parts : begun ≡ front ++ last ∷ []
  pub before : Serves home a m front
  pub fails : FailsIn why home m b last

abbrev pub Fails : {V : Type 0} → {way : Way V} → FrameFault → Home → Sides way → Sides way
    → List Begun → Type 0
Fails {V} {way} why home a b begun =
    (front : List Begun) × (last : Begun) × (m : Sides way)
    × FailsLast why home a m b begun front last

-- ---- ends

-- fewer than 64 frames were begun, all were served, and the connection is open
pub record IsOpen {V : Type 0} {way : Way V} (home : Home) (a b : Sides way)
    (begun : List Begun) : Type 0 where
  pub serves : Serves home a b begun
  pub few : length begun < 64

-- ---- the connection

-- The cause of each end. `rest` is what was read after the frames begun, `left` is what the reader
-- has left, and `reads` is how often it was read from.
abbrev pub EndsAt : {V : Type 0} → {way : Way V} → ConnectionEnd → Home → Sides way → Sides way
    → List Begun → List ℕ → Option (List ℕ) → ℕ → Type 0
EndsAt end.End home a b begun rest left reads =
    IsOpen home a b begun × (front rest ≡ Waits) × IsAtEnd left
EndsAt end.Stopped home a b begun rest left reads = Closes close.Stopped home a b begun
EndsAt end.Frames home a b begun rest left reads = Serves home a b begun × (length begun ≡ 64)
EndsAt end.Reads home a b begun rest left reads =
    IsOpen home a b begun × (front rest ≡ Waits) × (reads ≡ 19200256)
EndsAt (end.Fault e) home a b begun rest left reads =
    IsOpen home a b begun × (front rest ≡ Breaks e) × IsOfStream e
EndsAt end.Read home a b begun rest left reads = IsOpen home a b begun × (front rest ≡ Waits)
EndsAt end.Write home a b begun rest left reads = Fails fault.Write home a b begun
EndsAt end.Down home a b begun rest left reads = Closes close.Down home a b begun
EndsAt end.NoMemory home a b begun rest left reads =
    IsOpen home a b begun ⊎ Fails fault.NoMemory home a b begun

-- how often a reader was read from, and how many of these reads failed, but for those that were
-- interrupted
pub record Reads : Type 0 where
  pub count : ℕ
  pub failed : ℕ

-- how many reads failed in a connection that ended so: the first one that fails ends it
abbrev pub failed_at : ConnectionEnd → ℕ
failed_at end.Read = 1
failed_at _ = 0

-- a connection that may ask so much: the bytes read are the frames begun and a rest, and the end
-- came by its cause
pub record IsConnection {V : Type 0} {way : Way V} (may : Permission) (result : ServingOutcome)
    (home : Home) (a b : Sides way) (bytes : List ℕ)
    (begun : List Begun) (rest : List ℕ) (read left : Option (List ℕ))
    (reads : Reads) : Type 0 where
  pub consumed : Consumes read left bytes
  pub begins : AreBegun bytes begun rest
  pub allowed : AreUnder may begun
  pub counted : result.frames ≡ length begun
  pub few : length begun ≤ 64
  pub bounded : reads.count ≤ 19200256
  pub failed : reads.failed ≡ failed_at result.end
  pub ends : EndsAt result.end home a b begun rest left reads.count
