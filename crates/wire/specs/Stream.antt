-- What is at the front of a stream, and what a reader of it keeps (as docs/FORMATS.md has it).
use Rattle.std.specs.Prelude.{◌≡◌, ◌⊎◌, ◌≤◌, ℕ, List, [], ◌++◌, length, take, drop, Option, Some}
use Rattle.std.specs.Prelude.{None, IsSome, Result, Ok, Err, not, nat_lt, if◌then◌else◌}
use Rattle.std.specs.{Global.Vec, List.flat_map, List.AllByRecursion, Int.w32, Int.from_be_bytes}
use Rattle.wire.specs.declared.fault.WireFault.{WireFault, TheVariants.NoMemory}
use Rattle.wire.specs.declared.fault.WireFault.TheVariants.{BadLength, BadVersion, BadKind, BadBody}
use Rattle.wire.specs.{declared.frame.Frame.Frame, Ranges.IsFrame, Spelling.spelling}
use Rattle.wire.specs.Reading.{between, frame_of}

-- no whole frame and no fault yet; a frame and the bytes after it; or a fault
pub data Front : Type 0 where
  Waits : Front
  Begins : Frame → List ℕ → Front
  Breaks : WireFault → Front

abbrev pub by_frame : Result Frame WireFault → List ℕ → Front
by_frame (Ok f) rest = Begins f rest
by_frame (Err e) rest = Breaks e

-- a length, and the bytes after it
abbrev pub by_length : ℕ → List ℕ → Front
by_length n bytes =
    if not (between 8 300000 n) then Breaks BadLength
    else if nat_lt (length bytes) n then Waits
    else by_frame (frame_of (take n bytes)) (drop n bytes)

unfoldable pub front : List ℕ → Front
front bytes =
    if nat_lt (length bytes) 4 then Waits
    else by_length (from_be_bytes w32 (take 4 bytes)) (drop 4 bytes)

-- what a reader keeps: the bytes that were not given yet, or the fault that it met
pub record Reader : Type 0 where
  pub held : List ℕ
  pub fault : Option WireFault

abbrev pub holding : List ℕ → Reader
holding bytes = record { held = bytes; fault = None }

abbrev pub broken : WireFault → Reader
broken e = record { held = []; fault = Some e }

-- what a reader keeps of the rest of a stream, which begins with no frame
abbrev pub keeps : Front → List ℕ → Reader
keeps Waits rest = holding rest
keeps (Begins f more) rest = holding rest
keeps (Breaks e) rest = broken e

abbrev pub IsBegun : Front → Type 0
IsBegun Waits = ⊥
IsBegun (Begins f more) = Unit {0}
IsBegun (Breaks e) = ⊥

-- the stream is these frames, and then bytes that begin with neither a whole frame nor a fault,
-- which the reader holds, or a fault, which it keeps
pub record Feeds (stream : List ℕ) (frames : List Frame) (reader : Reader) : Type 0 where
  pub rest : List ℕ
  pub whole : stream ≡ flat_map spelling frames ++ rest
  pub each : AllByRecursion IsFrame frames
  pub ends : IsBegun (front rest) → ⊥
  pub keeps : reader ≡ keeps (front rest) rest

-- why a call of a reader is refused, and what the reader is afterwards: the fault that is kept, or
-- the one at the front; memory is wanted only where a whole frame is at the front, and its want
-- changes nothing
abbrev pub RefusesFault : WireFault → List ℕ → Reader → Reader → Type 0
RefusesFault e piece old new = ((old.fault ≡ Some e) × (new ≡ old))
    ⊎ ((old.fault ≡ None) × (front (old.held ++ piece) ≡ Breaks e) × (new ≡ broken e))

abbrev pub Refuses : WireFault → List ℕ → Reader → Reader → Type 0
Refuses BadLength piece old new = RefusesFault BadLength piece old new
Refuses BadVersion piece old new = RefusesFault BadVersion piece old new
Refuses BadKind piece old new = RefusesFault BadKind piece old new
Refuses BadBody piece old new = RefusesFault BadBody piece old new
Refuses NoMemory piece old new =
    (old.fault ≡ None) × IsBegun (front (old.held ++ piece)) × (new ≡ old)

-- at Ok the reader kept no fault, and a fault that it keeps now was not at the front
pub record Fed (piece : List ℕ) (old new : Reader) (frames : List Frame) : Type 0 where
  pub whole : old.fault ≡ None
  pub feeds : Feeds (old.held ++ piece) frames new
  pub at_once : frames ≡ [] → new.fault ≡ None

-- a fault of the stream, which want of memory is not
abbrev pub IsOfStream : WireFault → Type 0
IsOfStream NoMemory = ⊥
IsOfStream _ = Unit {0}

-- a fault that is kept is one of the stream
abbrev pub IsKept : Option WireFault → Type 0
IsKept None = Unit {0}
IsKept (Some e) = IsOfStream e

-- the number of bytes that a reader holds: those of the unfinished frame, none beside a fault
pub record IsHeld (reader : Reader) (held : ℕ) : Type 0 where
  pub counted : held ≡ length reader.held
  pub unfinished : front reader.held ≡ Waits
  pub most : held ≤ 300003
  pub broken : IsSome reader.fault → held ≡ 0

-- what ends a stream: it waits for more, or this fault is there
abbrev pub Ends : Option WireFault → Front → Type 0
Ends None at = at ≡ Waits
Ends (Some e) at = (at ≡ Breaks e) × IsOfStream e

-- the stream is these frames, and then less than a whole frame without a fault, or this fault
pub record Splits (stream : List ℕ) (frames : List Frame) (fault : Option WireFault) : Type 0 where
  pub rest : List ℕ
  pub whole : stream ≡ flat_map spelling frames ++ rest
  pub each : AllByRecursion IsFrame frames
  pub ends : Ends fault (front rest)

-- and the stream can be read in no other way
abbrev pub SplitsOnlySo : List ℕ → List Frame → Option WireFault → Type 0
SplitsOnlySo stream frames fault =
    (others : List Frame) (other : Option WireFault) → Splits stream others other
    → (frames ≡ others) × (fault ≡ other)

-- the stream that comes in these pieces
abbrev pub stream_of : List (Vec ℕ) → List ℕ
stream_of pieces = flat_map (λ piece. piece.items) pieces
