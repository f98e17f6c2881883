-- What the steps of a reader do.
use Rattle.std.specs.Prelude.{◌≡◌, ◌⊎◌, ℕ, ◌<◌, ◌≤◌, true, false, List, ◌++◌, length, take, drop}
use Rattle.std.specs.Prelude.{Option, Some, None, Result, Ok, Err}
use Rattle.std.specs.{List.flat_map, List.AllByRecursion, Int.w32, Int.from_be_bytes}
use Rattle.wire.specs.declared.fault.WireFault.{WireFault, TheVariants.NoMemory}
use Rattle.wire.specs.declared.fault.WireFault.TheVariants.{BadLength, BadVersion, BadKind, BadBody}
use Rattle.wire.specs.{declared.frame.Frame.Frame, Ranges.IsFrame, Reading.between}
use Rattle.wire.specs.Spelling.{spelling}
use Rattle.wire.specs.Stream.{Front, Waits, Begins, Breaks, front, IsBegun, Ends, Reader, Feeds}

-- the number in the first four bytes, or that it is none of a frame
abbrev pub GivesLength : Result (Option ℕ) WireFault → List ℕ → Type 0
GivesLength (Ok None) bytes = length bytes < 4
GivesLength (Ok (Some n)) bytes =
    (4 ≤ length bytes) × (n ≡ from_be_bytes w32 (take 4 bytes)) × (between 8 300000 n ≡ true)
GivesLength (Err BadLength) bytes =
    (4 ≤ length bytes) × (between 8 300000 (from_be_bytes w32 (take 4 bytes)) ≡ false)
GivesLength _ bytes = ⊥

-- what was found at the front, with the number of its bytes, is what is there; memory is wanted
-- only for a frame
abbrev pub GivesFront : Result (Option (Frame × ℕ)) WireFault → List ℕ → Front → Type 0
GivesFront (Ok None) bytes at = at ≡ Waits
GivesFront (Ok (Some x)) bytes at =
    (at ≡ Begins x.0 (drop x.1 bytes)) × (4 ≤ x.1) × (x.1 ≤ length bytes)
GivesFront (Err BadLength) bytes at = at ≡ Breaks BadLength
GivesFront (Err BadVersion) bytes at = at ≡ Breaks BadVersion
GivesFront (Err BadKind) bytes at = at ≡ Breaks BadKind
GivesFront (Err BadBody) bytes at = at ≡ Breaks BadBody
GivesFront (Err NoMemory) bytes at = IsBegun at

-- the frames at the front, with the number of their bytes
pub record AreFirst (bytes : List ℕ) (frames : List Frame) (size : ℕ) : Type 0 where
  pub within : size ≤ length bytes
  pub whole : bytes ≡ flat_map spelling frames ++ drop size bytes
  pub each : AllByRecursion IsFrame frames

-- all of them, after those that were taken before
pub record IsTaken (bytes : List ℕ) (before after : List Frame) (size : ℕ)
    (fault : Option WireFault) : Type 0 where
  pub frames : List Frame
  pub added : after ≡ before ++ frames
  pub first : AreFirst bytes frames size
  pub ends : Ends fault (front (drop size bytes))

-- bytes of the piece were put after the held ones, to this number of bytes if they go so far
pub record IsToppedUp (size : ℕ) (piece old new : List ℕ) (added : ℕ) : Type 0 where
  pub within : added ≤ length piece
  pub held : new ≡ old ++ take added piece
  pub enough : (added ≡ length piece) ⊎ (size ≤ length new)
  pub most : (length new ≤ size) ⊎ (new ≡ old)

-- what was found at the front of the held bytes and the piece, with the number of bytes of the
-- piece that belong to it, and what is held then
abbrev pub Finishes : Result (Option (Frame × ℕ)) WireFault → List ℕ → List ℕ → List ℕ → Type 0
Finishes (Ok None) old piece new = (front (old ++ piece) ≡ Waits) × (new ≡ old ++ piece)
Finishes (Ok (Some x)) old piece new =
    (front (old ++ piece) ≡ Begins x.0 (drop x.1 piece)) × (x.1 ≤ length piece)
Finishes (Err BadLength) old piece new = front (old ++ piece) ≡ Breaks BadLength
Finishes (Err BadVersion) old piece new = front (old ++ piece) ≡ Breaks BadVersion
Finishes (Err BadKind) old piece new = front (old ++ piece) ≡ Breaks BadKind
Finishes (Err BadBody) old piece new = front (old ++ piece) ≡ Breaks BadBody
Finishes (Err NoMemory) old piece new = IsBegun (front (old ++ piece))

-- the frames of the bytes, after those that were taken before, and what is kept
pub record ReadsOn (bytes : List ℕ) (before after : List Frame) (reader : Reader) : Type 0 where
  pub frames : List Frame
  pub added : after ≡ before ++ frames
  pub feeds : Feeds bytes frames reader

-- the bytes held at first still are in front
abbrev pub StandsInFront : List ℕ → List ℕ → Type 0
StandsInFront old new = take (length old) new ≡ old
