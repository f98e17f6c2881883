-- What the steps of an opener do.
use Rattle.std.specs.Prelude.{◌≡◌, ◌⊎◌, ℕ, ◌+◌, ◌-◌, ◌<◌, ◌≤◌, List, ◌++◌, length, take, Some}
use Rattle.std.specs.Prelude.{slice_range}
use Rattle.seal.specs.declared.{channel.Channel.Channel, front.RecordFront.RecordFront}
use Rattle.seal.specs.declared.front.RecordFront.TheVariants.{Waits, Fits, Breaks}
use Rattle.seal.specs.Records.{IsLength, IsBody, record_of}
use Rattle.seal.specs.Streams.{length_at, Ends, Opening, Reads}
use Rattle.seal.specs.Streams as Streams

-- the bytes of the record whose first bytes these are: of its length, as long as that is not there
pub record IsSize (size : ℕ) (bytes : List ℕ) : Type 0 where
  pub unknown : length bytes < 2 → size ≡ 2
  pub known : 2 ≤ length bytes → size ≡ length_at bytes + 34

-- the bytes go no further than a length, or than the record that it counts
abbrev pub IsBegun : List ℕ → Type 0
IsBegun bytes =
    (length bytes ≤ 2) ⊎ (IsLength (length_at bytes) × (length bytes ≤ length_at bytes + 34))

-- bytes of the piece were put after the held ones, and these go no further than a record
pub record IsToppedUp (piece old new : List ℕ) (added : ℕ) : Type 0 where
  pub some : 1 ≤ added
  pub within : added ≤ length piece
  pub held : new ≡ old ++ take added piece
  pub begun : IsBegun new

-- the bytes are the record with this number, of the body in its place
pub record IsRecord (channel : Channel) (number : ℕ) (bytes : List ℕ) : Type 0 where
  pub whole : 34 ≤ length bytes
  pub good : IsBody number (slice_range bytes 2 (length bytes - 32))
  pub sealed : bytes ≡ record_of channel number (slice_range bytes 2 (length bytes - 32))

abbrev pub IsFront : RecordFront → Channel → ℕ → List ℕ → Type 0
IsFront Waits channel number bytes = Streams.Waits bytes
IsFront Fits channel number bytes = IsRecord channel number bytes
IsFront (Breaks e) channel number bytes = Ends channel number (Some e) bytes

-- the first bytes of the piece were taken, and these bytes were handed on after the others
pub record Takes (piece : List ℕ) (old new : Opening) (before after : List ℕ) (taken : ℕ)
    : Type 0 where
  pub some : 1 ≤ taken
  pub within : taken ≤ length piece
  pub handed : List ℕ
  pub added : after ≡ before ++ handed
  pub reads : Reads old.channel old.number (old.held ++ take taken piece) handed new
  pub room : length handed + length new.held ≤ length old.held + taken
